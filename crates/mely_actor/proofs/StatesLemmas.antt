-- States that are made one after another, and the values that are taken from them.
use Rattle.std.proofs.Common.{◌≡◌, ◌+◌, ℕ, List, [], ◌∷◌, ◌++◌, Option, None, Some, false, inl, inr, length, refl, ap, sym, ◌∙◌, arith, subst}
use Rattle.std.proofs.lemmas.List.{append-nil, length-append}
use Rattle.std.proofs.lemmas.Option.{slice_get_within}
use Rattle.std.specs.Prelude.{IfSome, slice_get}
use Rattle.mely_weave.proofs.Wholes.DealLemmas.{each_push, both_push}
use Rattle.mely_weave.proofs.Wholes.GatherLemmas.{get_there}
use Rattle.mely_actor.specs.declared.actor.Actor.{Ghosts as ActorWords}
use Rattle.mely_actor.specs.declared.load.Plan.{Plan}
use Rattle.mely_actor.specs.KeptState.{KeptState}
use Rattle.mely_actor.specs.Received.{AreBegun, AreLeft, AreMade, AreTaken, AreValues, IsFresh, IsTaken}
use Rattle.mely_actor.specs.Running.{Keeps}

one_more : {A : Type 0} (xs : List A) (x : A) (n : ℕ) → length xs ≡ n → length (xs ++ x ∷ []) ≡ n + 1
one_more xs x n many = let all = length-append xs (x ∷ []) in let one : length (x ∷ []) ≡ 1 = refl in omega (arith, all, one, many)

module _ {A V M : Type 0} (a : ActorWords A V M) (plan : Plan A M) where
  pub none_made : AreMade a plan 0 []
  none_made = record { many = refl; each = λ i state at. cc }

  pub more_made : (count : ℕ) (states : List (KeptState A M V)) (state : KeptState A M V) → AreMade a plan count states → IsFresh a plan (record { 0 = count }) state → AreMade a plan (count + 1) (states ++ state ∷ [])
  more_made count states state made fresh = record {
    many = one_more states state count made.many;
    each = each_push (λ i (s : KeptState A M V). IsFresh a plan (record { 0 = i }) s) states state count made.many made.each fresh;
  }

module _ {A V M : Type 0} where
  pub none_taken : AreValues (let none : List (KeptState A M V) = [] in none) (let nothing : List V = [] in nothing)
  none_taken = record { many = refl; each = λ i state value at there. cc; well = λ i state at. cc }

  pub more_taken : (states : List (KeptState A M V)) (values : List V) (state : KeptState A M V) (value : V) → AreValues states values → value ≡ state.value → state.failed ≡ false → AreValues (states ++ state ∷ []) (values ++ value ∷ [])
  more_taken states values state value taken is well = record {
    many = one_more values value (length states) taken.many ∙ sym (one_more states state (length states) refl);
    each = both_push (λ i (s : KeptState A M V) v. v ≡ s.value) states values state value (length states) refl taken.many taken.each is;
    well = each_push (λ i (s : KeptState A M V). s.failed ≡ false) states state (length states) refl taken.well well;
  }

module _ {A M V : Type 0} (a : ActorWords A V M) where
  pub none_left : AreTaken a (let none : List (KeptState A M V) = [] in none) (let nothing : List (Option V) = [] in nothing)
  none_left = record { many = refl; each = λ i state value at there. cc }

  -- what a state hands out, where it hands out anything
  pub handed_out : (state : KeptState A M V) (value : Option V) → IfSome value (λ v. v ≡ state.value) → IfSome value (λ v. state.failed ≡ false) → IfSome value (Keeps a state.plan.actor state.log.colour) → IfSome value (IsTaken a state)
  handed_out state None is well keeps = tt
  handed_out state (Some value) is well keeps = record { is = is; well = well; keeps = keeps }

  pub more_left : (states : List (KeptState A M V)) (values : List (Option V)) (state : KeptState A M V) (value : Option V) → AreTaken a states values → IfSome value (IsTaken a state) → AreTaken a (states ++ state ∷ []) (values ++ value ∷ [])
  more_left states values state value taken is = record {
    many = one_more values value (length states) taken.many ∙ sym (one_more states state (length states) refl);
    each = λ i one some at there. both_push (λ i (s : KeptState A M V) v. (w : V) → v ≡ Some w → IsTaken a s w) states values state value (length states) refl taken.many
        (λ k s v here is w same. taken.each k s w here (is ∙ ap Some same)) (λ w same. subst (λ o. IfSome o (IsTaken a state)) same is) i one (Some some) at there some refl;
  }

  -- nothing is handed back
  pub nothing_left : (actor : A) (count : ℕ) → AreLeft a actor count []
  nothing_left actor count = record { many = inl refl; each = λ i value at. cc }

  -- what a halted run hands back is what it says of its states
  pub left_of : (plan : Plan A M) (count : ℕ) (states : List (KeptState A M V)) (values : List (Option V)) → AreTaken a states values → length states ≡ count → ((i : ℕ) (state : KeptState A M V) → slice_get states i ≡ Some state → (state.plan ≡ plan) × (state.log.colour ≡ record { 0 = i })) → AreLeft a plan.actor count values
  left_of plan count states values taken many are = record {
    many = inr (taken.many ∙ many);
    each = λ i value at.
        let within = slice_get_within values i (Some value) at in
        let same = taken.many in
        let state = get_there states i (omega (arith, within, same)) in
        let is = are i state.0 state.1 in
        subst (λ (p : Plan A M). Keeps a p.actor (record { 0 = i }) value) is.0 (subst (λ c. Keeps a state.0.plan.actor c value) is.1 (taken.each i state.0 value state.1 at).keeps);
  }

module _ {A V M : Type 0} (a : ActorWords A V M) (actor : A) where
  pub none_begun : AreBegun a actor 0 []
  none_begun = record { many = refl; each = λ i value at. cc }

  pub more_begun : (count : ℕ) (values : List V) (value : V) → AreBegun a actor count values → a.kept actor (record { 0 = count }) [] [] value → AreBegun a actor (count + 1) (values ++ value ∷ [])
  more_begun count values value begun is = record {
    many = one_more values value count begun.many;
    each = each_push (λ i v. a.kept actor (record { 0 = i }) [] [] v) values value count begun.many begun.each is;
  }

-- what stands between others
pub middle_at : {X : Type 0} (xs ys all : List X) (x : X) → xs ++ x ∷ ys ≡ all → slice_get all (length xs) ≡ Some x
middle_at xs ys all x split = ap (λ l. slice_get l (length xs)) (sym split) ∙ go xs where
  go : (front : List _) → slice_get (front ++ x ∷ ys) (length front) ≡ Some x
  go [] = refl
  go (y ∷ front) = go front

none_behind : {X : Type 0} (xs : List X) → length xs ≡ 0 → xs ≡ []
none_behind [] none = refl
none_behind (x ∷ xs) none = absurd (omega (arith, none))

-- in the end all was handed out
pub all_yielded : {X : Type 0} (yielded rest all : List X) (left : ℕ) → yielded ++ rest ≡ all → left ≡ length rest → left ≡ 0 → yielded ≡ all
all_yielded yielded rest all left split is none = sym (append-nil yielded) ∙ ap (λ xs. yielded ++ xs) (sym (none_behind rest (sym is ∙ none))) ∙ split

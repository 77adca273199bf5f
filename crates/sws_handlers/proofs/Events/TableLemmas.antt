-- The table beside the list of those that wait stays true.
use Rattle.std.proofs.Common.{◌≡◌, ℕ, zero, suc, ◌≤◌, ◌<◌, Bool, true, false, Option, Some, None, List, [], ◌∷◌, ◌++◌, length, get_or, set, refl, sym, ◌∙◌, ap, arith, inl, inr}
use Rattle.std.proofs.lemmas.Bool.Decides.{eqb_tells}
use Rattle.std.proofs.lemmas.Bool.{cases_lt}
use Rattle.std.proofs.lemmas.Option.{slice_get_read}
use Rattle.std.proofs.lemmas.List.{get_or-set_same, get_or-set_other, get_or_past}
use Rattle.std.specs.Prelude.{◌==◌, ◌||◌, is_some, slice_get, remove}
use Rattle.std.specs.List.{list_any}
use Rattle.sws_handlers.specs.Counting.{bit, times}
use Rattle.sws_handlers.specs.Waiting.{TakenOff}
use Rattle.sws_handlers.specs.WaitingKept.{is_marked}
use Rattle.sws_handlers.proofs.Events.WaitingListsLemmas.{times_cons, times_push, times_taken, contained, removed, any_false, has_room}

bit_few : (b : Bool) → bit b ≤ 1
bit_few true = omega arith
bit_few false = omega arith

bit_true : (b : Bool) → 1 ≤ bit b → b ≡ true
bit_true true more = refl
bit_true false more = absurd (omega (arith, more))

-- who stands in a list is found there
times_any : (i : ℕ) (waiting : List ℕ) → list_any (λ w. w == i) waiting ≡ true → 1 ≤ times i waiting
times_any i [] is = cc
times_any i (w ∷ ws) is =
    let c = times_cons i w ws in
    elim (eqb_tells w i) [
      | inl same ↦ let one = ap bit same.0 in omega (arith, c, one)
      | inr apart ↦ let more = times_any i ws (sym (ap (λ b. b || list_any (λ k. k == i) ws) apart.0) ∙ is) in omega (arith, c, more)
    ]

module _ (waiting : List ℕ) (since : List (Option ℕ)) (counted : (i : ℕ) → times i waiting ≡ bit (is_marked since i)) where
  any_is : (b : Bool) (i : ℕ) → list_any (λ w. w == i) waiting ≡ b → is_marked since i ≡ b
  any_is true i is = bit_true (is_marked since i) (omega (arith, times_any i waiting is, counted i))
  any_is false i is = elim (is_marked since i) as (λ m. times i waiting ≡ bit m → m ≡ false) [
    | true ↦ λ one. absurd (omega (arith, one, any_false i waiting is))
    | false ↦ λ none. refl
  ] (counted i)

  -- the table tells who waits
  pub marked_any : (i : ℕ) → is_marked since i ≡ list_any (λ w. w == i) waiting
  marked_any i = any_is (list_any (λ w. w == i) waiting) i refl

  -- it has no more than those that may wait
  marked_below : (i : ℕ) → length since ≤ i → times i waiting ≡ 0
  marked_below i high = counted i ∙ ap (λ (o : Option ℕ). bit (is_some o)) (get_or_past since i None high)

  known_of : (i : ℕ) → 1 ≤ times i waiting → i < length since
  known_of i more = elim (cases_lt i (length since)) [ inl low ↦ low | inr high ↦ absurd (omega (arith, more, marked_below i high)) ]

  -- one that doesn't wait has room
  pub room_for : (conn : ℕ) → conn < length since → list_any (λ w. w == conn) waiting ≡ false → length waiting < length since
  room_for conn low none = has_room (length since) conn waiting (λ i. omega (arith, counted i, bit_few (is_marked since i))) marked_below low (any_false conn waiting none)

  -- one more waits
  pub enters : (conn at : ℕ) → conn < length since → list_any (λ w. w == conn) waiting ≡ false → (i : ℕ) → times i (waiting ++ conn ∷ []) ≡ bit (is_marked (set since conn (Some at)) i)
  enters conn at low none i =
      let push = times_push i conn waiting in
      elim (eqb_tells conn i) [
        | inl same ↦
            let one = ap bit same.0 in
            let not_yet = ap (λ k. times k waiting) (sym same.1) ∙ any_false conn waiting none in
            let now = ap (λ k. bit (is_marked (set since conn (Some at)) k)) (sym same.1) ∙ ap (λ (o : Option ℕ). bit (is_some o)) (get_or-set_same since conn (Some at) None low) in
            omega (arith, push, one, not_yet, now)
        | inr apart ↦
            let none_is = ap bit apart.0 in
            let as_was = ap (λ (o : Option ℕ). bit (is_some o)) (get_or-set_other since conn i (Some at) None (λ e. apart.1 (sym e))) in
            omega (arith, push, none_is, counted i, as_was)
      ]

  -- one waits no more
  leaves : (conn : ℕ) (left : List ℕ) → TakenOff conn waiting left → (i : ℕ) → times i left ≡ bit (is_marked (set since conn None) i)
  leaves conn left off i =
      let taken = times_taken i conn waiting left off in
      elim (eqb_tells conn i) [
        | inl same ↦
            let one = ap bit same.0 in
            let low = known_of conn (contained waiting conn off.there) in
            let few = bit_few (is_marked since i) in
            let now = ap (λ k. bit (is_marked (set since conn None) k)) (sym same.1) ∙ ap (λ (o : Option ℕ). bit (is_some o)) (get_or-set_same since conn None None low) in
            omega (arith, taken, one, counted i, few, now)
        | inr apart ↦
            let none_is = ap bit apart.0 in
            let as_was = ap (λ (o : Option ℕ). bit (is_some o)) (get_or-set_other since conn i None None (λ e. apart.1 (sym e))) in
            omega (arith, taken, none_is, counted i, as_was)
      ]

-- what a place of those that wait gives up: it is taken off, the table knows it, and has it no more
pub record Leaving (waiting left : List ℕ) (since : List (Option ℕ)) (at conn : ℕ) : Type 0 where
  pub there : slice_get waiting at ≡ Some conn
  pub off : TakenOff conn waiting left
  pub known : conn < length since
  pub counted : (i : ℕ) → times i left ≡ bit (is_marked (set since conn None) i)

pub leaving : (waiting left : List ℕ) (since : List (Option ℕ)) (counted : (i : ℕ) → times i waiting ≡ bit (is_marked since i)) (at conn : ℕ) → at < length waiting → conn ≡ get_or waiting at conn → left ≡ remove waiting at → Leaving waiting left since at conn
leaving waiting left since counted at conn within there is =
    let once = counted conn in
    let few = bit_few (is_marked since conn) in
    let gone : TakenOff conn waiting left = record { there = (at, within, sym there); is = is ∙ removed waiting at conn within (sym there) (omega (arith, once, few)) } in
    let more = contained waiting conn gone.there in
    record { there = slice_get_read waiting (length waiting) at conn refl within there; off = gone; known = known_of waiting since counted conn more; counted = leaves waiting since counted conn left gone }

-- a table in which nobody is said to wait, with one more line
pub none_more : (since : List (Option ℕ)) → ((i : ℕ) → is_marked since i ≡ false) → (i : ℕ) → is_marked (since ++ None ∷ []) i ≡ false
none_more [] none i = one_line i
  where
    one_line : (i : ℕ) → is_marked (None ∷ []) i ≡ false
    one_line zero = refl
    one_line (suc i) = refl
none_more (s ∷ since) none zero = none zero
none_more (s ∷ since) none (suc i) = none_more since (λ k. none (suc k)) i

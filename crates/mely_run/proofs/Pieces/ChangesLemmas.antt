-- What a step does to what an app has: pieces are in other places, or a handler ran.
use Rattle.std.proofs.Common.{◌≡◌, ◌≤◌, ℕ, Bool, true, false, cond, List, ◌∷◌, ◌++◌, Option, map, arith, refl, inl, inr}
use Rattle.std.specs.Prelude.{IsPermutation, sum_by}
use Rattle.std.proofs.lemmas.List.Sums.{sum_by-append, sum_by-cons}
use Rattle.std.proofs.lemmas.List.Sorted.{sum_by-IsPermutation}
use Rattle.mely_event.specs.declared.colour.Colour.{Colour}
use Rattle.mely_event.specs.declared.event.Event.{Event}
use Rattle.mely_event.specs.declared.trail.Trail.{Ghosts as TrailWords}
use Rattle.mely_worker.specs.declared.app.App.{Ghosts as AppWords}
use Rattle.mely_machine.specs.Machine.{Acts}
use Rattle.mely_run.specs.Corresponds.{without_loads}
use Rattle.mely_run.specs.Pieces.{Piece, state_piece, event_piece, of_put, IsTold}

-- one for each spoilt state
abbrev pub one_if : Bool → ℕ
one_if b = cond b 1 0

abbrev pub spoilt_in : {S P : Type 0} → (S → Bool) → Piece S P → ℕ
spoilt_in spoilt (c, inl state) = one_if (spoilt state)
spoilt_in spoilt (c, inr event_piece) = 0

abbrev pub how_spoilt : {S P : Type 0} → (S → Bool) → List (Piece S P) → ℕ
how_spoilt spoilt ps = sum_by (spoilt_in spoilt) ps

unspoilt : (b : Bool) → one_if b ≡ 0 → b ≡ false
unspoilt true e = absurd (omega (arith, e))
unspoilt false e = refl

no_more : (a b : Bool) → (a ≡ true → b ≡ true) → one_if a ≤ one_if b
no_more false b to = omega arith
no_more true true to = omega arith
no_more true false to = let e : false ≡ true = to refl in cc

module _ {S P F R : Type 0} (t : TrailWords S F) (fits : F → Colour → Event → Option P → Type 0) (y : AppWords R P S F) (app : R) (frame : F) where
  -- a handler ran on an event that had come
  pub record Ran (before after : List (Piece S P)) : Type 0 where
    pub colour : Colour
    pub event : Event
    pub load : Option P
    pub state : S
    pub left : S
    pub puts : List (Colour × Event × Option P)
    pub rest : List (Piece S P)
    pub was : IsPermutation before (state_piece colour state ∷ event_piece colour event load ∷ rest)
    pub coloured : t.colour_of state ≡ colour
    pub framed : t.frame_of state ≡ frame
    pub fit : fits frame colour event load
    pub runs : y.runs app state event load left puts
    pub becomes : IsPermutation (state_piece colour left ∷ (map of_put puts ++ rest)) after

  pub data Changed (before after : List (Piece S P)) : Type 0 where
    moved : IsPermutation before after → Changed before after
    ran : Ran before after → Changed before after

  module _ {X : Type 0} (act : Acts X) (before after : List (Piece S P)) (x : X) where
    -- what the app is then, by the function
    abbrev pub becomes_by : Changed before after → X
    becomes_by (moved order) = x
    becomes_by (ran r) = (act x r.colour r.event).becomes

    -- what was put is what the function says
    abbrev pub PutsTold : Changed before after → Type 0
    PutsTold (moved order) = Unit {0}
    PutsTold (ran r) = without_loads r.puts ≡ (act x r.colour r.event).puts

  module _ {X : Type 0} (act : Acts X) (Agrees : X → List (Piece S P) → Type 0) (spoilt : S → Bool) (is_told : IsTold t fits y app frame act Agrees spoilt) (before after : List (Piece S P)) where
    -- there are no fewer spoilt states
    pub stays_spoilt : Changed before after → how_spoilt spoilt before ≤ how_spoilt spoilt after
    stays_spoilt (moved order) = let same = sum_by-IsPermutation (spoilt_in spoilt) before after order in omega (arith, same)
    stays_spoilt (ran r) =
        let was = sum_by-IsPermutation (spoilt_in spoilt) before (state_piece r.colour r.state ∷ event_piece r.colour r.event r.load ∷ r.rest) r.was in
        let now = sum_by-IsPermutation (spoilt_in spoilt) (state_piece r.colour r.left ∷ (map of_put r.puts ++ r.rest)) after r.becomes in
        let one = sum_by-cons (spoilt_in spoilt) (state_piece r.colour r.state) (event_piece r.colour r.event r.load ∷ r.rest) in
        let two = sum_by-cons (spoilt_in spoilt) (event_piece r.colour r.event r.load) r.rest in
        let three = sum_by-cons (spoilt_in spoilt) (state_piece r.colour r.left) (map of_put r.puts ++ r.rest) in
        let four = sum_by-append (spoilt_in spoilt) (map of_put r.puts) r.rest in
        let more = no_more (spoilt r.state) (spoilt r.left) (is_told.spoilt_after r.state r.left r.event r.load r.puts r.runs) in
        omega (arith, was, now, one, two, three, four, more)

    -- where no state is spoilt then, both sides agree again
    pub change_told : (x : X) (change : Changed before after) → how_spoilt spoilt after ≡ 0 → Agrees x before → PutsTold act before after x change × Agrees (becomes_by act before after x change) after
    change_told x (moved order) none agrees = (tt, is_told.moved x before after order agrees)
    change_told x (ran r) none agrees =
        let now = sum_by-IsPermutation (spoilt_in spoilt) (state_piece r.colour r.left ∷ (map of_put r.puts ++ r.rest)) after r.becomes in
        let one = sum_by-cons (spoilt_in spoilt) (state_piece r.colour r.left) (map of_put r.puts ++ r.rest) in
        let fine : spoilt r.left ≡ false = unspoilt (spoilt r.left) (omega (arith, now, one, none)) in
        let told = is_told.runs x r.colour r.event r.load r.state r.left r.puts r.rest r.coloured r.framed r.fit
        (is_told.moved x before (state_piece r.colour r.state ∷ event_piece r.colour r.event r.load ∷ r.rest) r.was agrees) r.runs fine in
        (told.0, is_told.moved (act x r.colour r.event).becomes (state_piece r.colour r.left ∷ (map of_put r.puts ++ r.rest)) after r.becomes told.1)

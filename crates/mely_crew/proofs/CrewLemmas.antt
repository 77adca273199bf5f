-- A crew, and the weave that its fleet leaves.
use Rattle.std.proofs.Common.{◌≡◌, ◌<◌, ◌≤◌, ◌++◌, ℕ, zero, suc, List, [], ◌∷◌, Option, Some, length, take, drop, refl, sym, ap, ◌∙◌, arith}
use Rattle.std.specs.Prelude.{map, slice_get}
use Rattle.mely_event.specs.declared.colour.Colour.{Colour}
use Rattle.mely_event.specs.declared.event.Event.{Event}
use Rattle.mely_event.specs.declared.trail.Trail.{Ghosts as TrailWords}
use Rattle.mely_history.specs.declared.setup.Setup.{Setup}
use Rattle.mely_history.specs.Setup.{shape_of}
use Rattle.mely_shard.specs.Shard.{ColourState, place}
use Rattle.mely_weave.specs.Dealing.{AtEach}
use Rattle.mely_weave.specs.Gathering.{MayGatherShard}
use Rattle.mely_weave.specs.StandsWell.{StandsWell}
use Rattle.mely_weave.specs.Weave.{WeaveState}
use Rattle.mely_weave.proofs.Wholes.GatherLemmas.{first_lane_there}

pub there_of : {A : Type 0} (xs : List A) (i : ℕ) → i < length xs → (a : A) × (slice_get xs i ≡ Some a)
there_of [] i low = absurd (omega (arith, low))
there_of (a ∷ xs) zero low = (a, refl)
there_of (a ∷ xs) (suc i) low = there_of xs i (omega (arith, low))

given_at : {S P : Type 0} (lanes : List (ColourState S P)) (i : ℕ) (lane : ColourState S P) → slice_get lanes i ≡ Some lane → slice_get (map (λ (l : ColourState S P). l.given) lanes) i ≡ Some lane.given
given_at [] i lane at = cc
given_at (l ∷ lanes) zero lane at = let same : l ≡ lane = cc in ap (λ (k : ColourState _ _). Some k.given) same
given_at (l ∷ lanes) (suc i) lane at = given_at lanes i lane at

-- what was written over the whole of a list is what is there
pub refilled : {A : Type 0} (xs ys : List A) (n : ℕ) → n ≡ length ys → length xs ≡ length ys → take n (xs ++ drop (length xs) ys) ≡ xs
refilled [] [] n is same = ap (λ k. take k []) is
refilled [] (y ∷ ys) n is same = absurd (omega (arith, same))
refilled (x ∷ xs) [] n is same = absurd (omega (arith, same))
refilled (x ∷ xs) (y ∷ ys) zero is same = absurd (omega (arith, is))
refilled (x ∷ xs) (y ∷ ys) (suc n) is same = ap (λ l. x ∷ l) (refilled xs ys n (omega (arith, is)) (omega (arith, same)))

-- a weave whose states were given with this frame has it
pub gathered_frame : {S P F : Type 0} (t : TrailWords S F) (fits : F → Colour → Event → Option P → Type 0) (weave : WeaveState S P) (setup : Setup) (frame : F) → StandsWell t fits weave → AtEach (λ k has. MayGatherShard t setup frame k has) weave.shards → t.frame_of weave.given ≡ frame
gathered_frame {S} {P} t fits weave setup frame stands may =
    let first = there_of weave.shards 0 (let many = stands.shards in let some : 1 ≤ (shape_of weave.setup).shards = weave.setup.shards_in.0 in omega (arith, many, some)) in
    let stand = stands.shard 0 first.0 first.1 in
    let gathered = may 0 first.0 first.1 in
    let lane = first_lane_there t fits first.0 stand.kept (record { first = gathered.numbered; at_rest = gathered.at_rest }) in
    let given = given_at first.0.lanes (place first.0.setup (record { 0 = 0 })) lane.0 lane.1 in
    sym (stand.framed _ lane.0.given given) ∙ gathered.framed _ lane.0.given given

pub the_only : {A : Type 0} (a b : A) (i : ℕ) → slice_get (a ∷ []) i ≡ Some b → a ≡ b
the_only a b zero at = cc
the_only a b (suc i) at = cc

-- what stands in a list stands there once one more is behind it
pub still_there : {A : Type 0} (xs : List A) (y : A) (n : ℕ) (x : A) → slice_get xs n ≡ Some x → slice_get (xs ++ y ∷ []) n ≡ Some x
still_there [] y zero x at = cc
still_there [] y (suc n) x at = cc
still_there (z ∷ xs) y zero x at = at
still_there (z ∷ xs) y (suc n) x at = still_there xs y n x at

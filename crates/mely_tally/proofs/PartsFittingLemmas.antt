-- What is still under way in the parts of a weave fits.
use Rattle.std.proofs.Common.{◌≡◌, ℕ, suc, ◌<◌, List, [], ◌∷◌, ◌++◌, Option, Some, refl, sym, ◌∙◌, subst, arith}
use Rattle.std.proofs.lemmas.Option.{same_Some, slice_get_within}
use Rattle.std.specs.List.{AllByRecursion}
use Rattle.std.specs.Prelude.{slice_get, flat_map}
use Rattle.mely_event.specs.declared.colour.Colour.{Colour}
use Rattle.mely_event.specs.declared.event.Event.{Event}
use Rattle.mely_event.specs.declared.trail.Trail.{Ghosts as TrailWords}
use Rattle.mely_history.specs.Setup.{colours_of}
use Rattle.mely_queue.specs.Turn.{EachFits}
use Rattle.mely_shard.specs.Shard.{ColourState}
use Rattle.mely_worker.specs.Access.{FitsSetup}
use Rattle.mely_worker.specs.Worker.{WorkerState}
use Rattle.mely_weave.specs.Lanes.{AreByColour}
use Rattle.mely_weave.specs.Weave.{WeaveState}
use Rattle.mely_weave.specs.WeaveStands.{WeaveStands}
use Rattle.mely_tally.specs.Tallies.{Carried}
use Rattle.mely_tally.specs.Tells.{PartsFit}

all_append : {A : Type 0} (P : A → Type 0) (xs ys : List A) → AllByRecursion P xs → AllByRecursion P ys → AllByRecursion P (xs ++ ys)
all_append P [] ys one other = other
all_append P (x ∷ xs) ys one other = (one.0, all_append P xs ys one.1 other)

-- what all members of all lists have
all_flat : {A X : Type 0} (P : X → Type 0) (h : A → List X) (xs : List A) → ((i : ℕ) (a : A) → slice_get xs i ≡ Some a → AllByRecursion P (h a)) → AllByRecursion P (flat_map h xs)
all_flat P h [] each = tt
all_flat P h (a ∷ xs) each = all_append P (h a) (flat_map h xs) (each 0 a refl) (all_flat P h xs (λ i b at. each (suc i) b at))

pub parts_fit : {S P F : Type 0} (t : TrailWords S F) (fits : F → Colour → Event → Option P → Type 0) (weave : WeaveState S P) → WeaveStands t fits weave → (queued : List (List (Carried P))) (lost : List (Colour × Event × Option P))
    → AreByColour (λ (lane : ColourState S P). lane.events) weave.setup weave.shards queued → lost ≡ flat_map (λ (w : WorkerState S P). w.lost) weave.workers → PartsFit t fits weave queued lost
parts_fit {S} {P} t fits weave stands queued lost waits refused = record {
  queued = λ c events at.
      let many = waits.many in
      let within = slice_get_within queued c.0 events at in
      let low : c.0 < colours_of weave.setup = omega (arith, many, within) in
      let lane = stands.whole.lanes c low in
      let same : lane.0.events ≡ events = same_Some lane.0.events events (sym (waits.each c lane.0 low lane.1) ∙ at) in
      subst (λ (l : List (Carried P)). EachFits (fits (t.frame_of weave.given) c) l) same (stands.histories.fit c lane.0 low lane.1);
  lost = subst (λ (l : List (Colour × Event × Option P)). AllByRecursion (FitsSetup fits weave.setup (t.frame_of weave.given)) l) (sym refused)
      (all_flat (FitsSetup fits weave.setup (t.frame_of weave.given)) (λ (w : WorkerState S P). w.lost) weave.workers (λ core w at. stands.registrations.lost core w at));
}

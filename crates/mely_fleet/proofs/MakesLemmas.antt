-- The steps that a worker made, one after another, with looks at shards between them.
use Rattle.std.proofs.Common.{◌≡◌, ℕ, Option, List, [], ◌∷◌, ◌++◌, refl, sym, ap, ◌∙◌, subst, append_assoc, append-nil, eqb, ⊎_elim}
use Rattle.std.proofs.lemmas.Bool.{cases_eq}
use Rattle.std.proofs.lemmas.List.Elements.{filter-append}
use Rattle.std.specs.Prelude.{filter}
use Rattle.mely_event.specs.declared.colour.Colour.{Colour}
use Rattle.mely_event.specs.declared.event.Event.{Event}
use Rattle.mely_event.specs.declared.trail.Trail.{Ghosts as TrailWords}
use Rattle.mely_note.specs.Notes.{noted_by}
use Rattle.mely_lock.specs.Seen.{OthersSince}
use Rattle.mely_worker.specs.declared.app.App.{Ghosts as AppWords}
use Rattle.mely_worker.specs.declared.made.Made.{Made}
use Rattle.mely_worker.specs.Worker.{WorkerState}
use Rattle.mely_kept.specs.Calls.{LooksAt}
use Rattle.mely_fleet.specs.Calls.{SeesAt, front_in}
use Rattle.mely_fleet.specs.Work.{Standpoint, HasLooked, StepsOn, MakesSteps}

-- nobody made a note
since_itself : {N : Type 0} (pass_of : N → ℕ) (n : ℕ) (history : List N) → OthersSince pass_of n history history
since_itself pass_of n history = ([], sym (append-nil history), refl)

-- others made notes, and others again
since_onward : {N : Type 0} (pass_of : N → ℕ) (n : ℕ) (front middle history : List N) → OthersSince pass_of n front middle → OthersSince pass_of n middle history → OthersSince pass_of n front history
since_onward pass_of n front middle history one other = (
  one.0 ++ other.0,
  other.1 ∙ ap (λ h. h ++ other.0) one.1 ∙ append_assoc front one.0 other.0,
  filter-append (λ note. eqb (pass_of note) n) one.0 other.0 ∙ ap (λ l. l ++ filter (λ note. eqb (pass_of note) n) other.0) one.2 ∙ other.2,
)

module _ {S P F : Type 0} where
  pub looked_itself : (a : Standpoint S P F) → HasLooked a a
  looked_itself a = record { setup = refl; number = refl; frame = refl; given = refl; chains = refl; others = λ k. since_itself noted_by a.number (front_in a.fronts k) }

  pub looked_onward : (a b c : Standpoint S P F) → HasLooked a b → HasLooked b c → HasLooked a c
  looked_onward a b c one other = record {
    setup = other.setup ∙ one.setup;
    number = other.number ∙ one.number;
    frame = other.frame ∙ one.frame;
    given = other.given ∙ one.given;
    chains = other.chains ∙ one.chains;
    others = λ k. since_onward noted_by a.number (front_in a.fronts k) (front_in b.fronts k) (front_in c.fronts k) (one.others k)
        (subst (λ n. OthersSince noted_by n (front_in b.fronts k) (front_in c.fronts k)) one.number (other.others k));
  }

  -- one look at one shard
  pub looked_at : (a b : Standpoint S P F) (shard : ℕ) → b.setup ≡ a.setup → b.number ≡ a.number → b.frame ≡ a.frame → b.given ≡ a.given → b.chains ≡ a.chains → SeesAt a.setup a.number shard a.fronts b.fronts LooksAt → HasLooked a b
  looked_at a b shard setup number frame given chains sees = record {
    setup = setup;
    number = number;
    frame = frame;
    given = given;
    chains = chains;
    others = λ k. ⊎_elim
        (λ (same : k ≡ shard). subst (λ j. OthersSince noted_by a.number (front_in a.fronts j) (front_in b.fronts j)) (sym same)
        (subst (λ h. OthersSince noted_by a.number (front_in a.fronts shard) h) (sym sees.seen.does) sees.seen.others))
        (λ (other : k ≡ shard → ⊥). subst (λ h. OthersSince noted_by a.number (front_in a.fronts k) h) (sym (sees.others k other)) (since_itself noted_by a.number (front_in a.fronts k)))
        (cases_eq k shard);
  }

module _ {R S P F : Type 0} (t : TrailWords S F) (fits : F → Colour → Event → Option P → Type 0) (y : AppWords R P S F) (app : R) where
  -- after the steps it looked
  pub makes_looked : (steps : List Made) (a b c : Standpoint S P F) (w v : WorkerState S P) → MakesSteps t fits y app steps a w b v → HasLooked b c → MakesSteps t fits y app steps a w c v
  makes_looked [] a b c w v made looked = (looked_onward a b c made.0 looked, made.1)
  makes_looked (step ∷ later) a b c w v (d, e, u, first, one, rest) looked = (d, e, u, first, one, makes_looked later e b c u v rest looked)

  -- after the steps, and a look, it made one more
  pub makes_step : (steps : List Made) (step : Made) (a b c d : Standpoint S P F) (w v u : WorkerState S P) → MakesSteps t fits y app steps a w b v → HasLooked b c → StepsOn t fits y app c v step d u → MakesSteps t fits y app (steps ++ step ∷ []) a w d u
  makes_step [] step a b c d w v u made looked one = (c, d, u, looked_onward a b c made.0 looked, subst (λ x. StepsOn t fits y app c x step d u) made.1 one, (looked_itself d, refl))
  makes_step (first ∷ later) step a b c d w v u (e, f, x, before, of_first, rest) looked one = (e, f, x, before, of_first, makes_step later step f b c d x v u rest looked one)

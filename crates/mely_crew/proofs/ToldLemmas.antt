-- What the worker of a core ran, as the notes tell of it that its passes have seen.
use Rattle.std.proofs.Common.{◌≡◌, ℕ, List, [], ◌∷◌, ◌++◌, Option, Ok, Err, refl, sym, ◌∙◌, ap, subst, arith, append-nil, append_assoc}
use Rattle.mely_event.specs.declared.colour.Colour.{Colour}
use Rattle.mely_event.specs.declared.event.Event.{Event}
use Rattle.mely_event.specs.declared.trail.Trail.{Ghosts as TrailWords}
use Rattle.mely_history.specs.Legal.{IsLegal}
use Rattle.mely_history.specs.Setup.{shard_of}
use Rattle.mely_history.specs.declared.setup.Setup.{Setup}
use Rattle.mely_note.specs.declared.note.Note.{Note}
use Rattle.mely_note.specs.declared.note.Note.TheVariants.{Reg, Take, Fin, Steal}
use Rattle.mely_note.specs.Notes.{Rise, entries_of, snapshot_of}
use Rattle.mely_note.proofs.StampLemmas.{latest_in-at}
use Rattle.mely_tally.specs.Account.{HandlerRun, IsRunOf}
use Rattle.mely_tally.proofs.StepAccountLemmas.{runs_of, well_step}
use Rattle.mely_tally.proofs.WeaveAccountLemmas.{all_map}
use Rattle.mely_worker.specs.declared.app.App.{Ghosts as AppWords}
use Rattle.mely_worker.specs.declared.made.Made.{Made}
use Rattle.mely_worker.specs.Worker.{WorkerState}
use Rattle.mely_kept.specs.Calls.{RegistersAt, TakesAt, FinishesAt, StealsAt}
use Rattle.mely_chain.specs.Deeds.{CoreDid}
use Rattle.mely_chain.specs.Told.{CoreTold}
use Rattle.mely_chain.proofs.CoreLemmas.{AreLegalNotes, told_others}
use Rattle.mely_chain.proofs.CoreStepLemmas.{SeesCall, SeesRegistration, SeesTake, SeesFinish, SeesSteal, SeesSome, SeesCalls, told_seen}
use Rattle.mely_chain.proofs.CoreTurnsLemmas.{legal_notes}
use Rattle.mely_chain.proofs.DeedLemmas.{did_others}
use Rattle.mely_fleet.specs.Calls.{SeesAt, front_in, front_for}
use Rattle.mely_fleet.specs.Work.{Standpoint, words, SeesMore, HasLooked, StepsOn, MakesSteps}
use Rattle.mely_fleet.proofs.WorkLemmas.{step_more}

module _ {S P : Type 0} (setup : Setup) (given : Colour → Option S) (n : ℕ) (old new : List (List (Note S P))) where
  -- a call on the shard of a colour, as what was seen of each colour
  abbrev shard_call : (d : Colour) (own : List (Note S P)) (Does : List (Note S P) → List (Note S P) → Type 0) (sees : SeesAt setup n (shard_of setup d) old new Does) → front_in new (shard_of setup d) ≡ sees.seen.point ++ own → SeesCall setup given n (front_for setup old) (front_for setup new) d own
  shard_call d own Does sees is = record {
    point = sees.seen.point;
    others = λ c same. (sees.seen.others.0, sees.seen.others.1 ∙ ap (λ k. front_in old k ++ sees.seen.others.0) (sym same), sees.seen.others.2);
    here = λ c same. ap (front_in new) same ∙ is;
    elsewhere = λ c ne. sees.others (shard_of setup c) ne;
    legal = subst (λ l. IsLegal setup (entries_of l)) is sees.seen.legal;
    rise = subst Rise is sees.seen.rise;
    above = λ c note same. (let late = sees.seen.above note (is ∙ ap (λ l. sees.seen.point ++ l) same) in let seen = latest_in-at old (shard_of setup c) in omega (arith, late, seen));
  }

module _ {R S P F : Type 0} (t : TrailWords S F) (fits : F → Colour → Event → Option P → Type 0) (y : AppWords R P S F) (app : R) where
  -- what was seen tells these runs, and what the worker did came to them
  abbrev pub RunsTold : Standpoint S P F → WorkerState S P → List (HandlerRun S P) → Type 0
  RunsTold a w runs = CoreTold t fits y app a.setup a.frame a.given a.number (front_for a.setup a.fronts) w runs × CoreDid a.setup a.number (front_for a.setup a.fronts) w runs

  -- what was seen is legal
  abbrev pub SeesLegal : Standpoint S P F → Type 0
  SeesLegal a = AreLegalNotes a.setup (front_for a.setup a.fronts)

  -- ---- a step

  module _ (a b : Standpoint S P F) (w : WorkerState S P) (step : Made) (v : WorkerState S P) where
    abbrev Suits : (Colour → List (Note S P)) → Type 0
    Suits after = (c : Colour) → after c ≡ front_for a.setup b.fronts c

    -- with what is seen then
    abbrev now : (Has : (Colour → List (Note S P)) → Type 0) → Has (front_for a.setup b.fronts) → SeesSome Suits Has
    now Has has = record { after = front_for a.setup b.fronts; suits = λ c. refl; has = has }

    still : b.fronts ≡ a.fronts → Suits (front_for a.setup a.fronts)
    still same c = ap (λ fs. front_for a.setup fs c) (sym same)

    -- a call that made no note
    unmade : (d : Colour) (Does : List (Note S P) → List (Note S P) → Type 0) (sees : SeesAt a.setup a.number (shard_of a.setup d) a.fronts b.fronts Does) → front_in b.fronts (shard_of a.setup d) ≡ sees.seen.point → SeesSome Suits (λ after. SeesCall a.setup a.given a.number (front_for a.setup a.fronts) after d [])
    unmade d Does sees same = now (λ after. SeesCall a.setup a.given a.number (front_for a.setup a.fronts) after d []) (shard_call a.setup a.given a.number a.fronts b.fronts d [] Does sees (same ∙ sym (append-nil sees.seen.point)))

    calls_seen : SeesCalls (words t fits) y app a b w step v a.setup a.given a.number (front_for a.setup a.fronts) Suits
    calls_seen = record {
      stays = λ same. still (ap (λ (s : Standpoint S P F). s.fronts) same);
      registers = λ d event load reply sees. now (λ after. SeesRegistration a.setup a.given a.number (front_for a.setup a.fronts) after d event load) (record {
        noted = snapshot_of load;
        has = refl;
        at = sees.seen.does.0.0;
        call = shard_call a.setup a.given a.number a.fronts b.fronts d (Reg d event (snapshot_of load) a.number sees.seen.does.0.0 ∷ []) (RegistersAt a.setup a.number d event load (Ok reply)) sees sees.seen.does.0.1;
      });
      refuses = λ d event load back sees. unmade d (RegistersAt a.setup a.number d event load (Err back)) sees sees.seen.does.0;
      takes = λ d turn sees. let given_is = sees.seen.does.1 in now (λ after. SeesTake a.setup a.given a.number (front_for a.setup a.fronts) after d turn) (record {
        at = sees.seen.does.0.0;
        call = shard_call a.setup a.given a.number a.fronts b.fronts d (Take d a.number turn.count sees.seen.does.0.0 ∷ []) (TakesAt t fits a.setup a.frame (a.given d) a.number d (Ok turn)) sees sees.seen.does.0.1;
        of_colour = given_is.of_colour;
        allowed = given_is.allowed;
        events = given_is.events;
        state = given_is.state;
      });
      untaken = λ d why sees. unmade d (TakesAt t fits a.setup a.frame (a.given d) a.number d (Err why)) sees sees.seen.does.0;
      finishes = λ turn answer phase sees. now (λ after. SeesFinish a.setup a.given a.number (front_for a.setup a.fronts) after turn) (record {
        noted = snapshot_of turn.state;
        has = refl;
        at = sees.seen.does.0.0;
        call = shard_call a.setup a.given a.number a.fronts b.fronts turn.colour (Fin turn.colour a.number turn.count (snapshot_of turn.state) sees.seen.does.0.0 ∷ []) (FinishesAt a.setup a.number turn answer) sees sees.seen.does.0.1;
      });
      steals = λ d stolen sees. now (λ after. SeesSteal a.setup a.given a.number (front_for a.setup a.fronts) after d stolen.from) (record {
        at = sees.seen.does.0.0;
        call = shard_call a.setup a.given a.number a.fronts b.fronts d (Steal d stolen.from a.number sees.seen.does.0.0 ∷ []) (StealsAt a.setup a.number d (Ok stolen)) sees sees.seen.does.0.1;
      });
      unstolen = λ d why sees. unmade d (StealsAt a.setup a.number d (Err why)) sees sees.seen.does.0;
      pushes = λ core mark answer called. still called.0;
      pops = λ answer called. still called.0;
      retells = λ core d started worth found called. still called.0;
      picks = λ core answer called. still called.0;
    }

    -- the caller after the step is the one before, with what it has seen then
    on_same : StepsOn t fits y app a w step b v → (Holds : Standpoint S P F → Type 0) → Holds (record a { fronts = b.fronts; chains = b.chains }) → Holds b
    on_same is Holds has =
        let same : record a { fronts = b.fronts; chains = b.chains } ≡ b = λ i. record { setup = sym is.stays.setup i; number = sym is.stays.core i; frame = sym is.stays.frame i; given = sym is.given i; fronts = b.fronts; chains = b.chains } in
        subst Holds same has

    pub runs_step : StepsOn t fits y app a w step b v → SeesLegal a → (runs : List (HandlerRun S P)) → RunsTold a w runs → (new : List (HandlerRun S P)) × RunsTold b v (runs ++ new) × SeesLegal b
    runs_step is legal runs told =
        let well = well_step (words t fits) y app a b w step v t fits (λ d core count trail other one two. one.trailed ∙ sym two.trailed) is.may is.may_then is.steps in
        let each = all_map _ (IsRunOf t fits y app a.setup a.frame) (runs_of (words t fits) y app a b w step v is.steps) (λ run both. both.0) well in
        let then_told = told_seen (words t fits) y app a b w step v t fits a.frame a.setup a.given a.number (front_for a.setup a.fronts) (front_for a.setup b.fronts) runs calls_seen legal is.steps each told.0 told.1 in (
          runs_of (words t fits) y app a b w step v is.steps,
          on_same is (λ s. RunsTold s v (runs ++ runs_of (words t fits) y app a b w step v is.steps)) (then_told.0, then_told.1),
          on_same is SeesLegal then_told.2,
        )

  -- ---- looks

  looks_more : (a b : Standpoint S P F) → HasLooked a b → SeesMore a b
  looks_more a b looked k = let others = looked.others k in (others.0, others.1)

  -- what was seen before is legal, where what is seen then is
  legal_back : (a b : Standpoint S P F) → b.setup ≡ a.setup → SeesMore a b → SeesLegal b → SeesLegal a
  legal_back a b same more legal c =
      let there = more (shard_of a.setup c) in
      legal_notes a.setup (front_in a.fronts (shard_of a.setup c)) there.0 (subst (λ l. IsLegal a.setup (entries_of l)) there.1 (subst (λ s. IsLegal s (entries_of (front_in b.fronts (shard_of s c)))) same (legal c)))

  runs_looked : (a b : Standpoint S P F) (w : WorkerState S P) (runs : List (HandlerRun S P)) → HasLooked a b → SeesLegal b → RunsTold a w runs → RunsTold b w runs
  runs_looked a b w runs looked legal told =
      let same : record a { fronts = b.fronts; chains = b.chains } ≡ b = λ i. record { setup = sym looked.setup i; number = sym looked.number i; frame = sym looked.frame i; given = sym looked.given i; fronts = b.fronts; chains = b.chains } in
      let sound : SeesLegal (record a { fronts = b.fronts; chains = b.chains }) = subst SeesLegal (sym same) legal in
      subst (λ s. RunsTold s w runs) same (
        told_others t fits y app a.setup a.frame a.given a.number (front_for a.setup a.fronts) (front_for a.setup b.fronts) w runs (λ c. looked.others (shard_of a.setup c)) sound told.0,
        did_others a.setup a.number (front_for a.setup a.fronts) (front_for a.setup b.fronts) w runs (λ c. looked.others (shard_of a.setup c)) told.1,
      )

  -- ---- steps, with looks between them

  makes_back : (steps : List Made) (a b : Standpoint S P F) (w v : WorkerState S P) → MakesSteps t fits y app steps a w b v → SeesLegal b → SeesLegal a
  makes_back [] a b w v made legal = legal_back a b made.0.setup (looks_more a b made.0) legal
  makes_back (step ∷ later) a b w v (c, d, u, looked, one, rest) legal =
      let at_d = makes_back later d b u v rest legal in
      let at_c = legal_back c d one.stays.setup (step_more c d one.stays.setup one.stays.core t fits y app w step u one.steps) at_d in
      legal_back a c looked.setup (looks_more a c looked) at_c

  -- the runs of a worker are told after its steps, with those that it made then, by what is seen of
  -- legal histories
  pub runs_makes : (steps : List Made) (a b : Standpoint S P F) (w v : WorkerState S P) (runs : List (HandlerRun S P)) → MakesSteps t fits y app steps a w b v → SeesLegal b → RunsTold a w runs → (new : List (HandlerRun S P)) × RunsTold b v (runs ++ new)
  runs_makes [] a b w v runs made legal told = ([], subst (λ u. RunsTold b u (runs ++ [])) (sym made.1) (subst (RunsTold b w) (sym (append-nil runs)) (runs_looked a b w runs made.0 legal told)))
  runs_makes (step ∷ later) a b w v runs (c, d, u, looked, one, rest) legal told =
      let at_d = makes_back later d b u v rest legal in
      let at_c = legal_back c d one.stays.setup (step_more c d one.stays.setup one.stays.core t fits y app w step u one.steps) at_d in
      let here = runs_step c d w step u one at_c runs (runs_looked a c w runs looked at_c told) in
      let all = runs_makes later d b u v (runs ++ here.0) rest legal here.1 in
      (here.0 ++ all.0, subst (RunsTold b v) (append_assoc runs here.0 all.0) all.1)

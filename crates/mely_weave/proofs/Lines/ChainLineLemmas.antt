-- What the lines with a chain keep: a push, a pop, a report and a pick.
use Rattle.std.proofs.Common.{◌≡◌, ℕ, ◌≤◌, ◌<◌, Bool, List, [], ◌∷◌, Option, Some, None, Result, Ok, Err, max, refl, sym, ◌∙◌, ap, subst, arith, inl, inr, eqb-true}
use Rattle.std.proofs.lemmas.Bool.{cases_Bool, cond-true, cond-false}
use Rattle.std.specs.Prelude.{slice_get, slice_set, MatchOption, ◌==◌}
use Rattle.std.specs.List.{AllByRecursion}
use Rattle.mely_event.specs.declared.colour.Colour.{Colour}
use Rattle.mely_event.specs.declared.event.Event.{Event}
use Rattle.mely_event.specs.declared.mark.Mark.{Mark}
use Rattle.mely_event.specs.declared.there.There.{There}
use Rattle.mely_event.specs.declared.trail.Trail.{Ghosts as TrailWords}
use Rattle.mely_history.specs.Setup.{shape_of}
use Rattle.mely_steal.specs.Marks.{mark_of, after_replacement}
use Rattle.mely_steal.specs.StealQueue.{after_mark_change}
use Rattle.mely_core.specs.CoreQueue.{CoreQueueState, after_report}
use Rattle.mely_steal.proofs.MarkLemmas.{mark_of-colour}
use Rattle.mely_worker.specs.declared.phase.Phase.TheVariants.{Free, Popped, Picked}
use Rattle.mely_worker.specs.declared.delivery.Delivery.TheVariants.{Report}
use Rattle.mely_worker.specs.declared.made.Made.{Made}
use Rattle.mely_worker.specs.Worker.{WorkerState}
use Rattle.mely_worker.specs.Step.{in_phase, after_pop, pop_name, after_pick, pick_name}
use Rattle.mely_weave.specs.Side.{SideState, Readiness, readiness_for}
use Rattle.mely_weave.specs.Marks.{Placed, MarksStand, marks_in_system}
use Rattle.mely_weave.specs.Hands.{held_by, held_in, colour_run_by, colour_in}
use Rattle.mely_weave.specs.Calls.{AtChain, PushAs, PopAs, RetellAs, PickAs}
use Rattle.mely_weave.specs.StandsWell.{side_of, PhaseIsTold, ReportIsTold, StandsWell, WasntRefused}
use Rattle.mely_weave.specs.Weave.{WeaveState}
use Rattle.mely_weave.proofs.Marks.MarkLemmas.{stand_alike, told_where}
use Rattle.mely_weave.proofs.Marks.HandLemmas.{IsSoundMark, chain_sound, none_there, marks_popped, marks_picked, marks_pushed, marks_stay, marks_raised}
use Rattle.mely_weave.proofs.Lines.StepLemmas.{same_keeps}
use Rattle.mely_weave.proofs.Marks.VictimLemmas.{IsOther, all_at, victims_are_others}
use Rattle.mely_weave.proofs.Lines.LineLemmas.{StepKeeps, own}

-- the greater of two is at most what both are
max_below : (m n most : ℕ) → m ≤ most → n ≤ most → max m n ≤ most
max_below m n most p q = omega (arith, p, q)

module _ {S P F : Type 0} (t : TrailWords S F) (fits : F → Colour → Event → Option P → Type 0) (weave : WeaveState S P) (well : StandsWell t fits weave) (k : ℕ) (w : WorkerState S P) (here : slice_get weave.workers k ≡ Some w) (low : k < (shape_of weave.setup).cores) where
  abbrev Keeps : SideState S P → WorkerState S P → Made → Type 0
  Keeps = StepKeeps t fits weave well k w here low

  abbrev from : SideState S P
  from = side_of weave k

  abbrev ready : Colour → Readiness
  ready = readiness_for weave.setup weave.shards

  -- a chain and the worker change, and the marks stand
  moved_line : (b : SideState S P) (core : ℕ) (Does : CoreQueueState → CoreQueueState → Type 0) (at : AtChain from b core Does) (v : WorkerState S P) (made : Made) → v.victims ≡ w.victims → colour_run_by v ≡ colour_run_by w → PhaseIsTold weave.setup ready k v.phase
      → MarksStand ready (marks_in_system held_by (slice_set weave.chains core at.new) (slice_set weave.workers k v)) → WasntRefused made → Keeps b v made
  moved_line b core Does at v made victims colour said marks never = record {
    shards = weave.shards;
    chains = slice_set weave.chains core at.new;
    becomes = at.becomes;
    kept = same_keeps t fits weave well k w here weave.shards (slice_set weave.chains core at.new) v (λ d. refl) victims colour said marks;
    never = never;
  }

  -- the mark in hand enters the chain that it is pushed to, since none of its colour is there
  pub push_enters : (core : ℕ) (mark : Mark) → held_by w ≡ (core, mark) ∷ [] → (b : SideState S P) (answer : Result (Unit {0}) There) → AtChain from b core (PushAs mark answer) → (answer ≡ Ok tt) × AtChain from b core (PushAs mark (Ok tt))
  push_enters core mark holds b (Ok done) at = (refl, at)
  push_enters core mark holds b (Err there) at =
      absurd (none_there held_by ready weave.chains weave.workers well.marks k core w (core, mark) at.old here holds at.was at.does.0)

  -- the mark in hand is pushed
  pub push_line : (core : ℕ) (mark : Mark) (v : WorkerState S P) (made : Made) → held_by w ≡ (core, mark) ∷ [] → held_by v ≡ [] → v.victims ≡ w.victims → colour_run_by v ≡ colour_run_by w → PhaseIsTold weave.setup ready k v.phase → WasntRefused made
      → (b : SideState S P) (answer : Result (Unit {0}) There) → AtChain from b core (PushAs mark answer) → Keeps b v made
  push_line core mark v made holds empty victims colour said never b answer pushed =
      let at = (push_enters core mark holds b answer pushed).1 in
      moved_line b core (PushAs mark (Ok tt)) at v made victims colour said
      (stand_alike ready (marks_in_system held_by weave.chains weave.workers) (marks_in_system held_by (slice_set weave.chains core at.new) (slice_set weave.workers k v))
      (marks_pushed held_by weave.chains weave.workers k core w v at.old at.new here at.was mark (ap (λ (q : CoreQueueState). q.chain) at.does.1) holds empty) well.marks) never

  -- the front of the own chain is popped
  pub pop_line : (place : ℕ) → w.phase ≡ Free place → (b : SideState S P) (answer : Option Mark) → AtChain from b k (PopAs answer) → Keeps b (after_pop w answer) (pop_name answer)
  pop_line place phase b None at =
      moved_line b k (PopAs None) at (after_pop w None) (pop_name None) refl (sym (ap colour_in phase)) tt
      (stand_alike ready (marks_in_system held_by weave.chains weave.workers) (marks_in_system held_by (slice_set weave.chains k at.new) (slice_set weave.workers k (after_pop w None)))
      (marks_stay held_by weave.chains weave.workers k k w (after_pop w None) at.old at.new here at.was at.does.1 (sym (ap (held_in w.core) phase))) well.marks) tt
  pop_line place phase b (Some mark) at =
      let v : WorkerState S P = in_phase w (Popped mark) in
      let now : held_by v ≡ (k, mark) ∷ [] = ap (λ (n : ℕ). let q : Placed = (n, mark) in q ∷ []) (own t fits weave well k w here low) in
      moved_line b k (PopAs (Some mark)) at v (pop_name (Some mark)) refl (sym (ap colour_in phase)) tt
      (stand_alike ready (marks_in_system held_by weave.chains weave.workers) (marks_in_system held_by (slice_set weave.chains k at.new) (slice_set weave.workers k v))
      (marks_popped held_by weave.chains weave.workers k k w v at.old at.new here at.was mark at.does.0 (ap (held_in w.core) phase) now) well.marks) tt

  -- the best mark of a victim's chain is picked
  pub pick_line : (place victim n : ℕ) → w.phase ≡ Free place → slice_get w.victims n ≡ Some victim → (b : SideState S P) (answer : Option Mark) → AtChain from b victim (PickAs answer) → Keeps b (after_pick w place victim answer) (pick_name victim answer)
  pick_line place victim n phase is b None at =
      moved_line b victim (PickAs None) at (after_pick w place victim None) (pick_name victim None) refl (sym (ap colour_in phase)) tt
      (stand_alike ready (marks_in_system held_by weave.chains weave.workers) (marks_in_system held_by (slice_set weave.chains victim at.new) (slice_set weave.workers k (after_pick w place victim None)))
      (marks_stay held_by weave.chains weave.workers k victim w (after_pick w place victim None) at.old at.new here at.was at.does.1 (sym (ap (held_in w.core) phase))) well.marks) tt
  pick_line place victim n phase is b (Some mark) at =
      let v : WorkerState S P = in_phase w (Picked mark victim) in
      let chain = well.chain victim at.old at.was in
      let cores : ℕ = (shape_of weave.setup).cores in
      let group : ℕ = (shape_of weave.setup).group in
      let other : IsOther k cores victim = all_at (IsOther k cores) w.victims n victim (subst (λ (l : List ℕ). AllByRecursion (IsOther k cores) l) (sym (well.worker k w here).victims) (victims_are_others k cores group low)) is in
      moved_line b victim (PickAs (Some mark)) at v (pick_name victim (Some mark)) refl (sym (ap colour_in phase)) (other.0, subst (λ (n : ℕ). n < mark.worth) chain.cost at.does.2, subst (λ (n : ℕ). n ≤ mark.colour.0) chain.pinned at.does.3)
      (stand_alike ready (marks_in_system held_by weave.chains weave.workers) (marks_in_system held_by (slice_set weave.chains victim at.new) (slice_set weave.workers k v))
      (marks_picked held_by weave.chains weave.workers k victim w v at.old at.new here at.was mark.colour mark chain.together.apart at.does.1 (ap (λ (q : CoreQueueState). q.chain) at.does.4) (ap (held_in w.core) phase) refl) well.marks) tt

  module _ (of' : Colour → Readiness) (stand : MarksStand of' (marks_in_system held_by weave.chains weave.workers)) (a b : SideState S P) (same_chains : a.chains ≡ weave.chains) (core : ℕ) (c : Colour) (started worth : ℕ) (found : Bool) (at : AtChain a b core (RetellAs c started worth found)) (v : WorkerState S P) (hand : held_by v ≡ held_by w) (said : ReportIsTold of' (Report core c started worth)) where
    was_there : slice_get weave.chains core ≡ Some at.old
    was_there = subst (λ (l : List CoreQueueState). slice_get l core ≡ Some at.old) same_chains at.was

    -- the marks once a report was told
    retold_from : (was : Option Mark) → was ≡ mark_of c at.old.chain → MatchOption (after_report started worth was) (at.new ≡ at.old) (λ now. at.new ≡ record at.old { chain = after_replacement now at.old.chain; worthy = after_mark_change at.old.cost at.old.pinned now at.old.worthy })
        → MarksStand of' (marks_in_system held_by (slice_set weave.chains core at.new) (slice_set weave.workers k v))
    retold_from None is does =
        stand_alike of' (marks_in_system held_by weave.chains weave.workers) (marks_in_system held_by (slice_set weave.chains core at.new) (slice_set weave.workers k v))
        (marks_stay held_by weave.chains weave.workers k core w v at.old at.new here was_there does hand) stand
    retold_from (Some m) is does = elim (cases_Bool (m.started == started)) [
      | inl hit ↦
          let now : Mark = record m { worth = max m.worth worth } in
          let becomes : at.new ≡ record at.old { chain = after_replacement now at.old.chain; worthy = after_mark_change at.old.cost at.old.pinned now at.old.worthy } =
          subst (λ (o : Option Mark). MatchOption o (at.new ≡ at.old) (λ n. at.new ≡ record at.old { chain = after_replacement n at.old.chain; worthy = after_mark_change at.old.cost at.old.pinned n at.old.worthy })) (cond-true (m.started == started) (Some now) None hit) does in
          let one = (well.chain core at.old was_there).together.apart in
          let of_c : m.colour.0 ≡ c.0 = mark_of-colour c at.old.chain m (sym is) in
          let same : m.colour ≡ c = ap (λ (n : ℕ). let d : Colour = record { 0 = n } in d) of_c in
          let there : mark_of m.colour at.old.chain ≡ Some m = ap (λ (d : Colour). mark_of d at.old.chain) same ∙ sym is in
          let sound : IsSoundMark of' (core, m) = chain_sound held_by of' weave.chains weave.workers stand core at.old m.colour m was_there one there in
          let begun : started ≡ (of' c).begun = sym (eqb-true m.started started hit) ∙ sound.begun ∙ ap (λ (d : Colour). (of' d).begun) same in
          let more : worth ≤ (of' m.colour).worth = subst (λ (d : Colour). worth ≤ (of' d).worth) (sym same) (said.1 begun) in
          let most : max m.worth worth ≤ (of' m.colour).worth = max_below m.worth worth (of' m.colour).worth sound.worth more in
          marks_raised held_by weave.chains weave.workers k core w v at.old at.new here was_there of' m now refl refl most one there (ap (λ (q : CoreQueueState). q.chain) becomes) hand (told_where of' core now sound.owner sound.begun most) stand
      | inr miss ↦
          let stays : at.new ≡ at.old =
          subst (λ (o : Option Mark). MatchOption o (at.new ≡ at.old) (λ n. at.new ≡ record at.old { chain = after_replacement n at.old.chain; worthy = after_mark_change at.old.cost at.old.pinned n at.old.worthy })) (cond-false (m.started == started) (Some (record m { worth = max m.worth worth })) None miss) does in
          stand_alike of' (marks_in_system held_by weave.chains weave.workers) (marks_in_system held_by (slice_set weave.chains core at.new) (slice_set weave.workers k v))
          (marks_stay held_by weave.chains weave.workers k core w v at.old at.new here was_there stays hand) stand
    ]

    pub marks_retold : MarksStand of' (marks_in_system held_by (slice_set weave.chains core at.new) (slice_set weave.workers k v))
    marks_retold = retold_from (mark_of c at.old.chain) refl at.does.1

  -- a report is told
  pub retell_line : (b : SideState S P) (core : ℕ) (c : Colour) (started worth : ℕ) (found : Bool) (at : AtChain from b core (RetellAs c started worth found)) (v : WorkerState S P) → held_by v ≡ held_by w → ReportIsTold ready (Report core c started worth)
      → (made : Made) → v.victims ≡ w.victims → colour_run_by v ≡ colour_run_by w → PhaseIsTold weave.setup ready k v.phase → WasntRefused made → Keeps b v made
  retell_line b core c started worth found at v hand said made victims colour said' never =
      moved_line b core (RetellAs c started worth found) at v made victims colour said' (marks_retold ready well.marks from b refl core c started worth found at v hand said) never

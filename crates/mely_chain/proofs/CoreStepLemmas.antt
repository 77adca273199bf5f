-- A step of a worker keeps what the notes tell of its runs: over any access whose calls are seen.
use Rattle.std.proofs.Common.{◌≡◌, ℕ, zero, suc, ◌<◌, ◌==◌, List, [], ◌∷◌, ◌++◌, Option, Some, None, Result, Ok, Err, Bool, true, false, cond, length, take, if◌then◌else◌, refl, sym, ◌∙◌, ap, subst, ⊎_elim, arith, length-drop}
use Rattle.std.specs.List.{AllByRecursion}
use Rattle.std.specs.Prelude.{slice_get}
use Rattle.std.specs.declared.snapshot.Snapshot.{Snapshot}
use Rattle.std.proofs.lemmas.Bool.{eq-eqb, ne_eqb, cases_eq}
use Rattle.std.proofs.lemmas.List.{append-nil, length-take-le}
use Rattle.mely_event.specs.declared.colour.Colour.{Colour}
use Rattle.mely_event.specs.declared.event.Event.{Event}
use Rattle.mely_event.specs.declared.mark.Mark.{Mark}
use Rattle.mely_event.specs.declared.there.There.{There}
use Rattle.mely_event.specs.declared.trail.Trail.{Ghosts as TrailWords}
use Rattle.mely_event.specs.declared.unregistered.Unregistered.{Unregistered}
use Rattle.mely_history.specs.declared.setup.Setup.{Setup}
use Rattle.mely_history.specs.Setup.{shard_of}
use Rattle.mely_history.specs.History.{begun_of, registered_of}
use Rattle.mely_history.specs.Legal.{IsLegal, MayTake}
use Rattle.mely_history.specs.declared.after.After.{After}
use Rattle.mely_history.specs.declared.after.After.TheVariants.{More, Idle}
use Rattle.mely_history.specs.declared.no_steal.NoSteal.{NoSteal}
use Rattle.mely_history.specs.declared.no_steal.NoSteal.TheVariants as no_steal
use Rattle.mely_history.specs.declared.no_take.NoTake.{NoTake}
use Rattle.mely_history.specs.declared.no_take.NoTake.TheVariants as no_take
use Rattle.mely_history.specs.declared.registered.Registered.{Registered}
use Rattle.mely_history.specs.declared.stolen.Stolen.{Stolen}
use Rattle.mely_note.specs.declared.note.Note.{Note}
use Rattle.mely_note.specs.declared.note.Note.TheVariants.{Reg, Take, Fin, Steal}
use Rattle.mely_note.specs.declared.stamp.Stamp.{Stamp}
use Rattle.mely_note.specs.Notes.{Rise, entries_of, home_of, latest, loaded_of, stamp_of, waiting_of}
use Rattle.mely_note.proofs.StampLemmas.{rise-last}
use Rattle.mely_queue.specs.Turn.{TurnState}
use Rattle.mely_tally.specs.Account.{HandlerRun, IsRunOf}
use Rattle.mely_tally.proofs.StepAccountLemmas.{runs_of}
use Rattle.mely_worker.specs.declared.access.Access.{Ghosts as AccessWords}
use Rattle.mely_worker.specs.declared.app.App.{Ghosts as AppWords}
use Rattle.mely_worker.specs.declared.delivery.Delivery.{Delivery}
use Rattle.mely_worker.specs.declared.delivery.Delivery.TheVariants.{Nothing, PushMark, Report}
use Rattle.mely_worker.specs.declared.made.Made.{Made}
use Rattle.mely_worker.specs.declared.phase.Phase.{Phase}
use Rattle.mely_worker.specs.declared.phase.Phase.TheVariants.{Free, Popped, Picked, Landing, Pushing, Turning}
use Rattle.mely_worker.specs.Delivery.{delivery_after}
use Rattle.mely_worker.specs.Phase.{is_turning}
use Rattle.mely_worker.specs.Step.{Steps, StepsFrom, StepsTurning, StepsPuts, StepsTurn, StepsHunt, StepsFree, in_phase, after_register, after_finish, after_take, after_steal, after_pop, after_pick}
use Rattle.mely_worker.specs.Worker.{WorkerState}
use Rattle.mely_chain.specs.Deeds.{CoreDid}
use Rattle.mely_chain.specs.Told.{CoreTold}
use Rattle.mely_chain.proofs.GrowthLemmas.{loaded-length}
use Rattle.mely_chain.proofs.CoreTurnsLemmas.{legal_notes}
use Rattle.mely_chain.proofs.CoreLemmas.{GrewByOthers, IsNext, AreLegalNotes, told_others, told_same, told_rests, told_hand, told_lost, told_registered, told_taken, told_stolen, told_finished, told_run}
use Rattle.mely_chain.proofs.DeedLemmas.{did_others, did_same, did_rests, did_hand, did_lost, did_registered, did_taken, did_stolen, did_finished, did_run}

-- a take of a whole batch gives as many events as it says
taken_whole : {S P : Type 0} (setup : Setup) (notes : List (Note S P)) (d : Colour) (core count : ℕ) (events : List (Event × Option P)) → MayTake setup (entries_of notes) d core count → events ≡ take count (waiting_of notes d) → length events ≡ count
taken_whole setup notes d core count events may is =
    let loads = loaded-length notes d in
    let waiting = length-drop (begun_of (entries_of notes) d) (loaded_of notes d) in
    let queued = length-drop (begun_of (entries_of notes) d) (registered_of (entries_of notes) d) in
    let batch = may.whole_batch in
    ap length is ∙ length-take-le count (waiting_of notes d) (omega (arith, loads, waiting, queued, batch))

-- what a pass has seen of each colour's shard, before a call and after it
module _ {S P : Type 0} (setup : Setup) (given : Colour → Option S) (n : ℕ) (before after : Colour → List (Note S P)) where
  -- a call of the pass on the shard of a colour: it finds the notes of others there, and makes these
  -- of its own, whose stamps are above those of what is there and of all that was seen; of the other
  -- shards nothing new is seen
  pub record SeesCall (d : Colour) (own : List (Note S P)) : Type 0 where
    pub point : List (Note S P)
    pub others : (c : Colour) → shard_of setup c ≡ shard_of setup d → GrewByOthers n (before c) point
    pub here : (c : Colour) → shard_of setup c ≡ shard_of setup d → after c ≡ point ++ own
    pub elsewhere : (c : Colour) → (shard_of setup c ≡ shard_of setup d → ⊥) → after c ≡ before c
    pub legal : IsLegal setup (entries_of (point ++ own))
    pub rise : Rise (point ++ own)
    pub above : (c : Colour) (note : Note S P) → own ≡ note ∷ [] → latest (before c) < stamp_of note

  -- a registration: the note has the load
  pub record SeesRegistration (d : Colour) (event : Event) (load : Option P) : Type 0 where
    pub noted : Snapshot (Option P)
    pub has : noted.value ≡ load
    pub at : Snapshot Stamp
    pub call : SeesCall d (Reg d event noted n at ∷ [])

  -- a take, which gives what waited and the state that was at home
  pub record SeesTake (d : Colour) (turn : TurnState S P) : Type 0 where
    pub at : Snapshot Stamp
    pub call : SeesCall d (Take d n turn.count at ∷ [])
    pub of_colour : turn.colour ≡ d
    pub allowed : MayTake setup (entries_of call.point) d n turn.count
    pub events : turn.events ≡ take turn.count (waiting_of call.point d)
    pub state : (first : S) → given d ≡ Some first → turn.state ≡ home_of first call.point d

  -- a finish: the note has the state that it brings home
  pub record SeesFinish (turn : TurnState S P) : Type 0 where
    pub noted : Snapshot S
    pub has : noted.value ≡ turn.state
    pub at : Snapshot Stamp
    pub call : SeesCall turn.colour (Fin turn.colour n turn.count noted at ∷ [])

  -- a steal from a core
  pub record SeesSteal (d : Colour) (from : ℕ) : Type 0 where
    pub at : Snapshot Stamp
    pub call : SeesCall d (Steal d from n at ∷ [])

  module _ (d : Colour) (own : List (Note S P)) (call : SeesCall d own) where
    -- what was seen at the point of the call
    abbrev at_point : Colour → List (Note S P)
    at_point c = if shard_of setup c == shard_of setup d then call.point else before c

    point_here : (c : Colour) → shard_of setup c ≡ shard_of setup d → at_point c ≡ call.point
    point_here c same = ap (λ b. cond b call.point (before c)) (eq-eqb (shard_of setup c) (shard_of setup d) same)

    point_elsewhere : (c : Colour) → (shard_of setup c ≡ shard_of setup d → ⊥) → at_point c ≡ before c
    point_elsewhere c ne = ap (λ b. cond b call.point (before c)) (ne_eqb (shard_of setup c) (shard_of setup d) ne)

    point_grew : (c : Colour) → GrewByOthers n (before c) (at_point c)
    point_grew c = ⊎_elim
        (λ (same : shard_of setup c ≡ shard_of setup d). subst (GrewByOthers n (before c)) (sym (point_here c same)) (call.others c same))
        (λ (ne : shard_of setup c ≡ shard_of setup d → ⊥). ([], point_elsewhere c ne ∙ sym (append-nil (before c)), refl))
        (cases_eq (shard_of setup c) (shard_of setup d))

    point_legal : AreLegalNotes setup before → AreLegalNotes setup at_point
    point_legal legal c = ⊎_elim
        (λ (same : shard_of setup c ≡ shard_of setup d). subst (λ l. IsLegal setup (entries_of l)) (sym (point_here c same)) (legal_notes setup call.point own call.legal))
        (λ (ne : shard_of setup c ≡ shard_of setup d → ⊥). subst (λ l. IsLegal setup (entries_of l)) (sym (point_elsewhere c ne)) (legal c))
        (cases_eq (shard_of setup c) (shard_of setup d))

    -- what is seen after the call is legal
    pub after_legal : AreLegalNotes setup before → AreLegalNotes setup after
    after_legal legal c = ⊎_elim
        (λ (same : shard_of setup c ≡ shard_of setup d). subst (λ l. IsLegal setup (entries_of l)) (sym (call.here c same)) call.legal)
        (λ (ne : shard_of setup c ≡ shard_of setup d → ⊥). subst (λ l. IsLegal setup (entries_of l)) (sym (call.elsewhere c ne)) (legal c))
        (cases_eq (shard_of setup c) (shard_of setup d))

  point_next : (d : Colour) (note : Note S P) (call : SeesCall d (note ∷ [])) → IsNext setup d note (at_point d (note ∷ []) call) after
  point_next d note call = record {
    here = λ c same. call.here c same ∙ ap (λ l. l ++ note ∷ []) (sym (point_here d (note ∷ []) call c same));
    elsewhere = λ c ne. call.elsewhere c ne ∙ sym (point_elsewhere d (note ∷ []) call c ne);
  }

  -- the stamp of a note is above all that was seen at its point
  point_late : (d : Colour) (note : Note S P) (call : SeesCall d (note ∷ [])) (c : Colour) → latest (at_point d (note ∷ []) call c) < stamp_of note
  point_late d note call c = ⊎_elim
      (λ (same : shard_of setup c ≡ shard_of setup d). subst (λ l. latest l < stamp_of note) (sym (point_here d (note ∷ []) call c same)) (rise-last call.point note call.rise))
      (λ (ne : shard_of setup c ≡ shard_of setup d → ⊥). subst (λ l. latest l < stamp_of note) (sym (point_elsewhere d (note ∷ []) call c ne)) (call.above c note refl))
      (cases_eq (shard_of setup c) (shard_of setup d))

  point_same : (d : Colour) (call : SeesCall d []) (c : Colour) → after c ≡ at_point d [] call c
  point_same d call c = ⊎_elim
      (λ (same : shard_of setup c ≡ shard_of setup d). call.here c same ∙ append-nil call.point ∙ sym (point_here d [] call c same))
      (λ (ne : shard_of setup c ≡ shard_of setup d → ⊥). call.elsewhere c ne ∙ sym (point_elsewhere d [] call c ne))
      (cases_eq (shard_of setup c) (shard_of setup d))

-- some notes that suit what a step did, of which this holds
pub record SeesSome {S P : Type 0} (Suits Has : (Colour → List (Note S P)) → Type 0) : Type 0 where
  pub after : Colour → List (Note S P)
  pub suits : Suits after
  pub has : Has after

module _ {A R S P F : Type 0} (x : AccessWords A S P F) (y : AppWords R P S F) (app : R) (a b : A) (w : WorkerState S P) (step : Made) (v : WorkerState S P) where
  -- the run of a line, as `runs_of` has it
  abbrev runs_turn : (turn : TurnState S P) (left : List (Event × Option P)) → StepsTurn x y app a w step b v turn left → List (HandlerRun S P)
  runs_turn turn [] line = []
  runs_turn turn (event ∷ rest) line = record { colour = turn.colour; state = turn.state; event = event.0; load = event.1; becomes = line.state; puts = line.puts } ∷ []

  abbrev runs_puts : (turn : TurnState S P) (puts : List (Colour × Event × Option P)) → StepsPuts x y app a w step b v turn puts → List (HandlerRun S P)
  runs_puts turn [] line = runs_turn turn turn.events line
  runs_puts turn (put ∷ rest) line = []

  abbrev runs_turning : (turn : TurnState S P) (hand : Delivery) (puts : List (Colour × Event × Option P)) → StepsTurning x y app a w step b v turn hand puts → List (HandlerRun S P)
  runs_turning turn (PushMark core mark) puts line = []
  runs_turning turn (Report core colour started worth) puts line = []
  runs_turning turn Nothing puts line = runs_puts turn puts line

  abbrev runs_from : (phase : Phase S P) → StepsFrom x y app a w step b v phase → List (HandlerRun S P)
  runs_from (Turning turn hand puts) line = runs_turning turn hand puts line
  runs_from (Pushing core mark) line = []
  runs_from (Popped mark) line = []
  runs_from (Picked mark victim) line = []
  runs_from (Landing mark) line = []
  runs_from (Free place) line = []

  module _ (setup : Setup) (given : Colour → Option S) (n : ℕ) (before : Colour → List (Note S P)) (Suits : (Colour → List (Note S P)) → Type 0) where
    -- what each call of the worker adds to what its pass has seen, where that suits what the call did;
    -- and it suits as it was, where the step made no call, or one on a chain
    pub record SeesCalls : Type 0 where
      pub stays : b ≡ a → Suits before
      pub registers : (d : Colour) (event : Event) (load : Option P) (reply : Registered) → x.registers a d event load (Ok reply) b → SeesSome Suits (λ after. SeesRegistration setup given n before after d event load)
      pub refuses : (d : Colour) (event : Event) (load : Option P) (back : Unregistered P) → x.registers a d event load (Err back) b → SeesSome Suits (λ after. SeesCall setup given n before after d [])
      pub takes : (d : Colour) (turn : TurnState S P) → x.takes a d (Ok turn) b → SeesSome Suits (λ after. SeesTake setup given n before after d turn)
      pub untaken : (d : Colour) (why : NoTake) → x.takes a d (Err why) b → SeesSome Suits (λ after. SeesCall setup given n before after d [])
      pub finishes : (turn : TurnState S P) (answer : After) → w.phase ≡ Turning turn Nothing [] → x.finishes a turn answer b → SeesSome Suits (λ after. SeesFinish setup given n before after turn)
      pub steals : (d : Colour) (stolen : Stolen) → x.steals a d (Ok stolen) b → SeesSome Suits (λ after. SeesSteal setup given n before after d stolen.from)
      pub unstolen : (d : Colour) (why : NoSteal) → x.steals a d (Err why) b → SeesSome Suits (λ after. SeesCall setup given n before after d [])
      pub pushes : (core : ℕ) (mark : Mark) (answer : Result (Unit {0}) There) → x.pushes a core mark answer b → Suits before
      pub pops : (answer : Option Mark) → x.pops a answer b → Suits before
      pub retells : (core : ℕ) (d : Colour) (started worth : ℕ) (found : Bool) → x.retells a core d started worth found b → Suits before
      pub picks : (core : ℕ) (answer : Option Mark) → x.picks a core answer b → Suits before

    module _ (t : TrailWords S F) (fits : F → Colour → Event → Option P → Type 0) (frame : F) (sees : SeesCalls) (legal : AreLegalNotes setup before) (runs : List (HandlerRun S P)) where
      abbrev IsRun : HandlerRun S P → Type 0
      IsRun run = IsRunOf t fits y app setup frame run

      abbrev Told : (Colour → List (Note S P)) → WorkerState S P → List (HandlerRun S P) → Type 0
      Told notes z all = CoreTold t fits y app setup frame given n notes z all

      -- the notes tell the runs, and the worker did what came to them
      abbrev Both : (Colour → List (Note S P)) → WorkerState S P → List (HandlerRun S P) → Type 0
      Both notes z all = Told notes z all × CoreDid setup n notes z all

      -- the runs after the step are told by notes that suit it, and the worker did what came to them
      pub record StepTold (all : List (HandlerRun S P)) : Type 0 where
        pub after : Colour → List (Note S P)
        pub suits : Suits after
        pub are_legal : AreLegalNotes setup after
        pub told : Told after v all
        pub did : CoreDid setup n after v all

      -- what the worker is after a call
      finish_rests : (d : Colour) (answer : After) → (is_turning (after_finish w d answer).phase ≡ false) × ((after_finish w d answer).lost ≡ w.lost)
      finish_rests d (More started worth) = (refl, refl)
      finish_rests d Idle = (refl, refl)

      untaken_rests : (mark : Mark) (why : NoTake) → (is_turning (after_take w mark (Err why)).phase ≡ false) × ((after_take w mark (Err why)).lost ≡ w.lost)
      untaken_rests mark no_take.Memory = (refl, refl)
      untaken_rests mark (no_take.Elsewhere owner) = (refl, refl)
      untaken_rests mark (no_take.Busy core) = (refl, refl)
      untaken_rests mark (no_take.Empty registered) = (refl, refl)

      steal_rests : (mark : Mark) (victim : ℕ) (answer : Result Stolen NoSteal) → (is_turning (after_steal w mark victim answer).phase ≡ false) × ((after_steal w mark victim answer).lost ≡ w.lost)
      steal_rests mark victim (Ok stolen) = (refl, refl)
      steal_rests mark victim (Err no_steal.Memory) = (refl, refl)
      steal_rests mark victim (Err (no_steal.Pinned colour)) = (refl, refl)
      steal_rests mark victim (Err no_steal.Own) = (refl, refl)
      steal_rests mark victim (Err (no_steal.Busy core)) = (refl, refl)
      steal_rests mark victim (Err (no_steal.Empty registered)) = (refl, refl)
      steal_rests mark victim (Err (no_steal.Cheap worth)) = (refl, refl)

      pop_rests : (answer : Option Mark) → (is_turning (after_pop w answer).phase ≡ false) × ((after_pop w answer).lost ≡ w.lost)
      pop_rests None = (refl, refl)
      pop_rests (Some mark) = (refl, refl)

      pick_rests : (place victim : ℕ) (answer : Option Mark) → (is_turning (after_pick w place victim answer).phase ≡ false) × ((after_pick w place victim answer).lost ≡ w.lost)
      pick_rests place victim None = (refl, refl)
      pick_rests place victim (Some mark) = (refl, refl)

      -- at the point of a call
      told_at : (after : Colour → List (Note S P)) (d : Colour) (own : List (Note S P)) (call : SeesCall setup given n before after d own) (z : WorkerState S P) → Both before z runs → Both (at_point setup given n before after d own call) z runs
      told_at after d own call z both =
          let point = at_point setup given n before after d own call in
          let grew = point_grew setup given n before after d own call in (
            told_others t fits y app setup frame given n before point z runs grew (point_legal setup given n before after d own call legal) both.0,
            did_others setup n before point z runs grew both.1,
          )

      -- after a call that made no note
      told_unmade : (after : Colour → List (Note S P)) (d : Colour) (call : SeesCall setup given n before after d []) (z : WorkerState S P) → Both before z runs → Both after z runs
      told_unmade after d call z both =
          let point = at_point setup given n before after d [] call in
          let same = point_same setup given n before after d call in
          let there = told_at after d [] call z both in
          (told_same t fits y app setup frame given n point after z runs same there.0, did_same setup n point after z runs same there.1)

      -- a step that ran nothing
      no_run : (after : Colour → List (Note S P)) → Suits after → AreLegalNotes setup after → (z : WorkerState S P) → v ≡ z → Both after z runs → StepTold (runs ++ [])
      no_run after suits fine z is both = record {
        after = after;
        suits = suits;
        are_legal = fine;
        told = subst (λ l. Told after v l) (sym (append-nil runs)) (subst (λ u. Told after u runs) (sym is) both.0);
        did = subst (λ l. CoreDid setup n after v l) (sym (append-nil runs)) (subst (λ u. CoreDid setup n after u runs) (sym is) both.1);
      }

      -- a step on a chain, or without a call
      no_call : Suits before → (z : WorkerState S P) → v ≡ z → Both before z runs → StepTold (runs ++ [])
      no_call suits z is both = no_run before suits legal z is both

      -- the worker in another phase, where it has a turn in neither
      in_rest : (after : Colour → List (Note S P)) (phase : Phase S P) (z : WorkerState S P) → is_turning phase ≡ false → (is_turning z.phase ≡ false) × (z.lost ≡ w.lost) → Both after (in_phase w phase) runs → Both after z runs
      in_rest after phase z rests then_rests both = (
        told_rests t fits y app setup frame given n after (in_phase w phase) z runs rests then_rests.0 then_rests.1 both.0,
        did_rests setup n after (in_phase w phase) z runs rests then_rests.0 then_rests.1 both.1,
      )

      -- a turn with nothing in hand
      in_hand : (turn : TurnState S P) (hand : Delivery) (puts : List (Colour × Event × Option P)) → Both before (in_phase w (Turning turn hand puts)) runs → Both before (in_phase w (Turning turn Nothing puts)) runs
      in_hand turn hand puts both = (told_hand t fits y app setup frame given n before w runs turn hand Nothing puts both.0, did_hand setup n before w runs turn hand Nothing puts both.1)

      -- a refused call between phases without a turn
      no_note : (d : Colour) → SeesSome Suits (λ after. SeesCall setup given n before after d []) → (phase : Phase S P) (z : WorkerState S P) → is_turning phase ≡ false → (is_turning z.phase ≡ false) × (z.lost ≡ w.lost) → v ≡ z → Both before (in_phase w phase) runs → StepTold (runs ++ [])
      no_note d seen phase z rests then_rests is both =
          no_run seen.after seen.suits (after_legal setup given n before seen.after d [] seen.has legal) z is (in_rest seen.after phase z rests then_rests (told_unmade seen.after d seen.has (in_phase w phase) both))

      told_turn : (turn : TurnState S P) (left : List (Event × Option P)) → w.phase ≡ Turning turn Nothing [] → turn.events ≡ left → Both before (in_phase w (Turning turn Nothing [])) runs → (line : StepsTurn x y app a w step b v turn left) → AllByRecursion IsRun (runs_turn turn left line) → StepTold (runs ++ runs_turn turn left line)
      told_turn turn [] at is both line each =
          let seen = sees.finishes turn line.answer at line.called in
          let fin = seen.has in
          let note : Note S P = Fin turn.colour n turn.count fin.noted fin.at in
          let then_rests = finish_rests turn.colour line.answer in
          let point = at_point setup given n before seen.after turn.colour (note ∷ []) fin.call in
          let next = point_next setup given n before seen.after turn.colour note fin.call in
          let there = told_at seen.after turn.colour (note ∷ []) fin.call (in_phase w (Turning turn Nothing [])) both in
          no_run seen.after seen.suits (after_legal setup given n before seen.after turn.colour (note ∷ []) fin.call legal) (after_finish w turn.colour line.answer) line.becomes (
            told_finished t fits y app setup frame given n point seen.after runs w (after_finish w turn.colour line.answer) turn Nothing fin.noted fin.at fin.has is then_rests.0 then_rests.1 next (point_legal setup given n before seen.after turn.colour (note ∷ []) fin.call legal) there.0,
            did_finished setup n point seen.after runs w (after_finish w turn.colour line.answer) turn Nothing fin.noted fin.at is then_rests.0 then_rests.1 next (point_late setup given n before seen.after turn.colour note fin.call) there.1,
          )
      told_turn turn (event ∷ rest) at is both line each =
          let run : HandlerRun S P = record { colour = turn.colour; state = turn.state; event = event.0; load = event.1; becomes = line.state; puts = line.puts } in
          let ran = told_run t fits y app setup frame given n before w runs turn Nothing Nothing rest run each.0 refl refl is legal both.0 in
          let then_ran = did_run setup n before w runs turn Nothing Nothing rest run refl is both.1 in
          record { after = before; suits = sees.stays line.untouched; are_legal = legal; told = subst (λ u. Told before u (runs ++ run ∷ [])) (sym line.becomes) ran; did = subst (λ u. CoreDid setup n before u (runs ++ run ∷ [])) (sym line.becomes) then_ran }

      told_register : (turn : TurnState S P) (put : Colour × Event × Option P) (rest : List (Colour × Event × Option P)) → Both before (in_phase w (Turning turn Nothing (put ∷ rest))) runs → (answer : Result Registered (Unregistered P)) → x.registers a put.0 put.1 put.2 answer b → v ≡ after_register w turn rest put answer → StepTold (runs ++ [])
      told_register turn put rest both (Ok reply) called is =
          let seen = sees.registers put.0 put.1 put.2 reply called in
          let reg = seen.has in
          let note : Note S P = Reg put.0 put.1 reg.noted n reg.at in
          let point = at_point setup given n before seen.after put.0 (note ∷ []) reg.call in
          let next = point_next setup given n before seen.after put.0 note reg.call in
          let there = told_at seen.after put.0 (note ∷ []) reg.call (in_phase w (Turning turn Nothing (put ∷ rest))) both in
          no_run seen.after seen.suits (after_legal setup given n before seen.after put.0 (note ∷ []) reg.call legal) (after_register w turn rest put (Ok reply)) is (
            told_registered t fits y app setup frame given n point seen.after runs w turn Nothing (delivery_after put.0 reply) put rest reg.noted reg.at reg.has next (point_legal setup given n before seen.after put.0 (note ∷ []) reg.call legal) there.0,
            did_registered setup n point seen.after runs w turn Nothing (delivery_after put.0 reply) put rest reg.noted reg.at reg.has next (point_late setup given n before seen.after put.0 note reg.call) there.1,
          )
      told_register turn put rest both (Err back) called is =
          let seen = sees.refuses put.0 put.1 put.2 back called in
          let there = told_unmade seen.after put.0 seen.has (in_phase w (Turning turn Nothing (put ∷ rest))) both in
          no_run seen.after seen.suits (after_legal setup given n before seen.after put.0 [] seen.has legal) (after_register w turn rest put (Err back)) is (
            told_lost t fits y app setup frame given n seen.after w (after_register w turn rest put (Err back)) runs turn Nothing Nothing (put ∷ rest) rest put refl refl there.0,
            did_lost setup n seen.after w (after_register w turn rest put (Err back)) runs turn Nothing Nothing (put ∷ rest) rest put refl refl there.1,
          )

      told_puts : (turn : TurnState S P) (puts : List (Colour × Event × Option P)) → w.phase ≡ Turning turn Nothing puts → Both before (in_phase w (Turning turn Nothing puts)) runs → (line : StepsPuts x y app a w step b v turn puts) → AllByRecursion IsRun (runs_puts turn puts line) → StepTold (runs ++ runs_puts turn puts line)
      told_puts turn [] at both line each = told_turn turn turn.events at refl both line each
      told_puts turn (put ∷ rest) at both line each = told_register turn put rest both line.answer line.called line.becomes

      told_turning : (turn : TurnState S P) (hand : Delivery) (puts : List (Colour × Event × Option P)) → w.phase ≡ Turning turn hand puts → Both before (in_phase w (Turning turn hand puts)) runs → (line : StepsTurning x y app a w step b v turn hand puts) → AllByRecursion IsRun (runs_turning turn hand puts line) → StepTold (runs ++ runs_turning turn hand puts line)
      told_turning turn (PushMark core mark) puts at both line each =
          no_call (sees.pushes core mark line.answer line.called) (in_phase w (Turning turn Nothing puts)) line.becomes (in_hand turn (PushMark core mark) puts both)
      told_turning turn (Report core colour started worth) puts at both line each =
          no_call (sees.retells core colour started worth line.answer line.called) (in_phase w (Turning turn Nothing puts)) line.becomes (in_hand turn (Report core colour started worth) puts both)
      told_turning turn Nothing puts at both line each = told_puts turn puts at both line each

      told_take : (mark : Mark) → Both before (in_phase w (Popped mark)) runs → (answer : Result (TurnState S P) NoTake) → x.takes a mark.colour answer b → v ≡ after_take w mark answer → StepTold (runs ++ [])
      told_take mark both (Ok turn) called is =
          let d : Colour = mark.colour in
          let seen = sees.takes d turn called in
          let taken = seen.has in
          let note : Note S P = Take d n turn.count taken.at in
          let here : at_point setup given n before seen.after d (note ∷ []) taken.call d ≡ taken.call.point = point_here setup given n before seen.after d (note ∷ []) taken.call d refl in
          let point = at_point setup given n before seen.after d (note ∷ []) taken.call in
          let next = point_next setup given n before seen.after d note taken.call in
          let there = told_at seen.after d (note ∷ []) taken.call (in_phase w (Popped mark)) both in
          no_run seen.after seen.suits (after_legal setup given n before seen.after d (note ∷ []) taken.call legal) (after_take w mark (Ok turn)) is (
            told_taken t fits y app setup frame given n point seen.after runs (in_phase w (Popped mark)) d turn taken.at refl taken.of_colour
                (subst (λ l. MayTake setup (entries_of l) d n turn.count) (sym here) taken.allowed)
                (taken.events ∙ ap (λ l. take turn.count (waiting_of l d)) (sym here))
                (λ first at. taken.state first at ∙ ap (λ l. home_of first l d) (sym here))
                next there.0,
            did_taken setup n point seen.after runs (in_phase w (Popped mark)) d turn taken.at refl taken.of_colour (taken_whole setup taken.call.point d n turn.count turn.events taken.allowed taken.events) next (point_late setup given n before seen.after d note taken.call) there.1,
          )
      told_take mark both (Err why) called is = no_note mark.colour (sees.untaken mark.colour why called) (Popped mark) (after_take w mark (Err why)) refl (untaken_rests mark why) is both

      told_steal : (mark : Mark) (victim : ℕ) → Both before (in_phase w (Picked mark victim)) runs → (answer : Result Stolen NoSteal) → x.steals a mark.colour answer b → v ≡ after_steal w mark victim answer → StepTold (runs ++ [])
      told_steal mark victim both (Ok stolen) called is =
          let d : Colour = mark.colour in
          let seen = sees.steals d stolen called in
          let steal = seen.has in
          let note : Note S P = Steal d stolen.from n steal.at in
          let rests = steal_rests mark victim (Ok stolen) in
          let point = at_point setup given n before seen.after d (note ∷ []) steal.call in
          let next = point_next setup given n before seen.after d note steal.call in
          let there = told_at seen.after d (note ∷ []) steal.call (in_phase w (Picked mark victim)) both in
          no_run seen.after seen.suits (after_legal setup given n before seen.after d (note ∷ []) steal.call legal) (after_steal w mark victim (Ok stolen)) is (
            told_stolen t fits y app setup frame given n point seen.after runs (in_phase w (Picked mark victim)) (after_steal w mark victim (Ok stolen)) d stolen.from steal.at refl rests.0 rests.1 next there.0,
            did_stolen setup n point seen.after runs (in_phase w (Picked mark victim)) (after_steal w mark victim (Ok stolen)) d stolen.from steal.at refl rests.0 rests.1 next (point_late setup given n before seen.after d note steal.call) there.1,
          )
      told_steal mark victim both (Err why) called is = no_note mark.colour (sees.unstolen mark.colour why called) (Picked mark victim) (after_steal w mark victim (Err why)) refl (steal_rests mark victim (Err why)) is both

      told_hunt : (own place : ℕ) (victim : Option ℕ) → Both before (in_phase w (Free own)) runs → StepsHunt x y app a w step b v place victim → StepTold (runs ++ [])
      told_hunt own place (Some victim) both line = no_call (sees.picks victim line.answer line.called) (after_pick w place victim line.answer) line.becomes (in_rest before (Free own) (after_pick w place victim line.answer) refl (pick_rests place victim line.answer) both)
      told_hunt own place None both line = absurd line

      told_free : (halted : Bool) (place : ℕ) → w.phase ≡ Free place → Both before (in_phase w (Free place)) runs → StepsFree x y app a w step b v halted place → StepTold (runs ++ [])
      told_free true place at both line = no_call (sees.stays line.0) (in_phase w (Free place)) (line.1 ∙ ap (in_phase w) at) both
      told_free false zero at both line = no_call (sees.pops line.answer line.called) (after_pop w line.answer) line.becomes (in_rest before (Free zero) (after_pop w line.answer) refl (pop_rests line.answer) both)
      told_free false (suc m) at both line = told_hunt (suc m) (suc m) (slice_get w.victims m) both line

      told_from : (phase : Phase S P) → w.phase ≡ phase → Both before (in_phase w phase) runs → (line : StepsFrom x y app a w step b v phase) → AllByRecursion IsRun (runs_from phase line) → StepTold (runs ++ runs_from phase line)
      told_from (Turning turn hand puts) at both line each = told_turning turn hand puts at both line each
      told_from (Pushing core mark) at both line each = no_call (sees.pushes core mark line.answer line.called) (in_phase w (Free 0)) line.becomes (in_rest before (Pushing core mark) (in_phase w (Free 0)) refl (refl, refl) both)
      told_from (Popped mark) at both line each = told_take mark both line.answer line.called line.becomes
      told_from (Picked mark victim) at both line each = told_steal mark victim both line.answer line.called line.becomes
      told_from (Landing mark) at both line each = no_call (sees.pushes w.core mark line.answer line.called) (in_phase w (Free 0)) line.becomes (in_rest before (Landing mark) (in_phase w (Free 0)) refl (refl, refl) both)
      told_from (Free place) at both line each = told_free w.halted place at both line

      -- the runs of the worker are told after its step, with the run of that
      pub told_step : (line : Steps x y app a w step b v) → AllByRecursion IsRun (runs_of x y app a b w step v line) → Told before w runs → CoreDid setup n before w runs → StepTold (runs ++ runs_of x y app a b w step v line)
      told_step line each told did = told_from w.phase refl (told, did) line each

  -- where the notes that suit the step are what the pass has seen then, those tell its runs
  pub told_seen : (t : TrailWords S F) (fits : F → Colour → Event → Option P → Type 0) (frame : F) (setup : Setup) (given : Colour → Option S) (n : ℕ) (before then_seen : Colour → List (Note S P)) (runs : List (HandlerRun S P)) → SeesCalls setup given n before (λ after. (c : Colour) → after c ≡ then_seen c) → AreLegalNotes setup before → (line : Steps x y app a w step b v) → AllByRecursion (IsRunOf t fits y app setup frame) (runs_of x y app a b w step v line)
      → CoreTold t fits y app setup frame given n before w runs → CoreDid setup n before w runs
      → CoreTold t fits y app setup frame given n then_seen v (runs ++ runs_of x y app a b w step v line) × CoreDid setup n then_seen v (runs ++ runs_of x y app a b w step v line) × AreLegalNotes setup then_seen
  told_seen t fits frame setup given n before then_seen runs sees legal line each told did =
      let all = runs ++ runs_of x y app a b w step v line in
      let is = told_step setup given n before (λ after. (c : Colour) → after c ≡ then_seen c) t fits frame sees legal runs line each told did in (
        told_same t fits y app setup frame given n is.after then_seen v all (λ c. sym (is.suits c)) is.told,
        did_same setup n is.after then_seen v all (λ c. sym (is.suits c)) is.did,
        λ c. subst (λ l. IsLegal setup (entries_of l)) (is.suits c) (is.are_legal c),
      )

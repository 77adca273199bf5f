-- What the worker of a core in a weave sees of the notes at its step.
use Rattle.std.proofs.Common.{◌≡◌, ℕ, zero, suc, ◌<◌, ◌≤◌, ◌==◌, List, [], ◌∷◌, ◌++◌, Option, Some, Ok, Err, cond, if◌then◌else◌, refl, sym, ◌∙◌, ap, subst, ⊎_elim, arith}
use Rattle.std.specs.Prelude.{slice_get, max}
use Rattle.std.specs.declared.snapshot.Snapshot.{Snapshot}
use Rattle.std.proofs.lemmas.Bool.{eq-eqb, ne_eqb, cases_eq}
use Rattle.std.proofs.lemmas.List.{append-nil}
use Rattle.std.proofs.lemmas.Option.{same_Some}
use Rattle.mely_event.specs.declared.colour.Colour.{Colour}
use Rattle.mely_event.specs.declared.event.Event.{Event}
use Rattle.mely_event.specs.declared.trail.Trail.{Ghosts as TrailWords}
use Rattle.mely_history.specs.Setup.{shape_of, shard_of}
use Rattle.mely_history.specs.declared.after.After.{After}
use Rattle.mely_history.specs.declared.registered.Registered.{Registered}
use Rattle.mely_history.specs.declared.setup.Setup.{Setup}
use Rattle.mely_history.specs.declared.stolen.Stolen.{Stolen}
use Rattle.mely_history.specs.Legal.{IsLegal, MayTake}
use Rattle.mely_note.specs.declared.note.Note.{Note}
use Rattle.mely_note.specs.declared.note.Note.TheVariants.{Reg, Take, Fin, Steal}
use Rattle.mely_note.specs.declared.stamp.Stamp.{Stamp}
use Rattle.mely_note.specs.Notes.{Rise, latest, noted_by, notes_by, snapshot_of, stamp_of}
use Rattle.mely_note.proofs.StampLemmas.{rise-push}
use Rattle.mely_queue.specs.Turn.{TurnState}
use Rattle.mely_shard.specs.Shard.{ShardState, KeepsAllButSpare}
use Rattle.mely_weave.specs.Calls.{AtShard, IsOut, RegisterAs, TakeAs, FinishAs, StealAs, side_words}
use Rattle.mely_weave.specs.Runs.{StepsWell}
use Rattle.mely_weave.specs.Side.{SideState, readiness_for}
use Rattle.mely_weave.specs.SideStands.{ShardStands}
use Rattle.mely_weave.specs.StandsWell.{StandsWell, PhaseIsTold, side_of}
use Rattle.mely_weave.specs.Weave.{WeaveState}
use Rattle.mely_weave.proofs.Entries.SideLemmas.{get_set_same, get_set_other}
use Rattle.mely_worker.specs.Conditions.{PhaseMayStep}
use Rattle.mely_worker.specs.declared.app.App.{Ghosts as AppWords}
use Rattle.mely_worker.specs.declared.delivery.Delivery.TheVariants.{Nothing}
use Rattle.mely_worker.specs.declared.made.Made.{Made}
use Rattle.mely_worker.specs.declared.phase.Phase.{Phase}
use Rattle.mely_worker.specs.declared.phase.Phase.TheVariants.{Turning}
use Rattle.mely_worker.specs.Worker.{WorkerState}
use Rattle.mely_chain.specs.WeaveTold.{ShardTold}
use Rattle.mely_chain.proofs.CoreLemmas.{GrewByOthers}
use Rattle.mely_chain.proofs.CoreStepLemmas.{SeesCall, SeesRegistration, SeesTake, SeesFinish, SeesSteal, SeesSome, SeesCalls}
use Rattle.mely_chain.proofs.WeaveShardLemmas.{shard_refused, shard_registered, shard_taken, shard_finished, shard_stolen, taken_events, taken_state}

module _ {S P : Type 0} (given : Colour → Option S) (setup : Setup) (core : ℕ) (shards : List (ShardState S P)) (notes : ℕ → List (Note S P)) where
  -- these notes show the shards, and none but the core's pass made those that there weren't
  pub record SuitsShards (after : Colour → List (Note S P)) : Type 0 where
    pub by_shard : ℕ → List (Note S P)
    pub is : (c : Colour) → after c ≡ by_shard (shard_of setup c)
    pub shard : (number : ℕ) (has : ShardState S P) → slice_get shards number ≡ Some has → ShardTold given setup number has (by_shard number)
    pub grew : (number k : ℕ) → (k ≡ core → ⊥) → GrewByOthers k (notes number) (by_shard number)
    pub rise : (number : ℕ) → Rise (by_shard number)

  -- the notes as they were
  suits_same : (old : List (ShardState S P)) → shards ≡ old → ((number : ℕ) (has : ShardState S P) → slice_get old number ≡ Some has → ShardTold given setup number has (notes number)) → ((number : ℕ) → Rise (notes number)) → SuitsShards (λ c. notes (shard_of setup c))
  suits_same old same each rise = record {
    by_shard = notes;
    is = λ c. refl;
    shard = λ number has at. each number has (ap (λ l. slice_get l number) (sym same) ∙ at);
    grew = λ number k ne. ([], sym (append-nil (notes number)), refl);
    rise = rise;
  }

-- a note of one pass is of no other
pub by_one : {S P : Type 0} (core : ℕ) (note : Note S P) → noted_by note ≡ core → (k : ℕ) → (k ≡ core → ⊥) → notes_by k (note ∷ []) ≡ []
by_one core note own k ne = ap (λ b. cond b (note ∷ []) []) (ne_eqb (noted_by note) k (λ is. ne (sym is ∙ own)))

-- the latest stamp of the notes of the first shards
abbrev latest_to : {S P : Type 0} → ℕ → (ℕ → List (Note S P)) → ℕ
latest_to zero notes = 0
latest_to (suc k) notes = max (latest_to k notes) (latest (notes k))

to-there : {S P : Type 0} (limit : ℕ) (notes : ℕ → List (Note S P)) (k : ℕ) → k < limit → latest (notes k) ≤ latest_to limit notes
to-there zero notes k low = absurd (omega (arith, low))
to-there (suc limit) notes k low = ⊎_elim
    (λ (same : k ≡ limit). subst (λ j. latest (notes j) ≤ latest_to (suc limit) notes) (sym same) (omega arith))
    (λ (ne : k ≡ limit → ⊥). let rest = to-there limit notes k (omega (arith, low, ne)) in omega (arith, rest))
    (cases_eq k limit)

module _ {S P : Type 0} (setup : Setup) (notes : ℕ → List (Note S P)) where
  -- a stamp above those of all notes of the shards
  abbrev pub later : Snapshot Stamp
  later = snapshot_of (record { of = record {}; number = suc (latest_to (shape_of setup).shards notes) })

  -- what a call notes has stamps above those of its shard and of the others
  pub record AreLate (d : Colour) (own : List (Note S P)) : Type 0 where
    pub rise : Rise (notes (shard_of setup d) ++ own)
    pub above : (c : Colour) (note : Note S P) → own ≡ note ∷ [] → latest (notes (shard_of setup c)) < stamp_of note

  later-there : (c : Colour) → latest (notes (shard_of setup c)) < later.value.number
  later-there c =
      let some : 1 ≤ (shape_of setup).shards = setup.shards_in.0 in
      let least = to-there (shape_of setup).shards notes (shard_of setup c) (omega (arith, some)) in
      omega (arith, least)

  pub late_none : ((number : ℕ) → Rise (notes number)) → (d : Colour) → AreLate d []
  late_none rise d = record {
    rise = subst (λ (l : List (Note S P)). Rise l) (sym (append-nil (notes (shard_of setup d)))) (rise (shard_of setup d));
    above = λ c note is. cc;
  }

  pub late_one : ((number : ℕ) → Rise (notes number)) → (d : Colour) (note : Note S P) → stamp_of note ≡ later.value.number → AreLate d (note ∷ [])
  late_one rise d note at =
      let above : (c : Colour) → latest (notes (shard_of setup c)) < stamp_of note = λ c. subst (λ k. latest (notes (shard_of setup c)) < k) (sym at) (later-there c) in
      record {
        rise = rise-push (notes (shard_of setup d)) note (rise (shard_of setup d)) (above d);
        above = λ c other is. let same : note ≡ other = cc in subst (λ (m : Note S P). latest (notes (shard_of setup c)) < stamp_of m) same (above c);
      }

-- one call on a shard of a weave, by the pass n
module _ {S P F : Type 0} (t : TrailWords S F) (fits : F → Colour → Event → Option P → Type 0) (given : Colour → Option S) (before : WeaveState S P) (well : StandsWell t fits before) (notes : ℕ → List (Note S P)) (each : (number : ℕ) (has : ShardState S P) → slice_get before.shards number ≡ Some has → ShardTold given before.setup number has (notes number)) (rise : (number : ℕ) → Rise (notes number)) (n side : ℕ) (b : SideState S P) (parts : (number : ℕ) (has : ShardState S P) → slice_get b.shards number ≡ Some has → ShardStands t fits b.setup (t.frame_of b.given) number has) where
  -- what was seen of each colour
  abbrev pub seen_at : Colour → List (Note S P)
  seen_at c = notes (shard_of before.setup c)

  module _ (d : Colour) (Does : ShardState S P → ShardState S P → Type 0) (at : AtShard (side_of before side) b d Does) where
    -- the shard stood well, and does
    pub old_stands : ShardStands t fits before.setup (t.frame_of before.given) (shard_of before.setup d) at.old
    old_stands = well.shard (shard_of before.setup d) at.old at.was

    new_there : slice_get b.shards (shard_of before.setup d) ≡ Some at.new
    new_there = ap (λ (s : SideState S P). slice_get s.shards (shard_of before.setup d)) at.becomes ∙ get_set_same before.shards (shard_of before.setup d) at.old at.new at.was

    pub new_stands : ShardStands t fits before.setup (t.frame_of before.given) (shard_of before.setup d) at.new
    new_stands = subst (λ (s : SideState S P). ShardStands t fits s.setup (t.frame_of s.given) (shard_of before.setup d) at.new) at.becomes (parts (shard_of before.setup d) at.new new_there)

    pub old_told : ShardTold given before.setup (shard_of before.setup d) at.old (notes (shard_of before.setup d))
    old_told = each (shard_of before.setup d) at.old at.was

    module _ (own : List (Note S P)) (by : (k : ℕ) → (k ≡ n → ⊥) → notes_by k own ≡ []) (now : ShardTold given before.setup (shard_of before.setup d) at.new (notes (shard_of before.setup d) ++ own)) (late : AreLate before.setup notes d own) where
      abbrev pub by_shard : ℕ → List (Note S P)
      by_shard k = if k == shard_of before.setup d then notes k ++ own else notes k

      pub by_here : (k : ℕ) → k ≡ shard_of before.setup d → by_shard k ≡ notes k ++ own
      by_here k same = ap (λ b. cond b (notes k ++ own) (notes k)) (eq-eqb k (shard_of before.setup d) same)

      pub by_elsewhere : (k : ℕ) → (k ≡ shard_of before.setup d → ⊥) → by_shard k ≡ notes k
      by_elsewhere k ne = ap (λ b. cond b (notes k ++ own) (notes k)) (ne_eqb k (shard_of before.setup d) ne)

      abbrev pub then_seen : Colour → List (Note S P)
      then_seen c = by_shard (shard_of before.setup c)

      pub now_shard : (number : ℕ) (has : ShardState S P) → slice_get b.shards number ≡ Some has → ShardTold given before.setup number has (by_shard number)
      now_shard number has there = ⊎_elim
          (λ (same : number ≡ shard_of before.setup d).
          let new_is : at.new ≡ has = same_Some at.new has (sym new_there ∙ ap (slice_get b.shards) (sym same) ∙ there) in
          let shown = subst (λ z. ShardTold given before.setup (shard_of before.setup d) z (notes (shard_of before.setup d) ++ own)) new_is now in
          subst (ShardTold given before.setup number has) (sym (by_here number same)) (subst (λ k. ShardTold given before.setup k has (notes k ++ own)) (sym same) shown))
          (λ (ne : number ≡ shard_of before.setup d → ⊥).
          let was : slice_get before.shards number ≡ Some has = sym (get_set_other before.shards (shard_of before.setup d) number at.new ne) ∙ sym (ap (λ (s : SideState S P). slice_get s.shards number) at.becomes) ∙ there in
          subst (ShardTold given before.setup number has) (sym (by_elsewhere number ne)) (each number has was))
          (cases_eq number (shard_of before.setup d))

      pub now_grew : (number k : ℕ) → (k ≡ n → ⊥) → GrewByOthers k (notes number) (by_shard number)
      now_grew number k ne = ⊎_elim
          (λ (same : number ≡ shard_of before.setup d). (own, by_here number same, by k ne))
          (λ (apart : number ≡ shard_of before.setup d → ⊥). ([], by_elsewhere number apart ∙ sym (append-nil (notes number)), refl))
          (cases_eq number (shard_of before.setup d))

      pub now_rise : (number : ℕ) → Rise (by_shard number)
      now_rise number = ⊎_elim
          (λ (same : number ≡ shard_of before.setup d). subst (λ (l : List (Note S P)). Rise l) (sym (by_here number same)) (subst (λ k. Rise (notes k ++ own)) (sym same) late.rise))
          (λ (ne : number ≡ shard_of before.setup d → ⊥). subst (λ (l : List (Note S P)). Rise l) (sym (by_elsewhere number ne)) (rise number))
          (cases_eq number (shard_of before.setup d))

      abbrev pub suits : SuitsShards given before.setup n b.shards notes then_seen
      suits = record { by_shard = by_shard; is = λ c. refl; shard = now_shard; grew = now_grew; rise = now_rise }

      pub call : SeesCall before.setup given n seen_at then_seen d own
      call = record {
        point = notes (shard_of before.setup d);
        others = λ c same. ([], ap notes (sym same) ∙ sym (append-nil (notes (shard_of before.setup c))), refl);
        here = λ c same. by_here (shard_of before.setup c) same ∙ ap (λ k. notes k ++ own) same;
        elsewhere = λ c ne. by_elsewhere (shard_of before.setup c) ne;
        legal = subst (IsLegal before.setup) now.shows.entries (subst (λ s. IsLegal s at.new.history) new_stands.of_setup new_stands.kept.legal);
        rise = late.rise;
        above = late.above;
      }

module _ {R S P F : Type 0} (t : TrailWords S F) (fits : F → Colour → Event → Option P → Type 0) (y : AppWords R P S F) (app : R) (given : Colour → Option S) (before after : WeaveState S P) (core : ℕ) (made : Made) (well : StandsWell t fits before) (is : StepsWell t fits y app before core made after) (notes : ℕ → List (Note S P)) (each : (number : ℕ) (has : ShardState S P) → slice_get before.shards number ≡ Some has → ShardTold given before.setup number has (notes number)) (rise : (number : ℕ) → Rise (notes number)) where
  abbrev a : SideState S P
  a = side_of before core

  abbrev b : SideState S P
  b = is.call.steps.side

  abbrev w : WorkerState S P
  w = is.call.steps.worker

  abbrev v : WorkerState S P
  v = is.call.steps.becomes

  -- what was seen of each colour
  abbrev pub seen : Colour → List (Note S P)
  seen c = notes (shard_of before.setup c)

  abbrev pub Suits : (Colour → List (Note S P)) → Type 0
  Suits seen_then = SuitsShards given before.setup core b.shards notes seen_then

  -- a refused call
  refused : (d : Colour) (Does : ShardState S P → ShardState S P → Type 0) (at : AtShard a b d Does) → KeepsAllButSpare at.old at.new → SeesSome Suits (λ seen_then. SeesCall before.setup given core seen seen_then d [])
  refused d Does at keeps =
      let shown = shard_refused t fits (t.frame_of before.given) given before.setup (shard_of before.setup d) at.old at.new (notes (shard_of before.setup d)) (old_stands t fits given before well notes each rise core core b is.call.parts.shard d Does at) (new_stands t fits given before well notes each rise core core b is.call.parts.shard d Does at) (old_told t fits given before well notes each rise core core b is.call.parts.shard d Does at) keeps in
      let now = subst (ShardTold given before.setup (shard_of before.setup d) at.new) (sym (append-nil (notes (shard_of before.setup d)))) shown in
      record { after = then_seen t fits given before well notes each rise core core b is.call.parts.shard d Does at [] (λ k ne. refl) now (late_none before.setup notes rise d); suits = suits t fits given before well notes each rise core core b is.call.parts.shard d Does at [] (λ k ne. refl) now (late_none before.setup notes rise d); has = call t fits given before well notes each rise core core b is.call.parts.shard d Does at [] (λ k ne. refl) now (late_none before.setup notes rise d) }

  registered : (d : Colour) (event : Event) (load : Option P) (reply : Registered) → AtShard a b d (RegisterAs d event load core (Ok reply)) → SeesSome Suits (λ seen_then. SeesRegistration before.setup given core seen seen_then d event load)
  registered d event load reply at =
      let Does = RegisterAs d event load core (Ok reply) in
      let stamp = later before.setup notes in
      let note : Note S P = Reg d event (snapshot_of load) core stamp in
      let now = shard_registered t fits (t.frame_of before.given) given before.setup (shard_of before.setup d) at.old at.new (notes (shard_of before.setup d)) (old_stands t fits given before well notes each rise core core b is.call.parts.shard d Does at) (new_stands t fits given before well notes each rise core core b is.call.parts.shard d Does at) (old_told t fits given before well notes each rise core core b is.call.parts.shard d Does at) d event load core stamp refl at.does.0 in
      let by = by_one core note refl in
      let late = late_one before.setup notes rise d note refl in
      record { after = then_seen t fits given before well notes each rise core core b is.call.parts.shard d Does at (note ∷ []) by now late; suits = suits t fits given before well notes each rise core core b is.call.parts.shard d Does at (note ∷ []) by now late; has = record { noted = snapshot_of load; has = refl; at = stamp; call = call t fits given before well notes each rise core core b is.call.parts.shard d Does at (note ∷ []) by now late } }

  taken : (d : Colour) (turn : TurnState S P) → AtShard a b d (TakeAs d core (Ok turn)) → SeesSome Suits (λ seen_then. SeesTake before.setup given core seen seen_then d turn)
  unfolding call
  taken d turn at =
      let Does = TakeAs d core (Ok turn) in
      let stamp = later before.setup notes in
      let note : Note S P = Take d core turn.count stamp in
      let point = notes (shard_of before.setup d) in
      let was = old_stands t fits given before well notes each rise core core b is.call.parts.shard d Does at in
      let then_is = new_stands t fits given before well notes each rise core core b is.call.parts.shard d Does at in
      let told = old_told t fits given before well notes each rise core core b is.call.parts.shard d Does at in
      let now = shard_taken t fits (t.frame_of before.given) given before.setup (shard_of before.setup d) at.old at.new point was then_is told d core turn stamp refl at.does in
      let by = by_one core note refl in
      let late = late_one before.setup notes rise d note refl in
      record {
        after = then_seen t fits given before well notes each rise core core b is.call.parts.shard d Does at (note ∷ []) by now late;
        suits = suits t fits given before well notes each rise core core b is.call.parts.shard d Does at (note ∷ []) by now late;
        has = record {
          at = stamp;
          call = call t fits given before well notes each rise core core b is.call.parts.shard d Does at (note ∷ []) by now late;
          of_colour = ap (λ (z : TurnState S P). z.colour) at.does.made;
          allowed = subst (λ h. MayTake before.setup h d core turn.count) told.shows.entries (subst (λ s. MayTake s at.old.history d core turn.count) was.of_setup at.does.allowed);
          events = taken_events t fits (t.frame_of before.given) given before.setup (shard_of before.setup d) at.old at.new point was then_is told d core turn refl at.does;
          state = taken_state t fits (t.frame_of before.given) given before.setup (shard_of before.setup d) at.old at.new point was then_is told d core turn refl at.does;
        };
      }

  stolen_from : (d : Colour) (stolen : Stolen) → AtShard a b d (StealAs d core (Ok stolen)) → SeesSome Suits (λ seen_then. SeesSteal before.setup given core seen seen_then d stolen.from)
  stolen_from d stolen at =
      let Does = StealAs d core (Ok stolen) in
      let stamp = later before.setup notes in
      let note : Note S P = Steal d stolen.from core stamp in
      let now = shard_stolen t fits (t.frame_of before.given) given before.setup (shard_of before.setup d) at.old at.new (notes (shard_of before.setup d)) (old_stands t fits given before well notes each rise core core b is.call.parts.shard d Does at) (new_stands t fits given before well notes each rise core core b is.call.parts.shard d Does at) (old_told t fits given before well notes each rise core core b is.call.parts.shard d Does at) d core stolen stamp refl at.does in
      let by = by_one core note refl in
      let late = late_one before.setup notes rise d note refl in
      record { after = then_seen t fits given before well notes each rise core core b is.call.parts.shard d Does at (note ∷ []) by now late; suits = suits t fits given before well notes each rise core core b is.call.parts.shard d Does at (note ∷ []) by now late; has = record { at = stamp; call = call t fits given before well notes each rise core core b is.call.parts.shard d Does at (note ∷ []) by now late } }

  finished : (turn : TurnState S P) (answer : After) → w.phase ≡ Turning turn Nothing [] → AtShard a b turn.colour (FinishAs turn answer) → SeesSome Suits (λ seen_then. SeesFinish before.setup given core seen seen_then turn)
  finished turn answer phase at =
      let Does = FinishAs turn answer in
      let d = turn.colour in
      let stamp = later before.setup notes in
      let stands = well.worker core w is.call.steps.was in
      let own = subst (λ (p : Phase S P). PhaseIsTold before.setup (readiness_for before.setup before.shards) core p) phase stands.told in
      let may = subst (λ (p : Phase S P). PhaseMayStep t fits before.setup core (t.frame_of before.given) (IsOut a) p) phase stands.may.phase in
      let shown = shard_finished t fits (t.frame_of before.given) given before.setup (shard_of before.setup d) at.old at.new (notes (shard_of before.setup d)) (old_stands t fits given before well notes each rise core core b is.call.parts.shard d Does at) (new_stands t fits given before well notes each rise core core b is.call.parts.shard d Does at) (old_told t fits given before well notes each rise core core b is.call.parts.shard d Does at) turn stamp refl may.of_turn.of_setup at.does.0 in
      let note : Note S P = Fin d core turn.count (snapshot_of turn.state) stamp in
      let now = subst (λ k. ShardTold given before.setup (shard_of before.setup d) at.new (notes (shard_of before.setup d) ++ Fin d k turn.count (snapshot_of turn.state) stamp ∷ [])) own.0 shown in
      let by = by_one core note refl in
      let late = late_one before.setup notes rise d note refl in
      record { after = then_seen t fits given before well notes each rise core core b is.call.parts.shard d Does at (note ∷ []) by now late; suits = suits t fits given before well notes each rise core core b is.call.parts.shard d Does at (note ∷ []) by now late; has = record { noted = snapshot_of turn.state; has = refl; at = stamp; call = call t fits given before well notes each rise core core b is.call.parts.shard d Does at (note ∷ []) by now late } }

  -- where the shards stay
  stay : b.shards ≡ before.shards → Suits seen
  stay same = suits_same given before.setup core b.shards notes before.shards same each rise

  -- what the worker's step shows
  pub sees : SeesCalls (side_words t (λ _. Unit {0})) y app a b w made v before.setup given core seen Suits
  sees = record {
    stays = λ same. stay (ap (λ (s : SideState S P). s.shards) same);
    registers = registered;
    refuses = λ d event load back at. refused d (RegisterAs d event load core (Err back)) at at.does;
    takes = taken;
    untaken = λ d why at. refused d (TakeAs d core (Err why)) at at.does.0;
    finishes = finished;
    steals = stolen_from;
    unstolen = λ d why at. refused d (StealAs d core (Err why)) at at.does.0;
    pushes = λ to mark answer at. stay (ap (λ (s : SideState S P). s.shards) at.becomes);
    pops = λ answer at. stay (ap (λ (s : SideState S P). s.shards) at.becomes);
    retells = λ to d started worth found at. stay (ap (λ (s : SideState S P). s.shards) at.becomes);
    picks = λ to answer at. stay (ap (λ (s : SideState S P). s.shards) at.becomes);
  }

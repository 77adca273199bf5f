-- What the notes tell of the runs of a core, after further notes, further runs, and in another phase
-- of its worker.
use Rattle.std.proofs.Common.{◌≡◌, ℕ, ◌==◌, ◌%◌, List, [], ◌∷◌, ◌++◌, ◌⊎◌, Option, Some, None, false, cond, take, drop, if◌then◌else◌, refl, sym, ◌∙◌, ap, subst, inl, inr, ⊎_elim, arith, append_assoc}
use Rattle.std.specs.List.{AllByRecursion, cons_option}
use Rattle.std.specs.declared.snapshot.Snapshot.{Snapshot}
use Rattle.std.proofs.lemmas.Bool.{eq-eqb, ne_eqb, cases_eq}
use Rattle.std.proofs.Math.ListN.{drop_of_length-le}
use Rattle.std.proofs.lemmas.List.{append-nil}
use Rattle.std.proofs.lemmas.List.Elements.{filter-append, filter_map-append}
use Rattle.std.proofs.lemmas.Grind.{flat_map-append}
use Rattle.mely_event.specs.declared.colour.Colour.{Colour}
use Rattle.mely_event.specs.declared.event.Event.{Event}
use Rattle.mely_event.specs.declared.trail.Trail.{Ghosts as TrailWords}
use Rattle.mely_history.specs.declared.setup.Setup.{Setup}
use Rattle.mely_history.specs.Setup.{shape_of, shard_of}
use Rattle.mely_history.specs.Entries.{finished_on}
use Rattle.mely_history.specs.History.{ended_of}
use Rattle.mely_history.specs.Legal.{IsLegal, MayTake}
use Rattle.mely_history.proofs.LegalAccountLemmas.{same_colour}
use Rattle.mely_note.specs.declared.note.Note.{Note}
use Rattle.mely_note.specs.declared.note.Note.TheVariants.{Reg, Take, Fin, Steal}
use Rattle.mely_note.specs.declared.stamp.Stamp.{Stamp}
use Rattle.mely_note.specs.Notes.{entry_of, entries_of, loaded_of, home_of, load_on, state_on, noted_by, notes_by, waiting_of}
use Rattle.mely_queue.specs.Turn.{TurnState}
use Rattle.mely_tally.specs.Account.{HandlerRun, IsRunOf, puts_left}
use Rattle.mely_worker.specs.declared.app.App.{Ghosts as AppWords}
use Rattle.mely_worker.specs.declared.delivery.Delivery.{Delivery}
use Rattle.mely_worker.specs.declared.delivery.Delivery.TheVariants.{Nothing}
use Rattle.mely_worker.specs.declared.phase.Phase.{Phase}
use Rattle.mely_worker.specs.declared.phase.Phase.TheVariants.{Free, Popped, Picked, Landing, Pushing, Turning}
use Rattle.mely_worker.specs.Phase.{is_turning}
use Rattle.mely_worker.specs.Step.{in_phase}
use Rattle.mely_worker.specs.Worker.{WorkerState}
use Rattle.mely_chain.specs.Runs.{given_to, runs_on, put_on, puts_on, puts_of}
use Rattle.mely_chain.specs.Told.{CoreTold, TellTurns, TellOut, TellTurnOut, runs_out}
use Rattle.mely_chain.proofs.GrowthLemmas.{loaded-push, by_own, by_others, finished-none, change-push}
use Rattle.mely_chain.proofs.CoreTurnsLemmas.{turns_quiet, turns_others, turns_run, out_quiet, out_others, out_taken, out_run, turns_finished, none_finished}

-- the history begins with the front, and since then others than the pass made notes
abbrev pub GrewByOthers : {S P : Type 0} → ℕ → List (Note S P) → List (Note S P) → Type 0
GrewByOthers {S = S} {P = P} n front history = (between : List (Note S P)) × (history ≡ front ++ between) × (notes_by n between ≡ [])

-- a note of a colour is one more in the history of its shard, and the other histories stay
pub record IsNext {S P : Type 0} (setup : Setup) (d : Colour) (note : Note S P) (notes after : Colour → List (Note S P)) : Type 0 where
  pub here : (c : Colour) → shard_of setup c ≡ shard_of setup d → after c ≡ notes c ++ note ∷ []
  pub elsewhere : (c : Colour) → (shard_of setup c ≡ shard_of setup d → ⊥) → after c ≡ notes c

-- the notes of each colour are legal
abbrev pub AreLegalNotes : {S P : Type 0} → Setup → (Colour → List (Note S P)) → Type 0
AreLegalNotes setup notes = (c : Colour) → IsLegal setup (entries_of (notes c))

cons_behind : {X : Type 0} (o : Option X) (xs : List X) → cons_option o xs ≡ cons_option o [] ++ xs
cons_behind None xs = refl
cons_behind (Some x) xs = refl

not_none : {X : Type 0} (xs : List X) (x : X) (more : List X) → xs ++ x ∷ more ≡ [] → ⊥
not_none [] x more is = cc
not_none (z ∷ xs) x more is = cc

same_or : (d c : Colour) → (d ≡ c) ⊎ (d ≡ c → ⊥)
same_or d c = ⊎_elim (λ (is : d.0 ≡ c.0). inl (same_colour d c is)) (λ (ne : d.0 ≡ c.0 → ⊥). inr (λ is. ne (ap (λ k. k.0) is))) (cases_eq d.0 c.0)

differs : (d c : Colour) → (d ≡ c → ⊥) → (d.0 == c.0) ≡ false
differs d c ne = ne_eqb d.0 c.0 (λ is. ne (same_colour d c is))

module _ {S P : Type 0} (n : ℕ) where
  -- ---- phases

  -- a worker without a turn has nothing out
  out_rests : (first : S) (c : Colour) (notes : List (Note S P)) (runs : List (HandlerRun S P)) (phase : Phase S P) → is_turning phase ≡ false → runs_out first n c notes runs ≡ [] → TellOut first n c notes runs phase
  out_rests first c notes runs (Free place) rests none = none
  out_rests first c notes runs (Popped mark) rests none = none
  out_rests first c notes runs (Picked mark victim) rests none = none
  out_rests first c notes runs (Landing mark) rests none = none
  out_rests first c notes runs (Pushing core mark) rests none = none
  out_rests first c notes runs (Turning turn hand puts) rests none = cc

  rests_out : (first : S) (c : Colour) (notes : List (Note S P)) (runs : List (HandlerRun S P)) (phase : Phase S P) → is_turning phase ≡ false → TellOut first n c notes runs phase → runs_out first n c notes runs ≡ []
  rests_out first c notes runs (Free place) rests out = out
  rests_out first c notes runs (Popped mark) rests out = out
  rests_out first c notes runs (Picked mark victim) rests out = out
  rests_out first c notes runs (Landing mark) rests out = out
  rests_out first c notes runs (Pushing core mark) rests out = out
  rests_out first c notes runs (Turning turn hand puts) rests out = cc

  rests_left : (phase : Phase S P) → is_turning phase ≡ false → puts_left phase ≡ []
  rests_left (Free place) rests = refl
  rests_left (Popped mark) rests = refl
  rests_left (Picked mark victim) rests = refl
  rests_left (Landing mark) rests = refl
  rests_left (Pushing core mark) rests = refl
  rests_left (Turning turn hand puts) rests = cc

  -- what is out stays, where the turn does and nothing else comes to be out
  out_stays : (first : S) (c : Colour) (notes after : List (Note S P)) (runs : List (HandlerRun S P)) → (runs_out first n c notes runs ≡ [] → runs_out first n c after runs ≡ []) → ((turn : TurnState S P) → TellTurnOut first n c notes runs turn → TellTurnOut first n c after runs turn) → (phase : Phase S P) → TellOut first n c notes runs phase → TellOut first n c after runs phase
  out_stays first c notes after runs none turning (Free place) out = none out
  out_stays first c notes after runs none turning (Popped mark) out = none out
  out_stays first c notes after runs none turning (Picked mark victim) out = none out
  out_stays first c notes after runs none turning (Landing mark) out = none out
  out_stays first c notes after runs none turning (Pushing core mark) out = none out
  out_stays first c notes after runs none turning (Turning turn hand puts) out = (λ own. turning turn (out.0 own), λ other. none (out.1 other))

  -- ---- puts

  -- the loads that the pass registered, after a note of its own
  pub loaded_own : (c : Colour) (notes : List (Note S P)) (note : Note S P) → noted_by note ≡ n → loaded_of (notes_by n (notes ++ note ∷ [])) c ≡ loaded_of (notes_by n notes) c ++ cons_option (load_on c note) []
  loaded_own c notes note own = ap (λ l. loaded_of l c) (by_own n notes note own) ∙ loaded-push (notes_by n notes) note c

  loaded_none : (c : Colour) (notes : List (Note S P)) (note : Note S P) → noted_by note ≡ n → load_on c note ≡ None → loaded_of (notes_by n (notes ++ note ∷ [])) c ≡ loaded_of (notes_by n notes) c
  loaded_none c notes note own none = loaded_own c notes note own ∙ ap (λ o. loaded_of (notes_by n notes) c ++ cons_option o []) none ∙ append-nil (loaded_of (notes_by n notes) c)

  -- ---- another colour

  -- each colour's notes have one more, or it is another colour and they stay
  next_or : (setup : Setup) (d : Colour) (note : Note S P) (notes after : Colour → List (Note S P)) → IsNext setup d note notes after → (c : Colour) → (after c ≡ notes c ++ note ∷ []) ⊎ ((d.0 ≡ c.0 → ⊥) × (after c ≡ notes c))
  next_or setup d note notes after next c = ⊎_elim
      (λ (same : shard_of setup c ≡ shard_of setup d). inl (next.here c same))
      (λ (ne : shard_of setup c ≡ shard_of setup d → ⊥). inr (λ (is : d.0 ≡ c.0). ne (ap (λ k. k % (shape_of setup).shards) (sym is)), next.elsewhere c ne))
      (cases_eq (shard_of setup c) (shard_of setup d))

module _ {R S P F : Type 0} (t : TrailWords S F) (fits : F → Colour → Event → Option P → Type 0) (y : AppWords R P S F) (app : R) (setup : Setup) (frame : F) (given : Colour → Option S) (n : ℕ) where
  abbrev Told : (Colour → List (Note S P)) → WorkerState S P → List (HandlerRun S P) → Type 0
  Told notes w runs = CoreTold t fits y app setup frame given n notes w runs

  -- ---- no note by the pass

  -- after notes of others
  pub told_others : (notes after : Colour → List (Note S P)) (w : WorkerState S P) (runs : List (HandlerRun S P)) → ((c : Colour) → GrewByOthers n (notes c) (after c)) → AreLegalNotes setup after → Told notes w runs → Told after w runs
  told_others notes after w runs grew legal told = record {
    each = told.each;
    turns = λ c first is. let g = grew c in subst (λ l. TellTurns first n c l (runs_on c runs)) (sym g.1) (turns_others n c first (notes c) g.0 (runs_on c runs) g.2 (told.turns c first is));
    out = λ c first is. let g = grew c in subst (λ l. TellOut first n c l (runs_on c runs) w.phase) (sym g.1)
        (out_stays n first c (notes c) (notes c ++ g.0) (runs_on c runs)
        (λ none. ap (λ l. drop (ended_of (entries_of l) c) (runs_on c runs)) (by_others n (notes c) g.0 g.2) ∙ none)
        (λ turn. out_others n c first setup (notes c) g.0 (runs_on c runs) turn g.2 (subst (λ l. IsLegal setup (entries_of l)) g.1 (legal c)))
        w.phase (told.out c first is));
    puts = λ c kept. let g = grew c in ap (λ l. loaded_of l c ++ puts_on c (puts_left w.phase)) (ap (notes_by n) g.1 ∙ by_others n (notes c) g.0 g.2) ∙ told.puts c kept;
  }

  -- of the same notes
  pub told_same : (notes after : Colour → List (Note S P)) (w : WorkerState S P) (runs : List (HandlerRun S P)) → ((c : Colour) → after c ≡ notes c) → Told notes w runs → Told after w runs
  told_same notes after w runs same told = record {
    each = told.each;
    turns = λ c first is. subst (λ l. TellTurns first n c l (runs_on c runs)) (sym (same c)) (told.turns c first is);
    out = λ c first is. subst (λ l. TellOut first n c l (runs_on c runs) w.phase) (sym (same c)) (told.out c first is);
    puts = λ c kept. ap (λ l. loaded_of (notes_by n l) c ++ puts_on c (puts_left w.phase)) (same c) ∙ told.puts c kept;
  }

  -- between phases without a turn
  pub told_rests : (notes : Colour → List (Note S P)) (w v : WorkerState S P) (runs : List (HandlerRun S P)) → is_turning w.phase ≡ false → is_turning v.phase ≡ false → v.lost ≡ w.lost → Told notes w runs → Told notes v runs
  told_rests notes w v runs rests then_rests lost told = record {
    each = told.each;
    turns = told.turns;
    out = λ c first is. out_rests n first c (notes c) (runs_on c runs) v.phase then_rests (rests_out n first c (notes c) (runs_on c runs) w.phase rests (told.out c first is));
    puts = λ c kept. ap (λ l. loaded_of (notes_by n (notes c)) c ++ puts_on c l) (rests_left n v.phase then_rests ∙ sym (rests_left n w.phase rests)) ∙ told.puts c (sym lost ∙ kept);
  }

  -- what is in hand doesn't tell
  pub told_hand : (notes : Colour → List (Note S P)) (w : WorkerState S P) (runs : List (HandlerRun S P)) (turn : TurnState S P) (hand then_hand : Delivery) (puts : List (Colour × Event × Option P)) → Told notes (in_phase w (Turning turn hand puts)) runs → Told notes (in_phase w (Turning turn then_hand puts)) runs
  told_hand notes w runs turn hand then_hand puts told = record { each = told.each; turns = told.turns; out = told.out; puts = told.puts }

  -- a registration that was refused for memory is lost
  pub told_lost : (notes : Colour → List (Note S P)) (w v : WorkerState S P) (runs : List (HandlerRun S P)) (turn : TurnState S P) (hand then_hand : Delivery) (puts rest : List (Colour × Event × Option P)) (put : Colour × Event × Option P) → v.phase ≡ Turning turn then_hand rest → v.lost ≡ w.lost ++ put ∷ [] → Told notes (in_phase w (Turning turn hand puts)) runs → Told notes v runs
  told_lost notes w v runs turn hand then_hand puts rest put phase lost told = record {
    each = told.each;
    turns = told.turns;
    out = λ c first is. subst (λ p. TellOut first n c (notes c) (runs_on c runs) p) (sym phase) (told.out c first is);
    puts = λ c kept. absurd (not_none w.lost put [] (sym lost ∙ kept));
  }

  -- ---- a note by the pass

  module _ (notes after : Colour → List (Note S P)) (runs : List (HandlerRun S P)) where
    -- a registration of the first one put
    pub told_registered : (w : WorkerState S P) (turn : TurnState S P) (hand then_hand : Delivery) (put : Colour × Event × Option P) (rest : List (Colour × Event × Option P)) (load : Snapshot (Option P)) (stamp : Snapshot Stamp) → load.value ≡ put.2 → IsNext setup put.0 (Reg put.0 put.1 load n stamp) notes after → AreLegalNotes setup notes → Told notes (in_phase w (Turning turn hand (put ∷ rest))) runs → Told after (in_phase w (Turning turn then_hand rest)) runs
    told_registered w turn hand then_hand put rest load stamp load_is next legal told =
        let note : Note S P = Reg put.0 put.1 load n stamp in
        let at = next_or n setup put.0 note notes after next in
        record {
          each = told.each;
          turns = λ c first is. ⊎_elim
              (λ (more : after c ≡ notes c ++ note ∷ []). subst (λ l. TellTurns first n c l (runs_on c runs)) (sym more) (turns_quiet n c first (notes c) note (runs_on c runs) refl (told.turns c first is)))
              (λ (same : (put.0.0 ≡ c.0 → ⊥) × (after c ≡ notes c)). subst (λ l. TellTurns first n c l (runs_on c runs)) (sym same.1) (told.turns c first is))
              (at c);
          out = λ c first is. ⊎_elim
              (λ (more : after c ≡ notes c ++ note ∷ []). subst (λ l. TellOut first n c l (runs_on c runs) (Turning turn then_hand rest)) (sym more)
              (out_stays n first c (notes c) (notes c ++ note ∷ []) (runs_on c runs)
              (λ none. ap (λ k. drop k (runs_on c runs)) (finished-none n (notes c) note c refl) ∙ none)
              (λ turn. out_quiet n c first setup (notes c) note (runs_on c runs) turn (legal c) refl refl (change-push n (notes c) note c refl))
              (Turning turn then_hand rest) (told.out c first is)))
              (λ (same : (put.0.0 ≡ c.0 → ⊥) × (after c ≡ notes c)). subst (λ l. TellOut first n c l (runs_on c runs) (Turning turn then_hand rest)) (sym same.1) (told.out c first is))
              (at c);
          puts = λ c kept. ⊎_elim
              (λ (more : after c ≡ notes c ++ note ∷ []).
              ap (λ l. loaded_of (notes_by n l) c ++ puts_on c rest) more
              ∙ ap (λ l. l ++ puts_on c rest) (loaded_own n c (notes c) note refl)
              ∙ append_assoc (loaded_of (notes_by n (notes c)) c) (cons_option (load_on c note) []) (puts_on c rest)
              ∙ ap (λ l. loaded_of (notes_by n (notes c)) c ++ l) (sym (cons_behind (load_on c note) (puts_on c rest)))
              ∙ ap (λ m. loaded_of (notes_by n (notes c)) c ++ cons_option (if put.0.0 == c.0 then Some (put.1, m) else None) (puts_on c rest)) load_is
              ∙ told.puts c kept)
              (λ (same : (put.0.0 ≡ c.0 → ⊥) × (after c ≡ notes c)).
              ap (λ l. loaded_of (notes_by n l) c ++ puts_on c rest) same.1
              ∙ ap (λ b. loaded_of (notes_by n (notes c)) c ++ cons_option (if b then Some (put.1, put.2) else None) (puts_on c rest)) (sym (ne_eqb put.0.0 c.0 same.0))
              ∙ told.puts c kept)
              (at c);
        }

    -- what a note without a load leaves of the puts
    puts_stay : (d : Colour) (note : Note S P) → noted_by note ≡ n → ((c : Colour) → load_on c note ≡ None) → IsNext setup d note notes after → (c : Colour) → loaded_of (notes_by n (after c)) c ≡ loaded_of (notes_by n (notes c)) c
    puts_stay d note own none next c = ⊎_elim
        (λ (more : after c ≡ notes c ++ note ∷ []). ap (λ l. loaded_of (notes_by n l) c) more ∙ loaded_none n c (notes c) note own (none c))
        (λ (same : (d.0 ≡ c.0 → ⊥) × (after c ≡ notes c)). ap (λ l. loaded_of (notes_by n l) c) same.1)
        (next_or n setup d note notes after next c)

    -- where a note finishes nothing of a colour, and brings nothing home to it, its turns stay, and
    -- nothing of it is out that wasn't
    turns_stay : (d : Colour) (note : Note S P) → IsNext setup d note notes after → (c : Colour) (first : S) → state_on c note ≡ None → TellTurns first n c (notes c) (runs_on c runs) → TellTurns first n c (after c) (runs_on c runs)
    turns_stay d note next c first none told = ⊎_elim
        (λ (more : after c ≡ notes c ++ note ∷ []). subst (λ l. TellTurns first n c l (runs_on c runs)) (sym more) (turns_quiet n c first (notes c) note (runs_on c runs) none told))
        (λ (same : (d.0 ≡ c.0 → ⊥) × (after c ≡ notes c)). subst (λ l. TellTurns first n c l (runs_on c runs)) (sym same.1) told)
        (next_or n setup d note notes after next c)

    none_stays : (d : Colour) (note : Note S P) → IsNext setup d note notes after → (c : Colour) (first : S) → finished_on c (entry_of note) ≡ 0 → runs_out first n c (notes c) (runs_on c runs) ≡ [] → runs_out first n c (after c) (runs_on c runs) ≡ []
    none_stays d note next c first nothing none = ⊎_elim
        (λ (more : after c ≡ notes c ++ note ∷ []). ap (λ l. runs_out first n c l (runs_on c runs)) more ∙ ap (λ k. drop k (runs_on c runs)) (finished-none n (notes c) note c nothing) ∙ none)
        (λ (same : (d.0 ≡ c.0 → ⊥) × (after c ≡ notes c)). ap (λ l. runs_out first n c l (runs_on c runs)) same.1 ∙ none)
        (next_or n setup d note notes after next c)

    -- a take of the turn that the history at this point gives
    pub told_taken : (w : WorkerState S P) (d : Colour) (turn : TurnState S P) (stamp : Snapshot Stamp) → is_turning w.phase ≡ false → turn.colour ≡ d → MayTake setup (entries_of (notes d)) d n turn.count → turn.events ≡ take turn.count (waiting_of (notes d) d) → ((first : S) → given d ≡ Some first → turn.state ≡ home_of first (notes d) d) → IsNext setup d (Take d n turn.count stamp) notes after → Told notes w runs → Told after (in_phase w (Turning turn Nothing [])) runs
    told_taken w d turn stamp rests of_colour may events state next told =
        let note : Note S P = Take d n turn.count stamp in
        record {
          each = told.each;
          turns = λ c first is. turns_stay d note next c first refl (told.turns c first is);
          out = λ c first is.
              let none = rests_out n first c (notes c) (runs_on c runs) w.phase rests (told.out c first is) in (
                λ own. taken_here c first is (sym of_colour ∙ own) none,
                λ other. none_stays d note next c first refl none,
              );
          puts = λ c kept. ap (λ l. l ++ []) (puts_stay d note refl (λ c. refl) next c) ∙ ap (λ l. loaded_of (notes_by n (notes c)) c ++ puts_on c l) (sym (rests_left n w.phase rests)) ∙ told.puts c kept;
        } where
          taken_here : (c : Colour) (first : S) → given c ≡ Some first → d ≡ c → runs_out first n c (notes c) (runs_on c runs) ≡ [] → TellTurnOut first n c (after c) (runs_on c runs) turn
          taken_here c first is same none =
              let here : after d ≡ notes d ++ Take d n turn.count stamp ∷ [] = next.here d refl in
              subst (λ e. TellTurnOut first n e (after e) (runs_on e runs) turn) same
              (subst (λ l. TellTurnOut first n d l (runs_on d runs) turn) (sym here)
              (out_taken n d first setup (notes d) (runs_on d runs) turn stamp may events (state first (ap given same ∙ is)) (subst (λ e. runs_out first n e (notes e) (runs_on e runs) ≡ []) (sym same) none)))

    -- a steal
    pub told_stolen : (w v : WorkerState S P) (d : Colour) (from : ℕ) (stamp : Snapshot Stamp) → is_turning w.phase ≡ false → is_turning v.phase ≡ false → v.lost ≡ w.lost → IsNext setup d (Steal d from n stamp) notes after → Told notes w runs → Told after v runs
    told_stolen w v d from stamp rests then_rests lost next told =
        let note : Note S P = Steal d from n stamp in
        record {
          each = told.each;
          turns = λ c first is. turns_stay d note next c first refl (told.turns c first is);
          out = λ c first is. out_rests n first c (after c) (runs_on c runs) v.phase then_rests (none_stays d note next c first refl (rests_out n first c (notes c) (runs_on c runs) w.phase rests (told.out c first is)));
          puts = λ c kept. ap (λ l. l ++ puts_on c (puts_left v.phase)) (puts_stay d note refl (λ c. refl) next c) ∙ ap (λ l. loaded_of (notes_by n (notes c)) c ++ puts_on c l) (rests_left n v.phase then_rests ∙ sym (rests_left n w.phase rests)) ∙ told.puts c (sym lost ∙ kept);
        }

    -- the finish of a turn whose events were all run
    pub told_finished : (w v : WorkerState S P) (turn : TurnState S P) (hand : Delivery) (home : Snapshot S) (stamp : Snapshot Stamp) → home.value ≡ turn.state → turn.events ≡ [] → is_turning v.phase ≡ false → v.lost ≡ w.lost → IsNext setup turn.colour (Fin turn.colour n turn.count home stamp) notes after → AreLegalNotes setup notes → Told notes (in_phase w (Turning turn hand [])) runs → Told after v runs
    told_finished w v turn hand home stamp home_is none then_rests lost next legal told =
        let note : Note S P = Fin turn.colour n turn.count home stamp in
        record {
          each = told.each;
          turns = λ c first is. ⊎_elim
              (λ (own : turn.colour ≡ c).
              subst (λ e. TellTurns first n e (after e) (runs_on e runs)) own
              (subst (λ l. TellTurns first n turn.colour l (runs_on turn.colour runs)) (sym (next.here turn.colour refl))
              (turns_finished n turn.colour first setup (notes turn.colour) (runs_on turn.colour runs) turn home stamp home_is (legal turn.colour) none ((told.out turn.colour first (ap given own ∙ is)).0 refl) (told.turns turn.colour first (ap given own ∙ is)))))
              (λ (other : turn.colour ≡ c → ⊥). turns_stay turn.colour note next c first (ap (λ b. if b then Some home.value else None) (differs turn.colour c other)) (told.turns c first is))
              (same_or turn.colour c);
          out = λ c first is. out_rests n first c (after c) (runs_on c runs) v.phase then_rests (⊎_elim
              (λ (own : turn.colour ≡ c).
              subst (λ e. runs_out first n e (after e) (runs_on e runs) ≡ []) own
              (ap (λ l. runs_out first n turn.colour l (runs_on turn.colour runs)) (next.here turn.colour refl)
              ∙ none_finished n turn.colour first setup (notes turn.colour) (runs_on turn.colour runs) turn home stamp (legal turn.colour) none ((told.out turn.colour first (ap given own ∙ is)).0 refl)))
              (λ (other : turn.colour ≡ c → ⊥). none_stays turn.colour note next c first (ap (λ b. if b then turn.count else 0) (differs turn.colour c other)) ((told.out c first is).1 other))
              (same_or turn.colour c));
          puts = λ c kept. ap (λ l. l ++ puts_on c (puts_left v.phase)) (puts_stay turn.colour note refl (λ c. refl) next c) ∙ ap (λ l. loaded_of (notes_by n (notes c)) c ++ puts_on c l) (rests_left n v.phase then_rests) ∙ told.puts c (sym lost ∙ kept);
        }

  -- ---- a run

  on_own : (c : Colour) (runs : List (HandlerRun S P)) (run : HandlerRun S P) → run.colour ≡ c → runs_on c (runs ++ run ∷ []) ≡ runs_on c runs ++ run ∷ []
  on_own c runs run is = filter-append (λ r. r.colour.0 == c.0) runs (run ∷ []) ∙ ap (λ b. runs_on c runs ++ cond b (run ∷ []) []) (eq-eqb run.colour.0 c.0 (ap (λ k. k.0) is))

  on_other : (c : Colour) (runs : List (HandlerRun S P)) (run : HandlerRun S P) → (run.colour ≡ c → ⊥) → runs_on c (runs ++ run ∷ []) ≡ runs_on c runs
  on_other c runs run ne = filter-append (λ r. r.colour.0 == c.0) runs (run ∷ []) ∙ ap (λ b. runs_on c runs ++ cond b (run ∷ []) []) (ne_eqb run.colour.0 c.0 (λ is. ne (same_colour run.colour c is))) ∙ append-nil (runs_on c runs)

  each_more : (runs : List (HandlerRun S P)) (run : HandlerRun S P) → AllByRecursion (IsRunOf t fits y app setup frame) runs → IsRunOf t fits y app setup frame run → AllByRecursion (IsRunOf t fits y app setup frame) (runs ++ run ∷ [])
  each_more [] run all one = (one, tt)
  each_more (r ∷ runs) run all one = (all.0, each_more runs run all.1 one)

  -- the next event of the turn was run, and what that put is left to register
  pub told_run : (notes : Colour → List (Note S P)) (w : WorkerState S P) (runs : List (HandlerRun S P)) (turn : TurnState S P) (hand then_hand : Delivery) (rest : List (Event × Option P)) (run : HandlerRun S P) → IsRunOf t fits y app setup frame run → run.colour ≡ turn.colour → run.state ≡ turn.state → turn.events ≡ given_to run ∷ rest → AreLegalNotes setup notes → Told notes (in_phase w (Turning turn hand [])) runs → Told notes (in_phase w (Turning (record turn { state = run.becomes; events = rest }) then_hand run.puts)) (runs ++ run ∷ [])
  told_run notes w runs turn hand then_hand rest run one colour state events legal told = record {
    each = each_more runs run told.each one;
    turns = λ c first is. ⊎_elim
        (λ (own : run.colour ≡ c). subst (λ l. TellTurns first n c (notes c) l) (sym (on_own c runs run own)) (turns_run n c first setup (notes c) (runs_on c runs) (run ∷ []) (legal c) (told.turns c first is)))
        (λ (other : run.colour ≡ c → ⊥). subst (λ l. TellTurns first n c (notes c) l) (sym (on_other c runs run other)) (told.turns c first is))
        (same_or run.colour c);
    out = λ c first is. (
      λ own. subst (λ l. TellTurnOut first n c (notes c) l (record turn { state = run.becomes; events = rest })) (sym (on_own c runs run (colour ∙ own)))
          (out_run n c first setup (notes c) (runs_on c runs) turn run rest (legal c) (told.turns c first is) events state ((told.out c first is).0 own)),
      λ other. ap (runs_out first n c (notes c)) (on_other c runs run (λ own. other (sym colour ∙ own))) ∙ (told.out c first is).1 other,
    );
    puts = λ c kept.
        let more : puts_on c (puts_of (runs ++ run ∷ [])) ≡ puts_on c (puts_of runs) ++ puts_on c run.puts = ap (puts_on c) (flat_map-append (λ (r : HandlerRun S P). r.puts) runs (run ∷ []) ∙ ap (λ l. puts_of runs ++ l) (append-nil run.puts)) ∙ filter_map-append (put_on c) (puts_of runs) run.puts in
        ap (λ l. l ++ puts_on c run.puts) (sym (append-nil (loaded_of (notes_by n (notes c)) c)) ∙ told.puts c kept) ∙ sym more;
  }

  -- ---- the beginning

  -- a worker without a turn that has run nothing, by notes of which none are its own
  pub told_first : (notes : Colour → List (Note S P)) (w : WorkerState S P) → is_turning w.phase ≡ false → ((c : Colour) → notes_by n (notes c) ≡ []) → Told notes w []
  told_first notes w rests none = record {
    each = tt;
    turns = λ c first is before after count state stamp cut.
        let found : notes_by n before ++ Fin c n count state stamp ∷ notes_by n after ≡ [] = ap (λ b. notes_by n before ++ cond b (Fin c n count state stamp ∷ notes_by n after) (notes_by n after)) (sym (eq-eqb n n refl)) ∙ sym (filter-append (λ m. noted_by m == n) before (Fin c n count state stamp ∷ after)) ∙ ap (notes_by n) (sym cut) ∙ none c in
        absurd (not_none (notes_by n before) (Fin c n count state stamp) (notes_by n after) found);
    out = λ c first is. out_rests n first c (notes c) [] w.phase rests (drop_of_length-le [] (omega arith));
    puts = λ c kept. ap (λ l. loaded_of l c ++ puts_on c (puts_left w.phase)) (none c) ∙ ap (puts_on c) (rests_left n w.phase rests);
  }

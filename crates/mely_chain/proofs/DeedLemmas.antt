-- What a core did, after further notes, a further run, and in another phase of its worker.
use Rattle.std.proofs.Common.{◌≡◌, ℕ, suc, ◌==◌, ◌<◌, ◌≤◌, List, [], ◌∷◌, ◌++◌, Option, Bool, true, false, cond, length, refl, sym, ◌∙◌, ap, subst, ⊎_elim, arith}
use Rattle.std.specs.Prelude.{max}
use Rattle.std.specs.declared.snapshot.Snapshot.{Snapshot}
use Rattle.std.proofs.lemmas.Bool.{eq-eqb, ne_eqb, cases_eq}
use Rattle.std.proofs.lemmas.List.{append-nil}
use Rattle.std.proofs.lemmas.List.Elements.{filter-append, filter_map-append}
use Rattle.mely_event.specs.declared.colour.Colour.{Colour}
use Rattle.mely_event.specs.declared.event.Event.{Event}
use Rattle.mely_history.specs.declared.setup.Setup.{Setup}
use Rattle.mely_history.specs.Entries.{colour_of}
use Rattle.mely_history.specs.Setup.{shard_of}
use Rattle.mely_note.specs.declared.note.Note.{Note}
use Rattle.mely_note.specs.declared.note.Note.TheVariants.{Reg, Take, Fin, Steal}
use Rattle.mely_note.specs.declared.stamp.Stamp.{Stamp}
use Rattle.mely_note.specs.Notes.{Rise, entry_of, latest, noted_by, notes_by, stamp_of}
use Rattle.mely_note.proofs.StampLemmas.{latest-filter, rise-none, rise-push}
use Rattle.mely_queue.specs.Turn.{TurnState}
use Rattle.mely_tally.specs.Account.{HandlerRun}
use Rattle.mely_worker.specs.declared.delivery.Delivery.{Delivery}
use Rattle.mely_worker.specs.declared.delivery.Delivery.TheVariants.{Nothing}
use Rattle.mely_worker.specs.declared.phase.Phase.{Phase}
use Rattle.mely_worker.specs.declared.phase.Phase.TheVariants.{Free, Popped, Picked, Landing, Pushing, Turning}
use Rattle.mely_worker.specs.Phase.{is_turning}
use Rattle.mely_worker.specs.Step.{in_phase}
use Rattle.mely_worker.specs.Worker.{WorkerState}
use Rattle.mely_chain.specs.Deeds.{Deed, noted, ran, Doing, rests, turns, Does, Did, CoreDid, takes, steals, runs, registers, finishes, doing_of, note_in, run_in, notes_in, runs_in, notes_at}
use Rattle.mely_chain.proofs.CoreLemmas.{GrewByOthers, IsNext}
use Rattle.mely_chain.proofs.GrowthLemmas.{by_own, by_others}

ends : {X : Type 0} (xs : List X) (x : X) → xs ++ x ∷ [] ≡ [] → ⊥
ends [] x is = cc
ends (z ∷ xs) x is = cc

module _ {S P : Type 0} where
  -- ---- one more deed

  -- one more of what it may do
  did_more : (n : ℕ) (before then after : Doing P) (deeds : List (Deed S P)) (deed : Deed S P) → Did n before deeds then → Does n then deed after → Did n before (deeds ++ deed ∷ []) after
  did_more n before then after [] deed did does = (after, subst (λ a. Does n a deed after) did does, refl)
  did_more n before then after (first ∷ more) deed did does = (did.0, did.1, did_more n did.0 then after more deed did.2 does)

  notes_noted : (deeds : List (Deed S P)) (note : Note S P) → notes_in (deeds ++ noted note ∷ []) ≡ notes_in deeds ++ note ∷ []
  notes_noted deeds note = filter_map-append note_in deeds (noted note ∷ [])

  notes_ran : (deeds : List (Deed S P)) (run : HandlerRun S P) → notes_in (deeds ++ ran run ∷ []) ≡ notes_in deeds
  notes_ran deeds run = filter_map-append note_in deeds (ran run ∷ []) ∙ append-nil (notes_in deeds)

  runs_noted : (deeds : List (Deed S P)) (note : Note S P) → runs_in (deeds ++ noted note ∷ []) ≡ runs_in deeds
  runs_noted deeds note = filter_map-append run_in deeds (noted note ∷ []) ∙ append-nil (runs_in deeds)

  runs_ran : (deeds : List (Deed S P)) (run : HandlerRun S P) → runs_in (deeds ++ ran run ∷ []) ≡ runs_in deeds ++ run ∷ []
  runs_ran deeds run = filter_map-append run_in deeds (ran run ∷ [])

  -- a worker without a turn rests
  doing_rests : (phase : Phase S P) → is_turning phase ≡ false → doing_of phase ≡ rests
  doing_rests (Free place) still = refl
  doing_rests (Popped mark) still = refl
  doing_rests (Picked mark victim) still = refl
  doing_rests (Landing mark) still = refl
  doing_rests (Pushing core mark) still = refl
  doing_rests (Turning turn hand puts) still = cc

  -- ---- stamps over all shards

  -- one more note in front, kept or left out, makes none of the others later than the latest
  latest-kept : (kept : Bool) (note : Note S P) (notes : List (Note S P)) → latest notes ≤ latest (cond kept (note ∷ notes) notes)
  latest-kept true note notes = omega arith
  latest-kept false note notes = omega arith

  -- notes are below a stamp where those of each shard are
  below_all : (setup : Setup) (d : Colour) (number : ℕ) (notes : List (Note S P)) → ((c : Colour) → latest (notes_at setup c notes) < number) → latest notes < number
  below_all setup d number [] below = below d
  below_all setup d number (note ∷ notes) below =
      let c : Colour = colour_of (entry_of note) in
      let first : max (stamp_of note) (latest (notes_at setup c notes)) < number = subst (λ b. latest (cond b (note ∷ notes_at setup c notes) (notes_at setup c notes)) < number) (eq-eqb (shard_of setup c) (shard_of setup c) refl) (below c) in
      let rest : latest notes < number = below_all setup d number notes (λ e. let here = below e in let kept = latest-kept (shard_of setup c == shard_of setup e) note (notes_at setup e notes) in omega (arith, here, kept)) in
      omega (arith, first, rest)

module _ {S P : Type 0} (setup : Setup) (n : ℕ) where
  abbrev Has : (Colour → List (Note S P)) → WorkerState S P → List (HandlerRun S P) → Type 0
  Has notes w all = CoreDid setup n notes w all

  -- ---- no deed

  -- after notes of others
  pub did_others : (notes after : Colour → List (Note S P)) (w : WorkerState S P) (all : List (HandlerRun S P)) → ((c : Colour) → GrewByOthers n (notes c) (after c)) → Has notes w all → Has after w all
  did_others notes after w all grew has = record {
    deeds = has.deeds;
    came = has.came;
    noted_at = λ c. let g = grew c in has.noted_at c ∙ sym (ap (notes_by n) g.1 ∙ by_others n (notes c) g.0 g.2);
    rise = has.rise;
    did = has.did;
  }

  -- of the same notes
  pub did_same : (notes after : Colour → List (Note S P)) (w : WorkerState S P) (all : List (HandlerRun S P)) → ((c : Colour) → after c ≡ notes c) → Has notes w all → Has after w all
  did_same notes after w all same has = record {
    deeds = has.deeds;
    came = has.came;
    noted_at = λ c. has.noted_at c ∙ ap (notes_by n) (sym (same c));
    rise = has.rise;
    did = has.did;
  }

  -- between phases without a turn
  pub did_rests : (notes : Colour → List (Note S P)) (w v : WorkerState S P) (all : List (HandlerRun S P)) → is_turning w.phase ≡ false → is_turning v.phase ≡ false → v.lost ≡ w.lost → Has notes w all → Has notes v all
  did_rests notes w v all still then_still lost has = record {
    deeds = has.deeds;
    came = has.came;
    noted_at = has.noted_at;
    rise = has.rise;
    did = λ kept. subst (Did n rests has.deeds) (doing_rests w.phase still ∙ sym (doing_rests v.phase then_still)) (has.did (sym lost ∙ kept));
  }

  -- what is in hand is none of it
  pub did_hand : (notes : Colour → List (Note S P)) (w : WorkerState S P) (all : List (HandlerRun S P)) (turn : TurnState S P) (hand then_hand : Delivery) (puts : List (Colour × Event × Option P)) → Has notes (in_phase w (Turning turn hand puts)) all → Has notes (in_phase w (Turning turn then_hand puts)) all
  did_hand notes w all turn hand then_hand puts has = record { deeds = has.deeds; came = has.came; noted_at = has.noted_at; rise = has.rise; did = has.did }

  -- where a registration was refused for memory, the order isn't told
  pub did_lost : (notes : Colour → List (Note S P)) (w v : WorkerState S P) (all : List (HandlerRun S P)) (turn : TurnState S P) (hand then_hand : Delivery) (puts rest : List (Colour × Event × Option P)) (put : Colour × Event × Option P) → v.phase ≡ Turning turn then_hand rest → v.lost ≡ w.lost ++ put ∷ [] → Has notes (in_phase w (Turning turn hand puts)) all → Has notes v all
  did_lost notes w v all turn hand then_hand puts rest put phase lost has = record {
    deeds = has.deeds;
    came = has.came;
    noted_at = has.noted_at;
    rise = has.rise;
    did = λ kept. absurd (ends w.lost put (sym lost ∙ kept));
  }

  -- ---- a note by the pass

  module _ (notes after : Colour → List (Note S P)) (all : List (HandlerRun S P)) where
    -- a note that the worker may make now, later than all that were made
    did_noted : (w v : WorkerState S P) (d : Colour) (note : Note S P) → colour_of (entry_of note) ≡ d → noted_by note ≡ n → v.lost ≡ w.lost → Does n (doing_of w.phase) (noted note) (doing_of v.phase) → IsNext setup d note notes after → ((c : Colour) → latest (notes c) < stamp_of note) → Has notes w all → Has after v all
    did_noted w v d note of_colour own lost does next above has = record {
      deeds = has.deeds ++ noted note ∷ [];
      came = runs_noted has.deeds note ∙ has.came;
      noted_at = λ c. ap (notes_at setup c) push ∙ filter-append (λ m. shard_of setup (colour_of (entry_of m)) == shard_of setup c) (notes_in has.deeds) (note ∷ []) ∙ ⊎_elim
          (λ (same : shard_of setup c ≡ shard_of setup d).
          ap (λ b. notes_at setup c (notes_in has.deeds) ++ cond b (note ∷ []) []) (eq-eqb (shard_of setup (colour_of (entry_of note))) (shard_of setup c) (ap (shard_of setup) of_colour ∙ sym same))
          ∙ ap (λ l. l ++ note ∷ []) (has.noted_at c)
          ∙ sym (by_own n (notes c) note own)
          ∙ ap (notes_by n) (sym (next.here c same)))
          (λ (ne : shard_of setup c ≡ shard_of setup d → ⊥).
          ap (λ b. notes_at setup c (notes_in has.deeds) ++ cond b (note ∷ []) []) (ne_eqb (shard_of setup (colour_of (entry_of note))) (shard_of setup c) (λ is. ne (sym is ∙ ap (shard_of setup) of_colour)))
          ∙ append-nil (notes_at setup c (notes_in has.deeds))
          ∙ has.noted_at c
          ∙ ap (notes_by n) (sym (next.elsewhere c ne)))
          (cases_eq (shard_of setup c) (shard_of setup d));
      rise = subst Rise (sym push) (rise-push (notes_in has.deeds) note has.rise (below_all setup d (stamp_of note) (notes_in has.deeds) below));
      did = λ kept. did_more n rests (doing_of w.phase) (doing_of v.phase) has.deeds (noted note) (has.did (sym lost ∙ kept)) does;
    } where
      push : notes_in (has.deeds ++ noted note ∷ []) ≡ notes_in has.deeds ++ note ∷ []
      push = notes_noted has.deeds note

      below : (c : Colour) → latest (notes_at setup c (notes_in has.deeds)) < stamp_of note
      below c = let late = above c in let some = latest-filter (λ m. noted_by m == n) (notes c) in subst (λ l. latest l < stamp_of note) (sym (has.noted_at c)) (omega (arith, late, some))

    -- a registration of the first one put
    pub did_registered : (w : WorkerState S P) (turn : TurnState S P) (hand then_hand : Delivery) (put : Colour × Event × Option P) (rest : List (Colour × Event × Option P)) (load : Snapshot (Option P)) (at : Snapshot Stamp) → load.value ≡ put.2 → IsNext setup put.0 (Reg put.0 put.1 load n at) notes after → ((c : Colour) → latest (notes c) < at.value.number) → Has notes (in_phase w (Turning turn hand (put ∷ rest))) all → Has after (in_phase w (Turning turn then_hand rest)) all
    did_registered w turn hand then_hand put rest load at load_is next above has =
        did_noted (in_phase w (Turning turn hand (put ∷ rest))) (in_phase w (Turning turn then_hand rest)) put.0 (Reg put.0 put.1 load n at) refl refl refl
        (registers turn.colour turn.count (length turn.events) put rest load at refl load_is refl refl) next above has

    -- a take of a turn, of which nothing was run
    pub did_taken : (w : WorkerState S P) (d : Colour) (turn : TurnState S P) (at : Snapshot Stamp) → is_turning w.phase ≡ false → turn.colour ≡ d → length turn.events ≡ turn.count → IsNext setup d (Take d n turn.count at) notes after → ((c : Colour) → latest (notes c) < at.value.number) → Has notes w all → Has after (in_phase w (Turning turn Nothing [])) all
    did_taken w d turn at still of_colour count next above has =
        did_noted w (in_phase w (Turning turn Nothing [])) d (Take d n turn.count at) refl refl refl
        (takes d turn.count at (doing_rests w.phase still) refl (ap (λ e. turns e turn.count (length turn.events) []) of_colour ∙ ap (λ k. turns d turn.count k []) count)) next above has

    -- a steal
    pub did_stolen : (w v : WorkerState S P) (d : Colour) (from : ℕ) (at : Snapshot Stamp) → is_turning w.phase ≡ false → is_turning v.phase ≡ false → v.lost ≡ w.lost → IsNext setup d (Steal d from n at) notes after → ((c : Colour) → latest (notes c) < at.value.number) → Has notes w all → Has after v all
    did_stolen w v d from at still then_still lost next above has =
        did_noted w v d (Steal d from n at) refl refl lost (steals d from at (doing_rests w.phase still) refl (doing_rests v.phase then_still)) next above has

    -- the finish of a turn whose events were all run
    pub did_finished : (w v : WorkerState S P) (turn : TurnState S P) (hand : Delivery) (home : Snapshot S) (at : Snapshot Stamp) → turn.events ≡ [] → is_turning v.phase ≡ false → v.lost ≡ w.lost → IsNext setup turn.colour (Fin turn.colour n turn.count home at) notes after → ((c : Colour) → latest (notes c) < at.value.number) → Has notes (in_phase w (Turning turn hand [])) all → Has after v all
    did_finished w v turn hand home at none then_still lost next above has =
        did_noted (in_phase w (Turning turn hand [])) v turn.colour (Fin turn.colour n turn.count home at) refl refl lost
        (finishes turn.colour turn.count home at (ap (λ l. turns turn.colour turn.count (length l) []) none) refl (doing_rests v.phase then_still)) next above has

  -- ---- a run

  -- the next event of the turn was run, and what that put is left to register
  pub did_run : (notes : Colour → List (Note S P)) (w : WorkerState S P) (all : List (HandlerRun S P)) (turn : TurnState S P) (hand then_hand : Delivery) (rest : List (Event × Option P)) (run : HandlerRun S P) → run.colour ≡ turn.colour → turn.events ≡ (run.event, run.load) ∷ rest → Has notes (in_phase w (Turning turn hand [])) all → Has notes (in_phase w (Turning (record turn { state = run.becomes; events = rest }) then_hand run.puts)) (all ++ run ∷ [])
  did_run notes w all turn hand then_hand rest run of_colour events has = record {
    deeds = has.deeds ++ ran run ∷ [];
    came = runs_ran has.deeds run ∙ ap (λ l. l ++ run ∷ []) has.came;
    noted_at = λ c. ap (notes_at setup c) (notes_ran has.deeds run) ∙ has.noted_at c;
    rise = subst Rise (sym (notes_ran has.deeds run)) has.rise;
    did = λ kept. did_more n rests (turns turn.colour turn.count (length turn.events) []) (turns turn.colour turn.count (length rest) run.puts) has.deeds (ran run) (has.did kept)
        (runs run turn.count (length rest) (ap (λ l. turns turn.colour turn.count (length l) []) events ∙ ap (λ e. turns e turn.count (suc (length rest)) []) (sym of_colour)) refl (ap (λ e. turns e turn.count (length rest) run.puts) (sym of_colour)));
  }

  -- ---- the beginning

  -- a worker without a turn that has run nothing, by notes of which none are its own
  pub did_first : (notes : Colour → List (Note S P)) (w : WorkerState S P) → is_turning w.phase ≡ false → ((c : Colour) → notes_by n (notes c) ≡ []) → Has notes w []
  did_first notes w still none = record {
    deeds = [];
    came = refl;
    noted_at = λ c. sym (none c);
    rise = rise-none;
    did = λ kept. doing_rests w.phase still;
  }

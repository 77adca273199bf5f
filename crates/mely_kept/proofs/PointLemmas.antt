-- A call at its point in the history, from what was done with the shard that it found there.
use Rattle.std.proofs.Common.{◌≡◌, ◌<◌, ℕ, List, [], ◌∷◌, ◌++◌, Option, Result, Ok, Err, sym, ◌∙◌, subst, refl, inl, inr}
use Rattle.mely_event.specs.declared.colour.Colour.{Colour}
use Rattle.mely_event.specs.declared.event.Event.{Event}
use Rattle.mely_event.specs.declared.unregistered.Unregistered.{Unregistered}
use Rattle.mely_history.specs.declared.setup.Setup.{Setup}
use Rattle.mely_history.specs.declared.registered.Registered.{Registered}
use Rattle.mely_history.specs.declared.after.After.{After}
use Rattle.mely_history.specs.Legal.{IsLegal}
use Rattle.mely_lock.specs.Seen.{OthersSince, GrewByAtMostOne}
use Rattle.mely_note.specs.declared.note.Note.{Note}
use Rattle.mely_note.specs.Notes.{Rise, entries_of, noted_by, stamp_of}
use Rattle.mely_queue.specs.Turn.{TurnState}
use Rattle.mely_kept.specs.declared.kept_shard.ShardFrame.{ShardFrame}
use Rattle.mely_kept.specs.Calls.{IsSeen, RegistersAt, FinishesAt}
use Rattle.mely_kept.specs.Frames.{shard_frame}
use Rattle.mely_kept.specs.KeptShard.{KeptShardState}

-- what was done with the shard that was found is what the call does at its point
pub seen_after : {S P F T : Type 0} (frame : S → F) (n known : ℕ) (Does : ShardFrame S F → T → List (Note S P) → List (Note S P) → Type 0) (initial found left : KeptShardState S P) (answer made : T) (front after : List (Note S P))
    → shard_frame frame found ≡ shard_frame frame initial → OthersSince noted_by n front found.notes → left.notes ≡ after → answer ≡ made
    → Does (shard_frame frame found) made found.notes left.notes → IsLegal found.has.setup (entries_of left.notes)
    → Rise left.notes → ((note : Note S P) → left.notes ≡ found.notes ++ note ∷ [] → known < stamp_of note)
    → IsSeen initial.has.setup n known front after (Does (shard_frame frame initial) answer)
seen_after frame n known Does initial found left answer made front after framed others seen answered does legal rise above =
    record {
      point = found.notes;
      others = others;
      does = subst (Does (shard_frame frame initial) answer found.notes) seen (subst (λ a. Does (shard_frame frame initial) a found.notes left.notes) (sym answered) (subst (λ of. Does of made found.notes left.notes) framed does));
      legal = subst (λ notes. IsLegal initial.has.setup (entries_of notes)) seen (subst (λ (of : ShardFrame _ _). IsLegal of.setup (entries_of left.notes)) framed legal);
      rise = subst Rise seen rise;
      above = λ note is. above note (seen ∙ is);
    }

-- a registration makes one note at most
pub register_grows : {S P : Type 0} (setup : Setup) (n : ℕ) (c : Colour) (event : Event) (load : Option P) (answer : Result Registered (Unregistered P)) (point after : List (Note S P)) → RegistersAt setup n c event load answer point after → GrewByAtMostOne noted_by n point after
register_grows setup n c event load (Ok reply) point after does = inr (_, does.0.1, refl)
register_grows setup n c event load (Err back) point after does = inl does.0

-- a finish makes one note
pub finish_grows : {S P : Type 0} (setup : Setup) (n : ℕ) (turn : TurnState S P) (answer : After) (point after : List (Note S P)) → FinishesAt setup n turn answer point after → GrewByAtMostOne noted_by n point after
finish_grows setup n turn answer point after does = inr (_, does.0.1, refl)

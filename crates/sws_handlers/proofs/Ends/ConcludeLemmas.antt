-- What a run comes to, put together.
use Rattle.std.proofs.Common.{◌≡◌, ℕ, List, [], ◌++◌, Bool, Option, None, Vec, Global, map, refl, ◌∙◌, ap, subst}
use Rattle.std.specs.Prelude.{flat_map, is_some, option_map}
use Rattle.mely_weave.specs.declared.draining.Drained.{Drained}
use Rattle.mely_weave.specs.declared.parts.WeaveParts.{WeaveParts}
use Rattle.mely_tally.specs.Tallies.{carried_by}
use Rattle.sws_steps.specs.declared.talk.Talk.{Ghosts as TalkWords}
use Rattle.sws_log.specs.declared.line.LogLine.{LogLine}
use Rattle.sws_handlers.specs.declared.ended.Served.{Served}
use Rattle.sws_handlers.specs.declared.ended.EndRoom.{EndRoom}
use Rattle.sws_handlers.specs.declared.ended.Verdict.{Verdict}
use Rattle.sws_handlers.specs.declared.left.Left.{Left}
use Rattle.sws_handlers.specs.declared.load.WorldLoad.{WorldLoad}
use Rattle.sws_handlers.specs.declared.load.Load.{Load}
use Rattle.sws_handlers.specs.KeptLines.{KeptLinesState, no_lines}
use Rattle.sws_handlers.specs.Place.{PlaceState}
use Rattle.sws_handlers.specs.RunLeaves.{resting_in, lines_in, lines_kept, VerdictIs}
use Rattle.sws_handlers.specs.LeftKept.{KeepsStates}
use Rattle.sws_handlers.specs.Handing.{served_with_loads, world_with_loads, HandsOut}
use Rattle.sws_handlers.specs.Conclusion.{is_whole, accepted_of, failed_of, IsConcluded}
use Rattle.sws_handlers.proofs.Ends.HandingLemmas.{hand_more}

-- the same verdict over the same things
verdict_same : {L : Type 0} (kept : Option (List LogLine)) (served : List (Served L)) (whole now : Bool) (total : ℕ) (there is : Bool) (accepted : ℕ) (failed : Bool) (verdict : Verdict) → whole ≡ now → there ≡ is → VerdictIs kept served whole total there accepted failed verdict → VerdictIs kept served now total is accepted failed verdict
verdict_same kept served whole now total there is accepted failed verdict same also told = subst (λ (b : Bool). VerdictIs kept served now total b accepted failed verdict) also (subst (λ (b : Bool). VerdictIs kept served b total there accepted failed verdict) same told)

pub concluded : {W L T G H : Type 0} (y : TalkWords T L G H) (total : ℕ) (log : Bool) (how : Drained) (parts : WeaveParts (PlaceState H W T) (Load W L)) (room : EndRoom L) (a b c : Left W L) (world : Option W) (accepted : ℕ) (failed whole there : Bool) (lines : Vec LogLine Global) (verdict : Verdict)
    → room.served.items ≡ [] → room.trails.items ≡ [] → room.no_line ≡ no_lines
    → KeepsStates y parts.states.items (record { world = None; served = room.served; trails = room.trails; log = room.no_line }) a
    → HandsOut (flat_map (λ events. events) (map (λ events. events.items) parts.queued.items)) a b → HandsOut (carried_by parts.lost.items) b c
    → world ≡ option_map (λ held. held.world) c.world → accepted ≡ accepted_of c.world → failed ≡ failed_of c.world
    → lines.items ≡ c.log.kept → whole ≡ is_whole how parts.lost.items c.log → there ≡ is_some world → VerdictIs (lines_kept log lines.items) c.served.items whole total there accepted failed verdict
    → IsConcluded y total log how parts (record { verdict = verdict; world = world; accepted = accepted; failed = failed; served = c.served; histories = parts.histories; trails = c.trails; log = lines })
concluded {W} {L} {T} {G} {H} y total log how parts room a b c world accepted failed whole there lines verdict none_served no_trail no_line keeps queued lost world_is accepted_is failed_is lines_are whole_is there_is told =
    let hands = hand_more (flat_map (λ events. events) (map (λ events. events.items) parts.queued.items)) (carried_by parts.lost.items) a b c queued lost in
    let found : c.world ≡ world_with_loads (flat_map (λ events. events) (map (λ events. events.items) parts.queued.items) ++ carried_by parts.lost.items) (resting_in None parts.states.items) =
    hands.world ∙ ap (λ (o : Option (WorldLoad W)). world_with_loads (flat_map (λ events. events) (map (λ events. events.items) parts.queued.items) ++ carried_by parts.lost.items) o) keeps.world in
    let left : c.log ≡ lines_in no_lines parts.states.items = hands.log ∙ keeps.log ∙ ap (λ (ls : KeptLinesState). lines_in ls parts.states.items) no_line in
    record {
      found = keeps.added;
      shows = keeps.shows;
      served = hands.served ∙ ap (λ (l : List (Served L)). served_with_loads (flat_map (λ events. events) (map (λ events. events.items) parts.queued.items) ++ carried_by parts.lost.items) l) (keeps.served ∙ ap (λ (l : List (Served L)). l ++ keeps.added) none_served);
      world = world_is ∙ ap (λ (o : Option (WorldLoad W)). option_map (λ held. held.world) o) found;
      accepted = accepted_is ∙ ap (λ (o : Option (WorldLoad W)). accepted_of o) found;
      failed = failed_is ∙ ap (λ (o : Option (WorldLoad W)). failed_of o) found;
      histories = refl;
      trails = ap (λ v. map (λ trail. trail.items) v.items) hands.trails ∙ keeps.trails ∙ ap (λ l. map (λ trail. trail.items) l ++ map (λ (place : PlaceState H W T). place.trail) parts.states.items) no_trail;
      kept = lines_are ∙ ap (λ (ls : KeptLinesState). ls.kept) left;
      verdict = verdict_same (lines_kept log lines.items) c.served.items whole (is_whole how parts.lost.items (lines_in no_lines parts.states.items)) total there (is_some world) accepted failed verdict (whole_is ∙ ap (λ (ls : KeptLinesState). is_whole how parts.lost.items ls) left) there_is told;
    }

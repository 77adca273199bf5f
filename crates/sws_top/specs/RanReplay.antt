-- What a run of `replay FOLDER ..` did, with a schedule and without.
use Rattle.std.specs.Prelude.{◌≡◌, ℕ, Bool, true, false, List, Option}
use Rattle.mely_history.specs.declared.shape.Shape.{Shape}
use Rattle.sws_link.specs.declared.Folder.{Ghosts as FolderWords}
use Rattle.sws_link.specs.declared.Source.{Ghosts as SourceWords}
use Rattle.sws_link.specs.declared.Sink.{Ghosts as SinkWords}
use Rattle.sws_replay.specs.Expected.{Expected, by_http}
use Rattle.sws_replay.specs.Replays.{IsReplay, IsScheduledReplay}
use Rattle.sws_script.specs.declared.input.Input.{Input}
use Rattle.sws_site.specs.Site.{SiteState}
use Rattle.sws_top.specs.declared.faults.TopFault.{TopFault}
use Rattle.sws_top.specs.Hands.{Hands}
use Rattle.sws_top.specs.Scripts.{RunsOnInput}
use Rattle.sws_top.specs.Sites.{RunsOnSite}
use Rattle.sws_top.specs.Texts.{WritesText}

-- the texts of a replay of HTTP: with a schedule there is one, the transcript and its journal;
-- without it the transcript, and behind it a journal where that is asked for; behind the transcript
-- stands the log, where that is asked for
abbrev pub IsReplayText : Shape → (journal schedule log : Bool) → SiteState → Input → List ℕ
    → Type 0
IsReplayText shape journal true log site input = IsScheduledReplay site shape input log
IsReplayText shape journal false log site input =
    IsReplay (by_http site) shape input.conns log journal

-- without a schedule: the source was read to its end as a script, which was run as it is expected
-- of its connections, and its text was written
abbrev pub RunsScript : {R O : Type 0} → SourceWords R → SinkWords O → (source source_now : R)
    → (out out_now : O) → Option TopFault → Expected → Shape → (log journal : Bool) → Type 0
RunsScript r o source source_now out out_now fault expected shape log journal =
    RunsOnInput r false shape.cores source source_now fault (out_now ≡ out)
    (λ input. WritesText o out out_now fault (IsReplay expected shape input.conns log journal))

-- with a schedule before the script, which HTTP followed out of the site
abbrev pub RunsSchedule : {R O : Type 0} → SourceWords R → SinkWords O → (source source_now : R)
    → (out out_now : O) → Option TopFault → SiteState → Shape → (log : Bool) → Type 0
RunsSchedule r o source source_now out out_now fault site shape log =
    RunsOnInput r true shape.cores source source_now fault (out_now ≡ out)
    (λ input. WritesText o out out_now fault (IsScheduledReplay site shape input log))

module _ {F R O : Type 0} (f : FolderWords F) (r : SourceWords R) (o : SinkWords O)
    (before now : Hands F R O) (fault : Option TopFault) where
  -- on the site, the source was read to its end as an input, with a schedule where that is asked
  -- for; it was run, and its text written
  abbrev pub RanReplay : List ℕ → Shape → Option ℕ → (journal schedule log : Bool) → Type 0
  RanReplay path shape date journal schedule log =
      RunsOnSite f path before.folder now.folder date fault
      ((now.source ≡ before.source) × (now.out ≡ before.out))
      (λ site. RunsOnInput r schedule shape.cores before.source now.source fault
      (now.out ≡ before.out)
      (λ input. WritesText o before.out now.out fault
      (IsReplayText shape journal schedule log site input)))

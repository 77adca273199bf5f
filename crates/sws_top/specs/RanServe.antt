-- What a run of `serve FOLDER --port P --connections N ..` did.
use Rattle.std.specs.Prelude.{◌≡◌, ◌≢◌, ◌⊎◌, ◌<◌, ◌^◌, ◌++◌, ℕ, Bool, List, length, sum_by, Option, Some, None}
use Rattle.std.specs.List.{filter_map, AllByRecursion}
use Rattle.mely_history.specs.declared.shape.Shape.{Shape}
use Rattle.sws_link.specs.Worlds.{Listens, total_within}
use Rattle.sws_link.specs.declared.Folder.{Ghosts as FolderWords}
use Rattle.sws_link.specs.declared.Link.{Ghosts as LinkWords}
use Rattle.sws_link.specs.declared.Opened.{Opened}
use Rattle.sws_link.specs.declared.Opened.TheVariants as opened
use Rattle.sws_link.specs.declared.Sink.{Ghosts as SinkWords}
use Rattle.sws_link.specs.declared.world.World.{Ghosts as WorldWords}
use Rattle.sws_steps.specs.declared.End.{End}
use Rattle.sws_steps.specs.declared.End.TheVariants as ending
use Rattle.sws_steps.specs.declared.talk.Talk.{Ghosts as TalkWords}
use Rattle.sws_weave.specs.ServerLeaves.{ServerLeaves}
use Rattle.sws_handlers.specs.declared.ended.Ended.{Ended}
use Rattle.sws_handlers.specs.declared.ended.Served.{Served}
use Rattle.sws_handlers.specs.declared.ended.Verdict.{Verdict}
use Rattle.sws_handlers.specs.declared.ended.Verdict.TheVariants as verdict
use Rattle.sws_log.specs.Lines.{log_text}
use Rattle.sws_log.specs.declared.line.LogLine.{LogLine}
use Rattle.sws_report.specs.Summary.{summary}
use Rattle.sws_site.specs.Site.{SiteState}
use Rattle.sws_top.specs.declared.faults.TopFault.{TopFault}
use Rattle.sws_top.specs.declared.faults.TopFault.TheVariants.{WorldFault, Memory, Apart}
use Rattle.sws_top.specs.declared.outcomes.Outcome.{Outcome}
use Rattle.sws_top.specs.Sites.{RunsOnSite}
use Rattle.sws_top.specs.Texts.{WritesText}

-- how the connections ended that did
abbrev pub ends_of : {L : Type 0} → List (Served L) → List End
ends_of served = filter_map (λ s. s.end) served

-- the summary of what has become of connections: how many ended in each way, and how many bytes
-- were read and written in all
unfoldable pub summary_of : {L : Type 0} → List (Served L) → List ℕ
summary_of served =
    summary (ends_of served) (sum_by (λ s. s.read) served) (sum_by (λ s. s.written) served)

-- the world was handed back as it was handed in, and nothing was served
pub record IsBack {W L : Type 0} (world : W) (outcome : Outcome W L) : Type 0 where
  pub none_ended : outcome.ended ≡ None
  pub back : outcome.world ≡ Some world

-- why a world that wasn't ready was not served
abbrev pub LacksWorld : Opened → Option TopFault → Type 0
LacksWorld opened.Ready fault = ⊥
LacksWorld opened.Failed fault = fault ≡ Some WorldFault
LacksWorld opened.Memory fault = fault ≡ Some Memory

-- The ends and the counts of these connections can be summed up: memory was refused to none,
-- and the sums fit 64 bits.
pub record CanSumUp {L : Type 0} (served : List (Served L)) : Type 0 where
  pub ends : AllByRecursion (λ end. end ≢ ending.Memory) (ends_of served)
  pub read : sum_by (λ s. s.read) served < 2 ^ 64
  pub written : sum_by (λ s. s.written) served < 2 ^ 64

module _ {L O : Type 0} (o : SinkWords O) (out out_now : O) (fault : Option TopFault)
    (lines : List LogLine) (served : List (Served L)) where
  -- how a run ends by its verdict: at Ok the lines of its log were written, of which there are none
  -- without it, and behind them the summary; and else nothing
  abbrev pub EndsBy : Verdict → Type 0
  EndsBy verdict.Ok =
      WritesText o out out_now fault (λ text. text ≡ log_text lines ++ summary_of served)
  EndsBy verdict.World = (fault ≡ Some WorldFault) × (out_now ≡ out)
  EndsBy (verdict.Apart conn) = (fault ≡ Some (Apart conn)) × (out_now ≡ out)
  EndsBy verdict.Memory = (fault ≡ Some Memory) × (out_now ≡ out)

module _ {W L O T G H : Type 0} (x : WorldWords W L) (l : LinkWords L) (o : SinkWords O)
    (y : TalkWords T L G H) (out out_now : O) (world : W) (outcome : Outcome W L) where
  -- the world wasn't ready: it comes back as it stands, and nothing was written
  pub record IsNotReady (port connections : ℕ) : Type 0 where
    pub now_world : W
    pub answer : Opened
    pub listens : Listens x.tells x.faults x.waits world port connections answer now_world
    pub why : LacksWorld answer outcome.fault
    pub back : IsBack now_world outcome
    pub unwritten : out_now ≡ out

  -- The world was opened at the port for so many connections, and they were served by talks of the
  -- hall, several workers on threads, with the log or without it, with all that this leaves.
  pub record HasServedPort (port connections : ℕ) (shape : Shape) (log : Bool)
      (hall : H) : Type 0 where
    pub first : W
    pub listens : Listens x.tells x.faults x.waits world port connections opened.Ready first
    pub ended : Ended W L
    pub there : outcome.ended ≡ Some ended
    pub gone : outcome.world ≡ None
    pub leaves : ServerLeaves x l y shape hall first log ended
    -- there is a member for each connection, or for each input that the world
    -- told where these were fewer
    pub many : ended.verdict ≢ verdict.Memory
        → length ended.served.items ≡ total_within (x.tells world).coming connections
    pub ends : EndsBy o out out_now outcome.fault ended.log.items ended.served.items ended.verdict

  -- what became of the world, in the hall
  abbrev pub IsServeEnd : (port connections : ℕ) → Shape → (log : Bool) → H → Type 0
  IsServeEnd port connections shape log hall = IsNotReady port connections
      ⊎ HasServedPort port connections shape log hall

module _ {F W L O T G : Type 0} (f : FolderWords F) (x : WorldWords W L) (l : LinkWords L)
    (o : SinkWords O) (y : TalkWords T L G SiteState) (folder folder_now : F) (out out_now : O)
    (world : W) (outcome : Outcome W L) where
  -- on the site, the world was opened and served, and the summary was written, behind the log
  abbrev pub RanServe : List ℕ → (port connections : ℕ) → Shape → Option ℕ → (log : Bool) → Type 0
  RanServe path port connections shape date log =
      RunsOnSite f path folder folder_now date outcome.fault
      ((out_now ≡ out) × IsBack world outcome)
      (IsServeEnd x l o y out out_now world outcome port connections shape log)

-- A run of an order doesn't say that the words are none.
use Rattle.std.specs.Prelude.{Ok, Err}
use Rattle.std.proofs.Common.{◌≡◌, inl, inr, ℕ, Bool, List, Option, Some, None, sym, subst, ◌∙◌, Result, false}
use Rattle.mely_check.specs.declared.fault.CheckFault.{CheckFault}
use Rattle.mely_check.specs.declared.fault.CheckFault.TheVariants as check_fault
use Rattle.mely_check.specs.declared.report.Report.{Report}
use Rattle.mely_history.specs.declared.shape.Shape.{Shape}
use Rattle.sws_link.specs.declared.Folder.{Ghosts as FolderWords}
use Rattle.sws_link.specs.declared.Source.{Ghosts as SourceWords}
use Rattle.sws_link.specs.declared.Link.{Ghosts as LinkWords}
use Rattle.sws_link.specs.declared.Opened.{Opened}
use Rattle.sws_link.specs.declared.Opened.TheVariants as opened
use Rattle.sws_link.specs.declared.Sink.{Ghosts as SinkWords}
use Rattle.sws_link.specs.declared.world.World.{Ghosts as WorldWords}
use Rattle.sws_steps.specs.declared.talk.Talk.{Ghosts as TalkWords}
use Rattle.sws_handlers.specs.declared.ended.Served.{Served}
use Rattle.sws_handlers.specs.declared.ended.Verdict.{Verdict}
use Rattle.sws_handlers.specs.declared.ended.Verdict.TheVariants as verdict
use Rattle.sws_gopher.specs.Menus.{Place}
use Rattle.sws_log.specs.declared.line.LogLine.{LogLine}
use Rattle.sws_replay.specs.declared.fault.RunFault.{RunFault}
use Rattle.sws_replay.specs.declared.fault.RunFault.TheVariants as run_fault
use Rattle.sws_site.specs.Site.{SiteState}
use Rattle.sws_words.specs.Orders.{Order, answer, replay, serve, bench, check, gopher}
use Rattle.sws_top.specs.declared.faults.TopFault.{TopFault}
use Rattle.sws_top.specs.declared.faults.TopFault.TheVariants.{Usage}
use Rattle.sws_top.specs.declared.outcomes.Outcome.{Outcome}
use Rattle.sws_top.specs.Faults.{EndsAnswering, fault_of_run}
use Rattle.sws_top.specs.Hands.{Hands}
use Rattle.sws_top.specs.Ran.{RanAs}
use Rattle.sws_top.specs.RanCheck.{WritesFound}
use Rattle.sws_top.specs.RanGopher.{RanGopher}
use Rattle.sws_top.specs.RanReplay.{RunsScript}
use Rattle.sws_top.specs.RanServe.{LacksWorld, EndsBy, IsServeEnd}
use Rattle.sws_top.specs.Ranges.{run_shape}
use Rattle.sws_top.specs.Scripts.{LacksInput, HasNoInput}
use Rattle.sws_top.specs.Sites.{LacksSite, HasNoSite}
use Rattle.sws_top.specs.Texts.{WritesText}
use Rattle.sws_replay.specs.Expected.{Expected}

module _ (fault : Option TopFault) (usage : fault ≡ Some Usage) where
  one_fault : (cause : TopFault) → fault ≡ Some cause → cause ≡ Usage
  one_fault cause is = (let same : Some cause ≡ Some Usage = sym is ∙ usage in cc)

  no_site : {F : Type 0} (f : FolderWords F) (path : List ℕ) (before now : F) (cause : TopFault) → fault ≡ Some cause → HasNoSite f path before now cause → ⊥
  no_site f path before now cause is lacks = subst (λ (c : TopFault). LacksSite f path before now c) (one_fault cause is) lacks.why

  no_input : {R : Type 0} (r : SourceWords R) (schedule : Bool) (cores : ℕ) (before now : R) (cause : TopFault) → fault ≡ Some cause → HasNoInput r schedule cores before now cause → ⊥
  no_input r schedule cores before now cause is lacks = subst (λ (c : TopFault). LacksInput r schedule cores before now c) (one_fault cause is) lacks.why

  no_answer : EndsAnswering fault → ⊥
  no_answer ends = subst EndsAnswering usage ends

  no_text : {O : Type 0} (o : SinkWords O) (before now : O) (IsText : List ℕ → Type 0) → WritesText o before now fault IsText → ⊥
  no_text o before now IsText writes = by_answer writes.answer writes.ended
    where
      by_answer : {T : Type 0} (answer : Result T RunFault) → fault ≡ fault_of_run answer → ⊥
      by_answer (Ok value) is = (let other : None ≡ Some Usage = sym is ∙ usage in cc)
      by_answer (Err run_fault.Write) is = (let other = one_fault _ is in cc)
      by_answer (Err run_fault.Memory) is = (let other = one_fault _ is in cc)

  no_script : {R O : Type 0} (r : SourceWords R) (o : SinkWords O) (source source_now : R) (out out_now : O) (expected : Expected) (shape : Shape) (log journal : Bool)
      → RunsScript r o source source_now out out_now fault expected shape log journal → ⊥
  no_script r o source source_now out out_now expected shape log journal (inl (cause, is, lacks, untouched)) = no_input r _ _ source source_now cause is lacks
  no_script r o source source_now out out_now expected shape log journal (inr (input, read, writes)) = no_text o out out_now _ writes

  no_world : (answer : Opened) → LacksWorld answer fault → ⊥
  no_world opened.Ready why = why
  no_world opened.Failed why = (let other = one_fault _ why in cc)
  no_world opened.Memory why = (let other = one_fault _ why in cc)

  no_verdict : {L O : Type 0} (o : SinkWords O) (out out_now : O) (lines : List LogLine) (served : List (Served L)) (v : Verdict) → EndsBy o out out_now fault lines served v → ⊥
  no_verdict o out out_now lines served verdict.Ok ends = no_text o out out_now _ ends
  no_verdict o out out_now lines served verdict.World ends = (let other = one_fault _ ends.0 in cc)
  no_verdict o out out_now lines served (verdict.Apart conn) ends = (let other = one_fault _ ends.0 in cc)
  no_verdict o out out_now lines served verdict.Memory ends = (let other = one_fault _ ends.0 in cc)

  no_find : {O : Type 0} (o : SinkWords O) (out out_now : O) (found : Result Report CheckFault) → WritesFound o out out_now fault found → ⊥
  no_find o out out_now (Ok report) writes = no_text o out out_now _ writes
  no_find o out out_now (Err check_fault.Read) writes = (let other = one_fault _ writes.0 in cc)
  no_find o out out_now (Err (check_fault.BadJournal line)) writes = (let other = one_fault _ writes.0 in cc)
  no_find o out out_now (Err (check_fault.NotLegal line)) writes = (let other = one_fault _ writes.0 in cc)
  no_find o out out_now (Err (check_fault.NotDrained colour)) writes = (let other = one_fault _ writes.0 in cc)
  no_find o out out_now (Err check_fault.Memory) writes = (let other = one_fault _ writes.0 in cc)

no_end : {W L O T G H : Type 0} (x : WorldWords W L) (l : LinkWords L) (o : SinkWords O) (y : TalkWords T L G H) (out out_now : O) (world : W) (outcome : Outcome W L) → outcome.fault ≡ Some Usage
    → (port connections : ℕ) (shape : Shape) (log : Bool) (hall : H) → IsServeEnd x l o y out out_now world outcome port connections shape log hall → ⊥
no_end x l o y out out_now world outcome usage port connections shape log hall (inl unready) = no_world outcome.fault usage unready.answer unready.why
no_end x l o y out out_now world outcome usage port connections shape log hall (inr served) = no_verdict outcome.fault usage o out out_now served.ended.log.items served.ended.served.items served.ended.verdict served.ends

module _ {F R W L O T G T' G' : Type 0} (f : FolderWords F) (r : SourceWords R) (x : WorldWords W L) (l : LinkWords L) (o : SinkWords O) (y : TalkWords T L G SiteState) (z : TalkWords T' L G' Place)
    (before now : Hands F R O) (world : W) (outcome : Outcome W L) (usage : outcome.fault ≡ Some Usage) where
  no_gopher : (path host : List ℕ) (port : ℕ) (connections : Option ℕ) (shape : Shape) (journal : Bool) → RanGopher f r x l o z before now world outcome path host port connections shape journal → ⊥
  no_gopher path host port None shape journal (inl (cause, is, lacks, untouched), back) = no_site outcome.fault usage f path before.folder now.folder cause is lacks
  no_gopher path host port None shape journal (inr (site, loaded, inl (refused, untouched)), back) = (let other = one_fault outcome.fault usage _ refused in cc)
  no_gopher path host port None shape journal (inr (site, loaded, inr ran), back) = no_script outcome.fault usage r o before.source now.source before.out now.out _ shape false journal ran
  no_gopher path host port (Some connections) shape journal (same, inl (cause, is, lacks, untouched)) = no_site outcome.fault usage f path before.folder now.folder cause is lacks
  no_gopher path host port (Some connections) shape journal (same, inr (site, loaded, inl (refused, untouched))) = (let other = one_fault outcome.fault usage _ refused in cc)
  no_gopher path host port (Some connections) shape journal (same, inr (site, loaded, inr ran)) = no_end x l o z before.out now.out world outcome usage port connections shape false _ ran

  -- a run of an order
  pub no_usage : (order : Order) → RanAs f r x l o y z before now world outcome order → ⊥
  no_usage (answer path date) (inl (cause, is, lacks, untouched), back) = no_site outcome.fault usage f path before.folder now.folder cause is lacks
  no_usage (answer path date) (inr (site, loaded, answers), back) = no_answer outcome.fault usage answers.ends
  no_usage (replay path shape date journal schedule log) (inl (cause, is, lacks, untouched), back) = no_site outcome.fault usage f path before.folder now.folder cause is lacks
  no_usage (replay path shape date journal schedule log) (inr (site, loaded, inl (cause, is, lacks, untouched)), back) =
      no_input outcome.fault usage r schedule shape.cores before.source now.source cause is lacks
  no_usage (replay path shape date journal schedule log) (inr (site, loaded, inr (input, read, writes)), back) = no_text outcome.fault usage o before.out now.out _ writes
  no_usage (serve path port connections shape date log) (same, inl (cause, is, lacks, untouched)) = no_site outcome.fault usage f path before.folder now.folder cause is lacks
  no_usage (serve path port connections shape date log) (same, inr (site, loaded, ran)) = no_end x l o y before.out now.out world outcome usage port connections (run_shape shape) log site ran
  no_usage (bench connections number shape) ran = no_text outcome.fault usage o before.out now.out _ ran.2
  no_usage (check connections shape log) ran = no_find outcome.fault usage o before.out now.out ran.1.found ran.1.writes
  no_usage (gopher path host port connections shape journal) ran = no_gopher path host port connections (run_shape shape) journal ran

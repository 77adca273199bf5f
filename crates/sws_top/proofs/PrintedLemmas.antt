-- What a run that ended without a fault has written of its journal.
use Rattle.std.proofs.Common.{◌≡◌, inl, inr, ℕ, Bool, true, false, ◌||◌, List, ◌++◌, Option, Some, None, refl, sym, ◌∙◌, subst}
use Rattle.std.specs.Prelude.{Result, Ok, Err}
use Rattle.mely_history.specs.declared.shape.Shape.{Shape}
use Rattle.sws_link.specs.declared.Folder.{Ghosts as FolderWords}
use Rattle.sws_link.specs.declared.Source.{Ghosts as SourceWords}
use Rattle.sws_link.specs.declared.Link.{Ghosts as LinkWords}
use Rattle.sws_link.specs.declared.Sink.{Ghosts as SinkWords}
use Rattle.sws_link.specs.declared.world.World.{Ghosts as WorldWords}
use Rattle.sws_steps.specs.declared.talk.Talk.{Ghosts as TalkWords}
use Rattle.sws_gopher.specs.Menus.{Place, place_of}
use Rattle.sws_replay.specs.Accepted.{EndsAccepted}
use Rattle.sws_replay.specs.Expected.{Expected, by_http}
use Rattle.sws_replay.specs.Replays.{IsReplay, WritesOne}
use Rattle.sws_replay.specs.declared.fault.RunFault.{RunFault}
use Rattle.sws_replay.specs.declared.fault.RunFault.TheVariants as run_fault
use Rattle.sws_replay.proofs.AcceptLemmas.{replayed_accepted, scheduled_accepted}
use Rattle.sws_script.specs.declared.input.Input.{Input}
use Rattle.sws_site.specs.Site.{SiteState}
use Rattle.sws_words.specs.Orders.{Order, answer, replay, serve, bench, check, gopher}
use Rattle.sws_top.specs.declared.faults.TopFault.{TopFault}
use Rattle.sws_top.specs.declared.faults.TopFault.TheVariants.{Memory}
use Rattle.sws_top.specs.declared.outcomes.Outcome.{Outcome}
use Rattle.sws_top.specs.Faults.{fault_of_run}
use Rattle.sws_top.specs.Hands.{Hands}
use Rattle.sws_top.specs.Printed.{PrintsAccepted, PrintsJournal}
use Rattle.sws_top.specs.Ran.{RanAs}
use Rattle.sws_top.specs.RanGopher.{by_gopher, RanGopherScript}
use Rattle.sws_top.specs.RanReplay.{RanReplay, RunsScript, IsReplayText}
use Rattle.sws_top.specs.Ranges.{run_shape}
use Rattle.sws_top.specs.Scripts.{IsInputRead}
use Rattle.sws_top.specs.Texts.{WritesText}

-- without a fault one of the texts was written whole
written : {O : Type 0} (o : SinkWords O) (out now : O) (fault : Option TopFault) (IsText : List ℕ → Type 0) (sent : List ℕ) → WritesText o out now fault IsText → fault ≡ None → o.written out ≡ Some sent
    → (text : List ℕ) × IsText text × (o.written now ≡ Some (sent ++ text))
written o out now fault IsText sent writes none told = by_answer writes.answer (sym none ∙ writes.ended) (subst (λ (before : Option (List ℕ)). WritesOne IsText before (o.written now) writes.answer) told writes.writes)
  where
    by_answer : {T : Type 0} (answer : Result T RunFault) → None ≡ fault_of_run answer → WritesOne IsText (Some sent) (o.written now) answer → (text : List ℕ) × IsText text × (o.written now ≡ Some (sent ++ text))
    by_answer (Ok value) is (bytes, same, behind) = (behind.0, behind.1, same ∙ (λ i. Some (behind.2 i)))
    by_answer (Err run_fault.Write) is one = cc
    by_answer (Err run_fault.Memory) is one = cc

module _ {R O : Type 0} (r : SourceWords R) (o : SinkWords O) (source source_now : R) (out out_now : O) (fault : Option TopFault) (sent : List ℕ) (none : fault ≡ None) (told : o.written out ≡ Some sent) where
  -- a text whose kind ends in an accepted journal
  printed : (schedule log : Bool) (shape : Shape) (input : Input) (expected : Expected) (IsText : List ℕ → Type 0) → ((text : List ℕ) → IsText text → EndsAccepted expected shape input.conns log text)
      → IsInputRead r schedule shape.cores source source_now input → WritesText o out out_now fault IsText → PrintsAccepted r o source source_now sent out_now schedule log shape
  printed schedule log shape input expected IsText ends read writes =
      let one = written o out out_now fault IsText sent writes none told in
      record { input = input; read = read; expected = expected; text = one.0; ends = ends one.0 one.1; written = one.2 }

  printed_replay : (site : SiteState) (shape : Shape) (input : Input) (journal schedule log : Bool) → (journal || schedule) ≡ true → IsInputRead r schedule shape.cores source source_now input
      → WritesText o out out_now fault (IsReplayText shape journal schedule log site input) → PrintsAccepted r o source source_now sent out_now schedule log shape
  printed_replay site shape input journal true log asked read writes =
      printed true log shape input (by_http site) (IsReplayText shape journal true log site input) (scheduled_accepted site shape input log) read writes
  printed_replay site shape input true false log asked read writes =
      printed false log shape input (by_http site) (IsReplayText shape true false log site input) (replayed_accepted (by_http site) shape input.conns log) read writes
  printed_replay site shape input false false log asked read writes = cc

  printed_script : (expected : Expected) (shape : Shape) (log : Bool) → RunsScript r o source source_now out out_now fault expected shape log true → PrintsAccepted r o source source_now sent out_now false log shape
  printed_script expected shape log (inl (cause, is, lacks, untouched)) = absurd (let other : Some cause ≡ None = sym is ∙ none in cc)
  printed_script expected shape log (inr (input, read, writes)) = printed false log shape input expected (IsReplay expected shape input.conns log true) (replayed_accepted expected shape input.conns log) read writes

module _ {F R O : Type 0} (f : FolderWords F) (r : SourceWords R) (o : SinkWords O) (before now : Hands F R O) (fault : Option TopFault) (sent : List ℕ) (none : fault ≡ None) (told : o.written before.out ≡ Some sent) where
  by_replay : (path : List ℕ) (shape : Shape) (date : Option ℕ) (journal schedule log : Bool) → (journal || schedule) ≡ true → RanReplay f r o before now fault path shape date journal schedule log
      → PrintsAccepted r o before.source now.source sent now.out schedule log shape
  by_replay path shape date journal schedule log asked (inl (cause, is, lacks, untouched)) = absurd (let other : Some cause ≡ None = sym is ∙ none in cc)
  by_replay path shape date journal schedule log asked (inr (site, loaded, inl (cause, is, lacks, untouched))) = absurd (let other : Some cause ≡ None = sym is ∙ none in cc)
  by_replay path shape date journal schedule log asked (inr (site, loaded, inr (input, read, writes))) =
      printed_replay r o before.source now.source before.out now.out fault sent none told site shape input journal schedule log asked read writes

  by_gopher_script : (path host : List ℕ) (port : ℕ) (shape : Shape) → RanGopherScript f r o before now fault path host port shape true → PrintsAccepted r o before.source now.source sent now.out false false shape
  by_gopher_script path host port shape (inl (cause, is, lacks, untouched)) = absurd (let other : Some cause ≡ None = sym is ∙ none in cc)
  by_gopher_script path host port shape (inr (site, loaded, inl (is, untouched))) = absurd (let other : Some Memory ≡ None = sym is ∙ none in cc)
  by_gopher_script path host port shape (inr (site, loaded, inr ran)) =
      printed_script r o before.source now.source before.out now.out fault sent none told (by_gopher (place_of site host port)) shape false ran

module _ {F R W L O T G T' G' : Type 0} (f : FolderWords F) (r : SourceWords R) (x : WorldWords W L) (l : LinkWords L) (o : SinkWords O) (y : TalkWords T L G SiteState) (z : TalkWords T' L G' Place)
    (before now : Hands F R O) (world : W) (outcome : Outcome W L) (sent : List ℕ) (none : outcome.fault ≡ None) (told : o.written before.out ≡ Some sent) where
  -- what a run has printed of its journal
  pub prints_journal : (order : Order) → RanAs f r x l o y z before now world outcome order → PrintsJournal r o before now sent order
  prints_journal (answer path date) ran = tt
  prints_journal (replay path shape date journal schedule log) ran = λ asked. by_replay f r o before now outcome.fault sent none told path (run_shape shape) date journal schedule log asked ran.0
  prints_journal (serve path port connections shape date log) ran = tt
  prints_journal (bench connections number shape) ran = tt
  prints_journal (check connections shape log) ran = tt
  prints_journal (gopher path host port None shape true) ran = λ asked. by_gopher_script f r o before now outcome.fault sent none told path host port (run_shape shape) ran.0
  prints_journal (gopher path host port None shape false) ran = λ asked. cc
  prints_journal (gopher path host port (Some connections) shape journal) ran = tt

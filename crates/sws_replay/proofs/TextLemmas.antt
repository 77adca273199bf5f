-- What is written of a run.
use Rattle.std.proofs.Common.{◌≡◌, ◌≢◌, ℕ, zero, suc, ◌+◌, ◌<◌, Bool, true, false, List, [], ◌∷◌, ◌++◌, Option, None, Some, Result, Vec, Global, length, map, drop, get_or, drop-cons, append-nil, append_assoc, refl, sym, ap, ◌∙◌, subst, arith, inr}
use Rattle.std.specs.Prelude.{slice_get, if◌then◌else◌}
use Rattle.std.proofs.lemmas.Option.{same_Some}
use Rattle.std.specs.List.{AllByRecursion}
use Rattle.mely_history.specs.Kept.{HistoryState, shown_of as entries_shown}
use Rattle.mely_history.specs.declared.entry.Entry.{Entry}
use Rattle.mely_history.specs.declared.shape.Shape.{Shape}
use Rattle.sws_steps.specs.declared.End.{End}
use Rattle.mely_check.specs.Journals.{IsFitHistory}
use Rattle.sws_weave.specs.ServerRun.{IsServerRun}
use Rattle.sws_handlers.specs.declared.ended.Ended.{Ended}
use Rattle.sws_handlers.specs.declared.ended.Served.{Served}
use Rattle.sws_link.specs.Contents.{Puts}
use Rattle.sws_link.specs.Counts.{Count, HasCause}
use Rattle.sws_link.specs.MemLink.{MemLinkState}
use Rattle.sws_link.specs.MemWorld.{MemWorldState}
use Rattle.sws_link.specs.declared.Put.{Put}
use Rattle.sws_link.specs.declared.Put.TheVariants as put
use Rattle.mely_journal.specs.Journal.{journal}
use Rattle.sws_report.specs.Transcript.{transcript, transcript_from, conn_text}
use Rattle.sws_replay.proofs.GoingLemmas.{Going, Going-moved, Going-written, Going-stopped, Going-cause}
use Rattle.sws_log.specs.Lines.{log_text}
use Rattle.sws_log.specs.declared.line.LogLine.{LogLine}
use Rattle.sws_script.specs.Scripted.{script_of}
use Rattle.sws_script.specs.declared.input.Input.{Input}
use Rattle.sws_script.specs.declared.input.ScriptConn.{ScriptConn}
use Rattle.sws_site.specs.Site.{SiteState}
use Rattle.sws_replay.specs.declared.fault.RunFault.{RunFault}
use Rattle.sws_replay.specs.Expected.{Expected, by_http}
use Rattle.sws_replay.specs.Histories.{AreServed}
use Rattle.sws_replay.specs.Logs.{IsLog}
use Rattle.sws_replay.specs.Replays.{IsReplay, IsScheduledReplay, WritesOne, result_of}
use Rattle.sws_replay.specs.Runs.{IsServedAlone, ServesAll, histories_of, RunsWell}
use Rattle.sws_replay.specs.Showing.{IsShowable, journal_part, shown_end, shown_bytes, shown_of}
use Rattle.sws_replay.specs.Transcripts.{ended_alone, transcript_of}

-- each connection was served as if it were alone
abbrev AreAlone : Expected → List ScriptConn → List (Served MemLinkState) → Type 0
AreAlone expected conns served = (i : ℕ) (conn : ScriptConn) (s : Served MemLinkState) → slice_get conns i ≡ Some conn → slice_get served i ≡ Some s → IsServedAlone expected conn s

shown_alone : (expected : Expected) (conns : List ScriptConn) (served : List (Served MemLinkState)) → length served ≡ length conns → AreAlone expected conns served → map shown_of served ≡ map (ended_alone expected) conns
shown_alone expected [] [] many each = refl
shown_alone expected [] (s ∷ served) many each = absurd (omega (arith, many))
shown_alone expected (conn ∷ conns) [] many each = absurd (omega (arith, many))
shown_alone expected (conn ∷ conns) (s ∷ served) many each =
    let one = each zero conn s refl refl in
    let end_is = ap shown_end one.end in
    let bytes_are = ap shown_bytes one.there ∙ one.bytes in
    let same : shown_of s ≡ ended_alone expected conn = λ i. (end_is i, bytes_are i) in
    let rest = shown_alone expected conns served (omega (arith, many)) (λ i. each (suc i)) in
    λ i. same i ∷ rest i

-- the transcript of what was served is the one-core transcript
transcript_alone : (expected : Expected) (conns : List ScriptConn) (ended : Ended MemWorldState MemLinkState) → ServesAll expected conns ended → transcript (map shown_of ended.served.items) ≡ transcript_of expected conns
unfolding transcript_of
transcript_alone expected conns ended all = ap (λ (t : List (End × List ℕ)). transcript t) (shown_alone expected conns ended.served.items all.many all.each)

showable : (expected : Expected) (conns : List ScriptConn) (served : List (Served MemLinkState)) → length served ≡ length conns → AreAlone expected conns served → AllByRecursion IsShowable served
showable expected conns [] many each = tt
showable expected [] (s ∷ served) many each = absurd (omega (arith, many))
showable expected (conn ∷ conns) (s ∷ served) many each =
    let one = each zero conn s refl refl in
    (record { link = one.link; there = one.there; end = _; is = one.end; fine = one.fine }, showable expected conns served (omega (arith, many)) (λ i. each (suc i)))

-- and each connection can be shown
pub all_showable : (expected : Expected) (conns : List ScriptConn) (ended : Ended MemWorldState MemLinkState) → ServesAll expected conns ended → AllByRecursion IsShowable ended.served.items
all_showable expected conns ended all = showable expected conns ended.served.items all.many all.each

-- ---- how a replay ends

-- by the last write of one of its texts
writes_one : (IsText : List ℕ → Type 0) (text : List ℕ) (before after : Option (List ℕ)) (answer : Put) → IsText text → Puts before after answer text → WritesOne IsText before after (result_of answer)
writes_one IsText text None after answer is puts = puts
writes_one IsText text (Some before) after put.Done is puts = (before ++ text, puts, (text, is, refl))
writes_one IsText text (Some before) after put.Failed is puts = (before ++ puts.0, puts.2, (puts.0, (text, is, puts.1), refl))
writes_one IsText text (Some before) after put.Memory is puts = (before ++ puts.0, puts.2, (puts.0, inr (text, is, puts.1), refl))

-- ---- the transcript, connection by connection

-- so far what stands before a connection was written, and no write failed
pub record Shown (before now : Option (List ℕ)) (faults_before faults_now : Count) (number index : ℕ) (served : List (Served MemLinkState)) : Type 0 where
  pub going : Going before now faults_before faults_now [] (transcript_from number (map shown_of (drop index served))) (transcript (map shown_of served))
  pub counted : number ≡ index

module _ (a b c : Option (List ℕ)) (m n k : Count) (number index : ℕ) (served : List (Served MemLinkState)) (s : Served MemLinkState) (at : drop index served ≡ s ∷ drop (index + 1) served) (shown : Shown a b m n number index served) where
  abbrev text : List ℕ
  text = conn_text number (shown_of s).0 (shown_of s).1

  abbrev left : List ℕ
  left = transcript_from (number + 1) (map shown_of (drop (index + 1) served))

  -- the text of the next connection comes next
  next : Going a b m n text left (transcript (map shown_of served))
  next = Going-moved a b m n [] (transcript_from number (map shown_of (drop index served))) text left (transcript (map shown_of served)) shown.going
      (sym (ap (λ (l : List (Served MemLinkState)). transcript_from number (map shown_of l)) at))

  pub Shown-more : Puts b c put.Done text → HasCause n k (put.Done ≡ put.Failed) → Shown a c m k (number + 1) (index + 1) served
  Shown-more puts cause = record {
    going = Going-written a b c m n k text [] left (transcript (map shown_of served)) next puts cause refl;
    counted = let same = shown.counted in omega (arith, same);
  }

  pub Shown-stopped : (answer : Put) → answer ≢ put.Done → Puts b c answer text → Puts a c answer (transcript (map shown_of served))
  Shown-stopped answer stop puts = Going-stopped a b c m n text left (transcript (map shown_of served)) answer next stop puts

  pub Shown-cause : (F : Type 0) → HasCause n k F → HasCause m k F
  Shown-cause F cause = Going-cause a b m n k text left (transcript (map shown_of served)) F next cause

-- the connection at a place comes next
pub next_shown : (served : List (Served MemLinkState)) (index : ℕ) (s : Served MemLinkState) → index < length served → s ≡ get_or served index s → drop index served ≡ s ∷ drop (index + 1) served
next_shown served index s low is =
    let one : suc index ≡ index + 1 = omega arith in
    drop-cons served index s low ∙ ap (λ (x : Served MemLinkState). x ∷ drop (suc index) served) (sym is) ∙ ap (λ (n : ℕ). s ∷ drop n served) one

-- ---- the texts of a replay

module _ (expected : Expected) (shape : Shape) (conns : List ScriptConn) (log : Bool) (ended : Ended MemWorldState MemLinkState) (ran : RunsWell expected shape conns log ended) (before after : Option (List ℕ)) (answer : Put) (result : Result (Unit {0}) RunFault) (is : result ≡ result_of answer) where
  abbrev shown : List ℕ
  shown = transcript (map shown_of ended.served.items)

  abbrev lines : List ℕ
  lines = log_text ended.log.items

  abbrev behind : List ℕ
  behind = journal (histories_of ended)

  same : shown ≡ transcript_of expected conns
  same = transcript_alone expected conns ended ran.serves

  without : shown ++ (lines ++ []) ≡ transcript_of expected conns ++ lines
  without = ap (λ (l : List ℕ). shown ++ l) (append-nil lines) ∙ ap (λ (t : List ℕ). t ++ lines) same

  whole : shown ++ (lines ++ behind) ≡ transcript_of expected conns ++ lines ++ behind
  whole = sym (append_assoc shown lines behind) ∙ ap (λ (t : List ℕ). t ++ lines ++ behind) same

  pub replayed : (asked : Bool) → (asked ≡ true → AllByRecursion IsFitHistory (histories_of ended)) → Puts before after answer (shown ++ (lines ++ journal_part asked (histories_of ended))) → WritesOne (IsReplay expected shape conns log asked) before after result
  replayed false fit puts =
      subst (WritesOne (IsReplay expected shape conns log false) before after) (sym is)
      (writes_one (IsReplay expected shape conns log false) (shown ++ (lines ++ [])) before after answer (ended.log.items, ran.logged, without) puts)
  replayed true fit puts =
      subst (WritesOne (IsReplay expected shape conns log true) before after) (sym is)
      (writes_one (IsReplay expected shape conns log true) (shown ++ (lines ++ behind)) before after answer (ended.log.items, histories_of ended, ran.logged, ran.served, record { many = ran.served.shards; fit = fit refl }, whole) puts)

-- the text of a replay of HTTP by a schedule
module _ (site : SiteState) (shape : Shape) (conns : List ScriptConn) (log : Bool) (ended : Ended MemWorldState MemLinkState) (ran : RunsWell (by_http site) shape conns log ended) (before after : Option (List ℕ)) (answer : Put) (result : Result (Unit {0}) RunFault) (is : result ≡ result_of answer) where
  pub by_schedule : (input : Input) → input.conns ≡ conns → IsServerRun shape log site (map script_of conns) input.steps (histories_of ended) → (true ≡ true → AllByRecursion IsFitHistory (histories_of ended))
      → Puts before after answer (transcript (map shown_of ended.served.items) ++ (log_text ended.log.items ++ journal (histories_of ended))) → WritesOne (IsScheduledReplay site shape input log) before after result
  by_schedule input conns_are run fit puts =
      let all = ended.log.items in
      let text_is : transcript (map shown_of ended.served.items) ++ (log_text all ++ journal (histories_of ended)) ≡ transcript_of (by_http site) input.conns ++ log_text all ++ journal (histories_of ended) =
      sym (append_assoc (transcript (map shown_of ended.served.items)) (log_text all) (journal (histories_of ended)))
      ∙ ap (λ (t : List ℕ). t ++ log_text all ++ journal (histories_of ended)) (transcript_alone (by_http site) conns ended ran.serves ∙ ap (λ (c : List ScriptConn). transcript_of (by_http site) c) (sym conns_are)) in
      let run_is = subst (λ (c : List ScriptConn). IsServerRun shape log site (map script_of c) input.steps (histories_of ended)) (sym conns_are) run in
      let logged_is = subst (λ (c : List ScriptConn). IsLog (by_http site) c log all) (sym conns_are) ran.logged in
      let served_is = subst (λ (c : List ScriptConn). AreServed (by_http site) shape c log all (histories_of ended)) (sym conns_are) ran.served in
      subst (WritesOne (IsScheduledReplay site shape input log) before after) (sym is)
      (writes_one (IsScheduledReplay site shape input log) (transcript (map shown_of ended.served.items) ++ (log_text all ++ journal (histories_of ended))) before after answer
      (all, histories_of ended, run_is, logged_is, served_is, record { many = ran.served.shards; fit = fit refl }, text_is) puts)

-- ---- the run itself

-- where nothing was written there is a front of every text
pub put_none : (before : Option (List ℕ)) (all : List ℕ) → Puts before before put.Memory all
put_none None all = refl
put_none (Some before) all = ([], (all, refl), ap (λ (bytes : List ℕ). Some bytes) (sym (append-nil before)))

-- the journal of histories is that of the same ones, where it is asked for
same_part : (asked : Bool) (lists histories : List (List Entry)) → (asked ≡ true → lists ≡ histories) → journal_part asked lists ≡ journal_part asked histories
same_part false lists histories are = refl
same_part true lists histories are = ap (λ (all : List (List Entry)). journal_part true all) (are refl)

-- what was taken out of a history that is listed are its entries
pub list_taken : (history : HistoryState) (entries : List Entry) → history.listed ≡ true → Some entries ≡ entries_shown history → entries ≡ history.items
list_taken history entries listed taken = same_Some entries history.items (taken ∙ ap (λ (b : Bool). if b then Some history.items else None) listed)

-- the text of a run, of what was read of its parts
pub run_text : (before now : Option (List ℕ)) (result : Put) (served seen : List (Served MemLinkState)) (lines shown : List LogLine) (lists read : List (Vec Entry Global)) (histories : List (List Entry)) (asked : Bool)
    → seen ≡ served → shown ≡ lines → read ≡ lists → (asked ≡ true → map (λ list. list.items) lists ≡ histories)
    → Puts before now result (transcript (map shown_of seen) ++ (log_text shown ++ journal_part asked (map (λ list. list.items) read))) → Puts before now result (transcript (map shown_of served) ++ (log_text lines ++ journal_part asked histories))
run_text before now result served seen lines shown lists read histories asked served_is lines_is lists_is same =
    let parts : journal_part asked (map (λ list. list.items) read) ≡ journal_part asked histories = ap (λ (ls : List (Vec Entry Global)). journal_part asked (map (λ list. list.items) ls)) lists_is ∙ same_part asked (map (λ list. list.items) lists) histories same in
    let text : transcript (map shown_of seen) ++ (log_text shown ++ journal_part asked (map (λ list. list.items) read)) ≡ transcript (map shown_of served) ++ (log_text lines ++ journal_part asked histories) =
    ap (λ (s : List (Served MemLinkState)). transcript (map shown_of s) ++ (log_text shown ++ journal_part asked (map (λ list. list.items) read))) served_is
    ∙ ap (λ (ls : List LogLine). transcript (map shown_of served) ++ (log_text ls ++ journal_part asked (map (λ list. list.items) read))) lines_is
    ∙ ap (λ (part : List ℕ). transcript (map shown_of served) ++ (log_text lines ++ part)) parts in
    λ puts. subst (λ (bytes : List ℕ). Puts before now result bytes) text puts

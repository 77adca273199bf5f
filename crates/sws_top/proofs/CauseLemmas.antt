-- What follows of a run, whatever its order: the cause of its fault, and that
-- without a cause all was done.
use Rattle.std.specs.Prelude.{Ok, Err, is_some}
use Rattle.std.proofs.Common.{◌≡◌, ◌≢◌, ◌⊎◌, inl, inr, ℕ, Bool, false, List, Option, Some, None, IsSome, refl, sym, ap, ◌∙◌, subst, Result}
use Rattle.mely_check.specs.Verdicts.{Accepts, IsAcceptance}
use Rattle.mely_check.specs.declared.fault.CheckFault.{CheckFault}
use Rattle.mely_check.specs.declared.fault.CheckFault.TheVariants as check_fault
use Rattle.mely_check.specs.declared.report.Report.{Report}
use Rattle.mely_history.specs.declared.setup.Setup.{Setup}
use Rattle.mely_history.specs.declared.shape.Shape.{Shape}
use Rattle.sws_link.proofs.CountLemmas.{HasCause-none, HasCause-as}
use Rattle.sws_link.specs.Counts.{Count, Rose, HasCause}
use Rattle.sws_link.specs.Told.{FolderContents}
use Rattle.sws_link.specs.Worlds.{Listens}
use Rattle.sws_link.specs.declared.Folder.{Ghosts as FolderWords}
use Rattle.sws_link.specs.declared.Source.{Ghosts as SourceWords}
use Rattle.sws_link.specs.declared.Link.{Ghosts as LinkWords}
use Rattle.sws_link.specs.declared.Opened.{Opened}
use Rattle.sws_link.specs.declared.Opened.TheVariants as opened
use Rattle.sws_link.specs.declared.Sink.{Ghosts as SinkWords}
use Rattle.sws_link.specs.declared.world.World.{Ghosts as WorldWords}
use Rattle.sws_steps.specs.declared.talk.Talk.{Ghosts as TalkWords}
use Rattle.sws_handlers.specs.declared.ended.Ended.{Ended}
use Rattle.sws_handlers.specs.declared.ended.Verdict.{Verdict}
use Rattle.sws_handlers.specs.declared.ended.Verdict.TheVariants as verdict
use Rattle.sws_replay.specs.declared.fault.RunFault.{RunFault}
use Rattle.sws_replay.specs.declared.fault.RunFault.TheVariants as run_fault
use Rattle.sws_script.proofs.AnswerLemmas.{no_fault, no_many}
use Rattle.sws_script.specs.Grammar.{IsCause}
use Rattle.sws_script.specs.declared.fault.ScriptFault.TheVariants as script_fault
use Rattle.sws_site.proofs.LimitLemmas.{limit_of-none}
use Rattle.sws_site.specs.Limits.{limit_of}
use Rattle.sws_site.specs.Options.{plain_options}
use Rattle.sws_site.specs.Site.{SiteState}
use Rattle.sws_gopher.specs.Menus.{Place, place_of}
use Rattle.sws_replay.specs.Accepted.{IsServerSetup}
use Rattle.sws_replay.specs.Replays.{IsReplay}
use Rattle.sws_words.specs.Orders.{Order, answer, replay, serve, bench, check, gopher}
use Rattle.sws_words.specs.Orders as orders
use Rattle.sws_top.specs.declared.faults.SiteLimit.{SiteLimit}
use Rattle.sws_top.specs.declared.faults.TopFault.{TopFault}
use Rattle.sws_top.specs.declared.faults.TopFault.TheVariants.{Usage, BadScript, ReadFault, WriteFault, WorldFault, Memory, SiteFull, TooMany, BadJournal, NotLegal, NotDrained, Apart}
use Rattle.sws_top.specs.declared.outcomes.Outcome.{Outcome}
use Rattle.sws_top.specs.Answered.{AnswersInput}
use Rattle.sws_top.specs.Causes.{TellsInput, HasLost, HasCauses, IsSound, NothingFailed, IsDone}
use Rattle.sws_top.specs.Checked.{TellsDrainedRun, report_text}
use Rattle.sws_top.specs.Faults.{refusal_of, fault_of_run, EndsAnswering}
use Rattle.sws_top.specs.Hands.{Hands}
use Rattle.sws_top.specs.Ran.{IsUntouched, Ran, RanAs}
use Rattle.sws_top.specs.RanAnswer.{RanAnswer}
use Rattle.sws_top.specs.RanCheck.{WritesFound}
use Rattle.sws_top.specs.RanGopher.{by_gopher, RanGopher, RanGopherScript, RanGopherServe}
use Rattle.sws_top.specs.RanReplay.{RanReplay, IsReplayText}
use Rattle.sws_top.specs.RanServe.{IsBack, LacksWorld, EndsBy, HasServedPort, RanServe}
use Rattle.sws_bench.specs.BenchSummary.{bench_summary}
use Rattle.sws_top.specs.Ranges.{run_shape}
use Rattle.sws_top.specs.Scripts.{LacksInput, HasNoInput}
use Rattle.sws_top.specs.Sites.{LacksSite, HasNoSite, TellsWithinLimits}
use Rattle.sws_top.specs.Texts.{WritesText}
use Rattle.sws_top.proofs.ServeLemmas.{held_of, never_lost, rose_of}

-- ---- one object after another

-- A count, by the fault with which a run ends: it rose where the fault is its
-- own, and else it stands.
record Reads (folder folder_now source source_now : Count) (fault : Option TopFault) : Type 0 where
  rose : fault ≡ Some ReadFault → Rose folder folder_now ⊎ Rose source source_now
  stays : fault ≢ Some ReadFault → (folder_now ≡ folder) × (source_now ≡ source)

-- a fault other than one of reading, with both counts as they were
not_read : {a b c d : Count} (fault : Option TopFault) → fault ≢ Some ReadFault → b ≡ a → d ≡ c → Reads a b c d fault
not_read fault other e f = record { rose = λ is. absurd (other is); stays = λ _. (e, f) }

module _ {F : Type 0} (f : FolderWords F) (path : List ℕ) (before now : F) (source source_now : Count) (same : source_now ≡ source) where
  site_reads : (cause : TopFault) → HasNoSite f path before now cause → Reads (f.faults before) (f.faults now) source source_now (Some cause)
  site_reads ReadFault lacks = record { rose = λ _. inl lacks.why.0; stays = λ other. absurd (other refl) }
  site_reads Memory lacks = not_read (Some Memory) (λ e. cc) lacks.why.0 same
  site_reads (SiteFull limit) lacks = not_read (Some (SiteFull limit)) (λ e. cc) lacks.why.0 same
  site_reads Usage lacks = absurd lacks.why
  site_reads (BadScript line) lacks = absurd lacks.why
  site_reads WriteFault lacks = absurd lacks.why
  site_reads WorldFault lacks = absurd lacks.why
  site_reads (TooMany line) lacks = absurd lacks.why
  site_reads (BadJournal line) lacks = absurd lacks.why
  site_reads (NotLegal line) lacks = absurd lacks.why
  site_reads (NotDrained colour) lacks = absurd lacks.why
  site_reads (Apart conn) lacks = absurd lacks.why

module _ {R : Type 0} (r : SourceWords R) (schedule : Bool) (cores : ℕ) (before now : R) (folder folder_now : Count) (same : folder_now ≡ folder) where
  input_reads : (cause : TopFault) → HasNoInput r schedule cores before now cause → Reads folder folder_now (r.faults before) (r.faults now) (Some cause)
  input_reads ReadFault lacks = record { rose = λ _. inr lacks.why; stays = λ other. absurd (other refl) }
  input_reads Memory lacks = not_read (Some Memory) (λ e. cc) same lacks.why
  input_reads (BadScript line) lacks = not_read (Some (BadScript line)) (λ e. cc) same lacks.why.0
  input_reads (TooMany line) lacks = not_read (Some (TooMany line)) (λ e. cc) same lacks.why.0
  input_reads Usage lacks = absurd lacks.why
  input_reads WriteFault lacks = absurd lacks.why
  input_reads WorldFault lacks = absurd lacks.why
  input_reads (SiteFull limit) lacks = absurd lacks.why
  input_reads (BadJournal line) lacks = absurd lacks.why
  input_reads (NotLegal line) lacks = absurd lacks.why
  input_reads (NotDrained colour) lacks = absurd lacks.why
  input_reads (Apart conn) lacks = absurd lacks.why

-- the causes of a text's end
text_ends : {T : Type 0} (answer : Result T RunFault) (fault : Option TopFault) → fault ≡ fault_of_run answer
    → (fault ≢ Some ReadFault) × ((fault ≡ Some WriteFault → answer ≡ Err run_fault.Write) × (answer ≡ Err run_fault.Write → fault ≡ Some WriteFault))
text_ends (Ok value) fault is = (λ e. cc, (λ e. cc, λ e. cc))
text_ends (Err run_fault.Write) fault is = (λ e. cc, (λ e. refl, λ e. is))
text_ends (Err run_fault.Memory) fault is = (λ e. cc, (λ e. cc, λ e. cc))

module _ {O : Type 0} (o : SinkWords O) (before now : O) (fault : Option TopFault) (IsText : List ℕ → Type 0) (writes : WritesText o before now fault IsText) where
  text_write : HasCause (o.faults before) (o.faults now) (fault ≡ Some WriteFault)
  text_write =
      let ends = text_ends writes.answer fault writes.ended in
      HasCause-as (o.faults before) (o.faults before) (o.faults now) _ _ refl writes.cause ends.1.1 ends.1.0

  text_no_read : fault ≢ Some ReadFault
  text_no_read = (text_ends writes.answer fault writes.ended).0

-- ---- a run that asks nothing of the world

-- the fault isn't the world's
record NotTheWorlds (fault : Option TopFault) : Type 0 where
  pub unfailed : fault ≢ Some WorldFault
  pub unlost : (conn : ℕ) → fault ≢ Some (Apart conn)

site_fault_kind : {F : Type 0} (f : FolderWords F) (path : List ℕ) (before now : F) (cause : TopFault) → LacksSite f path before now cause
    → (Some cause ≢ Some WriteFault) × NotTheWorlds (Some cause)
site_fault_kind f path before now ReadFault lacks = (λ e. cc, record { unfailed = λ e. cc; unlost = λ conn e. cc })
site_fault_kind f path before now Memory lacks = (λ e. cc, record { unfailed = λ e. cc; unlost = λ conn e. cc })
site_fault_kind f path before now (SiteFull limit) lacks = (λ e. cc, record { unfailed = λ e. cc; unlost = λ conn e. cc })
site_fault_kind f path before now Usage lacks = absurd lacks
site_fault_kind f path before now (BadScript line) lacks = absurd lacks
site_fault_kind f path before now WriteFault lacks = absurd lacks
site_fault_kind f path before now WorldFault lacks = absurd lacks
site_fault_kind f path before now (TooMany line) lacks = absurd lacks
site_fault_kind f path before now (BadJournal line) lacks = absurd lacks
site_fault_kind f path before now (NotLegal line) lacks = absurd lacks
site_fault_kind f path before now (NotDrained colour) lacks = absurd lacks
site_fault_kind f path before now (Apart conn) lacks = absurd lacks

input_fault_kind : {R : Type 0} (r : SourceWords R) (schedule : Bool) (cores : ℕ) (before now : R) (cause : TopFault) → LacksInput r schedule cores before now cause
    → (Some cause ≢ Some WriteFault) × NotTheWorlds (Some cause)
input_fault_kind r schedule cores before now ReadFault lacks = (λ e. cc, record { unfailed = λ e. cc; unlost = λ conn e. cc })
input_fault_kind r schedule cores before now Memory lacks = (λ e. cc, record { unfailed = λ e. cc; unlost = λ conn e. cc })
input_fault_kind r schedule cores before now (BadScript line) lacks = (λ e. cc, record { unfailed = λ e. cc; unlost = λ conn e. cc })
input_fault_kind r schedule cores before now (TooMany line) lacks = (λ e. cc, record { unfailed = λ e. cc; unlost = λ conn e. cc })
input_fault_kind r schedule cores before now Usage lacks = absurd lacks
input_fault_kind r schedule cores before now WriteFault lacks = absurd lacks
input_fault_kind r schedule cores before now WorldFault lacks = absurd lacks
input_fault_kind r schedule cores before now (SiteFull limit) lacks = absurd lacks
input_fault_kind r schedule cores before now (BadJournal line) lacks = absurd lacks
input_fault_kind r schedule cores before now (NotLegal line) lacks = absurd lacks
input_fault_kind r schedule cores before now (NotDrained colour) lacks = absurd lacks
input_fault_kind r schedule cores before now (Apart conn) lacks = absurd lacks

answer_kind : (fault : Option TopFault) → EndsAnswering fault → NotTheWorlds fault
answer_kind None ends = record { unfailed = λ e. cc; unlost = λ conn e. cc }
answer_kind (Some ReadFault) ends = record { unfailed = λ e. cc; unlost = λ conn e. cc }
answer_kind (Some WriteFault) ends = record { unfailed = λ e. cc; unlost = λ conn e. cc }
answer_kind (Some Memory) ends = record { unfailed = λ e. cc; unlost = λ conn e. cc }
answer_kind (Some Usage) ends = absurd ends
answer_kind (Some (BadScript line)) ends = absurd ends
answer_kind (Some WorldFault) ends = absurd ends
answer_kind (Some (SiteFull limit)) ends = absurd ends
answer_kind (Some (TooMany line)) ends = absurd ends
answer_kind (Some (BadJournal line)) ends = absurd ends
answer_kind (Some (NotLegal line)) ends = absurd ends
answer_kind (Some (NotDrained colour)) ends = absurd ends
answer_kind (Some (Apart conn)) ends = absurd ends

text_kind : {T : Type 0} (answer : Result T RunFault) (fault : Option TopFault) → fault ≡ fault_of_run answer → NotTheWorlds fault
text_kind (Ok value) fault is = record { unfailed = λ e. cc; unlost = λ conn e. cc }
text_kind (Err run_fault.Write) fault is = record { unfailed = λ e. cc; unlost = λ conn e. cc }
text_kind (Err run_fault.Memory) fault is = record { unfailed = λ e. cc; unlost = λ conn e. cc }

module _ {F R O : Type 0} (f : FolderWords F) (r : SourceWords R) (o : SinkWords O) (before now : Hands F R O) where
  record Fate (fault : Option TopFault) : Type 0 where
    reads : Reads (f.faults before.folder) (f.faults now.folder) (r.faults before.source) (r.faults now.source) fault
    write : HasCause (o.faults before.out) (o.faults now.out) (fault ≡ Some WriteFault)
    kind : NotTheWorlds fault

  -- a run that ended before there was a site
  site_fate : (path : List ℕ) (cause : TopFault) → HasNoSite f path before.folder now.folder cause → now.source ≡ before.source → now.out ≡ before.out → Fate (Some cause)
  site_fate path cause lacks source out =
      let kind = site_fault_kind f path before.folder now.folder cause lacks.why in
      record {
        reads = site_reads f path before.folder now.folder (r.faults before.source) (r.faults now.source) (ap r.faults source) cause lacks;
        write = HasCause-none (o.faults before.out) (o.faults now.out) (Some cause ≡ Some WriteFault) (ap o.faults out) kind.0;
        kind = kind.1;
      }

  -- a run that ended before there was an input
  input_fate : (schedule : Bool) (cores : ℕ) (cause : TopFault) → f.faults now.folder ≡ f.faults before.folder → HasNoInput r schedule cores before.source now.source cause
      → now.out ≡ before.out → Fate (Some cause)
  input_fate schedule cores cause folder lacks out =
      let kind = input_fault_kind r schedule cores before.source now.source cause lacks.why in
      record {
        reads = input_reads r schedule cores before.source now.source (f.faults before.folder) (f.faults now.folder) folder cause lacks;
        write = HasCause-none (o.faults before.out) (o.faults now.out) (Some cause ≡ Some WriteFault) (ap o.faults out) kind.0;
        kind = kind.1;
      }

  answer_fate : (site : SiteState) (fault : Option TopFault) → f.faults now.folder ≡ f.faults before.folder
      → AnswersInput r o site before.source now.source before.out now.out fault → Fate fault
  answer_fate site fault folder answers = record {
    reads = record { rose = λ is. inr (answers.read_cause.rose is); stays = λ other. (folder, answers.read_cause.stays other) };
    write = answers.write_cause;
    kind = answer_kind fault answers.ends;
  }

  text_fate : (fault : Option TopFault) (IsText : List ℕ → Type 0) → f.faults now.folder ≡ f.faults before.folder → r.faults now.source ≡ r.faults before.source
      → WritesText o before.out now.out fault IsText → Fate fault
  text_fate fault IsText folder source writes = record {
    reads = not_read fault (text_no_read o before.out now.out fault IsText writes) folder source;
    write = text_write o before.out now.out fault IsText writes;
    kind = text_kind writes.answer fault writes.ended;
  }

  fate_as : (fault : Option TopFault) (cause : TopFault) → fault ≡ Some cause → Fate (Some cause) → Fate fault
  fate_as fault cause is fate = subst (λ (k : Option TopFault). Fate k) (sym is) fate

  -- a run of `check` that has found this fault of its journal, or no memory to judge it
  unread_fate : (cause : TopFault) → Some cause ≢ Some ReadFault → Some cause ≢ Some WriteFault → NotTheWorlds (Some cause) → f.faults now.folder ≡ f.faults before.folder
      → r.faults now.source ≡ r.faults before.source → now.out ≡ before.out → Fate (Some cause)
  unread_fate cause read write kind folder source out = record {
    reads = not_read (Some cause) read folder source;
    write = HasCause-none (o.faults before.out) (o.faults now.out) (Some cause ≡ Some WriteFault) (ap o.faults out) write;
    kind = kind;
  }

  check_fate : (found : Result Report CheckFault) (fault : Option TopFault) → f.faults now.folder ≡ f.faults before.folder
      → HasCause (r.faults before.source) (r.faults now.source) (found ≡ Err check_fault.Read) → WritesFound o before.out now.out fault found → Fate fault
  check_fate (Ok report) fault folder cause writes = text_fate fault (λ text. text ≡ report_text report) folder (cause.stays (λ e. cc)) writes
  check_fate (Err check_fault.Read) fault folder cause writes =
      fate_as fault ReadFault writes.0 (record {
        reads = record { rose = λ _. inr (cause.rose refl); stays = λ other. absurd (other refl) };
        write = HasCause-none (o.faults before.out) (o.faults now.out) (Some ReadFault ≡ Some WriteFault) (ap o.faults writes.1) (λ e. cc);
        kind = record { unfailed = λ e. cc; unlost = λ conn e. cc };
      })
  check_fate (Err (check_fault.BadJournal line)) fault folder cause writes =
      fate_as fault (BadJournal line) writes.0
      (unread_fate (BadJournal line) (λ e. cc) (λ e. cc) (record { unfailed = λ e. cc; unlost = λ conn e. cc }) folder (cause.stays (λ e. cc)) writes.1)
  check_fate (Err (check_fault.NotLegal line)) fault folder cause writes =
      fate_as fault (NotLegal line) writes.0
      (unread_fate (NotLegal line) (λ e. cc) (λ e. cc) (record { unfailed = λ e. cc; unlost = λ conn e. cc }) folder (cause.stays (λ e. cc)) writes.1)
  check_fate (Err (check_fault.NotDrained colour)) fault folder cause writes =
      fate_as fault (NotDrained colour) writes.0
      (unread_fate (NotDrained colour) (λ e. cc) (λ e. cc) (record { unfailed = λ e. cc; unlost = λ conn e. cc }) folder (cause.stays (λ e. cc)) writes.1)
  check_fate (Err check_fault.Memory) fault folder cause writes =
      fate_as fault Memory writes.0
      (unread_fate Memory (λ e. cc) (λ e. cc) (record { unfailed = λ e. cc; unlost = λ conn e. cc }) folder (cause.stays (λ e. cc)) writes.1)

-- ---- causes

module _ {F R W L O : Type 0} (f : FolderWords F) (r : SourceWords R) (x : WorldWords W L) (o : SinkWords O) (before now : Hands F R O) (world : W) (outcome : Outcome W L) where
  none_lost : IsBack world outcome → (conn : ℕ) → HasLost outcome conn → ⊥
  none_lost back conn lost = (let other : None ≡ Some lost.0 = sym back.none_ended ∙ lost.1 in cc)

  back_causes : Fate f r o before now outcome.fault → (last : W) → IsBack last outcome → HasCauses f r x o before now world outcome
  back_causes fate last back = record {
    read = fate.reads.rose;
    no_read = fate.reads.stays;
    write = fate.write;
    world_failed = λ is. absurd (fate.kind.unfailed is);
    lost = λ conn. (λ is. absurd (fate.kind.unlost conn is), λ lost. absurd (let other : None ≡ Some lost.0 = sym back.none_ended ∙ lost.1 in cc));
    either = inl (ap is_some back.back, back.none_ended);
  }

  -- nothing was touched
  untouched_causes : (fault : TopFault) → outcome.fault ≡ Some fault → (Some fault ≢ Some ReadFault) → (Some fault ≢ Some WriteFault) → NotTheWorlds (Some fault)
      → IsUntouched before now world outcome → HasCauses f r x o before now world outcome
  untouched_causes fault is read write kind untouched =
      let same = untouched.same in
      back_causes (fate_as f r o before now outcome.fault fault is (record {
        reads = not_read (Some fault) read (ap (λ (h : Hands F R O). f.faults h.folder) same) (ap (λ (h : Hands F R O). r.faults h.source) same);
        write = HasCause-none (o.faults before.out) (o.faults now.out) (Some fault ≡ Some WriteFault) (ap (λ (h : Hands F R O). o.faults h.out) same) write;
        kind = kind;
      })) world untouched.back

-- ---- causes of a run on the world

some_there : {A : Type 0} (o : Option A) → IsSome o → (a : A) × (o ≡ Some a)
some_there None some = cc
some_there (Some a) some = (a, refl)

module _ {F R W L O T G H : Type 0} (f : FolderWords F) (r : SourceWords R) (x : WorldWords W L) (l : LinkWords L) (o : SinkWords O) (y : TalkWords T L G H) (before now : Hands F R O) (world : W) (outcome : Outcome W L)
    (folder : f.faults now.folder ≡ f.faults before.folder) (source : r.faults now.source ≡ r.faults before.source) where
  memory_kind : NotTheWorlds (Some Memory)
  memory_kind = record { unfailed = λ e. cc; unlost = λ conn e. cc }

  memory_fate : now.out ≡ before.out → Fate f r o before now (Some Memory)
  memory_fate out = record {
    reads = not_read (Some Memory) (λ e. cc) folder source;
    write = HasCause-none (o.faults before.out) (o.faults now.out) (Some Memory ≡ Some WriteFault) (ap o.faults out) (λ e. cc);
    kind = memory_kind;
  }

  unready_causes : (port connections : ℕ) (answer : Opened) (last : W) → Listens x.tells x.faults x.waits world port connections answer last → LacksWorld answer outcome.fault
      → IsBack last outcome → now.out ≡ before.out → HasCauses f r x o before now world outcome
  unready_causes port connections opened.Ready last listens why back out = absurd why
  unready_causes port connections opened.Memory last listens why back out =
      back_causes f r x o before now world outcome (fate_as f r o before now outcome.fault Memory why (memory_fate out)) last back
  unready_causes port connections opened.Failed last listens why back out = record {
    read = λ is. absurd (let other : Some WorldFault ≡ Some ReadFault = sym why ∙ is in cc);
    no_read = λ _. (folder, source);
    write = HasCause-none (o.faults before.out) (o.faults now.out) (outcome.fault ≡ Some WriteFault) (ap o.faults out) (λ is. (let other : Some WorldFault ≡ Some WriteFault = sym why ∙ is in cc));
    world_failed = λ _. (last, inl back.back, listens.failed.rose refl);
    lost = λ conn. (
      λ is. absurd (let other : Some WorldFault ≡ Some (Apart conn) = sym why ∙ is in cc),
      λ lost. absurd (let other : None ≡ Some lost.0 = sym back.none_ended ∙ lost.1 in cc),
    );
    either = inl (ap is_some back.back, back.none_ended);
  }

  module _ (port connections : ℕ) (shape : Shape) (log : Bool) (hall : H) (served : HasServedPort x l o y before.out now.out world outcome port connections shape log hall) where
    -- there is one verdict
    one_verdict : (conn : ℕ) (v : Verdict) → served.ended.verdict ≡ v → HasLost outcome conn → v ≡ verdict.Apart conn
    one_verdict conn v is lost =
        let same : served.ended ≡ lost.0 = (let e : Some served.ended ≡ Some lost.0 = sym served.there ∙ lost.1 in cc) in
        sym is ∙ ap (λ (e : Ended W L). e.verdict) same ∙ lost.2

    served_causes : (v : Verdict) → served.ended.verdict ≡ v → EndsBy o before.out now.out outcome.fault served.ended.log.items served.ended.served.items v → HasCauses f r x o before now world outcome
    served_causes verdict.Ok is ends =
        let fate = text_fate f r o before now outcome.fault _ folder source ends in
        record {
          read = fate.reads.rose;
          no_read = fate.reads.stays;
          write = fate.write;
          world_failed = λ failed. absurd (fate.kind.unfailed failed);
          lost = λ conn. (λ lost. absurd (fate.kind.unlost conn lost), λ lost. absurd (let other = one_verdict conn verdict.Ok is lost in cc));
          either = inr (ap is_some served.there, served.gone);
        }
    served_causes verdict.Memory is ends =
        let fate = fate_as f r o before now outcome.fault Memory ends.0 (memory_fate ends.1) in
        record {
          read = fate.reads.rose;
          no_read = fate.reads.stays;
          write = fate.write;
          world_failed = λ failed. absurd (fate.kind.unfailed failed);
          lost = λ conn. (λ lost. absurd (fate.kind.unlost conn lost), λ lost. absurd (let other = one_verdict conn verdict.Memory is lost in cc));
          either = inr (ap is_some served.there, served.gone);
        }
    served_causes verdict.World is ends = record {
      read = λ failed. absurd (let other : Some WorldFault ≡ Some ReadFault = sym ends.0 ∙ failed in cc);
      no_read = λ _. (folder, source);
      write = HasCause-none (o.faults before.out) (o.faults now.out) (outcome.fault ≡ Some WriteFault) (ap o.faults ends.1) (λ failed. (let other : Some WorldFault ≡ Some WriteFault = sym ends.0 ∙ failed in cc));
      world_failed = λ _. let last = some_there served.ended.world (held_of x l y shape hall served.first log served.ended served.leaves is) in
          (last.0, inr (served.ended, served.there, last.1), rose_of x l y shape hall served.first log served.ended world port connections served.listens served.leaves last.0 last.1 is);
      lost = λ conn. (
        λ lost. absurd (let other : Some WorldFault ≡ Some (Apart conn) = sym ends.0 ∙ lost in cc),
        λ lost. absurd (let other = one_verdict conn verdict.World is lost in cc),
      );
      either = inr (ap is_some served.there, served.gone);
    }
    served_causes (verdict.Apart k) is ends = record {
      read = λ failed. absurd (let other : Some (Apart k) ≡ Some ReadFault = sym ends.0 ∙ failed in cc);
      no_read = λ _. (folder, source);
      write = HasCause-none (o.faults before.out) (o.faults now.out) (outcome.fault ≡ Some WriteFault) (ap o.faults ends.1) (λ failed. (let other : Some (Apart k) ≡ Some WriteFault = sym ends.0 ∙ failed in cc));
      world_failed = λ failed. absurd (let other : Some (Apart k) ≡ Some WorldFault = sym ends.0 ∙ failed in cc);
      lost = λ conn. (
        λ lost. (let other : Some (Apart k) ≡ Some (Apart conn) = sym ends.0 ∙ lost in
            let same : k ≡ conn = cc in (served.ended, served.there, is ∙ ap verdict.Apart same)),
        λ lost. (let other = one_verdict conn (verdict.Apart k) is lost in let same : k ≡ conn = cc in ends.0 ∙ ap (λ n. Some (Apart n)) same),
      );
      either = inr (ap is_some served.there, served.gone);
    }

    served_done : (v : Verdict) → served.ended.verdict ≡ v → EndsBy o before.out now.out outcome.fault served.ended.log.items served.ended.served.items v
        → NothingFailed f r x o before now world outcome → IsDone f r x o before now world outcome
    served_done verdict.Ok is ends nothing = text_done outcome.fault ends nothing.out
      where
        text_done : (fault : Option TopFault) {IsText : List ℕ → Type 0} → WritesText o before.out now.out fault IsText → ¬ (Rose (o.faults before.out) (o.faults now.out))
            → (fault ≡ None) ⊎ (fault ≡ Some Memory)
        text_done fault writes unfailed = by_answer writes.answer writes.ended writes.cause.rose
          where
            by_answer : {T : Type 0} (answer : Result T RunFault) → fault ≡ fault_of_run answer → (answer ≡ Err run_fault.Write → Rose (o.faults before.out) (o.faults now.out))
                → (fault ≡ None) ⊎ (fault ≡ Some Memory)
            by_answer (Ok value) ended rose = inl ended
            by_answer (Err run_fault.Write) ended rose = absurd (unfailed (rose refl))
            by_answer (Err run_fault.Memory) ended rose = inr ended
    served_done verdict.World is ends nothing =
        let last = some_there served.ended.world (held_of x l y shape hall served.first log served.ended served.leaves is) in
        absurd (nothing.last last.0 (inr (served.ended, served.there, last.1)) (rose_of x l y shape hall served.first log served.ended world port connections served.listens served.leaves last.0 last.1 is))
    served_done (verdict.Apart conn) is ends nothing = absurd (never_lost x l y shape hall served.first log served.ended conn served.leaves is)
    served_done verdict.Memory is ends nothing = inr ends.0

-- ---- by the order

module _ {F R W L O T G T' G' : Type 0} (f : FolderWords F) (r : SourceWords R) (x : WorldWords W L) (l : LinkWords L) (o : SinkWords O) (y : TalkWords T L G SiteState) (z : TalkWords T' L G' Place)
    (before now : Hands F R O) (world : W) (outcome : Outcome W L) where
  abbrev Caused : Type 0
  Caused = HasCauses f r x o before now world outcome

  abbrev Undisturbed : Type 0
  Undisturbed = NothingFailed f r x o before now world outcome

  abbrev AllDone : Type 0
  AllDone = IsDone f r x o before now world outcome

  by_fate : Fate f r o before now outcome.fault → IsBack world outcome → Caused
  by_fate fate back = back_causes f r x o before now world outcome fate world back

  answer_causes : (path : List ℕ) (date : Option ℕ) → RanAnswer f r o before now outcome.fault path date → IsBack world outcome → Caused
  answer_causes path date (inl (cause, is, lacks, untouched)) back =
      by_fate (fate_as f r o before now outcome.fault cause is (site_fate f r o before now path cause lacks untouched.0 untouched.1)) back
  answer_causes path date (inr (site, loaded, answers)) back = by_fate (answer_fate f r o before now site outcome.fault loaded.no_fault answers) back

  replay_causes : (path : List ℕ) (shape : Shape) (date : Option ℕ) (journal schedule log : Bool) → RanReplay f r o before now outcome.fault path shape date journal schedule log
      → IsBack world outcome → Caused
  replay_causes path shape date journal schedule log (inl (cause, is, lacks, untouched)) back =
      by_fate (fate_as f r o before now outcome.fault cause is (site_fate f r o before now path cause lacks untouched.0 untouched.1)) back
  replay_causes path shape date journal schedule log (inr (site, loaded, inl (cause, is, lacks, untouched))) back =
      by_fate (fate_as f r o before now outcome.fault cause is (input_fate f r o before now schedule shape.cores cause loaded.no_fault lacks untouched)) back
  replay_causes path shape date journal schedule log (inr (site, loaded, inr (input, read, writes))) back =
      by_fate (text_fate f r o before now outcome.fault (IsReplayText shape journal schedule log site input) loaded.no_fault read.no_fault writes) back

  serve_causes : (path : List ℕ) (port connections : ℕ) (shape : Shape) (date : Option ℕ) (log : Bool) → now.source ≡ before.source
      → RanServe f x l o y before.folder now.folder before.out now.out world outcome path port connections shape date log → Caused
  serve_causes path port connections shape date log source (inl (cause, is, lacks, untouched)) =
      by_fate (fate_as f r o before now outcome.fault cause is (site_fate f r o before now path cause lacks source untouched.0)) untouched.1
  serve_causes path port connections shape date log source (inr (site, loaded, inl unready)) =
      unready_causes f r x l o y before now world outcome loaded.no_fault (ap r.faults source) port connections unready.answer unready.now_world unready.listens unready.why
      unready.back unready.unwritten
  serve_causes path port connections shape date log source (inr (site, loaded, inr served)) =
      served_causes f r x l o y before now world outcome loaded.no_fault (ap r.faults source) port connections shape log site served served.ended.verdict refl served.ends

  -- without memory for a hall
  hall_causes : f.faults now.folder ≡ f.faults before.folder → now.source ≡ before.source → now.out ≡ before.out → outcome.fault ≡ Some Memory → IsBack world outcome → Caused
  hall_causes folder source out refused back =
      by_fate (fate_as f r o before now outcome.fault Memory refused (memory_fate f r x l o y before now world outcome folder (ap r.faults source) out)) back

  gopher_script_causes : (path host : List ℕ) (port : ℕ) (shape : Shape) (journal : Bool) → RanGopherScript f r o before now outcome.fault path host port shape journal → IsBack world outcome → Caused
  gopher_script_causes path host port shape journal (inl (cause, is, lacks, untouched)) back =
      by_fate (fate_as f r o before now outcome.fault cause is (site_fate f r o before now path cause lacks untouched.0 untouched.1)) back
  gopher_script_causes path host port shape journal (inr (site, loaded, inl (refused, untouched))) back = hall_causes loaded.no_fault untouched.0 untouched.1 refused back
  gopher_script_causes path host port shape journal (inr (site, loaded, inr (inl (cause, is, lacks, untouched)))) back =
      by_fate (fate_as f r o before now outcome.fault cause is (input_fate f r o before now false shape.cores cause loaded.no_fault lacks untouched)) back
  gopher_script_causes path host port shape journal (inr (site, loaded, inr (inr (input, read, writes)))) back =
      by_fate (text_fate f r o before now outcome.fault (IsReplay (by_gopher (place_of site host port)) shape input.conns false journal) loaded.no_fault read.no_fault writes) back

  gopher_serve_causes : (path host : List ℕ) (port connections : ℕ) (shape : Shape) → now.source ≡ before.source
      → RanGopherServe f x l o z before.folder now.folder before.out now.out world outcome path host port connections shape → Caused
  gopher_serve_causes path host port connections shape source (inl (cause, is, lacks, untouched)) =
      by_fate (fate_as f r o before now outcome.fault cause is (site_fate f r o before now path cause lacks source untouched.0)) untouched.1
  gopher_serve_causes path host port connections shape source (inr (site, loaded, inl (refused, untouched))) = hall_causes loaded.no_fault source untouched.0 refused untouched.1
  gopher_serve_causes path host port connections shape source (inr (site, loaded, inr (inl unready))) =
      unready_causes f r x l o z before now world outcome loaded.no_fault (ap r.faults source) port connections unready.answer unready.now_world unready.listens unready.why
      unready.back unready.unwritten
  gopher_serve_causes path host port connections shape source (inr (site, loaded, inr (inr served))) =
      served_causes f r x l o z before now world outcome loaded.no_fault (ap r.faults source) port connections shape false (place_of site host port) served served.ended.verdict refl served.ends

  gopher_causes : (path host : List ℕ) (port : ℕ) (connections : Option ℕ) (shape : Shape) (journal : Bool) → RanGopher f r x l o z before now world outcome path host port connections shape journal → Caused
  gopher_causes path host port None shape journal ran = gopher_script_causes path host port shape journal ran.0 ran.1
  gopher_causes path host port (Some connections) shape journal ran = gopher_serve_causes path host port connections shape ran.0 ran.1

  causes_as : (order : Order) → RanAs f r x l o y z before now world outcome order → Caused
  causes_as (answer path date) ran = answer_causes path date ran.0 ran.1
  causes_as (replay path shape date journal schedule log) ran = replay_causes path (run_shape shape) date journal schedule log ran.0 ran.1
  causes_as (serve path port connections shape date log) ran = serve_causes path port connections (run_shape shape) date log ran.0 ran.1
  causes_as (bench connections number shape) ran =
      by_fate (text_fate f r o before now outcome.fault (λ text. text ≡ bench_summary number connections) (ap f.faults ran.0) (ap r.faults ran.1) ran.2) ran.3
  causes_as (check connections shape log) ran = by_fate (check_fate f r o before now ran.1.found outcome.fault (ap f.faults ran.0) ran.1.cause ran.1.writes) ran.2
  causes_as (gopher path host port connections shape journal) ran = gopher_causes path host port connections (run_shape shape) journal ran

  -- each fault has its cause
  pub causes_of : (order : Order) → Ran f r x l o y z before now world outcome order → Caused
  causes_of order (inl (is, untouched)) =
      untouched_causes f r x o before now world outcome Memory is (λ e. cc) (λ e. cc) (record { unfailed = λ e. cc; unlost = λ conn e. cc }) untouched
  causes_of order (inr ran) = causes_as order ran

  -- ---- all is done

  not_full : (told : Option FolderContents) (limit : SiteLimit) → TellsWithinLimits told
      → ((folder : FolderContents) → told ≡ Some folder → limit_of plain_options folder.files ≡ Some (refusal_of limit)) → ⊥
  not_full None limit within full = within
  not_full (Some folder) limit within full = (let none = limit_of-none plain_options folder.files within in let some = full folder refl in cc)

  not_bad : (schedule : Bool) (cores line : ℕ) (left : Option (List ℕ)) → TellsInput schedule cores left
      → ((text : List ℕ) → left ≡ Some text → IsCause schedule cores text (script_fault.Bad line)) → ⊥
  not_bad schedule cores line None tells bad = tells
  not_bad schedule cores line (Some text) tells bad = let cause = bad text refl in no_fault schedule cores text tells.0 cause.0 tells.1 cause.2

  not_many : (schedule : Bool) (cores line : ℕ) (left : Option (List ℕ)) → TellsInput schedule cores left
      → ((text : List ℕ) → left ≡ Some text → IsCause schedule cores text (script_fault.TooMany line)) → ⊥
  not_many schedule cores line None tells many = tells
  not_many schedule cores line (Some text) tells many = let cause = many text refl in no_many schedule cores text tells.0 cause.0 tells.1 tells.2 cause.2

  site_done : (path : List ℕ) (cause : TopFault) → outcome.fault ≡ Some cause → LacksSite f path before.folder now.folder cause → TellsWithinLimits (f.tells before.folder) → Undisturbed → AllDone
  site_done path ReadFault is lacks within nothing = absurd (nothing.folder lacks.0)
  site_done path Memory is lacks within nothing = inr is
  site_done path (SiteFull limit) is lacks within nothing = absurd (not_full (f.tells before.folder) limit within lacks.2)
  site_done path Usage is lacks within nothing = absurd lacks
  site_done path (BadScript line) is lacks within nothing = absurd lacks
  site_done path WriteFault is lacks within nothing = absurd lacks
  site_done path WorldFault is lacks within nothing = absurd lacks
  site_done path (TooMany line) is lacks within nothing = absurd lacks
  site_done path (BadJournal line) is lacks within nothing = absurd lacks
  site_done path (NotLegal line) is lacks within nothing = absurd lacks
  site_done path (NotDrained colour) is lacks within nothing = absurd lacks
  site_done path (Apart conn) is lacks within nothing = absurd lacks

  input_done : (schedule : Bool) (cores : ℕ) (cause : TopFault) → outcome.fault ≡ Some cause → LacksInput r schedule cores before.source now.source cause
      → TellsInput schedule cores (r.left before.source) → Undisturbed → AllDone
  input_done schedule cores ReadFault is lacks tells nothing = absurd (nothing.source lacks)
  input_done schedule cores Memory is lacks tells nothing = inr is
  input_done schedule cores (BadScript line) is lacks tells nothing = absurd (not_bad schedule cores line (r.left before.source) tells lacks.1)
  input_done schedule cores (TooMany line) is lacks tells nothing = absurd (not_many schedule cores line (r.left before.source) tells lacks.1)
  input_done schedule cores Usage is lacks tells nothing = absurd lacks
  input_done schedule cores WriteFault is lacks tells nothing = absurd lacks
  input_done schedule cores WorldFault is lacks tells nothing = absurd lacks
  input_done schedule cores (SiteFull limit) is lacks tells nothing = absurd lacks
  input_done schedule cores (BadJournal line) is lacks tells nothing = absurd lacks
  input_done schedule cores (NotLegal line) is lacks tells nothing = absurd lacks
  input_done schedule cores (NotDrained colour) is lacks tells nothing = absurd lacks
  input_done schedule cores (Apart conn) is lacks tells nothing = absurd lacks

  text_done : {T : Type 0} (answer : Result T RunFault) → outcome.fault ≡ fault_of_run answer → (answer ≡ Err run_fault.Write → Rose (o.faults before.out) (o.faults now.out))
      → Undisturbed → AllDone
  text_done (Ok value) ended rose nothing = inl ended
  text_done (Err run_fault.Write) ended rose nothing = absurd (nothing.out (rose refl))
  text_done (Err run_fault.Memory) ended rose nothing = inr ended

  answer_done : (site : SiteState) (fault : Option TopFault) → outcome.fault ≡ fault → AnswersInput r o site before.source now.source before.out now.out fault → Undisturbed → AllDone
  answer_done site None is answers nothing = inl is
  answer_done site (Some ReadFault) is answers nothing = absurd (nothing.source (answers.read_cause.rose refl))
  answer_done site (Some WriteFault) is answers nothing = absurd (nothing.out (answers.write_cause.rose refl))
  answer_done site (Some Memory) is answers nothing = inr is
  answer_done site (Some Usage) is answers nothing = absurd answers.ends
  answer_done site (Some (BadScript line)) is answers nothing = absurd answers.ends
  answer_done site (Some WorldFault) is answers nothing = absurd answers.ends
  answer_done site (Some (SiteFull limit)) is answers nothing = absurd answers.ends
  answer_done site (Some (TooMany line)) is answers nothing = absurd answers.ends
  answer_done site (Some (BadJournal line)) is answers nothing = absurd answers.ends
  answer_done site (Some (NotLegal line)) is answers nothing = absurd answers.ends
  answer_done site (Some (NotDrained colour)) is answers nothing = absurd answers.ends
  answer_done site (Some (Apart conn)) is answers nothing = absurd answers.ends

  unready_done : (port connections : ℕ) (reply : Opened) (last : W) → Listens x.tells x.faults x.waits world port connections reply last → LacksWorld reply outcome.fault
      → IsBack last outcome → Undisturbed → AllDone
  unready_done port connections opened.Ready last listens why back nothing = absurd why
  unready_done port connections opened.Failed last listens why back nothing = absurd (nothing.last last (inl back.back) (listens.failed.rose refl))
  unready_done port connections opened.Memory last listens why back nothing = inr why

  serve_done : (path : List ℕ) (port connections : ℕ) (shape : Shape) (date : Option ℕ) (log : Bool) → now.source ≡ before.source
      → RanServe f x l o y before.folder now.folder before.out now.out world outcome path port connections shape date log → TellsWithinLimits (f.tells before.folder) → Undisturbed → AllDone
  serve_done path port connections shape date log source (inl (cause, is, lacks, untouched)) within nothing = site_done path cause is lacks.why within nothing
  serve_done path port connections shape date log source (inr (site, loaded, inl unready)) within nothing =
      unready_done port connections unready.answer unready.now_world unready.listens unready.why unready.back nothing
  serve_done path port connections shape date log source (inr (site, loaded, inr served)) within nothing =
      served_done f r x l o y before now world outcome loaded.no_fault (ap r.faults source) port connections shape log site served served.ended.verdict refl served.ends nothing

  check_accepts : (connections : ℕ) (log : Bool) (shape : Shape) (setup : Setup) (told : Option (List ℕ)) (found : Result Report CheckFault) → IsServerSetup connections log shape setup
      → TellsDrainedRun connections log shape told → Accepts setup told found → IsAcceptance found
  check_accepts connections log shape setup None found is tells accepts = absurd tells
  check_accepts connections log shape setup (Some text) found is tells accepts = accepts text tells.0 refl (tells.1 setup is)

  check_done : (found : Result Report CheckFault) → HasCause (r.faults before.source) (r.faults now.source) (found ≡ Err check_fault.Read)
      → WritesFound o before.out now.out outcome.fault found → IsAcceptance found → Undisturbed → AllDone
  check_done (Ok report) cause writes accepted nothing = text_done writes.answer writes.ended writes.cause.rose nothing
  check_done (Err check_fault.Read) cause writes accepted nothing = absurd (nothing.source (cause.rose refl))
  check_done (Err check_fault.Memory) cause writes accepted nothing = inr writes.0
  check_done (Err (check_fault.BadJournal line)) cause writes (inl other) nothing = cc
  check_done (Err (check_fault.BadJournal line)) cause writes (inr other) nothing = cc
  check_done (Err (check_fault.NotLegal line)) cause writes (inl other) nothing = cc
  check_done (Err (check_fault.NotLegal line)) cause writes (inr other) nothing = cc
  check_done (Err (check_fault.NotDrained colour)) cause writes (inl other) nothing = cc
  check_done (Err (check_fault.NotDrained colour)) cause writes (inr other) nothing = cc

  gopher_script_done : (path host : List ℕ) (port : ℕ) (shape : Shape) (journal : Bool) → RanGopherScript f r o before now outcome.fault path host port shape journal
      → TellsWithinLimits (f.tells before.folder) → TellsInput false shape.cores (r.left before.source) → Undisturbed → AllDone
  gopher_script_done path host port shape journal (inl (cause, is, lacks, untouched)) within tells nothing = site_done path cause is lacks.why within nothing
  gopher_script_done path host port shape journal (inr (site, loaded, inl (refused, untouched))) within tells nothing = inr refused
  gopher_script_done path host port shape journal (inr (site, loaded, inr (inl (cause, is, lacks, untouched)))) within tells nothing = input_done false shape.cores cause is lacks.why tells nothing
  gopher_script_done path host port shape journal (inr (site, loaded, inr (inr (input, read, writes)))) within tells nothing = text_done writes.answer writes.ended writes.cause.rose nothing

  gopher_serve_done : (path host : List ℕ) (port connections : ℕ) (shape : Shape) → now.source ≡ before.source
      → RanGopherServe f x l o z before.folder now.folder before.out now.out world outcome path host port connections shape → TellsWithinLimits (f.tells before.folder) → Undisturbed → AllDone
  gopher_serve_done path host port connections shape source (inl (cause, is, lacks, untouched)) within nothing = site_done path cause is lacks.why within nothing
  gopher_serve_done path host port connections shape source (inr (site, loaded, inl (refused, untouched))) within nothing = inr refused
  gopher_serve_done path host port connections shape source (inr (site, loaded, inr (inl unready))) within nothing =
      unready_done port connections unready.answer unready.now_world unready.listens unready.why unready.back nothing
  gopher_serve_done path host port connections shape source (inr (site, loaded, inr (inr served))) within nothing =
      served_done f r x l o z before now world outcome loaded.no_fault (ap r.faults source) port connections shape false (place_of site host port) served served.ended.verdict refl served.ends nothing

  gopher_done : (path host : List ℕ) (port : ℕ) (connections : Option ℕ) (shape : orders.Shape) (journal : Bool) → RanGopher f r x l o z before now world outcome path host port connections (run_shape shape) journal
      → IsSound f r x o before now world outcome (gopher path host port connections shape journal) → Undisturbed → AllDone
  gopher_done path host port None shape journal ran sound nothing = gopher_script_done path host port (run_shape shape) journal ran.0 sound.0 sound.1 nothing
  gopher_done path host port (Some connections) shape journal ran sound nothing = gopher_serve_done path host port connections (run_shape shape) ran.0 ran.1 sound nothing

  done_as : (order : Order) → RanAs f r x l o y z before now world outcome order → IsSound f r x o before now world outcome order → Undisturbed → AllDone
  done_as (answer path date) ran sound nothing = by_phase ran.0
    where
      by_phase : RanAnswer f r o before now outcome.fault path date → AllDone
      by_phase (inl (cause, is, lacks, untouched)) = site_done path cause is lacks.why sound nothing
      by_phase (inr (site, loaded, answers)) = answer_done site outcome.fault refl answers nothing
  done_as (replay path shape date journal schedule log) ran sound nothing = by_phase ran.0
    where
      by_phase : RanReplay f r o before now outcome.fault path (run_shape shape) date journal schedule log → AllDone
      by_phase (inl (cause, is, lacks, untouched)) = site_done path cause is lacks.why sound.0 nothing
      by_phase (inr (site, loaded, inl (cause, is, lacks, untouched))) = input_done schedule shape.cores cause is lacks.why sound.1 nothing
      by_phase (inr (site, loaded, inr (input, read, writes))) = text_done writes.answer writes.ended writes.cause.rose nothing
  done_as (serve path port connections shape date log) ran sound nothing = serve_done path port connections (run_shape shape) date log ran.0 ran.1 sound nothing
  done_as (bench connections number shape) ran sound nothing = text_done ran.2.answer ran.2.ended ran.2.cause.rose nothing
  done_as (check connections shape log) ran sound nothing =
      let checked = ran.1 in
      check_done checked.found checked.cause checked.writes
      (check_accepts connections log (run_shape shape) checked.setup (r.left before.source) checked.found checked.of_server sound checked.accepts) nothing
  done_as (gopher path host port connections shape journal) ran sound nothing = gopher_done path host port connections shape journal ran sound nothing

  -- with words, site and script in order, and no fault of the outside, all is done, or there was no
  -- memory
  pub done_of : (order : Order) → Ran f r x l o y z before now world outcome order → IsSound f r x o before now world outcome order → Undisturbed → AllDone
  done_of order (inl (is, untouched)) sound nothing = inr is
  done_of order (inr ran) sound nothing = done_as order ran sound nothing

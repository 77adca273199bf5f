-- A connection comes to the same outcome after each step.
use Rattle.std.specs.Prelude.{⊤, ◌||◌, if◌then◌else◌, nat_lt}
use Rattle.std.proofs.Common.{◌≡◌, ◌≢◌, ℕ, zero, suc, ◌+◌, ◌-◌, ◌≤◌, Bool, true, false, nat_le, List, [], ◌++◌, length, take, drop, Option, Some, None, refl, sym, ap, ◌∙◌, subst, arith, append_assoc, append-nil, length-append, length-take, take_all, take-append-drop, leb-true, leb-false}
use Rattle.sws_link.specs.declared.Link.{Ghosts as LinkWords}
use Rattle.sws_link.specs.declared.LinkRead.{LinkRead}
use Rattle.sws_link.specs.declared.LinkRead.TheVariants as read
use Rattle.sws_link.specs.declared.LinkWrite.{LinkWrite}
use Rattle.sws_link.specs.declared.LinkWrite.TheVariants as write
use Rattle.sws_link.specs.Links.{IsInitialLink, LinkContents, LinkTakes, LinkPuts, given_by, ReadsAs, WritesAs, IsExact, IsWriteWithin, written_by}
use Rattle.sws_link.specs.Scripts.{Script, Item, read_of, write_of, write_by, write_count, within, within_step, left_of_limit}
use Rattle.sws_parts.specs.Parts.{front_of, unsent_bytes, after_sending}
use Rattle.sws_steps.specs.Protocol.{Protocol, IsOrderly, Cut, Whole, TooLong, NotYet, Asked, request, too_long, later_unless, texts_of, answers_from, is_closed}
use Rattle.sws_steps.specs.ConnCore.{is_sent, ConnCoreState}
use Rattle.sws_steps.specs.declared.End.{End}
use Rattle.sws_steps.specs.declared.End.TheVariants as ending
use Rattle.sws_steps.specs.declared.Next.{Next}
use Rattle.sws_steps.specs.declared.Next.TheVariants as next
use Rattle.sws_steps.specs.Step.{StepsFrom, ReadsOnce, WritesOnce, ShutsOnce, OverLink, going_to, ending_as, still_waiting, room_of, wait_limit, after_read, after_parse, after_answer, with_answer, is_last, after_look, after_part, after_wrote, after_write}
use Rattle.sws_steps.specs.Sound.{core_before_open, IsReadyTo, IsBetween, IsToParse, IsToRead, IsToLook, IsToWrite}
use Rattle.sws_steps.specs.Outcome.{Outcome, outcome_of, Input, Stop, at_end, at_limit, at_fault, at_pause, empty_input, input_from, limit_input, cut_off, end_of, UnlessMemory}
use Rattle.sws_steps.specs.RestOutcome.{ahead, rest_outcome, rest_outcome_by, input_by, input_to_come, waits_at, with_written, HeadsFor, HeadsForLink, HeadsByScript}
use Rattle.sws_steps.specs.Serving.{EndsByScript, EndsAs}
use Rattle.sws_steps.proofs.Inputs.PartLemmas.{sent-rest, nothing-rest, something-rest}
use Rattle.sws_steps.proofs.Inputs.AnswerLemmas.{first-whole, first-refused}
use Rattle.sws_steps.proofs.Inputs.InputLemmas.{Gives, read_gives, limited-preceded, limited-stopped, limited-zero, limited-few, nat_le-true, nat_le-false, nat_le-same}
use Rattle.std.proofs.Math.Seq.{take-append-add}

-- nothing is left to write: a cut doesn't matter
cut_off-nil : (cut : Option ℕ) (end : End) → cut_off cut [] end ≡ record { bytes = []; end = end }
cut_off-nil None end = refl
cut_off-nil (Some limit) end =
    ap (λ t. if t then record { bytes = take limit []; end = ending.Fault } else record { bytes = []; end = end }) (nat_le-false (suc limit) 0 (omega arith))

-- no more is written than may be
FitsCut : Option ℕ → ℕ → Type 0
FitsCut None count = ⊤
FitsCut (Some limit) count = count ≤ limit

within_step-less : (step : Option ℕ) (count : ℕ) → within_step step count ≤ count
within_step-less None count = omega arith
within_step-less (Some zero) count = omega arith
within_step-less (Some (suc more)) count = omega arith

wrote_script : (script now : Script) (size count : ℕ) → write.Wrote count ≡ (write_of script size).answer → now ≡ (write_of script size).script
    → (now ≡ record script { cut = left_of_limit script.cut count }) × FitsCut script.cut count
unfolding FitsCut
wrote_script script now size count answer is = by_cut script.cut refl answer is
  where
    by_cut : (cut : Option ℕ) → cut ≡ script.cut → write.Wrote count ≡ (write_by cut script size).answer → now ≡ (write_by cut script size).script
        → (now ≡ record script { cut = left_of_limit script.cut count }) × FitsCut script.cut count
    by_cut None e answer is =
        let same : count ≡ write_count script size = cc in
        (is ∙ ap (λ n. record script { cut = left_of_limit script.cut n }) (sym same), subst (λ o. FitsCut o count) e tt)
    by_cut (Some zero) e answer is = cc
    by_cut (Some (suc limit)) e answer is =
        let same : count ≡ write_count script size = cc in
        let count_is : count ≡ within_step script.step (within (Some (suc limit)) size) = same ∙ ap (λ o. within_step script.step (within o size)) (sym e) in
        let less = within_step-less script.step (within (Some (suc limit)) size) in
        (is ∙ ap (λ n. record script { cut = left_of_limit script.cut n }) (sym same), subst (λ o. FitsCut o count) e (omega arith))

-- what was written counts against the cut
cut_off-append : (cut : Option ℕ) (front rest : List ℕ) (count : ℕ) (end : End) → count ≡ length front → FitsCut cut count
    → with_written front (cut_off (left_of_limit cut count) rest end) ≡ cut_off cut (front ++ rest) end
unfolding FitsCut
cut_off-append None front rest count end long fits = refl
cut_off-append (Some limit) front rest count end long fits = by_limit (nat_lt (limit - count) (length rest)) refl
  where
    same : nat_lt (limit - count) (length rest) ≡ nat_lt limit (length (front ++ rest))
    same = nat_le-same (suc (limit - count)) (length rest) (suc limit) (length (front ++ rest))
        (λ h. omega (arith, length-append front rest)) (λ h. omega (arith, length-append front rest))

    whole : front ++ take (limit - count) rest ≡ take limit (front ++ rest)
    whole = sym (ap (λ n. take n (front ++ rest)) (let sum : limit ≡ length front + (limit - count) = omega arith in sum) ∙ take-append-add front rest (limit - count))

    by_limit : (all : Bool) → all ≡ nat_lt (limit - count) (length rest)
        → with_written front (if all then record { bytes = take (limit - count) rest; end = ending.Fault } else record { bytes = rest; end = end })
        ≡ (if nat_lt limit (length (front ++ rest)) then record { bytes = take limit (front ++ rest); end = ending.Fault } else record { bytes = front ++ rest; end = end })
    by_limit true e =
        ap (λ b. record { bytes = b; end = ending.Fault }) whole
        ∙ ap (λ t. if t then record { bytes = take limit (front ++ rest); end = ending.Fault } else record { bytes = front ++ rest; end = end }) (e ∙ same)
    by_limit false e =
        ap (λ t. if t then record { bytes = take limit (front ++ rest); end = ending.Fault } else record { bytes = front ++ rest; end = end }) (e ∙ same)

with_written-append : (a b : List ℕ) (outcome : Outcome) → with_written (a ++ b) outcome ≡ with_written a (with_written b outcome)
with_written-append a b outcome = ap (λ l. record { bytes = l; end = outcome.end }) (append_assoc a b outcome.bytes)

never_waits : (script : Script) (size : ℕ) → write.NotReady ≡ (write_of script size).answer → ⊥
never_waits script size answer = by_cut script.cut answer
  where
    by_cut : (cut : Option ℕ) → write.NotReady ≡ (write_by cut script size).answer → ⊥
    by_cut None answer = cc
    by_cut (Some zero) answer = cc
    by_cut (Some (suc limit)) answer = cc

unless : (end : Option End) (Fact : Type 0) → Fact → UnlessMemory end Fact
unless None Fact h = h
unless (Some ending.Done) Fact h = h
unless (Some ending.Idle) Fact h = h
unless (Some ending.Fault) Fact h = h
unless (Some ending.Memory) Fact h = tt

module _ {Hall Answer : Type 0} (p : Protocol Hall Answer) (orderly : IsOrderly p) where
  rest_outcome-no_end : (c : ConnCoreState Hall) (script : Script) → c.end ≡ None → rest_outcome p c script ≡ ahead p c script.cut (input_to_come p c script)
  rest_outcome-no_end c script none = ap (λ e. rest_outcome_by p e c script) none

  rest_outcome-end : (c : ConnCoreState Hall) (script : Script) (end : End) → c.end ≡ Some end → rest_outcome p c script ≡ record { bytes = []; end = end }
  rest_outcome-end c script end is = ap (λ e. rest_outcome_by p e c script) is

  -- ---- a read

  -- the input that comes before a read
  input-read : (c : ConnCoreState Hall) (script : Script) → c.pending ≡ next.Read → c.input_ended ≡ false
      → input_to_come p c script ≡ limit_input (p.input_limit c.hall - c.read) (input_from c.waits script.items)
  input-read c script pending goes_on =
      ap (λ stage. limit_input (p.input_limit c.hall - c.read) (input_by c.input_ended (waits_at stage c.waits) script)) pending
      ∙ ap (λ e. limit_input (p.input_limit c.hall - c.read) (input_by e c.waits script)) goes_on

  -- where the input stops at once, all ends as the stop says
  ahead-stopped : (c : ConnCoreState Hall) (cut : Option ℕ) (stop : Stop) → IsBetween p c → p.cut c.buffer ≡ NotYet
      → ahead p c cut (empty_input stop) ≡ record { bytes = []; end = end_of false stop }
  ahead-stopped c cut stop between not_yet =
      let none : later_unless c.closes (p.answers (p.answer_limit c.hall - c.answered) c.hall (c.buffer ++ [])) ≡ [] =
      ap (λ t. later_unless t (p.answers (p.answer_limit c.hall - c.answered) c.hall (c.buffer ++ []))) between.goes_on
      ∙ ap (p.answers (p.answer_limit c.hall - c.answered) c.hall) (append-nil c.buffer) ∙ orderly.none_yet (p.answer_limit c.hall - c.answered) c.hall c.buffer not_yet in
      ap (λ (l : List Answer). cut_off cut (unsent_bytes c.parts ++ texts_of p l) (end_of (c.closes || is_closed p l) stop)) none
      ∙ ap (λ r. cut_off cut (r ++ []) (end_of (c.closes || false) stop)) (nothing-rest c.parts between.nothing)
      ∙ ap (λ t. cut_off cut [] (end_of (t || false) stop)) between.goes_on
      ∙ cut_off-nil cut (end_of false stop)

  rest_outcome-read : (c : ConnCoreState Hall) (script : Script) (answer : LinkRead) (into : List ℕ) (items : List Item) → c.pending ≡ next.Read → IsToRead p c
      → Gives c.waits answer (given_by answer into) items (input_from c.waits script.items)
      → length into ≡ room_of p c
      → (now : Script) → now ≡ record script { items = items }
      → rest_outcome p (after_read c answer into) now ≡ rest_outcome p c script
  unfolding Gives
  rest_outcome-read c script (read.Took count) into items pending ready gives size now is =
      let between = ready.between in
      let room = ready.room in
      let bytes = take count into in
      let long : length bytes ≡ count = sym gives.1 in
      let fits : length bytes ≤ p.input_limit c.hall - c.read = omega (arith, length-take count into) in
      let less : p.input_limit c.hall - (c.read + count) ≡ p.input_limit c.hall - c.read - length bytes = omega arith in
      rest_outcome-no_end (after_read c (read.Took count) into) now between.no_end
      ∙ ap (λ (s : Script). ahead p (after_read c (read.Took count) into) s.cut (limit_input (p.input_limit c.hall - (c.read + count)) (input_by c.input_ended 0 s))) is
      ∙ ap (λ e. ahead p (after_read c (read.Took count) into) script.cut (limit_input (p.input_limit c.hall - (c.read + count)) (input_by e 0 (record script { items = items })))) ready.goes_on
      ∙ ap (λ n. ahead p (after_read c (read.Took count) into) script.cut (limit_input n (input_from 0 items))) less
      ∙ ap (λ b. let later = later_unless c.closes (p.answers (p.answer_limit c.hall - c.answered) c.hall b) in
      cut_off script.cut (unsent_bytes c.parts ++ texts_of p later) (end_of (c.closes || is_closed p later) (limit_input (p.input_limit c.hall - c.read - length bytes) (input_from 0 items)).stop))
      (append_assoc c.buffer bytes (limit_input (p.input_limit c.hall - c.read - length bytes) (input_from 0 items)).bytes)
      ∙ ap (ahead p c script.cut) (sym (limited-preceded (p.input_limit c.hall - c.read) bytes (input_from 0 items) fits))
      ∙ ap (λ i. ahead p c script.cut (limit_input (p.input_limit c.hall - c.read) i)) (sym gives.0)
      ∙ ap (ahead p c script.cut) (sym (input-read c script pending ready.goes_on))
      ∙ sym (rest_outcome-no_end c script between.no_end)
  rest_outcome-read c script read.End into items pending ready gives size now is =
      let between = ready.between in
      rest_outcome-no_end (after_read c read.End into) now between.no_end
      ∙ ap (λ (s : Script). ahead p c s.cut (limit_input (p.input_limit c.hall - c.read) (empty_input at_end))) is
      ∙ ap (λ i. ahead p c script.cut (limit_input (p.input_limit c.hall - c.read) i)) (sym gives)
      ∙ ap (ahead p c script.cut) (sym (input-read c script pending ready.goes_on))
      ∙ sym (rest_outcome-no_end c script between.no_end)
  rest_outcome-read c script read.Failed into items pending ready gives size now is =
      let room = ready.room in
      sym (ap (ahead p c script.cut) (input-read c script pending ready.goes_on
      ∙ ap (limit_input (p.input_limit c.hall - c.read)) gives ∙ limited-stopped (p.input_limit c.hall - c.read) at_fault (omega arith))
      ∙ ahead-stopped c script.cut at_fault ready.between ready.not_yet)
      ∙ sym (rest_outcome-no_end c script ready.between.no_end)
  rest_outcome-read c script read.NotReady into items pending ready gives size now is = by_limit (nat_le wait_limit (c.waits + 1)) gives
    where
      by_limit : (all : Bool) → input_from c.waits script.items ≡ (if all then empty_input at_pause else input_from (c.waits + 1) items)
          → rest_outcome p (still_waiting c all) now ≡ rest_outcome p c script
      by_limit true gives =
          let room = ready.room in
          sym (ap (ahead p c script.cut) (input-read c script pending ready.goes_on
          ∙ ap (limit_input (p.input_limit c.hall - c.read)) gives ∙ limited-stopped (p.input_limit c.hall - c.read) at_pause (omega arith))
          ∙ ahead-stopped c script.cut at_pause ready.between ready.not_yet)
          ∙ sym (rest_outcome-no_end c script ready.between.no_end)
      by_limit false gives =
          rest_outcome-no_end (still_waiting c false) now ready.between.no_end
          ∙ ap (λ (s : Script). ahead p c s.cut (input_to_come p (still_waiting c false) s)) is
          ∙ ap (ahead p c script.cut) (input-read (still_waiting c false) (record script { items = items }) pending ready.goes_on
          ∙ ap (limit_input (p.input_limit c.hall - c.read)) (sym gives) ∙ sym (input-read c script pending ready.goes_on))
          ∙ sym (rest_outcome-no_end c script ready.between.no_end)

  -- ---- a look into the buffer

  rest_outcome-parse : (c : ConnCoreState Hall) (script : Script) → c.pending ≡ next.Parse → IsToParse p c → rest_outcome p (after_parse p c (p.cut c.buffer)) script ≡ rest_outcome p c script
  rest_outcome-parse c script pending ready = by_cut (p.cut c.buffer) refl
    where
      between : IsBetween p c
      between = ready.between

      -- the input is the same
      moved : (stage : Next) → waits_at stage c.waits ≡ 0 → rest_outcome p (going_to c stage) script ≡ rest_outcome p c script
      moved stage none =
          rest_outcome-no_end (going_to c stage) script between.no_end
          ∙ ap (λ w. ahead p c script.cut (limit_input (p.input_limit c.hall - c.read) (input_by c.input_ended w script))) (none ∙ sym (ap (λ stage. waits_at stage c.waits) pending))
          ∙ sym (rest_outcome-no_end c script between.no_end)

      done : (stop : Stop) → end_of false stop ≡ ending.Done → p.cut c.buffer ≡ NotYet → input_to_come p c script ≡ empty_input stop
          → rest_outcome p (ending_as c ending.Done) script ≡ rest_outcome p c script
      done stop is_done not_yet is = sym (
          rest_outcome-no_end c script between.no_end ∙ ap (ahead p c script.cut) is ∙ ahead-stopped c script.cut stop between not_yet
          ∙ ap (λ e. record { bytes = []; end = e }) is_done)

      by_input : (ended full : Bool) → ended ≡ c.input_ended → full ≡ nat_le (p.input_limit c.hall) c.read → NotYet ≡ p.cut c.buffer
          → rest_outcome p (if ended || full then ending_as c ending.Done else going_to c next.Read) script ≡ rest_outcome p c script
      by_input ended true e f none = by_ended ended
        where
          left : p.input_limit c.hall - c.read ≡ 0
          left = let le = leb-true (p.input_limit c.hall) c.read (sym f) in omega arith

          all : rest_outcome p (ending_as c ending.Done) script ≡ rest_outcome p c script
          all = done at_limit refl (sym none)
              (ap (λ n. limit_input n (input_by c.input_ended (waits_at c.pending c.waits) script)) left ∙ limited-zero (input_by c.input_ended (waits_at c.pending c.waits) script))

          by_ended : (ended : Bool) → rest_outcome p (if ended || true then ending_as c ending.Done else going_to c next.Read) script ≡ rest_outcome p c script
          by_ended true = all
          by_ended false = all
      by_input true false e f none = done at_end refl (sym none)
          (let lt = leb-false (p.input_limit c.hall) c.read (sym f) in
          ap (λ t. limit_input (p.input_limit c.hall - c.read) (input_by t (waits_at c.pending c.waits) script)) (sym e) ∙ limited-stopped (p.input_limit c.hall - c.read) at_end (omega arith))
      by_input false false e f none = moved next.Read ready.no_waits

      by_cut : (cut : Cut) → cut ≡ p.cut c.buffer → rest_outcome p (after_parse p c cut) script ≡ rest_outcome p c script
      by_cut (Whole len) e = moved next.Look refl
      by_cut TooLong e = moved next.Look refl
      by_cut NotYet e = by_input c.input_ended (nat_le (p.input_limit c.hall) c.read) refl refl e

  -- nothing is left to write, and no more is answered
  ahead-sent : (c : ConnCoreState Hall) (cut : Option ℕ) (input : Input) → is_sent c.parts ≡ true → c.closes ≡ true
      → ahead p c cut input ≡ record { bytes = []; end = ending.Done }
  ahead-sent c cut input sent closes =
      ap (λ r. cut_off cut (r ++ texts_of p (later_unless c.closes (p.answers (p.answer_limit c.hall - c.answered) c.hall (c.buffer ++ input.bytes))))
      (end_of (c.closes || is_closed p (later_unless c.closes (p.answers (p.answer_limit c.hall - c.answered) c.hall (c.buffer ++ input.bytes)))) input.stop))
      (nothing-rest c.parts sent)
      ∙ ap (λ t. cut_off cut ([] ++ texts_of p (later_unless t (p.answers (p.answer_limit c.hall - c.answered) c.hall (c.buffer ++ input.bytes))))
      (end_of (t || is_closed p (later_unless t (p.answers (p.answer_limit c.hall - c.answered) c.hall (c.buffer ++ input.bytes)))) input.stop)) closes
      ∙ cut_off-nil cut ending.Done

  -- an answer comes first of what is ahead
  ahead-answer : (c : ConnCoreState Hall) (cut : Option ℕ) (answer : Answer) (rest : List ℕ) (input : Input) → IsBetween p c
      → p.answers (p.answer_limit c.hall - c.answered) c.hall (c.buffer ++ input.bytes)
      ≡ answers_from p answer (p.answers (p.answer_limit c.hall - (c.answered + 1)) c.hall (rest ++ input.bytes))
      → ahead p (with_answer p c answer rest) cut input ≡ ahead p c cut input
  ahead-answer c cut answer rest input between first =
      let later = p.answers (p.answer_limit c.hall - (c.answered + 1)) c.hall (rest ++ input.bytes) in
      let all : later_unless c.closes (p.answers (p.answer_limit c.hall - c.answered) c.hall (c.buffer ++ input.bytes)) ≡ answers_from p answer later =
      ap (λ t. later_unless t (p.answers (p.answer_limit c.hall - c.answered) c.hall (c.buffer ++ input.bytes))) between.goes_on ∙ first in
      ap (λ o. cut_off cut o (end_of (p.closes answer || is_closed p (later_unless (p.closes answer) later)) input.stop)) refl
      ∙ ap (λ r. cut_off cut (r ++ texts_of p (answers_from p answer later)) (end_of (false || is_closed p (answers_from p answer later)) input.stop)) (sym (nothing-rest c.parts between.nothing))
      ∙ ap (λ t. cut_off cut (unsent_bytes c.parts ++ texts_of p (answers_from p answer later)) (end_of (t || is_closed p (answers_from p answer later)) input.stop)) (sym between.goes_on)
      ∙ ap (λ (l : List Answer). cut_off cut (unsent_bytes c.parts ++ texts_of p l) (end_of (c.closes || is_closed p l) input.stop)) (sym all)

  rest_outcome-look : (c : ConnCoreState Hall) (script : Script) → c.pending ≡ next.Look → IsToLook p c → rest_outcome p (after_look p c (p.cut c.buffer)) script ≡ rest_outcome p c script
  rest_outcome-look c script pending ready = by_cut (p.cut c.buffer) refl
    where
      between : IsBetween p c
      between = ready.between

      input : Input
      input = limit_input (p.input_limit c.hall - c.read) (input_by c.input_ended 0 script)

      same_input : input_to_come p c script ≡ input
      same_input = ap (λ stage. limit_input (p.input_limit c.hall - c.read) (input_by c.input_ended (waits_at stage c.waits) script)) pending

      -- whatever is next
      answered : (asked : Asked) (rest : List ℕ)
          → p.answers (p.answer_limit c.hall - c.answered) c.hall (c.buffer ++ input.bytes)
          ≡ answers_from p (p.answer c.hall asked (is_last p c)) (p.answers (p.answer_limit c.hall - (c.answered + 1)) c.hall (rest ++ input.bytes))
          → rest_outcome p (after_answer p c (p.answer c.hall asked (is_last p c)) rest) script ≡ rest_outcome p c script
      answered asked rest first =
          by_bytes (p.is_empty (p.answer c.hall asked (is_last p c))) (p.closes (p.answer c.hall asked (is_last p c))) refl refl
        where
          same : ahead p (with_answer p c (p.answer c.hall asked (is_last p c)) rest) script.cut input ≡ rest_outcome p c script
          same = ahead-answer c script.cut (p.answer c.hall asked (is_last p c)) rest input between first
              ∙ ap (ahead p c script.cut) (sym same_input)
              ∙ sym (rest_outcome-no_end c script between.no_end)

          goes_on : (stage : Next) → waits_at stage c.waits ≡ 0
              → rest_outcome p (record (with_answer p c (p.answer c.hall asked (is_last p c)) rest) { pending = stage }) script ≡ rest_outcome p c script
          goes_on stage none =
              rest_outcome-no_end (record (with_answer p c (p.answer c.hall asked (is_last p c)) rest) { pending = stage }) script between.no_end
              ∙ ap (λ w. ahead p (with_answer p c (p.answer c.hall asked (is_last p c)) rest) script.cut
              (limit_input (p.input_limit c.hall - c.read) (input_by c.input_ended w script))) none
              ∙ same

          by_bytes : (empty closes : Bool) → empty ≡ p.is_empty (p.answer c.hall asked (is_last p c)) → closes ≡ p.closes (p.answer c.hall asked (is_last p c))
              → rest_outcome p (after_part empty closes (with_answer p c (p.answer c.hall asked (is_last p c)) rest)) script ≡ rest_outcome p c script
          by_bytes false closes e f = goes_on next.Write refl
          by_bytes true false e f = goes_on next.Parse refl
          by_bytes true true e f =
              sym (ahead-sent (with_answer p c (p.answer c.hall asked (is_last p c)) rest) script.cut input
              (sym (e ∙ orderly.empty_is c.hall asked (is_last p c))) (sym f))
              ∙ same

      by_cut : (cut : Cut) → cut ≡ p.cut c.buffer → rest_outcome p (after_look p c cut) script ≡ rest_outcome p c script
      by_cut (Whole len) e = answered (request (take len c.buffer)) (drop len c.buffer)
          (ap (λ b. p.answers (p.answer_limit c.hall - c.answered) c.hall (b ++ input.bytes)) (sym (take-append-drop len c.buffer))
          ∙ ap (p.answers (p.answer_limit c.hall - c.answered) c.hall) (append_assoc (take len c.buffer) (drop len c.buffer) input.bytes)
          ∙ first-whole p orderly c between.more len (drop len c.buffer ++ input.bytes) (sym e))
      by_cut TooLong e = answered too_long [] (first-refused p orderly c between.more input.bytes (sym e))
      by_cut NotYet e = absurd (ready.whole (sym e))

  -- ---- a write

  -- some of the parts moves from what is ahead to what was written
  ahead-wrote : (c : ConnCoreState Hall) (cut : Option ℕ) (count : ℕ) (input : Input) → count ≤ length (front_of c.parts) → FitsCut cut count
      → with_written (take count (front_of c.parts)) (ahead p (record c { parts = after_sending count c.parts }) (left_of_limit cut count) input) ≡ ahead p c cut input
  ahead-wrote c cut count input le fits =
      let later = later_unless c.closes (p.answers (p.answer_limit c.hall - c.answered) c.hall (c.buffer ++ input.bytes)) in
      let end = end_of (c.closes || is_closed p later) input.stop in
      cut_off-append cut (take count (front_of c.parts)) (unsent_bytes (after_sending count c.parts) ++ texts_of p later) count end
      (omega (arith, length-take count (front_of c.parts))) fits
      ∙ ap (λ b. cut_off cut b end) (sym (append_assoc (take count (front_of c.parts)) (unsent_bytes (after_sending count c.parts)) (texts_of p later))
      ∙ ap (λ r. r ++ texts_of p later) (sent-rest c.parts count le))

  rest_outcome-wrote : (c : ConnCoreState Hall) (script now : Script) (count : ℕ) → c.pending ≡ next.Write → IsToWrite p c → count ≤ length (front_of c.parts)
      → FitsCut script.cut count → now ≡ record script { cut = left_of_limit script.cut count }
      → with_written (take count (front_of c.parts)) (rest_outcome p (after_wrote c (after_sending count c.parts) count) now) ≡ rest_outcome p c script
  rest_outcome-wrote c script now count pending ready le fits is = by_rest (is_sent (after_sending count c.parts)) c.closes refl refl
    where
      front : List ℕ
      front = take count (front_of c.parts)

      input : Input
      input = limit_input (p.input_limit c.hall - c.read) (input_by c.input_ended 0 script)

      same_input : input_to_come p c script ≡ input
      same_input = ap (λ stage. limit_input (p.input_limit c.hall - c.read) (input_by c.input_ended (waits_at stage c.waits) script)) pending

      goes_on : (stage : Next) → waits_at stage 0 ≡ 0
          → with_written front (rest_outcome p (record c { parts = after_sending count c.parts; written = c.written + count; waits = 0; pending = stage }) now) ≡ rest_outcome p c script
      goes_on stage none =
          ap (with_written front) (
          rest_outcome-no_end (record c { parts = after_sending count c.parts; written = c.written + count; waits = 0; pending = stage }) now ready.no_end
          ∙ ap (λ (s : Script). ahead p (record c { parts = after_sending count c.parts }) s.cut (limit_input (p.input_limit c.hall - c.read) (input_by c.input_ended (waits_at stage 0) s))) is
          ∙ ap (λ w. ahead p (record c { parts = after_sending count c.parts }) (left_of_limit script.cut count)
          (limit_input (p.input_limit c.hall - c.read) (input_by c.input_ended w (record script { cut = left_of_limit script.cut count })))) none
          ∙ ap (ahead p (record c { parts = after_sending count c.parts }) (left_of_limit script.cut count)) (by_ended c.input_ended))
          ∙ ahead-wrote c script.cut count input le fits
          ∙ ap (ahead p c script.cut) (sym same_input)
          ∙ sym (rest_outcome-no_end c script ready.no_end)
        where
          by_ended : (ended : Bool) → limit_input (p.input_limit c.hall - c.read) (input_by ended 0 (record script { cut = left_of_limit script.cut count }))
              ≡ limit_input (p.input_limit c.hall - c.read) (input_by ended 0 script)
          by_ended true = refl
          by_ended false = refl

      by_rest : (nothing closes : Bool) → nothing ≡ is_sent (after_sending count c.parts) → closes ≡ c.closes
          → with_written front (rest_outcome p (after_part nothing closes (record c { parts = after_sending count c.parts; written = c.written + count; waits = 0 })) now) ≡ rest_outcome p c script
      by_rest false closes e f = goes_on c.pending (ap (λ stage. waits_at stage 0) pending)
      by_rest true false e f = goes_on next.Parse refl
      by_rest true true e f =
          let all : ahead p (record c { parts = after_sending count c.parts }) (left_of_limit script.cut count) input ≡ record { bytes = []; end = ending.Done } =
          ahead-sent (record c { parts = after_sending count c.parts }) (left_of_limit script.cut count) input (sym e) (sym f) in
          ap (with_written front) (sym all)
          ∙ ahead-wrote c script.cut count input le fits
          ∙ ap (ahead p c script.cut) (sym same_input)
          ∙ sym (rest_outcome-no_end c script ready.no_end)

  -- a write fails where no more may be written
  rest_outcome-failed : (c : ConnCoreState Hall) (script : Script) (size : ℕ) → IsToWrite p c → write.Failed ≡ (write_of script size).answer
      → record { bytes = []; end = ending.Fault } ≡ rest_outcome p c script
  rest_outcome-failed c script size ready answer = by_cut script.cut refl answer
    where
      by_cut : (cut : Option ℕ) → cut ≡ script.cut → write.Failed ≡ (write_by cut script size).answer → record { bytes = []; end = ending.Fault } ≡ rest_outcome p c script
      by_cut None e answer = cc
      by_cut (Some (suc limit)) e answer = cc
      by_cut (Some zero) e answer =
          let input = input_to_come p c script in
          let later = later_unless c.closes (p.answers (p.answer_limit c.hall - c.answered) c.hall (c.buffer ++ input.bytes)) in
          let end = end_of (c.closes || is_closed p later) input.stop in
          let some = something-rest c.parts ready.something in
          sym (rest_outcome-no_end c script ready.no_end
          ∙ ap (λ o. cut_off o (unsent_bytes c.parts ++ texts_of p later) end) (sym e)
          ∙ ap (λ t. if t then record { bytes = take 0 (unsent_bytes c.parts ++ texts_of p later); end = ending.Fault }
          else record { bytes = unsent_bytes c.parts ++ texts_of p later; end = end })
          (nat_le-true 1 (length (unsent_bytes c.parts ++ texts_of p later)) (omega (arith, length-append (unsent_bytes c.parts) (texts_of p later)))))

  -- ---- each step

  -- a step that makes no call of the link
  heads_moved : (c d : ConnCoreState Hall) (tells : Option LinkContents) (o : Outcome) → c.end ≡ None
      → ((script : Script) → rest_outcome p d script ≡ rest_outcome p c script) → HeadsFor p tells c o → HeadsFor p tells d o
  heads_moved c d None o none same heads = absurd heads
  heads_moved c d (Some tells) o none same heads = by_script tells.to_come heads
    where
      by_script : (to_come : Option Script) → HeadsByScript p to_come tells.written c o → HeadsByScript p to_come tells.written d o
      by_script None heads = absurd heads
      by_script (Some script) heads =
          unless d.end (with_written tells.written (rest_outcome p d script) ≡ o)
          (ap (with_written tells.written) (same script) ∙ subst (λ e. UnlessMemory e (with_written tells.written (rest_outcome p c script) ≡ o)) none heads)

  heads_read : (c : ConnCoreState Hall) (before now : Option LinkContents) (o : Outcome) (room : ℕ) (answer : LinkRead) (into : List ℕ) → c.pending ≡ next.Read → IsToRead p c
      → room ≡ room_of p c → length into ≡ room → LinkTakes before now room answer into → HeadsFor p before c o → HeadsFor p now (after_read c answer into) o
  heads_read c None now o room answer into pending ready is_room size e heads = absurd heads
  heads_read c (Some before) now o room answer into pending ready is_room size takes heads =
      subst (λ t. HeadsFor p t (after_read c answer into) o) (sym takes.is)
      (subst (λ w. HeadsByScript p takes.after.to_come w (after_read c answer into) o) (sym takes.written) (by_script before.to_come takes.to_come heads))
    where
      by_script : (to_come : Option Script) → ReadsAs to_come room answer into takes.after.to_come → HeadsByScript p to_come before.written c o
          → HeadsByScript p takes.after.to_come before.written (after_read c answer into) o
      by_script None none heads = absurd heads
      by_script (Some script) (said_answer, said_bytes, said_items) heads =
          let said = read_of room script.items in
          let some = ready.room in
          let patient = ready.between.patient in
          let gives : Gives c.waits answer (given_by answer into) said.items (input_from c.waits script.items) =
          subst (λ a. Gives c.waits a (given_by answer into) said.items (input_from c.waits script.items)) (sym said_answer)
          (subst (λ b. Gives c.waits said.answer b said.items (input_from c.waits script.items)) (sym said_bytes)
          (read_gives c.waits room script.items patient (omega arith))) in
          subst (λ s. HeadsByScript p s before.written (after_read c answer into) o) (sym said_items)
          (unless (after_read c answer into).end (with_written before.written (rest_outcome p (after_read c answer into) (record script { items = said.items })) ≡ o)
          (ap (with_written before.written)
          (rest_outcome-read c script answer into said.items pending ready gives (size ∙ is_room) (record script { items = said.items }) refl)
          ∙ subst (λ e. UnlessMemory e (with_written before.written (rest_outcome p c script) ≡ o)) ready.between.no_end heads))

  heads_write : (c : ConnCoreState Hall) (before now : Option LinkContents) (o : Outcome) (answer : LinkWrite) → c.pending ≡ next.Write → IsToWrite p c
      → IsWriteWithin answer (length (front_of c.parts)) → LinkPuts before now answer (front_of c.parts) → HeadsFor p before c o → HeadsFor p now (after_write c answer) o
  heads_write c None now o answer pending ready fits e heads = absurd heads
  heads_write c (Some before) now o answer pending ready fits puts heads =
      subst (λ t. HeadsFor p t (after_write c answer) o) (sym puts.is)
      (subst (λ w. HeadsByScript p puts.after.to_come w (after_write c answer) o) (sym puts.written) (by_script before.to_come puts.to_come puts.exact heads))
    where
      by_script : (to_come : Option Script) → WritesAs to_come (length (front_of c.parts)) answer puts.after.to_come → IsExact to_come answer (front_of c.parts) puts.front
          → HeadsByScript p to_come before.written c o → HeadsByScript p puts.after.to_come (before.written ++ puts.front) (after_write c answer) o
      by_script None none exact heads = absurd heads
      by_script (Some script) said exact heads =
          subst (λ f. HeadsByScript p puts.after.to_come (before.written ++ f) (after_write c answer) o) (sym exact) (by_answer answer fits said)
        where
          came_to : with_written before.written (rest_outcome p c script) ≡ o
          came_to = subst (λ e. UnlessMemory e (with_written before.written (rest_outcome p c script) ≡ o)) ready.no_end heads

          by_answer : (answer : LinkWrite) → IsWriteWithin answer (length (front_of c.parts))
              → WritesAs (Some script) (length (front_of c.parts)) answer puts.after.to_come
              → HeadsByScript p puts.after.to_come (before.written ++ written_by answer (front_of c.parts)) (after_write c answer) o
          by_answer (write.Wrote count) fits (answer, is) =
              let said = write_of script (length (front_of c.parts)) in
              let wrote = wrote_script script said.script (length (front_of c.parts)) count answer refl in
              subst (λ s. HeadsByScript p s (before.written ++ take count (front_of c.parts)) (after_write c (write.Wrote count)) o) (sym is)
              (unless (after_write c (write.Wrote count)).end
              (with_written (before.written ++ take count (front_of c.parts)) (rest_outcome p (after_write c (write.Wrote count)) said.script) ≡ o)
              (with_written-append before.written (take count (front_of c.parts)) (rest_outcome p (after_write c (write.Wrote count)) said.script)
              ∙ ap (with_written before.written) (rest_outcome-wrote c script said.script count pending ready fits.1 wrote.1 wrote.0)
              ∙ came_to))
          by_answer write.NotReady fits (answer, is) = absurd (never_waits script (length (front_of c.parts)) answer)
          by_answer write.Failed fits (answer, is) =
              subst (λ s. HeadsByScript p s (before.written ++ []) (ending_as c ending.Fault) o) (sym is)
              (ap (λ w. with_written w (record { bytes = []; end = ending.Fault })) (append-nil before.written)
              ∙ ap (with_written before.written) (rest_outcome-failed c script (length (front_of c.parts)) ready answer)
              ∙ came_to)
          by_answer write.Memory fits is = subst (λ s. HeadsByScript p s (before.written ++ []) (ending_as c ending.Memory) o) (sym is) tt

  -- the close changes nothing
  heads_closed : (c : ConnCoreState Hall) (tells : Option LinkContents) (o : Outcome) → c.end ≢ None → HeadsFor p tells c o → HeadsFor p tells (going_to c next.Nothing) o
  heads_closed c None o ended heads = absurd heads
  heads_closed c (Some tells) o ended heads = by_script tells.to_come heads
    where
      same : (script : Script) → rest_outcome p (going_to c next.Nothing) script ≡ rest_outcome p c script
      same script = by_end c.end refl
        where
          by_end : (end : Option End) → end ≡ c.end → rest_outcome p (going_to c next.Nothing) script ≡ rest_outcome p c script
          by_end None e = absurd (ended (sym e))
          by_end (Some end) e = rest_outcome-end (going_to c next.Nothing) script end (sym e) ∙ sym (rest_outcome-end c script end (sym e))

      by_script : (to_come : Option Script) → HeadsByScript p to_come tells.written c o → HeadsByScript p to_come tells.written (going_to c next.Nothing) o
      by_script None heads = absurd heads
      by_script (Some script) heads = subst (λ h. UnlessMemory c.end (with_written tells.written h ≡ o)) (sym (same script)) heads

  module _ {L : Type 0} (x : LinkWords L) where
    heads_link : (c d : ConnCoreState Hall) (link now : Option L) (o : Outcome) → c.end ≡ None → now ≡ link
        → ((script : Script) → rest_outcome p d script ≡ rest_outcome p c script) → HeadsForLink p x link c o → HeadsForLink p x now d o
    heads_link c d link now o none e same heads = subst (λ l. HeadsForLink p x l d o) (sym e) (by_link link heads)
      where
        by_link : (link : Option L) → HeadsForLink p x link c o → HeadsForLink p x link d o
        by_link None heads = absurd heads
        by_link (Some l) heads = heads_moved c d (x.tells l) o none same heads

    -- a step leaves what a connection comes to
    pub heads_step : (c d : ConnCoreState Hall) (link now : Option L) (o : Outcome) → IsReadyTo p c.pending c → StepsFrom p x c d c.pending link now
        → HeadsForLink p x link c o → HeadsForLink p x now d o
    heads_step c d link now o ready steps heads = by_pending c.pending refl ready steps
      where
        read_over : (link now : Option L) → HeadsForLink p x link c o → c.pending ≡ next.Read → IsToRead p c → OverLink x c d (ReadsOnce p x c d) link now → HeadsForLink p x now d o
        read_over (Some link) (Some now) heads e ready once = subst (λ s. HeadsFor p (x.tells now) s o) (sym once.becomes)
            (heads_read c (x.tells link) (x.tells now) o (room_of p c) once.answer once.into e ready refl once.called.size once.called.takes heads)
        read_over (Some link) None heads e ready once = absurd once
        read_over None now heads e ready once = absurd once

        write_over : (link now : Option L) → HeadsForLink p x link c o → c.pending ≡ next.Write → IsToWrite p c → OverLink x c d (WritesOnce x c d) link now → HeadsForLink p x now d o
        write_over (Some link) (Some now) heads e ready once = subst (λ s. HeadsFor p (x.tells now) s o) (sym once.becomes)
            (heads_write c (x.tells link) (x.tells now) o once.answer e ready once.called.fits once.called.puts heads)
        write_over (Some link) None heads e ready once = absurd once
        write_over None now heads e ready once = absurd once

        close_over : (link now : Option L) → HeadsForLink p x link c o → c.end ≢ None → OverLink x c d (ShutsOnce x c d) link now → HeadsForLink p x now d o
        close_over (Some link) (Some now) heads ended once = subst (λ s. HeadsFor p (x.tells now) s o) (sym once.becomes)
            (subst (λ t. HeadsFor p t (going_to c next.Nothing) o) (sym once.called.same) (heads_closed c (x.tells link) o ended heads))
        close_over (Some link) None heads ended once = absurd once
        close_over None now heads ended once = absurd once

        by_pending : (pending : Next) → pending ≡ c.pending → IsReadyTo p pending c → StepsFrom p x c d pending link now → HeadsForLink p x now d o
        by_pending next.Open e ready steps = subst (λ l. HeadsForLink p x l d o) (sym steps.1) (subst (λ s. HeadsForLink p x link s o) (sym steps.0) heads)
        by_pending next.Read e ready steps = read_over link now heads (sym e) ready steps
        by_pending next.Parse e ready steps = heads_link c d link now o ready.between.no_end steps.1
            (λ script. ap (λ s. rest_outcome p s script) steps.0 ∙ rest_outcome-parse c script (sym e) ready) heads
        by_pending next.Look e ready steps = heads_link c d link now o ready.between.no_end steps.1
            (λ script. ap (λ s. rest_outcome p s script) steps.0 ∙ rest_outcome-look c script (sym e) ready) heads
        by_pending next.Write e ready steps = write_over link now heads (sym e) ready steps
        by_pending next.Wait e ready steps = absurd steps
        by_pending next.Close e ready steps = close_over link now heads ready.ended steps
        by_pending next.Nothing e ready steps = subst (λ l. HeadsForLink p x l d o) (sym steps.1) (subst (λ s. HeadsForLink p x link s o) (sym steps.0) heads)

  -- ---- the start and the end

  -- a connection that was opened comes to the outcome
  rest_outcome-opened : (hall : Hall) (script : Script) → rest_outcome p (going_to (core_before_open hall) next.Read) script ≡ outcome_of p hall script
  rest_outcome-opened hall script =
      let input = limit_input (p.input_limit hall) (input_from 0 script.items) in
      let given : p.answers_to hall input.bytes ≡ p.answers (p.answer_limit hall) hall input.bytes =
      orderly.all hall input.bytes ∙ ap (p.answers (p.answer_limit hall) hall) (take_all (p.input_limit hall) input.bytes (limited-few (p.input_limit hall) (input_from 0 script.items))) in
      ap (λ n. ahead p (going_to (core_before_open hall) next.Read) script.cut (limit_input n (input_from 0 script.items))) (let whole : p.input_limit hall - 0 ≡ p.input_limit hall = omega arith in whole)
      ∙ ap (λ n. cut_off script.cut (texts_of p (p.answers n hall input.bytes)) (end_of (is_closed p (p.answers n hall input.bytes)) input.stop))
      (let whole : p.answer_limit hall - 0 ≡ p.answer_limit hall = omega arith in whole)
      ∙ ap (λ given. cut_off script.cut (texts_of p given) (end_of (is_closed p given) input.stop)) (sym given)

  -- what it comes to is what it has come to, once it has ended
  heads_end : (hall : Hall) (script : Script) (c : ConnCoreState Hall) (now : Option LinkContents) (end : End) → c.end ≡ Some end
      → HeadsFor p now c (outcome_of p hall script) → EndsByScript p hall (Some script) now end
  heads_end hall script c None end is heads = absurd heads
  heads_end hall script c (Some tells) end is heads = by_script tells.to_come heads
    where
      by_end : (end : End) (Fact Other : Type 0) → (Fact → Other) → UnlessMemory (Some end) Fact → UnlessMemory (Some end) Other
      by_end ending.Done Fact Other to h = to h
      by_end ending.Idle Fact Other to h = to h
      by_end ending.Fault Fact Other to h = to h
      by_end ending.Memory Fact Other to h = tt

      by_script : (to_come : Option Script) → HeadsByScript p to_come tells.written c (outcome_of p hall script) → EndsByScript p hall (Some script) (Some tells) end
      by_script None heads = absurd heads
      by_script (Some rest) heads = by_end end
          (with_written tells.written (rest_outcome p c rest) ≡ outcome_of p hall script)
          ((told : LinkContents) × (Some tells ≡ Some told) × (told.written ≡ (outcome_of p hall script).bytes) × (end ≡ (outcome_of p hall script).end))
          (λ e. (
            tells,
            refl,
            sym (append-nil tells.written) ∙ ap (λ (o : Outcome). tells.written ++ o.bytes) (sym (rest_outcome-end c rest end is)) ∙ ap (λ (o : Outcome). o.bytes) e,
            ap (λ (o : Outcome). o.end) (sym (rest_outcome-end c rest end is)) ∙ ap (λ (o : Outcome). o.end) e,
          ))
          (subst (λ e. UnlessMemory e (with_written tells.written (rest_outcome p c rest) ≡ outcome_of p hall script)) is heads)

  -- a link that tells its answers to come, and of which nothing was written
  heads_start : (hall : Hall) (tells : LinkContents) (script : Script) → tells.to_come ≡ Some script → tells.written ≡ []
      → HeadsFor p (Some tells) (going_to (core_before_open hall) next.Read) (outcome_of p hall script)
  heads_start hall tells script to_come none =
      subst (λ s. HeadsByScript p s tells.written (going_to (core_before_open hall) next.Read) (outcome_of p hall script)) (sym to_come)
      (ap (λ w. with_written w (rest_outcome p (going_to (core_before_open hall) next.Read) script)) none ∙ rest_outcome-opened hall script)

  -- a connection that comes to the outcome from the start comes to it at the end
  pub ends_as : (hall : Hall) (first now : Option LinkContents) (c : ConnCoreState Hall) (end : End) → IsInitialLink first → c.end ≡ Some end
      → ((o : Outcome) → HeadsFor p first (going_to (core_before_open hall) next.Read) o → HeadsFor p now c o) → EndsAs p hall first now end
  ends_as hall None now c end initial is heads = tt
  ends_as hall (Some tells) now c end initial is heads = by_script tells.to_come refl
    where
      by_script : (to_come : Option Script) → to_come ≡ tells.to_come → EndsByScript p hall to_come now end
      by_script None e = tt
      by_script (Some script) e = heads_end hall script c now end is (heads (outcome_of p hall script) (heads_start hall tells script (sym e) initial.1))

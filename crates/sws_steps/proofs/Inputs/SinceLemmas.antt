-- What has become of a link since its connection was opened: its input, and its counts.
use Rattle.std.specs.Prelude.{if◌then◌else◌}
use Rattle.std.proofs.Common.{inl, inr, ◌≡◌, ℕ, ◌+◌, ◌≤◌, Bool, true, false, nat_le, List, [], ◌++◌, take, drop, Option, Some, None, refl, sym, ap, ◌∙◌, subst, arith, append_assoc}
use Rattle.sws_link.specs.declared.Link.{Ghosts as LinkWords}
use Rattle.sws_link.specs.declared.LinkRead.{LinkRead}
use Rattle.sws_link.specs.declared.LinkRead.TheVariants as read
use Rattle.sws_link.specs.declared.LinkWrite.{LinkWrite}
use Rattle.sws_link.specs.declared.LinkWrite.TheVariants as write
use Rattle.sws_link.specs.Counts.{Count, Rose, IsLater}
use Rattle.sws_link.specs.Links.{LinkContents, LinkTakes, LinkPuts, Reads, Writes, input_of, given_by}
use Rattle.sws_link.proofs.CountLemmas.{IsLater-same, IsLater-trans, Rose-later, Rose-earlier}
use Rattle.sws_parts.specs.Parts.{front_of, after_sending}
use Rattle.sws_steps.specs.Protocol.{Protocol, Cut, Whole, TooLong, NotYet, request, too_long}
use Rattle.sws_steps.specs.declared.End.TheVariants as ending
use Rattle.sws_steps.specs.declared.Next.{Next}
use Rattle.sws_steps.specs.declared.Next.TheVariants as next
use Rattle.sws_steps.specs.ConnCore.{ConnCoreState, is_sent}
use Rattle.sws_steps.specs.Step.{StepsFrom, ReadsOnce, WritesOnce, ShutsOnce, going_to, ending_as, still_waiting, room_of, wait_limit, has_all_input, after_read, after_parse, after_answer, with_answer, is_last, after_look, after_part, after_write}
use Rattle.sws_steps.specs.Sound.{IsReadyTo}
use Rattle.sws_steps.specs.Serving.{RoseBy}

-- ---- the input

unfoldable pub SameInput : Option LinkContents → Option LinkContents → Type 0
SameInput None now = now ≡ None
SameInput (Some before) now = (after : LinkContents) × (now ≡ Some after) × (input_of after ≡ input_of before)

pub same_input : (tells : Option LinkContents) → SameInput tells tells
unfolding SameInput
same_input None = refl
same_input (Some tells) = (tells, refl, refl)

input-then : (a b c : Option LinkContents) → SameInput a b → SameInput b c → SameInput a c
unfolding SameInput
input-then None b c first second = subst (λ b. SameInput b c) first second
input-then (Some a) b c (told, is, same) second =
    let next : SameInput (Some told) c = subst (λ b. SameInput b c) is second in
    (next.0, next.1, next.2 ∙ same)

takes_input : (before now : Option LinkContents) (room : ℕ) (answer : LinkRead) (into : List ℕ) → LinkTakes before now room answer into → SameInput before now
unfolding SameInput
takes_input None now room answer into takes = takes
takes_input (Some before) now room answer into takes = (
  takes.after,
  takes.is,
  ap (λ t. t ++ takes.after.left) takes.taken ∙ append_assoc before.taken (given_by answer into) takes.after.left
      ∙ ap (λ l. before.taken ++ l) (sym takes.left),
)

puts_input : (before now : Option LinkContents) (answer : LinkWrite) (piece : List ℕ) → LinkPuts before now answer piece → SameInput before now
unfolding SameInput
puts_input None now answer piece puts = puts
puts_input (Some before) now answer piece puts =
    (puts.after, puts.is, ap (λ t. t ++ puts.after.left) puts.taken ∙ ap (λ l. before.taken ++ l) puts.left)

-- ---- the counts

rose_by-none : (a b : Count) → IsLater a b → RoseBy 0 a b
rose_by-none a b later = let less = later.no_less in inl (omega arith)

rose_by-later : (n : ℕ) (a b c : Count) → RoseBy n a b → IsLater b c → RoseBy n a c
rose_by-later n a b c rose later = elim rose [
  | inl more ↦ (let less = later.no_less in inl (omega arith))
  | inr full ↦ inr (later.stays_full full)
]

rose_by-more : (n : ℕ) (a b c : Count) → RoseBy n a b → IsLater b c → Rose b c → RoseBy (n + 1) a c
rose_by-more n a b c rose later rises = elim rose [
  | inl more ↦ by_rise more rises
  | inr full ↦ inr (later.stays_full full)
]
  where
    by_rise : a.number + n ≤ b.number → Rose b c → RoseBy (n + 1) a c
    by_rise more (inl less) = inl (omega arith)
    by_rise more (inr full) = inr (later.stays_full full)

-- ---- a connection since it was opened

module _ {Hall L : Type 0} (x : LinkWords L) (first : L) where
  pub record Since (c : ConnCoreState Hall) (now : L) : Type 0 where
    pub input : SameInput (x.tells first) (x.tells now)
    pub faults : IsLater (x.faults first) (x.faults now)
    pub failed : c.end ≡ Some ending.Fault → Rose (x.faults first) (x.faults now)
    pub waits : IsLater (x.waits first) (x.waits now)
    pub waited : RoseBy c.waits (x.waits first) (x.waits now)

  unfoldable pub SinceLink : ConnCoreState Hall → Option L → Type 0
  SinceLink c None = ⊥
  SinceLink c (Some now) = Since c now

  pub since-opened : (c : ConnCoreState Hall) → c.end ≡ None → c.waits ≡ 0 → SinceLink c (Some first)
  unfolding SinceLink
  since-opened c none zero = record {
    input = same_input (x.tells first);
    faults = IsLater-same (x.faults first);
    failed = λ f. (let no : None ≡ Some ending.Fault = sym none ∙ f in cc);
    waits = IsLater-same (x.waits first);
    waited = subst (λ n. RoseBy n (x.waits first) (x.waits first)) (sym zero) (rose_by-none (x.waits first) (x.waits first) (IsLater-same (x.waits first)));
  }

  -- a step without a call
  since-moved : (c d : ConnCoreState Hall) (link now : Option L) → now ≡ link → (d.end ≡ Some ending.Fault → c.end ≡ Some ending.Fault) → d.waits ≡ c.waits
      → SinceLink c link → SinceLink d now
  unfolding SinceLink
  since-moved c d link now e failed waits since = subst (SinceLink d) (sym e) (by_link link since)
    where
      by_link : (link : Option L) → SinceLink c link → SinceLink d link
      by_link None since = since
      by_link (Some l) since = record {
        input = since.input;
        faults = since.faults;
        failed = λ f. since.failed (failed f);
        waits = since.waits;
        waited = subst (λ n. RoseBy n (x.waits first) (x.waits l)) (sym waits) since.waited;
      }

  -- a step with a call
  since-called : (c d : ConnCoreState Hall) (link now : L) → SameInput (x.tells link) (x.tells now)
      → IsLater (x.faults link) (x.faults now) → (d.end ≡ Some ending.Fault → Rose (x.faults first) (x.faults now))
      → IsLater (x.waits link) (x.waits now) → RoseBy d.waits (x.waits first) (x.waits now)
      → Since c link → Since d now
  since-called c d link now input faults failed waits waited since = record {
    input = input-then (x.tells first) (x.tells link) (x.tells now) since.input input;
    faults = IsLater-trans (x.faults first) (x.faults link) (x.faults now) since.faults faults;
    failed = failed;
    waits = IsLater-trans (x.waits first) (x.waits link) (x.waits now) since.waits waits;
    waited = waited;
  }

  no_fault : (c : ConnCoreState Hall) (Fact : Type 0) → c.end ≡ None → c.end ≡ Some ending.Fault → Fact
  no_fault c Fact none f = let no : None ≡ Some ending.Fault = sym none ∙ f in absurd (cc)

  since-write : (c d : ConnCoreState Hall) (link now : L) → c.end ≡ None → WritesOnce x c d link now → Since c link → Since d now
  since-write c d link now none once since = subst (λ s. Since s now) (sym once.becomes) (by_answer once.answer once.called)
    where
      by_answer : (answer : LinkWrite) → Writes x.tells x.is_shut x.faults x.waits link (front_of c.parts) answer now → Since (after_write c answer) now
      by_answer (write.Wrote count) called = by_rest (is_sent (after_sending count c.parts)) c.closes
        where
          input : SameInput (x.tells link) (x.tells now)
          input = puts_input (x.tells link) (x.tells now) (write.Wrote count) (front_of c.parts) called.puts

          zero : RoseBy 0 (x.waits first) (x.waits now)
          zero = rose_by-none (x.waits first) (x.waits now) (IsLater-trans (x.waits first) (x.waits link) (x.waits now) since.waits called.waited.later)

          wrote : ConnCoreState Hall
          wrote = record c { parts = after_sending count c.parts; written = c.written + count; waits = 0 }

          by_rest : (sent closes : Bool) → Since (after_part sent closes (record c { parts = after_sending count c.parts; written = c.written + count; waits = 0 })) now
          by_rest false closes = since-called c (record c { parts = after_sending count c.parts; written = c.written + count; waits = 0 }) link now
              input called.failed.later (no_fault c (Rose (x.faults first) (x.faults now)) none) called.waited.later zero since
          by_rest true true = since-called c (ending_as (record c { parts = after_sending count c.parts; written = c.written + count; waits = 0 }) ending.Done) link now
              input called.failed.later (λ f. (cc)) called.waited.later zero since
          by_rest true false = since-called c (going_to (record c { parts = after_sending count c.parts; written = c.written + count; waits = 0 }) next.Parse) link now
              input called.failed.later (no_fault c (Rose (x.faults first) (x.faults now)) none) called.waited.later zero since
      by_answer write.NotReady called = by_wait (nat_le wait_limit (c.waits + 1))
        where
          more : RoseBy (c.waits + 1) (x.waits first) (x.waits now)
          more = rose_by-more c.waits (x.waits first) (x.waits link) (x.waits now) since.waited called.waited.later (called.waited.rose refl)

          input : SameInput (x.tells link) (x.tells now)
          input = puts_input (x.tells link) (x.tells now) write.NotReady (front_of c.parts) called.puts

          by_wait : (all : Bool) → Since (still_waiting c all) now
          by_wait true = since-called c (still_waiting c true) link now input called.failed.later (λ f. (cc)) called.waited.later more since
          by_wait false = since-called c (still_waiting c false) link now input called.failed.later
              (no_fault c (Rose (x.faults first) (x.faults now)) none) called.waited.later more since
      by_answer write.Failed called = since-called c (ending_as c ending.Fault) link now
          (puts_input (x.tells link) (x.tells now) write.Failed (front_of c.parts) called.puts)
          called.failed.later
          (λ f. Rose-earlier (x.faults first) (x.faults link) (x.faults now) since.faults called.failed.later (called.failed.rose refl))
          called.waited.later (rose_by-later c.waits (x.waits first) (x.waits link) (x.waits now) since.waited called.waited.later) since
      by_answer write.Memory called = since-called c (ending_as c ending.Memory) link now
          (puts_input (x.tells link) (x.tells now) write.Memory (front_of c.parts) called.puts)
          called.failed.later (λ f. (cc)) called.waited.later
          (rose_by-later c.waits (x.waits first) (x.waits link) (x.waits now) since.waited called.waited.later) since

  since-shut : (c d : ConnCoreState Hall) (link now : L) → ShutsOnce x c d link now → Since c link → Since d now
  since-shut c d link now once since = subst (λ s. Since s now) (sym once.becomes)
      (since-called c (going_to c next.Nothing) link now (subst (λ t. SameInput (x.tells link) t) (sym once.called.same) (same_input (x.tells link)))
      same_faults (λ f. Rose-later (x.faults first) (x.faults link) (x.faults now) (since.failed f) same_faults) same_waits
      (rose_by-later c.waits (x.waits first) (x.waits link) (x.waits now) since.waited same_waits) since)
    where
      same_faults : IsLater (x.faults link) (x.faults now)
      same_faults = subst (IsLater (x.faults link)) (sym once.called.same_faults) (IsLater-same (x.faults link))

      same_waits : IsLater (x.waits link) (x.waits now)
      same_waits = subst (IsLater (x.waits link)) (sym once.called.same_waits) (IsLater-same (x.waits link))

module _ {Hall Answer L : Type 0} (p : Protocol Hall Answer) (x : LinkWords L) (first : L) where
  since-read : (c d : ConnCoreState Hall) (link now : L) → c.end ≡ None → ReadsOnce p x c d link now → Since x first c link → Since x first d now
  since-read c d link now none once since = subst (λ s. Since x first s now) (sym once.becomes) (by_answer once.answer once.called)
    where
      by_answer : (answer : LinkRead) → Reads x.tells x.is_shut x.faults x.waits link (room_of p c) answer once.into now → Since x first (after_read c answer once.into) now
      by_answer (read.Took count) called = since-called x first c (after_read c (read.Took count) once.into) link now
          (takes_input (x.tells link) (x.tells now) (room_of p c) (read.Took count) once.into called.takes)
          called.failed.later (no_fault x first c (Rose (x.faults first) (x.faults now)) none) called.waited.later
          (rose_by-none (x.waits first) (x.waits now) (IsLater-trans (x.waits first) (x.waits link) (x.waits now) since.waits called.waited.later)) since
      by_answer read.End called = since-called x first c (after_read c read.End once.into) link now
          (takes_input (x.tells link) (x.tells now) (room_of p c) read.End once.into called.takes)
          called.failed.later (no_fault x first c (Rose (x.faults first) (x.faults now)) none) called.waited.later
          (rose_by-none (x.waits first) (x.waits now) (IsLater-trans (x.waits first) (x.waits link) (x.waits now) since.waits called.waited.later)) since
      by_answer read.NotReady called = by_wait (nat_le wait_limit (c.waits + 1))
        where
          more : RoseBy (c.waits + 1) (x.waits first) (x.waits now)
          more = rose_by-more c.waits (x.waits first) (x.waits link) (x.waits now) since.waited called.waited.later (called.waited.rose refl)

          input : SameInput (x.tells link) (x.tells now)
          input = takes_input (x.tells link) (x.tells now) (room_of p c) read.NotReady once.into called.takes

          by_wait : (all : Bool) → Since x first (still_waiting c all) now
          by_wait true = since-called x first c (still_waiting c true) link now input called.failed.later (λ f. (cc)) called.waited.later more since
          by_wait false = since-called x first c (still_waiting c false) link now input called.failed.later
              (no_fault x first c (Rose (x.faults first) (x.faults now)) none) called.waited.later more since
      by_answer read.Failed called = since-called x first c (ending_as c ending.Fault) link now
          (takes_input (x.tells link) (x.tells now) (room_of p c) read.Failed once.into called.takes)
          called.failed.later
          (λ f. Rose-earlier (x.faults first) (x.faults link) (x.faults now) since.faults called.failed.later (called.failed.rose refl))
          called.waited.later (rose_by-later c.waits (x.waits first) (x.waits link) (x.waits now) since.waited called.waited.later) since

  pub since-step : (c d : ConnCoreState Hall) (link now : Option L) → IsReadyTo p c.pending c → StepsFrom p x c d c.pending link now
      → SinceLink x first c link → SinceLink x first d now
  unfolding SinceLink
  since-step c d link now ready steps since = by_pending c.pending link now ready steps since
    where
      parse_end : (cut : Cut) → (after_parse p c cut).end ≡ Some ending.Fault → c.end ≡ Some ending.Fault
      parse_end (Whole len) f = f
      parse_end TooLong f = f
      parse_end NotYet f = by_input (has_all_input p c) f
        where
          by_input : (all : Bool) → (if all then ending_as c ending.Done else going_to c next.Read).end ≡ Some ending.Fault → c.end ≡ Some ending.Fault
          by_input true f = absurd (cc)
          by_input false f = f

      parse_waits : (cut : Cut) → (after_parse p c cut).waits ≡ c.waits
      parse_waits (Whole len) = refl
      parse_waits TooLong = refl
      parse_waits NotYet = by_input (has_all_input p c)
        where
          by_input : (all : Bool) → (if all then ending_as c ending.Done else going_to c next.Read).waits ≡ c.waits
          by_input true = refl
          by_input false = refl

      part_end : (s : ConnCoreState Hall) (nothing closes : Bool) → (after_part nothing closes s).end ≡ Some ending.Fault → s.end ≡ Some ending.Fault
      part_end s false closes f = f
      part_end s true true f = absurd (cc)
      part_end s true false f = f

      part_waits : (s : ConnCoreState Hall) (nothing closes : Bool) → (after_part nothing closes s).waits ≡ s.waits
      part_waits s false closes = refl
      part_waits s true true = refl
      part_waits s true false = refl

      answering_end : (answer : Answer) (rest : List ℕ) → (after_answer p c answer rest).end ≡ Some ending.Fault → c.end ≡ Some ending.Fault
      answering_end answer rest f = part_end (with_answer p c answer rest) (p.is_empty answer) (p.closes answer) f

      look_end : (cut : Cut) → (after_look p c cut).end ≡ Some ending.Fault → c.end ≡ Some ending.Fault
      look_end (Whole len) f = answering_end (p.answer c.hall (request (take len c.buffer)) (is_last p c)) (drop len c.buffer) f
      look_end TooLong f = answering_end (p.answer c.hall too_long (is_last p c)) [] f
      look_end NotYet f = f

      answering_waits : (answer : Answer) (rest : List ℕ) → (after_answer p c answer rest).waits ≡ c.waits
      answering_waits answer rest = part_waits (with_answer p c answer rest) (p.is_empty answer) (p.closes answer)

      look_waits : (cut : Cut) → (after_look p c cut).waits ≡ c.waits
      look_waits (Whole len) = answering_waits (p.answer c.hall (request (take len c.buffer)) (is_last p c)) (drop len c.buffer)
      look_waits TooLong = answering_waits (p.answer c.hall too_long (is_last p c)) []
      look_waits NotYet = refl

      end_of : {s : ConnCoreState Hall} → d ≡ s → d.end ≡ s.end
      end_of e = ap (λ (s : ConnCoreState Hall). s.end) e

      waits_of : {s : ConnCoreState Hall} → d ≡ s → d.waits ≡ s.waits
      waits_of e = ap (λ (s : ConnCoreState Hall). s.waits) e

      by_pending : (pending : Next) (link now : Option L) → IsReadyTo p pending c → StepsFrom p x c d pending link now → SinceLink x first c link → SinceLink x first d now
      by_pending next.Open link now ready steps since = since-moved x first c d link now steps.1 (λ f. sym (end_of steps.0) ∙ f) (waits_of steps.0) since
      by_pending next.Read (Some link) (Some now) ready once since = since-read c d link now ready.between.no_end once since
      by_pending next.Read (Some link) None ready once since = absurd once
      by_pending next.Read None now ready once since = absurd once
      by_pending next.Parse link now ready steps since = since-moved x first c d link now steps.1
          (λ f. parse_end (p.cut c.buffer) (sym (end_of steps.0) ∙ f)) (waits_of steps.0 ∙ parse_waits (p.cut c.buffer)) since
      by_pending next.Look link now ready steps since = since-moved x first c d link now steps.1
          (λ f. look_end (p.cut c.buffer) (sym (end_of steps.0) ∙ f)) (waits_of steps.0 ∙ look_waits (p.cut c.buffer)) since
      by_pending next.Write (Some link) (Some now) ready once since = since-write x first c d link now ready.no_end once since
      by_pending next.Write (Some link) None ready once since = absurd once
      by_pending next.Write None now ready once since = absurd once
      by_pending next.Wait link now ready steps since = absurd steps
      by_pending next.Close (Some link) (Some now) ready once since = since-shut x first c d link now once since
      by_pending next.Close (Some link) None ready once since = absurd once
      by_pending next.Close None now ready once since = absurd once
      by_pending next.Nothing link now ready steps since = since-moved x first c d link now steps.1 (λ f. sym (end_of steps.0) ∙ f) (waits_of steps.0) since

-- The calls that a connection has made of its link, and its two counts of bytes.
use Rattle.std.specs.Prelude.{if◌then◌else◌}
use Rattle.std.proofs.Common.{◌≡◌, ℕ, ◌+◌, Bool, true, false, nat_le, List, [], ◌∷◌, ◌++◌, take, drop, Option, Some, None, refl, sym, ap, ◌∙◌, subst, add-zero}
use Rattle.sws_link.specs.declared.Link.{Ghosts as LinkWords}
use Rattle.sws_link.specs.declared.LinkRead.{LinkRead}
use Rattle.sws_link.specs.declared.LinkRead.TheVariants as read
use Rattle.sws_link.specs.declared.LinkWrite.{LinkWrite}
use Rattle.sws_link.specs.declared.LinkWrite.TheVariants as write
use Rattle.sws_link.specs.Exchanges.{LinkCall, read_call, write_call, shut_call, took, wrote, taken_in, written_in, Makes, Exchanges}
use Rattle.sws_link.proofs.ExchangeLemmas.{taken_in-append, written_in-append, exchanges-more}
use Rattle.sws_parts.specs.Parts.{after_sending, front_of}
use Rattle.sws_steps.specs.Protocol.{Protocol, Cut, Whole, TooLong, NotYet, request, too_long}
use Rattle.sws_steps.specs.declared.End.TheVariants as ending
use Rattle.sws_steps.specs.declared.Next.{Next}
use Rattle.sws_steps.specs.declared.Next.TheVariants as next
use Rattle.sws_steps.specs.ConnCore.{ConnCoreState, is_sent}
use Rattle.sws_steps.specs.Step.{StepsFrom, going_to, ending_as, still_waiting, room_of, wait_limit, has_all_input, after_read, after_parse, after_answer, with_answer, is_last, after_look, after_part, after_write}

-- so many more bytes were read and written
record Counts {Hall : Type 0} (c d : ConnCoreState Hall) (reads writes : ℕ) : Type 0 where
  read : d.read ≡ c.read + reads
  written : d.written ≡ c.written + writes

stays : {Hall : Type 0} (c : ConnCoreState Hall) → Counts c c 0 0
stays c = record { read = sym (add-zero c.read); written = sym (add-zero c.written) }

waits-count : {Hall : Type 0} (c : ConnCoreState Hall) (all : Bool) → Counts c (still_waiting c all) 0 0
waits-count c true = record { read = sym (add-zero c.read); written = sym (add-zero c.written) }
waits-count c false = record { read = sym (add-zero c.read); written = sym (add-zero c.written) }

read-count : {Hall : Type 0} (c : ConnCoreState Hall) (answer : LinkRead) (into : List ℕ) → Counts c (after_read c answer into) (took answer) 0
read-count c (read.Took count) into = record { read = refl; written = sym (add-zero c.written) }
read-count c read.End into = record { read = sym (add-zero c.read); written = sym (add-zero c.written) }
read-count c read.NotReady into = waits-count c (nat_le wait_limit (c.waits + 1))
read-count c read.Failed into = record { read = sym (add-zero c.read); written = sym (add-zero c.written) }

write-count : {Hall : Type 0} (c : ConnCoreState Hall) (answer : LinkWrite) → Counts c (after_write c answer) 0 (wrote answer)
write-count c (write.Wrote count) = by_rest (is_sent (after_sending count c.parts)) c.closes
  where
    by_rest : (nothing closes : Bool)
        → Counts c (after_part nothing closes (record c { parts = after_sending count c.parts; written = c.written + count; waits = 0 })) 0 count
    by_rest false closes = record { read = sym (add-zero c.read); written = refl }
    by_rest true true = record { read = sym (add-zero c.read); written = refl }
    by_rest true false = record { read = sym (add-zero c.read); written = refl }
write-count c write.NotReady = waits-count c (nat_le wait_limit (c.waits + 1))
write-count c write.Failed = record { read = sym (add-zero c.read); written = sym (add-zero c.written) }
write-count c write.Memory = record { read = sym (add-zero c.read); written = sym (add-zero c.written) }

module _ {Hall Answer : Type 0} (p : Protocol Hall Answer) (c : ConnCoreState Hall) where
  parse-count : (cut : Cut) → Counts c (after_parse p c cut) 0 0
  parse-count (Whole len) = record { read = sym (add-zero c.read); written = sym (add-zero c.written) }
  parse-count TooLong = record { read = sym (add-zero c.read); written = sym (add-zero c.written) }
  parse-count NotYet = by_input (has_all_input p c)
    where
      by_input : (all : Bool) → Counts c (if all then ending_as c ending.Done else going_to c next.Read) 0 0
      by_input true = record { read = sym (add-zero c.read); written = sym (add-zero c.written) }
      by_input false = record { read = sym (add-zero c.read); written = sym (add-zero c.written) }

  part-count : (s : ConnCoreState Hall) (nothing closes : Bool) → Counts c s 0 0 → Counts c (after_part nothing closes s) 0 0
  part-count s false closes counts = counts
  part-count s true true counts = record { read = counts.read; written = counts.written }
  part-count s true false counts = record { read = counts.read; written = counts.written }

  answering-count : (answer : Answer) (rest : List ℕ) → Counts c (after_answer p c answer rest) 0 0
  answering-count answer rest = part-count (with_answer p c answer rest) (p.is_empty answer) (p.closes answer)
      (record { read = sym (add-zero c.read); written = sym (add-zero c.written) })

  look-count : (cut : Cut) → Counts c (after_look p c cut) 0 0
  look-count (Whole len) = answering-count (p.answer c.hall (request (take len c.buffer)) (is_last p c)) (drop len c.buffer)
  look-count TooLong = answering-count (p.answer c.hall too_long (is_last p c)) []
  look-count NotYet = stays c

module _ {Hall L : Type 0} (x : LinkWords L) (first : L) where
  -- these calls led to the link as it is now, and the two counts are theirs
  pub record Exchanged (c : ConnCoreState Hall) (now : L) : Type 0 where
    pub calls : List LinkCall
    pub leads : Exchanges x.tells x.is_shut x.faults x.waits calls first now
    pub read : c.read ≡ taken_in calls
    pub written : c.written ≡ written_in calls

  unfoldable pub ExchangedLink : ConnCoreState Hall → Option L → Type 0
  ExchangedLink c None = ⊥
  ExchangedLink c (Some now) = Exchanged c now

  pub exchanged-opened : (c : ConnCoreState Hall) → c.read ≡ 0 → c.written ≡ 0 → ExchangedLink c (Some first)
  unfolding ExchangedLink Exchanges
  exchanged-opened c read written = record { calls = []; leads = refl; read = read; written = written }

  -- no call was made
  exchanged-moved : (c d : ConnCoreState Hall) (link now : Option L) → now ≡ link → Counts c d 0 0 → ExchangedLink c link → ExchangedLink d now
  unfolding ExchangedLink
  exchanged-moved c d link now e counts before = subst (ExchangedLink d) (sym e) (by_link link before)
    where
      by_link : (link : Option L) → ExchangedLink c link → ExchangedLink d link
      by_link None before = before
      by_link (Some l) before = record {
        calls = before.calls;
        leads = before.leads;
        read = counts.read ∙ add-zero c.read ∙ before.read;
        written = counts.written ∙ add-zero c.written ∙ before.written;
      }

  -- one call was made
  exchanged-called : (c d : ConnCoreState Hall) (link now : L) (call : LinkCall) → Makes x.tells x.is_shut x.faults x.waits call link now
      → Counts c d (taken_in (call ∷ [])) (written_in (call ∷ [])) → Exchanged c link → Exchanged d now
  exchanged-called c d link now call makes counts before = record {
    calls = before.calls ++ call ∷ [];
    leads = exchanges-more x.tells x.is_shut x.faults x.waits before.calls call first link now before.leads makes;
    read = counts.read ∙ ap (λ n. n + taken_in (call ∷ [])) before.read ∙ sym (taken_in-append before.calls (call ∷ []));
    written = counts.written ∙ ap (λ n. n + written_in (call ∷ [])) before.written ∙ sym (written_in-append before.calls (call ∷ []));
  }

module _ {Hall Answer L : Type 0} (p : Protocol Hall Answer) (x : LinkWords L) (first : L) where
  pub exchanged-step : (c d : ConnCoreState Hall) (link now : Option L) → StepsFrom p x c d c.pending link now → ExchangedLink x first c link → ExchangedLink x first d now
  unfolding ExchangedLink
  exchanged-step c d link now steps before = by_pending c.pending link now steps before
    where
      moved : (to : ConnCoreState Hall) (link now : Option L) → Counts c to 0 0 → d ≡ to → now ≡ link → ExchangedLink x first c link → ExchangedLink x first d now
      moved to link now counts is same before = exchanged-moved x first c d link now same (subst (λ s. Counts c s 0 0) (sym is) counts) before

      by_pending : (pending : Next) (link now : Option L) → StepsFrom p x c d pending link now → ExchangedLink x first c link → ExchangedLink x first d now
      by_pending next.Open link now steps before = moved c link now (stays c) steps.0 steps.1 before
      by_pending next.Read (Some link) (Some now) once before =
          exchanged-called x first c d link now (read_call (room_of p c) once.answer once.into) once.called
          (subst (λ s. Counts c s (took once.answer + 0) 0) (sym once.becomes)
          (subst (λ n. Counts c (after_read c once.answer once.into) n 0) (sym (add-zero (took once.answer))) (read-count c once.answer once.into)))
          before
      by_pending next.Read (Some link) None once before = absurd once
      by_pending next.Read None now once before = absurd once
      by_pending next.Parse link now steps before = moved (after_parse p c (p.cut c.buffer)) link now (parse-count p c (p.cut c.buffer)) steps.0 steps.1 before
      by_pending next.Look link now steps before = moved (after_look p c (p.cut c.buffer)) link now (look-count p c (p.cut c.buffer)) steps.0 steps.1 before
      by_pending next.Write (Some link) (Some now) once before =
          exchanged-called x first c d link now (write_call (front_of c.parts) once.answer) once.called
          (subst (λ s. Counts c s 0 (wrote once.answer + 0)) (sym once.becomes)
          (subst (λ n. Counts c (after_write c once.answer) 0 n) (sym (add-zero (wrote once.answer))) (write-count c once.answer)))
          before
      by_pending next.Write (Some link) None once before = absurd once
      by_pending next.Write None now once before = absurd once
      by_pending next.Wait link now steps before = absurd steps
      by_pending next.Close (Some link) (Some now) once before =
          exchanged-called x first c d link now shut_call once.called
          (subst (λ s. Counts c s 0 0) (sym once.becomes) (record { read = sym (add-zero c.read); written = sym (add-zero c.written) }))
          before
      by_pending next.Close (Some link) None once before = absurd once
      by_pending next.Close None now once before = absurd once
      by_pending next.Nothing link now steps before = moved c link now (stays c) steps.0 steps.1 before

-- Each step leaves fewer.
use Rattle.std.specs.Prelude.{if◌then◌else◌}
use Rattle.std.proofs.Common.{◌≡◌, ◌≢◌, ℕ, suc, ◌+◌, ◌-◌, ◌*◌, ◌<◌, ◌≤◌, Bool, true, false, nat_le, List, [], length, take, drop, Option, Some, None, refl, sym, ap, ◌∙◌, subst, arith, length-append, length-take}
use native.Mathlib.Nat.{suc-mul}
use Rattle.sws_link.specs.declared.Link.{Ghosts as LinkWords}
use Rattle.sws_link.specs.declared.LinkRead.{LinkRead}
use Rattle.sws_link.specs.declared.LinkRead.TheVariants as read
use Rattle.sws_link.specs.declared.LinkWrite.{LinkWrite}
use Rattle.sws_link.specs.declared.LinkWrite.TheVariants as write
use Rattle.sws_link.specs.Links.{IsReadWithin, IsWriteWithin}
use Rattle.sws_parts.specs.Parts.{front_of, unsent_bytes, after_sending}
use Rattle.sws_steps.specs.Protocol.{Protocol, IsOrderly, Cut, Whole, TooLong, NotYet, request, too_long, text_of}
use Rattle.sws_steps.specs.ConnCore.{is_sent, ConnCoreState}
use Rattle.sws_steps.specs.declared.End.TheVariants as ending
use Rattle.sws_steps.specs.declared.Next.{Next}
use Rattle.sws_steps.specs.declared.Next.TheVariants as next
use Rattle.sws_steps.specs.Step.{StepsFrom, ReadsOnce, WritesOnce, ShutsOnce, OverLink, going_to, ending_as, still_waiting, room_of, wait_limit, has_all_input, after_read, after_parse, after_answer, with_answer, is_last, after_look, after_part, after_write}
use Rattle.sws_steps.specs.Sound.{IsReadyTo, IsToRead, IsToLook, IsToWrite}
use Rattle.sws_steps.specs.Path.{steps_left, rank_of, input_left}
use Rattle.sws_steps.proofs.Inputs.PartLemmas.{sent-rest}

-- the share of one answer in the bound
share : (limit answered size : ℕ) → answered < limit → (limit - answered) * (size + 1) ≡ (limit - (answered + 1)) * (size + 1) + (size + 1)
share limit answered size more =
    ap (λ n. n * (size + 1)) (let one : limit - answered ≡ suc (limit - (answered + 1)) = omega arith in one) ∙ suc-mul (limit - (answered + 1)) (size + 1)

module _ {Hall Answer : Type 0} (p : Protocol Hall Answer) (orderly : IsOrderly p) where
  wait_less : (c : ConnCoreState Hall) (all : Bool) → all ≡ nat_le wait_limit (c.waits + 1) → c.waits < wait_limit → rank_of c.pending ≡ 2
      → steps_left p (still_waiting c all) < steps_left p c
  wait_less c true e patient two = omega arith
  wait_less c false e patient two = omega arith

  pub read_less : (c : ConnCoreState Hall) (answer : LinkRead) (into : List ℕ) → c.pending ≡ next.Read → IsToRead p c → IsReadWithin answer (room_of p c)
      → steps_left p (after_read c answer into) < steps_left p c
  read_less c (read.Took count) into e ready fits =
      let two : rank_of c.pending ≡ 2 = ap rank_of e in let room = ready.room in let some = fits.0 in let patient = ready.between.patient in omega arith
  read_less c read.End into e ready fits =
      let two : rank_of c.pending ≡ 2 = ap rank_of e in let one : input_left c.input_ended ≡ 1 = ap input_left ready.goes_on in
      let patient = ready.between.patient in omega arith
  read_less c read.NotReady into e ready fits = wait_less c (nat_le wait_limit (c.waits + 1)) refl ready.between.patient (ap rank_of e)
  read_less c read.Failed into e ready fits = let two : rank_of c.pending ≡ 2 = ap rank_of e in omega arith

  pub parse_less : (c : ConnCoreState Hall) → c.pending ≡ next.Parse → steps_left p (after_parse p c (p.cut c.buffer)) < steps_left p c
  parse_less c e = by_cut (p.cut c.buffer)
    where
      three : rank_of c.pending ≡ 3
      three = ap rank_of e

      ends : steps_left p (ending_as c ending.Done) < steps_left p c
      ends = let t = three in omega arith

      reads : steps_left p (going_to c next.Read) < steps_left p c
      reads = let t = three in omega arith

      looks : steps_left p (going_to c next.Look) < steps_left p c
      looks = let t = three in omega arith

      by_input : (all : Bool) → steps_left p (if all then ending_as c ending.Done else going_to c next.Read) < steps_left p c
      by_input true = ends
      by_input false = reads

      by_cut : (cut : Cut) → steps_left p (after_parse p c cut) < steps_left p c
      by_cut (Whole len) = looks
      by_cut TooLong = looks
      by_cut NotYet = by_input (has_all_input p c)

  pub look_less : (c : ConnCoreState Hall) → p.IsHall c.hall → c.pending ≡ next.Look → IsToLook p c → steps_left p (after_look p c (p.cut c.buffer)) < steps_left p c
  look_less c limits e ready = by_cut (p.cut c.buffer) refl
    where
      two : rank_of c.pending ≡ 2
      two = ap rank_of e

      answered : (answer : Answer) (rest : List ℕ) → length (text_of p answer) ≤ p.text_limit → steps_left p (after_answer p c answer rest) < steps_left p c
      answered answer rest few = by_bytes (p.is_empty answer) (p.closes answer)
        where
          one : (p.answer_limit c.hall - c.answered) * (p.text_limit + 1) ≡ (p.answer_limit c.hall - (c.answered + 1)) * (p.text_limit + 1) + (p.text_limit + 1)
          one = share (p.answer_limit c.hall) c.answered p.text_limit ready.between.more

          by_bytes : (empty closes : Bool) → steps_left p (after_part empty closes (with_answer p c answer rest)) < steps_left p c
          by_bytes false closes = let t = two in omega (arith, one)
          by_bytes true true = let t = two in omega (arith, one)
          by_bytes true false = let t = two in omega (arith, one)

      by_cut : (cut : Cut) → cut ≡ p.cut c.buffer → steps_left p (after_look p c cut) < steps_left p c
      by_cut (Whole len) f = answered (p.answer c.hall (request (take len c.buffer)) (is_last p c)) (drop len c.buffer) (orderly.short c.hall (request (take len c.buffer)) (is_last p c) limits)
      by_cut TooLong f = answered (p.answer c.hall too_long (is_last p c)) [] (orderly.short c.hall too_long (is_last p c) limits)
      by_cut NotYet f = absurd (ready.whole (sym f))

  pub write_less : (c : ConnCoreState Hall) (answer : LinkWrite) → c.pending ≡ next.Write → IsToWrite p c → IsWriteWithin answer (length (front_of c.parts))
      → steps_left p (after_write c answer) < steps_left p c
  write_less c (write.Wrote count) e ready fits = by_rest (is_sent (after_sending count c.parts)) c.closes
    where
      two : rank_of c.pending ≡ 2
      two = ap rank_of e

      less : length (unsent_bytes (after_sending count c.parts)) < length (unsent_bytes c.parts)
      less = let long = ap length (sent-rest c.parts count fits.1) in let some = fits.0 in let most = fits.1 in
          omega (arith, length-append (take count (front_of c.parts)) (unsent_bytes (after_sending count c.parts)), length-take count (front_of c.parts))

      by_rest : (nothing closes : Bool) → steps_left p (after_part nothing closes (record c { parts = after_sending count c.parts; written = c.written + count; waits = 0 })) < steps_left p c
      by_rest false closes = let l = less in let t = two in let patient = ready.patient in omega arith
      by_rest true true = let l = less in let t = two in let patient = ready.patient in omega arith
      by_rest true false = let l = less in let t = two in let patient = ready.patient in omega arith
  write_less c write.NotReady e ready fits = wait_less c (nat_le wait_limit (c.waits + 1)) refl ready.patient (ap rank_of e)
  write_less c write.Failed e ready fits = let two : rank_of c.pending ≡ 2 = ap rank_of e in omega arith
  write_less c write.Memory e ready fits = let two : rank_of c.pending ≡ 2 = ap rank_of e in omega arith

  module _ {L : Type 0} (x : LinkWords L) where
    pub step_less : (c d : ConnCoreState Hall) (link now : Option L) → p.IsHall c.hall → IsReadyTo p c.pending c → StepsFrom p x c d c.pending link now
        → c.pending ≢ next.Open → c.pending ≢ next.Nothing → steps_left p d < steps_left p c
    step_less c d link now limits ready steps opened going = by_pending c.pending refl ready steps
      where
        less_by : (after : ConnCoreState Hall) → d ≡ after → steps_left p after < steps_left p c → steps_left p d < steps_left p c
        less_by after e less = subst (λ s. steps_left p s < steps_left p c) (sym e) less

        read_over : (link now : Option L) → c.pending ≡ next.Read → IsToRead p c → OverLink x c d (ReadsOnce p x c d) link now → steps_left p d < steps_left p c
        read_over (Some link) (Some now) e ready once = less_by (after_read c once.answer once.into) once.becomes (read_less c once.answer once.into e ready once.called.fits)
        read_over (Some link) None e ready once = absurd once
        read_over None now e ready once = absurd once

        write_over : (link now : Option L) → c.pending ≡ next.Write → IsToWrite p c → OverLink x c d (WritesOnce x c d) link now → steps_left p d < steps_left p c
        write_over (Some link) (Some now) e ready once = less_by (after_write c once.answer) once.becomes (write_less c once.answer e ready once.called.fits)
        write_over (Some link) None e ready once = absurd once
        write_over None now e ready once = absurd once

        close_over : (link now : Option L) → c.pending ≡ next.Close → OverLink x c d (ShutsOnce x c d) link now → steps_left p d < steps_left p c
        close_over (Some link) (Some now) e once = less_by (going_to c next.Nothing) once.becomes (let one : rank_of c.pending ≡ 1 = ap rank_of e in omega arith)
        close_over (Some link) None e once = absurd once
        close_over None now e once = absurd once

        by_pending : (pending : Next) → pending ≡ c.pending → IsReadyTo p pending c → StepsFrom p x c d pending link now → steps_left p d < steps_left p c
        by_pending next.Open e ready steps = absurd (opened (sym e))
        by_pending next.Read e ready steps = read_over link now (sym e) ready steps
        by_pending next.Parse e ready steps = less_by (after_parse p c (p.cut c.buffer)) steps.0 (parse_less c (sym e))
        by_pending next.Look e ready steps = less_by (after_look p c (p.cut c.buffer)) steps.0 (look_less c limits (sym e) ready)
        by_pending next.Write e ready steps = write_over link now (sym e) ready steps
        by_pending next.Wait e ready steps = absurd steps
        by_pending next.Close e ready steps = close_over link now (sym e) steps
        by_pending next.Nothing e ready steps = absurd (going (sym e))

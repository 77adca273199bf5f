-- Each step leaves the hall.
use Rattle.std.specs.Prelude.{if◌then◌else◌}
use Rattle.std.proofs.Common.{◌≡◌, ℕ, ◌+◌, Bool, true, false, nat_le, List, [], take, drop, Option, Some, None, refl, ap, ◌∙◌}
use Rattle.sws_link.specs.declared.Link.{Ghosts as LinkWords}
use Rattle.sws_link.specs.declared.LinkRead.{LinkRead}
use Rattle.sws_link.specs.declared.LinkRead.TheVariants as read
use Rattle.sws_link.specs.declared.LinkWrite.{LinkWrite}
use Rattle.sws_link.specs.declared.LinkWrite.TheVariants as write
use Rattle.sws_parts.specs.Parts.{after_sending}
use Rattle.sws_steps.specs.Protocol.{Protocol, Cut, Whole, TooLong, NotYet, request, too_long}
use Rattle.sws_steps.specs.declared.End.TheVariants as ending
use Rattle.sws_steps.specs.declared.Next.{Next}
use Rattle.sws_steps.specs.declared.Next.TheVariants as next
use Rattle.sws_steps.specs.ConnCore.{ConnCoreState, is_sent}
use Rattle.sws_steps.specs.Step.{StepsFrom, going_to, ending_as, still_waiting, wait_limit, has_all_input, after_read, after_parse, after_answer, with_answer, is_last, after_look, after_part, after_write}

module _ {Hall Answer : Type 0} (p : Protocol Hall Answer) where
  waits_hall : (c : ConnCoreState Hall) (all : Bool) → (still_waiting c all).hall ≡ c.hall
  waits_hall c true = refl
  waits_hall c false = refl

  pub read_hall : (c : ConnCoreState Hall) (answer : LinkRead) (into : List ℕ) → (after_read c answer into).hall ≡ c.hall
  read_hall c (read.Took count) into = refl
  read_hall c read.End into = refl
  read_hall c read.NotReady into = waits_hall c (nat_le wait_limit (c.waits + 1))
  read_hall c read.Failed into = refl

  pub parse_hall : (c : ConnCoreState Hall) (cut : Cut) → (after_parse p c cut).hall ≡ c.hall
  parse_hall c (Whole len) = refl
  parse_hall c TooLong = refl
  parse_hall c NotYet = by_input (has_all_input p c)
    where
      by_input : (all : Bool) → (if all then ending_as c ending.Done else going_to c next.Read).hall ≡ c.hall
      by_input true = refl
      by_input false = refl

  part_hall : (c : ConnCoreState Hall) (nothing closes : Bool) → (after_part nothing closes c).hall ≡ c.hall
  part_hall c false closes = refl
  part_hall c true true = refl
  part_hall c true false = refl

  answering_hall : (c : ConnCoreState Hall) (answer : Answer) (rest : List ℕ) → (after_answer p c answer rest).hall ≡ c.hall
  answering_hall c answer rest = part_hall (with_answer p c answer rest) (p.is_empty answer) (p.closes answer)

  pub look_hall : (c : ConnCoreState Hall) (cut : Cut) → (after_look p c cut).hall ≡ c.hall
  look_hall c (Whole len) = answering_hall c (p.answer c.hall (request (take len c.buffer)) (is_last p c)) (drop len c.buffer)
  look_hall c TooLong = answering_hall c (p.answer c.hall too_long (is_last p c)) []
  look_hall c NotYet = refl

  pub write_hall : (c : ConnCoreState Hall) (answer : LinkWrite) → (after_write c answer).hall ≡ c.hall
  write_hall c (write.Wrote count) =
      part_hall (record c { parts = after_sending count c.parts; written = c.written + count; waits = 0 }) (is_sent (after_sending count c.parts)) c.closes
  write_hall c write.NotReady = waits_hall c (nat_le wait_limit (c.waits + 1))
  write_hall c write.Failed = refl
  write_hall c write.Memory = refl

  module _ {L : Type 0} (x : LinkWords L) where
    pub step_hall : (c d : ConnCoreState Hall) (link now : Option L) → StepsFrom p x c d c.pending link now → d.hall ≡ c.hall
    step_hall c d link now steps = by_pending c.pending link now steps
      where
        by_pending : (pending : Next) (link now : Option L) → StepsFrom p x c d pending link now → d.hall ≡ c.hall
        by_pending next.Open link now steps = ap (λ (s : ConnCoreState Hall). s.hall) steps.0
        by_pending next.Read (Some link) (Some now) once = ap (λ (s : ConnCoreState Hall). s.hall) once.becomes ∙ read_hall c once.answer once.into
        by_pending next.Read (Some link) None once = absurd once
        by_pending next.Read None now once = absurd once
        by_pending next.Parse link now steps = ap (λ (s : ConnCoreState Hall). s.hall) steps.0 ∙ parse_hall c (p.cut c.buffer)
        by_pending next.Look link now steps = ap (λ (s : ConnCoreState Hall). s.hall) steps.0 ∙ look_hall c (p.cut c.buffer)
        by_pending next.Write (Some link) (Some now) once = ap (λ (s : ConnCoreState Hall). s.hall) once.becomes ∙ write_hall c once.answer
        by_pending next.Write (Some link) None once = absurd once
        by_pending next.Write None now once = absurd once
        by_pending next.Wait link now steps = absurd steps
        by_pending next.Close (Some link) (Some now) once = ap (λ (s : ConnCoreState Hall). s.hall) once.becomes
        by_pending next.Close (Some link) None once = absurd once
        by_pending next.Close None now once = absurd once
        by_pending next.Nothing link now steps = ap (λ (s : ConnCoreState Hall). s.hall) steps.0

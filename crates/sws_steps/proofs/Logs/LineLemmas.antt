-- Which steps of the table give a line.
use Rattle.std.specs.Prelude.{◌&&◌, ◌==◌, if◌then◌else◌}
use Rattle.std.proofs.Common.{inl, inr, ◌⊎◌, ◌≡◌, ℕ, ◌+◌, ◌-◌, ◌<◌, Bool, true, false, nat_le, List, [], ◌∷◌, length, take, drop, Option, Some, None, refl, sym, ap, ◌∙◌, subst, arith, add-zero, length-append}
use Rattle.sws_link.specs.declared.Link.{Ghosts as LinkWords}
use Rattle.sws_link.specs.declared.LinkRead.{LinkRead}
use Rattle.sws_link.specs.declared.LinkRead.TheVariants as read
use Rattle.sws_link.specs.declared.LinkWrite.{LinkWrite}
use Rattle.sws_link.specs.declared.LinkWrite.TheVariants as write
use Rattle.sws_parts.specs.Parts.{after_sending, unsent_bytes}
use Rattle.sws_steps.specs.Protocol.{Protocol, IsOrderly, Cut, Whole, TooLong, NotYet, Asked, request, too_long, text_of}
use Rattle.sws_steps.specs.declared.End.TheVariants as ending
use Rattle.sws_steps.specs.declared.Next.{Next}
use Rattle.sws_steps.specs.declared.Next.TheVariants as next
use Rattle.sws_steps.specs.ConnCore.{ConnCoreState, ConnState, is_sent}
use Rattle.sws_steps.specs.Step.{Steps, StepsFrom, going_to, ending_as, still_waiting, wait_limit, has_all_input, after_read, after_parse, after_answer, with_answer, is_last, after_look, after_part, after_write}
use Rattle.sws_steps.specs.Sound.{IsSound, IsReadyTo, IsToLook, Progress, IsUnanswered, IsWriting}
use Rattle.sws_steps.specs.Logs.{is_write, bit, gives_line, lines_given}
use Rattle.sws_steps.specs.Told.{IsAfterLine}
use Rattle.sws_steps.proofs.Inputs.PartLemmas.{something-rest}

-- a step that goes on with the answer that there is
pub record Leaves {Hall : Type 0} (c d : ConnCoreState Hall) : Type 0 where
  pub parts : d.parts ≡ c.parts
  pub answered : d.answered ≡ c.answered

pub leaves-waiting : {Hall : Type 0} (c : ConnCoreState Hall) (all : Bool) → Leaves c (still_waiting c all)
leaves-waiting c true = record { parts = refl; answered = refl }
leaves-waiting c false = record { parts = refl; answered = refl }

pub leaves-read : {Hall : Type 0} (c : ConnCoreState Hall) (answer : LinkRead) (into : List ℕ) → Leaves c (after_read c answer into)
leaves-read c (read.Took count) into = record { parts = refl; answered = refl }
leaves-read c read.End into = record { parts = refl; answered = refl }
leaves-read c read.NotReady into = leaves-waiting c (nat_le wait_limit (c.waits + 1))
leaves-read c read.Failed into = record { parts = refl; answered = refl }

-- so many lines, by whether there is a log and whether all is sent
abbrev lines_by : Bool → Bool → ℕ → ℕ
lines_by logs sent answered = if logs then (if sent then answered else answered - 1) else 0

module _ {Hall Answer : Type 0} (p : Protocol Hall Answer) where
  pub leaves-parse : (c : ConnCoreState Hall) (cut : Cut) → Leaves c (after_parse p c cut)
  leaves-parse c (Whole len) = record { parts = refl; answered = refl }
  leaves-parse c TooLong = record { parts = refl; answered = refl }
  leaves-parse c NotYet = by_input (has_all_input p c)
    where
      by_input : (all : Bool) → Leaves c (if all then ending_as c ending.Done else going_to c next.Read)
      by_input true = record { parts = refl; answered = refl }
      by_input false = record { parts = refl; answered = refl }

  pub leaves-lines : (c d : ConnCoreState Hall) → Leaves c d → lines_given p d ≡ lines_given p c
  leaves-lines c d same =
      ap (λ parts. lines_by p.logs (is_sent parts) d.answered) same.parts ∙ ap (λ n. lines_by p.logs (is_sent c.parts) n) same.answered

module _ {Hall Answer : Type 0} (p : Protocol Hall Answer) (orderly : IsOrderly p) where
  -- where something is left to send, an answer was given
  pub answered-some : (c : ConnCoreState Hall) (taken sent : List ℕ) → Progress p c taken sent → is_sent c.parts ≡ false → 0 < c.answered
  answered-some c taken sent k unsent = by_last k.last
    where
      some : 0 < length (unsent_bytes c.parts)
      some = something-rest c.parts unsent

      by_last : IsUnanswered p c.parts k.given ⊎ IsWriting p c.parts c.note k.given → 0 < c.answered
      by_last (inl none) = let no = ap length none.nothing in let more = some in absurd (omega arith)
      by_last (inr last) = let all = ap length last.given_is in let many = k.count in omega (arith, length-append last.earlier (last.answer ∷ []))

  -- an answer that is logged is not sent when it is given
  look-lines : (c : ConnCoreState Hall) → true ≡ p.logs → IsToLook p c → lines_by true (is_sent (after_look p c (p.cut c.buffer)).parts) (after_look p c (p.cut c.buffer)).answered
      ≡ lines_by true (is_sent c.parts) c.answered
  look-lines c logs look = by_cut (p.cut c.buffer) refl
    where
      answered : (asked : Asked) (rest : List ℕ)
          → (let d = after_answer p c (p.answer c.hall asked (is_last p c)) rest in lines_by true (is_sent d.parts) d.answered) ≡ lines_by true (is_sent c.parts) c.answered
      answered asked rest = by_bytes (p.is_empty answer) (p.closes answer) refl
        where
          answer : Answer
          answer = p.answer c.hall asked (is_last p c)

          some : (length (text_of p answer) == 0) ≡ false
          some = sym (orderly.empty_is c.hall asked (is_last p c)) ∙ orderly.logged (sym logs) c.hall asked (is_last p c)

          less : lines_by true (length (text_of p answer) == 0) (c.answered + 1) ≡ lines_by true (is_sent c.parts) c.answered
          less = ap (λ sent. lines_by true sent (c.answered + 1)) some ∙ (let same : c.answered + 1 - 1 ≡ c.answered = omega arith in same)
              ∙ sym (ap (λ sent. lines_by true sent c.answered) look.between.nothing)

          by_bytes : (empty closes : Bool) → empty ≡ p.is_empty answer
              → (let d = after_part empty closes (with_answer p c answer rest) in lines_by true (is_sent d.parts) d.answered) ≡ lines_by true (is_sent c.parts) c.answered
          by_bytes false closes e = less
          by_bytes true true e = less
          by_bytes true false e = less

      by_cut : (cut : Cut) → cut ≡ p.cut c.buffer → lines_by true (is_sent (after_look p c cut).parts) (after_look p c cut).answered ≡ lines_by true (is_sent c.parts) c.answered
      by_cut (Whole len) e = answered (request (take len c.buffer)) (drop len c.buffer)
      by_cut TooLong e = answered too_long []
      by_cut NotYet e = absurd (look.whole (sym e))

  -- a write that leaves nothing gives a line
  write-lines : (c : ConnCoreState Hall) (answer : LinkWrite) → is_sent c.parts ≡ false → 0 < c.answered
      → lines_by true (is_sent (after_write c answer).parts) (after_write c answer).answered
      ≡ lines_by true (is_sent c.parts) c.answered + bit (is_sent (after_write c answer).parts)
  write-lines c answer unsent some = by_answer answer
    where
      before : lines_by true (is_sent c.parts) c.answered ≡ c.answered - 1
      before = ap (λ sent. lines_by true sent c.answered) unsent

      by_sent : (sent : Bool) → lines_by true sent c.answered ≡ lines_by true (is_sent c.parts) c.answered + bit sent
      by_sent true = let one = some in let was = before in omega arith
      by_sent false = let was = before in omega arith

      by_rest : (s : ConnCoreState Hall) (nothing closes : Bool) → s.answered ≡ c.answered
          → (let d = after_part nothing closes s in lines_by true (is_sent d.parts) d.answered) ≡ lines_by true (is_sent c.parts) c.answered + bit (is_sent (after_part nothing closes s).parts)
      by_rest s false closes same = ap (λ n. lines_by true (is_sent s.parts) n) same ∙ by_sent (is_sent s.parts)
      by_rest s true true same = ap (λ n. lines_by true (is_sent s.parts) n) same ∙ by_sent (is_sent s.parts)
      by_rest s true false same = ap (λ n. lines_by true (is_sent s.parts) n) same ∙ by_sent (is_sent s.parts)

      by_wait : (all : Bool)
          → (let d = still_waiting c all in lines_by true (is_sent d.parts) d.answered) ≡ lines_by true (is_sent c.parts) c.answered + bit (is_sent (still_waiting c all).parts)
      by_wait true = by_sent (is_sent c.parts)
      by_wait false = by_sent (is_sent c.parts)

      by_answer : (answer : LinkWrite) → lines_by true (is_sent (after_write c answer).parts) (after_write c answer).answered
          ≡ lines_by true (is_sent c.parts) c.answered + bit (is_sent (after_write c answer).parts)
      by_answer (write.Wrote count) = by_rest (record c { parts = after_sending count c.parts; written = c.written + count; waits = 0 }) (is_sent (after_sending count c.parts)) c.closes refl
      by_answer write.NotReady = by_wait (nat_le wait_limit (c.waits + 1))
      by_answer write.Failed = by_sent (is_sent c.parts)
      by_answer write.Memory = by_sent (is_sent c.parts)

  module _ {L : Type 0} (x : LinkWords L) where
    -- how many lines were given is counted by the steps that give one
    pub lines-step : (before after : ConnState Hall L) → IsSound p x before → Steps p x before after
        → lines_given p after.standing ≡ lines_given p before.standing + bit (gives_line p before.standing after.standing)
    lines-step before after sound steps = by_logs p.logs refl
      where
        c : ConnCoreState Hall
        c = before.standing

        d : ConnCoreState Hall
        d = after.standing

        Lines : Next → ConnCoreState Hall → Type 0
        Lines pending d = lines_by true (is_sent d.parts) d.answered ≡ lines_by true (is_sent c.parts) c.answered + bit (is_write pending && is_sent d.parts)

        left : (to : ConnCoreState Hall) → d ≡ to → Leaves c to → lines_by true (is_sent d.parts) d.answered ≡ lines_by true (is_sent c.parts) c.answered + 0
        left to is same =
            ap (λ (s : ConnCoreState Hall). lines_by true (is_sent s.parts) s.answered) is
            ∙ ap (λ parts. lines_by true (is_sent parts) to.answered) same.parts ∙ ap (λ n. lines_by true (is_sent c.parts) n) same.answered
            ∙ sym (add-zero (lines_by true (is_sent c.parts) c.answered))

        stays : Leaves c c
        stays = record { parts = refl; answered = refl }

        by_pending : (pending : Next) → pending ≡ c.pending → true ≡ p.logs → IsReadyTo p pending c → (link now : Option L) → StepsFrom p x c d pending link now → Lines pending d
        by_pending next.Open e logs ready link now steps = left c steps.0 stays
        by_pending next.Read e logs ready (Some link) (Some now) once = left (after_read c once.answer once.into) once.becomes (leaves-read c once.answer once.into)
        by_pending next.Read e logs ready (Some link) None once = absurd once
        by_pending next.Read e logs ready None now once = absurd once
        by_pending next.Parse e logs ready link now steps = left (after_parse p c (p.cut c.buffer)) steps.0 (leaves-parse p c (p.cut c.buffer))
        by_pending next.Look e logs ready link now steps =
            ap (λ (s : ConnCoreState Hall). lines_by true (is_sent s.parts) s.answered) steps.0
            ∙ look-lines c logs ready ∙ sym (add-zero (lines_by true (is_sent c.parts) c.answered))
        by_pending next.Write e logs ready (Some link) (Some now) once =
            subst (Lines next.Write) (sym once.becomes)
            (write-lines c once.answer ready.something (answered-some c sound.taken sound.sent sound.progress ready.something))
        by_pending next.Write e logs ready (Some link) None once = absurd once
        by_pending next.Write e logs ready None now once = absurd once
        by_pending next.Wait e logs ready link now steps = absurd steps
        by_pending next.Close e logs ready (Some link) (Some now) once = left (going_to c next.Nothing) once.becomes (record { parts = refl; answered = refl })
        by_pending next.Close e logs ready (Some link) None once = absurd once
        by_pending next.Close e logs ready None now once = absurd once
        by_pending next.Nothing e logs ready link now steps = left c steps.0 stays

        by_logs : (logs : Bool) → logs ≡ p.logs
            → lines_by logs (is_sent d.parts) d.answered ≡ lines_by logs (is_sent c.parts) c.answered + bit (logs && is_write c.pending && is_sent d.parts)
        by_logs true e = by_pending c.pending refl e sound.ready before.link after.link steps
        by_logs false e = refl

    -- and how it stands after such a step
    pub after-line : (before after : ConnState Hall L) → IsSound p x before → Steps p x before after
        → gives_line p before.standing after.standing ≡ true → IsAfterLine p after.standing
    after-line before after sound steps gives = by_logs p.logs refl gives
      where
        c : ConnCoreState Hall
        c = before.standing

        d : ConnCoreState Hall
        d = after.standing

        wrote : (answer : LinkWrite) → is_sent c.parts ≡ false → (let s = after_write c answer in is_sent s.parts ≡ true → (s.pending ≡ next.Parse) ⊎ (s.pending ≡ next.Close))
        wrote (write.Wrote count) unsent = by_rest (is_sent (after_sending count c.parts)) c.closes refl
          where
            s : ConnCoreState Hall
            s = record c { parts = after_sending count c.parts; written = c.written + count; waits = 0 }

            by_rest : (nothing closes : Bool) → nothing ≡ is_sent (after_sending count c.parts)
                → is_sent (after_part nothing closes s).parts ≡ true → ((after_part nothing closes s).pending ≡ next.Parse) ⊎ ((after_part nothing closes s).pending ≡ next.Close)
            by_rest false closes e sent = absurd (let no : false ≡ true = e ∙ sent in cc)
            by_rest true true e sent = inr refl
            by_rest true false e sent = inl refl
        wrote write.NotReady unsent = by_wait (nat_le wait_limit (c.waits + 1))
          where
            by_wait : (all : Bool) → (let s = still_waiting c all in is_sent s.parts ≡ true → (s.pending ≡ next.Parse) ⊎ (s.pending ≡ next.Close))
            by_wait true sent = inr refl
            by_wait false sent = absurd (let no : false ≡ true = sym unsent ∙ sent in cc)
        wrote write.Failed unsent = λ sent. inr refl
        wrote write.Memory unsent = λ sent. inr refl

        by_pending : (pending : Next) → p.logs ≡ true → IsReadyTo p pending c → (link now : Option L) → StepsFrom p x c d pending link now
            → (is_write pending && is_sent d.parts) ≡ true → IsAfterLine p d
        by_pending next.Open logs ready link now steps gives = absurd (let no : false ≡ true = gives in cc)
        by_pending next.Read logs ready link now steps gives = absurd (let no : false ≡ true = gives in cc)
        by_pending next.Parse logs ready link now steps gives = absurd (let no : false ≡ true = gives in cc)
        by_pending next.Look logs ready link now steps gives = absurd (let no : false ≡ true = gives in cc)
        by_pending next.Write logs ready (Some link) (Some now) once gives = record {
          logs = logs;
          sent = gives;
          pending_is =
              subst (λ (s : ConnCoreState Hall). is_sent s.parts ≡ true → (s.pending ≡ next.Parse) ⊎ (s.pending ≡ next.Close)) (sym once.becomes)
              (wrote once.answer ready.something) gives;
        }
        by_pending next.Write logs ready (Some link) None once gives = absurd once
        by_pending next.Write logs ready None now once gives = absurd once
        by_pending next.Wait logs ready link now steps gives = absurd steps
        by_pending next.Close logs ready link now steps gives = absurd (let no : false ≡ true = gives in cc)
        by_pending next.Nothing logs ready link now steps gives = absurd (let no : false ≡ true = gives in cc)

        by_logs : (logs : Bool) → logs ≡ p.logs → (logs && is_write c.pending && is_sent d.parts) ≡ true → IsAfterLine p d
        by_logs true e gives = by_pending c.pending (sym e) sound.ready before.link after.link steps gives
        by_logs false e gives = absurd (let no : false ≡ true = gives in cc)

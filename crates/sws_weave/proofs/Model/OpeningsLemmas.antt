-- A path begins with the opening and has no other.
use Rattle.std.proofs.Common.{◌≡◌, ◌≢◌, ◌+◌, ℕ, zero, suc, Bool, true, false, cond, List, [], ◌∷◌, length, take, drop, map, arith, refl, sym, ap, subst, ◌∙◌}
use Rattle.std.specs.Prelude.{nat_le}
use Rattle.std.specs.List.{AllByRecursion}
use Rattle.std.proofs.lemmas.Option.{none-some, same_Some}
use Rattle.sws_link.specs.declared.LinkRead.{LinkRead}
use Rattle.sws_link.specs.declared.LinkRead.TheVariants as read
use Rattle.sws_link.specs.declared.LinkWrite.{LinkWrite}
use Rattle.sws_link.specs.declared.LinkWrite.TheVariants as write
use Rattle.sws_link.specs.Scripts.{Script, read_of, write_of}
use Rattle.sws_parts.specs.Parts.{front_of, after_sending}
use Rattle.sws_steps.specs.Protocol.{Protocol, IsOrderly, Cut, Whole, TooLong, NotYet, request, too_long}
use Rattle.sws_steps.specs.ConnCore.{ConnCoreState, is_sent, is_waiting}
use Rattle.sws_steps.specs.declared.End.TheVariants as ending
use Rattle.sws_steps.specs.declared.Next.{Next}
use Rattle.sws_steps.specs.declared.Next.TheVariants as next
use Rattle.sws_steps.specs.Step.{going_to, ending_as, still_waiting, has_all_input, room_of, after_read, after_parse, after_answer, with_answer, is_last, after_look, after_part, after_write, wait_limit}
use Rattle.sws_steps.specs.Sound.{core_before_open}
use Rattle.sws_steps.specs.declared.Handler.{Handler}
use Rattle.sws_steps.specs.declared.Handler.TheVariants as handler
use Rattle.sws_steps.specs.Path.{handler_of, Scripted, scripted_at, scripted_step, IsPathFrom, path_of}
use Rattle.sws_steps.specs.Logs.{Step, steps_of}
use Rattle.sws_steps.specs.LogLaws.{steps_of-handlers}
use Rattle.sws_steps.proofs.Runs.PathLemmas.{path_of-path}
use Rattle.sws_handlers.specs.Tasks.{number_of}
use Rattle.sws_weave.specs.Openings.{HasNoOpening, IsOpened, AreOpened}

-- the step isn't the opening
abbrev HasOpened : Next → Type 0
HasOpened next.Open = ⊥
HasOpened next.Read = Unit {0}
HasOpened next.Parse = Unit {0}
HasOpened next.Look = Unit {0}
HasOpened next.Write = Unit {0}
HasOpened next.Wait = Unit {0}
HasOpened next.Close = Unit {0}
HasOpened next.Nothing = Unit {0}

module _ {Hall : Type 0} (c : ConnCoreState Hall) where
  waiting_opened : (b : Bool) → HasOpened c.pending → HasOpened (still_waiting c b).pending
  waiting_opened true is = tt
  waiting_opened false is = is

  read_opened : (answer : LinkRead) (bytes : List ℕ) → HasOpened c.pending → HasOpened (after_read c answer bytes).pending
  read_opened (read.Took count) bytes is = tt
  read_opened read.End bytes is = tt
  read_opened read.NotReady bytes is = waiting_opened (nat_le wait_limit (c.waits + 1)) is
  read_opened read.Failed bytes is = tt

  part_opened : (sent closes : Bool) → HasOpened c.pending → HasOpened (after_part sent closes c).pending
  part_opened false closes is = is
  part_opened true true is = tt
  part_opened true false is = tt

write_opened : {Hall : Type 0} (c : ConnCoreState Hall) (answer : LinkWrite) → HasOpened c.pending → HasOpened (after_write c answer).pending
write_opened c (write.Wrote count) is = part_opened (record c { parts = after_sending count c.parts; written = c.written + count; waits = 0 }) (is_sent (after_sending count c.parts)) c.closes is
write_opened c write.NotReady is = waiting_opened c (nat_le wait_limit (c.waits + 1)) is
write_opened c write.Failed is = tt
write_opened c write.Memory is = tt

module _ {Hall Answer : Type 0} (p : Protocol Hall Answer) where
  parse_opened : (c : ConnCoreState Hall) (cut : Cut) → HasOpened (after_parse p c cut).pending
  parse_opened c (Whole len) = tt
  parse_opened c TooLong = tt
  parse_opened c NotYet = elim (has_all_input p c) as (λ b. HasOpened (cond b (ending_as c ending.Done) (going_to c next.Read)).pending) [ true ↦ tt | false ↦ tt ]

  answer_opened : (c : ConnCoreState Hall) (answer : Answer) (rest : List ℕ) → HasOpened (after_answer p c answer rest).pending
  answer_opened c answer rest = part_opened (with_answer p c answer rest) (p.is_empty answer) (p.closes answer) tt

  look_opened : (c : ConnCoreState Hall) (cut : Cut) → HasOpened c.pending → HasOpened (after_look p c cut).pending
  look_opened c (Whole len) is = answer_opened c (p.answer c.hall (request (take len c.buffer)) (is_last p c)) (drop len c.buffer)
  look_opened c TooLong is = answer_opened c (p.answer c.hall too_long (is_last p c)) []
  look_opened c NotYet is = is

  step_opened : (pending : Next) (c : Scripted Hall) → c.standing.pending ≡ pending → HasOpened pending → HasOpened (scripted_at p pending c).standing.pending
  step_opened next.Open c e is = absurd is
  step_opened next.Read c e is = read_opened c.standing (read_of (room_of p c.standing) c.script.items).answer (read_of (room_of p c.standing) c.script.items).bytes (subst HasOpened (sym e) is)
  step_opened next.Parse c e is = parse_opened c.standing (p.cut c.standing.buffer)
  step_opened next.Look c e is = look_opened c.standing (p.cut c.standing.buffer) (subst HasOpened (sym e) is)
  step_opened next.Write c e is = write_opened c.standing (write_of c.script (length (front_of c.standing.parts))).answer (subst HasOpened (sym e) is)
  step_opened next.Wait c e is = subst HasOpened (sym e) is
  step_opened next.Close c e is = tt
  step_opened next.Nothing c e is = subst HasOpened (sym e) is

-- the event of a step that isn't the opening
other : (is event : Handler) → is ∷ [] ≡ event ∷ [] → number_of is ≢ 3 → number_of event ≢ 3
other is event e apart = subst (λ (h : Handler). number_of h ≢ 3) (let same : is ≡ event = cc in same) apart

handler_opened : (pending : Next) (event : Handler) → HasOpened pending → handler_of pending ≡ event ∷ [] → number_of event ≢ 3
handler_opened next.Open event is e = absurd is
handler_opened next.Read event is e = other handler.Read event e (λ k. omega (arith, k))
handler_opened next.Parse event is e = other handler.Parse event e (λ k. omega (arith, k))
handler_opened next.Look event is e = other handler.Look event e (λ k. omega (arith, k))
handler_opened next.Write event is e = other handler.Write event e (λ k. omega (arith, k))
handler_opened next.Wait event is e = other handler.Resume event e (λ k. omega (arith, k))
handler_opened next.Close event is e = other handler.Close event e (λ k. omega (arith, k))
handler_opened next.Nothing event is e = let no_event : [] ≡ event ∷ [] = e in cc

waiting_event : {Hall : Type 0} (b : Bool) (c : ConnCoreState Hall) (event : Handler) → HasOpened c.pending → cond b (handler.Resume ∷ []) (handler_of c.pending) ≡ event ∷ [] → number_of event ≢ 3
waiting_event true c event is e = other handler.Resume event e (λ k. omega (arith, k))
waiting_event false c event is e = handler_opened c.pending event is e

-- none of these events is the opening
abbrev AreOther : List Handler → Type 0
AreOther path = AllByRecursion (λ h. number_of h ≢ 3) path

others_too : (steps : List Step) (path : List Handler) → map (λ (step : Step). step.handler) steps ≡ path → AreOther path → HasNoOpening steps
others_too [] path is none = tt
others_too (step ∷ steps) [] is none = let never : step.handler ∷ map (λ (s : Step). s.handler) steps ≡ [] = is in cc
others_too (step ∷ steps) (event ∷ path) is none =
    let both : step.handler ∷ map (λ (s : Step). s.handler) steps ≡ event ∷ path = is in
    let first : step.handler ≡ event = cc in
    let later : map (λ (s : Step). s.handler) steps ≡ path = cc in (
      subst (λ (h : Handler). number_of h ≢ 3) (sym first) none.0,
      others_too steps path later none.1,
    )

opened_too : (steps : List Step) (later : List Handler) → map (λ (step : Step). step.handler) steps ≡ handler.Open ∷ later → AreOther later → IsOpened steps
opened_too [] later is none = let never : [] ≡ handler.Open ∷ later = is in cc
opened_too (step ∷ steps) later is none =
    let both : step.handler ∷ map (λ (s : Step). s.handler) steps ≡ handler.Open ∷ later = is in
    record { first = step; later = steps; path_is = refl; opens = cc; once = others_too steps later (let rest : map (λ (s : Step). s.handler) steps ≡ later = cc in rest) none }

module _ {Hall Answer : Type 0} (p : Protocol Hall Answer) (orderly : IsOrderly p) where
  path_opened : (c : Scripted Hall) (path : List Handler) → HasOpened c.standing.pending → IsPathFrom p c path → AreOther path
  unfolding IsPathFrom
  path_opened c [] is from = tt
  path_opened c (event ∷ later) is from = (
    waiting_event (is_waiting c.standing) c.standing event is from.0,
    path_opened (scripted_step p c) later (step_opened p c.standing.pending c refl is) from.1,
  )

  path_opens : (hall : Hall) (script : Script) → p.IsHall hall → (later : List Handler) × (path_of p hall script ≡ handler.Open ∷ later) × AreOther later
  unfolding IsPathFrom
  path_opens hall script known = by_path (path_of p hall script) (path_of-path p orderly hall script known)
    where
      by_path : (path : List Handler) → IsPathFrom p (record { standing = core_before_open hall; script = script }) path → (later : List Handler) × (path ≡ handler.Open ∷ later) × AreOther later
      by_path [] from = let never : handler.Open ∷ [] ≡ [] = from in cc
      by_path (event ∷ later) from = (
        later,
        ap (λ (h : Handler). h ∷ later) (let e : handler.Open ∷ [] ≡ event ∷ [] = from.0 in let same : event ≡ handler.Open = cc in same),
        path_opened (scripted_step p (record { standing = core_before_open hall; script = script })) later tt from.1,
      )

  -- the steps of scripts do
  pub paths_open : (hall : Hall) (scripts : List Script) → p.IsHall hall → AreOpened (map (steps_of p hall) scripts)
  paths_open hall [] known i path there = absurd (none-some path there)
  paths_open hall (script ∷ scripts) known zero path there =
      let o = path_opens hall script known in
      subst (λ (steps : List Step). IsOpened steps) (same_Some (steps_of p hall script) path there) (opened_too (steps_of p hall script) o.0 (steps_of-handlers p hall script ∙ o.1) o.2)
  paths_open hall (script ∷ scripts) known (suc i) path there = paths_open hall scripts known i path there

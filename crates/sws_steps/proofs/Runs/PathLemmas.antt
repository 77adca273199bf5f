-- Paths: from each standing that a connection can have there is one, and only one; and
-- it goes on with each step.
use Rattle.std.specs.Prelude.{◌⊎◌, if◌then◌else◌, take, drop, IsSome, is_some}
use Rattle.std.proofs.Common.{inl, inr, ◌≡◌, ◌≢◌, ℕ, zero, suc, ◌+◌, ◌<◌, ◌≤◌, Bool, true, false, nat_le, List, [], ◌∷◌, ◌++◌, length, Option, Some, None, refl, sym, ap, ◌∙◌, subst, arith, append_assoc, lit<}
use Rattle.sws_link.specs.declared.Link.{Ghosts as LinkWords}
use Rattle.sws_link.specs.declared.LinkRead.{LinkRead}
use Rattle.sws_link.specs.declared.LinkRead.TheVariants as read
use Rattle.sws_link.specs.declared.LinkWrite.{LinkWrite}
use Rattle.sws_link.specs.declared.LinkWrite.TheVariants as write
use Rattle.sws_link.specs.Links.{LinkContents, LinkTakes, LinkPuts, ReadsAs, WritesAs, IsReadWithin, IsWriteWithin}
use Rattle.sws_link.specs.Scripts.{Script, Item, piece, wait, fault, read_of, write_of, write_by, within, within_step}
use Rattle.sws_parts.specs.Parts.{front_of, after_sending}
use Rattle.sws_steps.specs.Protocol.{Protocol, IsOrderly, Cut, Whole, TooLong, NotYet, request, too_long}
use Rattle.sws_steps.specs.ConnCore.{ConnCoreState, ConnState, is_sent, is_waiting, is_waiting_by}
use Rattle.sws_steps.specs.declared.End.{End}
use Rattle.sws_steps.specs.declared.End.TheVariants as ending
use Rattle.sws_steps.specs.declared.Next.{Next}
use Rattle.sws_steps.specs.declared.Next.TheVariants as next
use Rattle.sws_steps.specs.Step.{StepsFrom, going_to, ending_as, still_waiting, room_of, wait_limit, has_all_input, after_read, after_parse, after_answer, with_answer, is_last, after_look, after_part, after_write}
use Rattle.sws_steps.specs.Sound.{core_before_open, IsSound, IsReadyTo, IsLinked, IsEnded}
use Rattle.sws_steps.specs.Outcome.{UnlessMemory}
use Rattle.sws_steps.specs.declared.Handler.{Handler}
use Rattle.sws_steps.specs.declared.Handler.TheVariants as handler
use Rattle.sws_steps.specs.Path.{handler_of, event_of, Scripted, scripted_at, scripted_step, IsPathFrom, events, rank_of, steps_left, rest_of_path, path_of, path_by, rest_by, answers_to_come, told_by_link, known_path, known_rest, TakesOff, TakesEvent, HasNoEvents, Follows, FollowsBy, FollowsTold, FollowsScript}
use Rattle.sws_steps.proofs.Inputs.PartLemmas.{something-front}
use Rattle.sws_steps.proofs.Steps.ReadyLemmas.{Ready, parse-ready, look-ready, read-ready, write-ready, close-ready}
use Rattle.sws_steps.proofs.Steps.MeasureLemmas.{read_less, parse_less, look_less, write_less}
use Rattle.sws_steps.proofs.Steps.HallLemmas.{read_hall, parse_hall, look_hall, write_hall}

read_of-within : (room : ℕ) (items : List Item) → 0 < room → IsReadWithin (read_of room items).answer room
read_of-within room [] some = tt
read_of-within room (piece [] ∷ items) some = read_of-within room items some
read_of-within room (piece (byte ∷ bytes) ∷ items) some = (omega arith, omega arith)
read_of-within room (wait zero ∷ items) some = read_of-within room items some
read_of-within room (wait (suc count) ∷ items) some = tt
read_of-within room (fault ∷ items) some = tt

step-within : (step : Option ℕ) (count size : ℕ) → 0 < count → count ≤ size → (0 < within_step step count) × (within_step step count ≤ size)
step-within None count size some fits = (some, fits)
step-within (Some zero) count size some fits = (omega arith, omega arith)
step-within (Some (suc more)) count size some fits = (omega arith, omega arith)

write_of-within : (script : Script) (size : ℕ) → 0 < size → IsWriteWithin (write_of script size).answer size
write_of-within script size some = by_cut script.cut refl
  where
    by_cut : (cut : Option ℕ) → cut ≡ script.cut → IsWriteWithin (write_by cut script size).answer size
    by_cut None e = step-within script.step (within script.cut size) size (subst (λ o. 0 < within o size) e some) (subst (λ o. within o size ≤ size) e (omega arith))
    by_cut (Some zero) e = tt
    by_cut (Some (suc limit)) e = step-within script.step (within script.cut size) size
        (subst (λ o. 0 < within o size) e (omega arith)) (subst (λ o. within o size ≤ size) e (omega arith))

is_nothing : (pending : Next) → (pending ≡ next.Nothing) ⊎ (pending ≢ next.Nothing)
is_nothing next.Open = inr (λ e. cc)
is_nothing next.Read = inr (λ e. cc)
is_nothing next.Parse = inr (λ e. cc)
is_nothing next.Look = inr (λ e. cc)
is_nothing next.Write = inr (λ e. cc)
is_nothing next.Wait = inr (λ e. cc)
is_nothing next.Close = inr (λ e. cc)
is_nothing next.Nothing = inl refl

untold-read : (before now : Option LinkContents) (room : ℕ) (answer : LinkRead) (into : List ℕ) → LinkTakes before now room answer into
    → answers_to_come before ≡ None → answers_to_come now ≡ None
untold-read None now room answer into e none = ap answers_to_come e
untold-read (Some before) now room answer into takes none =
    let to_come : takes.after.to_come ≡ None = subst (λ o. ReadsAs o room answer into takes.after.to_come) none takes.to_come in
    ap answers_to_come takes.is ∙ to_come

untold-written : (before now : Option LinkContents) (answer : LinkWrite) (bytes : List ℕ) → LinkPuts before now answer bytes
    → answers_to_come before ≡ None → answers_to_come now ≡ None
untold-written None now answer bytes e none = ap answers_to_come e
untold-written (Some before) now answer bytes puts none =
    let to_come : puts.after.to_come ≡ None = subst (λ o. WritesAs o (length bytes) answer puts.after.to_come) none puts.to_come in
    ap answers_to_come puts.is ∙ to_come

pub unless : (end : Option End) (Fact : Type 0) → Fact → UnlessMemory end Fact
unless None Fact fact = fact
unless (Some ending.Done) Fact fact = fact
unless (Some ending.Idle) Fact fact = fact
unless (Some ending.Fault) Fact fact = fact
unless (Some ending.Memory) Fact fact = tt

pub unless-map : (end : Option End) (Fact Other : Type 0) → (Fact → Other) → UnlessMemory end Fact → UnlessMemory end Other
unless-map None Fact Other to fact = to fact
unless-map (Some ending.Done) Fact Other to fact = to fact
unless-map (Some ending.Idle) Fact Other to fact = to fact
unless-map (Some ending.Fault) Fact Other to fact = to fact
unless-map (Some ending.Memory) Fact Other to fact = tt

-- what is taken off twice
pub takes-both : (front more : List Handler) (path rest later : Option (List Handler)) → TakesOff front path rest → TakesOff more rest later → TakesOff (front ++ more) path later
takes-both front more None rest later first second = subst (λ r. TakesOff more r later) first second
takes-both front more (Some path) rest later (left, is, split) second =
    let rest_is : TakesOff more (Some left) later = subst (λ r. TakesOff more r later) is second in
    (rest_is.0, rest_is.1, split ∙ ap (λ l. front ++ l) rest_is.2 ∙ sym (append_assoc front more rest_is.0))

pub unless-both : (before after : Option End) (Fact Step Next : Type 0) → (before ≡ Some ending.Memory → after ≡ Some ending.Memory)
    → (Fact → Step → Next) → UnlessMemory before Fact → UnlessMemory after Step → UnlessMemory after Next
unless-both before (Some ending.Memory) Fact Step Next stays to fact step = tt
unless-both None after Fact Step Next stays to fact step = unless-map after Step Next (to fact) step
unless-both (Some ending.Done) after Fact Step Next stays to fact step = unless-map after Step Next (to fact) step
unless-both (Some ending.Idle) after Fact Step Next stays to fact step = unless-map after Step Next (to fact) step
unless-both (Some ending.Fault) after Fact Step Next stays to fact step = unless-map after Step Next (to fact) step
unless-both (Some ending.Memory) after Fact Step Next stays to fact step = subst (λ e. UnlessMemory e Next) (sym (stays refl)) tt

module _ {Hall Answer : Type 0} (p : Protocol Hall Answer) (orderly : IsOrderly p) where
  -- ---- what a script answers is some bytes, and no more than there is room for

  -- ---- the step of a scripted connection

  step-at : (c : Scripted Hall) (pending : Next) → c.standing.pending ≡ pending → scripted_step p c ≡ scripted_at p pending c
  step-at c pending e = ap (λ stage. scripted_at p stage c) e

  pub opened-ready : (hall : Hall) → Ready p (going_to (core_before_open hall) next.Read)
  opened-ready hall = record {
    between = record { nothing = refl; goes_on = refl; more = orderly.some_answers hall; no_end = refl; patient = lit< tt };
    not_yet = orderly.nothing;
    room = orderly.some_input hall;
    goes_on = refl;
  }

  step-ready : (c : Scripted Hall) → Ready p c.standing → Ready p (scripted_step p c).standing
  step-ready c ready = by_pending c.standing.pending refl ready
    where
      after : (pending : Next) → c.standing.pending ≡ pending → IsReadyTo p pending c.standing → Ready p (scripted_at p pending c).standing
      after next.Open e ready = subst (λ s. Ready p (going_to s next.Read)) (sym ready) (opened-ready c.standing.hall)
      after next.Read e ready = let said = read_of (room_of p c.standing) c.script.items in read-ready p orderly c.standing said.answer said.bytes e ready
      after next.Parse e ready = parse-ready p orderly c.standing ready.between
      after next.Look e ready = look-ready p orderly c.standing ready
      after next.Write e ready = write-ready p orderly c.standing (write_of c.script (length (front_of c.standing.parts))).answer e ready
      after next.Wait e ready = absurd ready
      after next.Close e ready = close-ready p orderly c.standing ready
      after next.Nothing e ready = subst (λ stage. IsReadyTo p stage c.standing) (sym e) ready

      by_pending : (pending : Next) → c.standing.pending ≡ pending → IsReadyTo p pending c.standing → Ready p (scripted_step p c).standing
      by_pending pending e ready = subst (λ (s : Scripted Hall). Ready p s.standing) (sym (step-at c pending e)) (after pending e ready)

  step-hall : (c : Scripted Hall) → (scripted_step p c).standing.hall ≡ c.standing.hall
  step-hall c = after c.standing.pending
    where
      after : (pending : Next) → (scripted_at p pending c).standing.hall ≡ c.standing.hall
      after next.Open = refl
      after next.Read = let said = read_of (room_of p c.standing) c.script.items in read_hall p c.standing said.answer said.bytes
      after next.Parse = parse_hall p c.standing (p.cut c.standing.buffer)
      after next.Look = look_hall p c.standing (p.cut c.standing.buffer)
      after next.Write = write_hall p c.standing (write_of c.script (length (front_of c.standing.parts))).answer
      after next.Wait = refl
      after next.Close = refl
      after next.Nothing = refl

  -- fewer steps are left
  step-less : (c : Scripted Hall) → p.IsHall c.standing.hall → Ready p c.standing → c.standing.pending ≢ next.Nothing
      → steps_left p (scripted_step p c).standing < steps_left p c.standing
  step-less c limits ready going = by_pending c.standing.pending refl ready
    where
      after : (pending : Next) → c.standing.pending ≡ pending → IsReadyTo p pending c.standing → steps_left p (scripted_at p pending c).standing < steps_left p c.standing
      after next.Open e ready = let three : rank_of c.standing.pending ≡ 3 = ap rank_of e in omega arith
      after next.Read e ready =
          let said = read_of (room_of p c.standing) c.script.items in
          let room = ready.room in
          read_less p orderly c.standing said.answer said.bytes e ready (read_of-within (room_of p c.standing) c.script.items (omega arith))
      after next.Parse e ready = parse_less p orderly c.standing e
      after next.Look e ready = look_less p orderly c.standing limits e ready
      after next.Write e ready =
          let size = length (front_of c.standing.parts) in
          write_less p orderly c.standing (write_of c.script size).answer e ready (write_of-within c.script size (something-front c.standing.parts ready.something))
      after next.Wait e ready = absurd ready
      after next.Close e ready = let one : rank_of c.standing.pending ≡ 1 = ap rank_of e in omega arith
      after next.Nothing e ready = absurd (going e)

      by_pending : (pending : Next) → c.standing.pending ≡ pending → IsReadyTo p pending c.standing → steps_left p (scripted_step p c).standing < steps_left p c.standing
      by_pending pending e ready = subst (λ (s : Scripted Hall). steps_left p s.standing < steps_left p c.standing) (sym (step-at c pending e)) (after pending e ready)

  -- ---- the event of a step

  event-some : (c : ConnCoreState Hall) → Ready p c → c.pending ≢ next.Nothing → (event : Handler) × (event_of c ≡ event ∷ [])
  event-some c ready going = by_waiting (is_waiting c) refl
    where
      by_pending : (pending : Next) → c.pending ≡ pending → IsReadyTo p pending c → (event : Handler) × (handler_of c.pending ≡ event ∷ [])
      by_pending next.Open e ready = (handler.Open, ap handler_of e)
      by_pending next.Read e ready = (handler.Read, ap handler_of e)
      by_pending next.Parse e ready = (handler.Parse, ap handler_of e)
      by_pending next.Look e ready = (handler.Look, ap handler_of e)
      by_pending next.Write e ready = (handler.Write, ap handler_of e)
      by_pending next.Wait e ready = absurd ready
      by_pending next.Close e ready = (handler.Close, ap handler_of e)
      by_pending next.Nothing e ready = absurd (going e)

      by_waiting : (waiting : Bool) → is_waiting c ≡ waiting → (event : Handler) × (event_of c ≡ event ∷ [])
      by_waiting true e = (handler.Resume, ap (λ w. if w then handler.Resume ∷ [] else handler_of c.pending) e)
      by_waiting false e =
          let own = by_pending c.pending refl ready in
          (own.0, ap (λ w. if w then handler.Resume ∷ [] else handler_of c.pending) e ∙ own.1)

  not-waiting : (c : ConnCoreState Hall) → IsEnded p c → is_waiting c ≡ false
  not-waiting c ended = by_end c.end refl
    where
      by_end : (end : Option End) → c.end ≡ end → is_waiting c ≡ false
      by_end None e = absurd (ended.ended e)
      by_end (Some end) e = ap (λ o. is_waiting_by o c.waits) e

  event-none : (c : ConnCoreState Hall) → c.pending ≡ next.Nothing → IsEnded p c → event_of c ≡ []
  event-none c pending ended = ap (λ w. if w then handler.Resume ∷ [] else handler_of c.pending) (not-waiting c ended) ∙ ap handler_of pending

  ended_at : (c : ConnCoreState Hall) → Ready p c → c.pending ≡ next.Nothing → IsEnded p c
  ended_at c ready e = subst (λ stage. IsReadyTo p stage c) e ready

  -- after the close there is none
  events-none : (count : ℕ) (c : Scripted Hall) → c.standing.pending ≡ next.Nothing → IsEnded p c.standing → events p count c ≡ []
  unfolding events
  events-none zero c pending ended = refl
  events-none (suc count) c pending ended =
      ap (λ front. front ++ events p count (scripted_step p c)) (event-none c.standing pending ended)
      ∙ ap (events p count) (step-at c next.Nothing pending)
      ∙ events-none count c pending ended

  -- ---- there is a path, and only one

  -- an event, and a path from what its step leaves
  path-more : (c : Scripted Hall) (event : Handler) (later : List Handler) → event_of c.standing ≡ event ∷ [] → IsPathFrom p (scripted_step p c) later
      → IsPathFrom p c (event_of c.standing ++ later)
  unfolding IsPathFrom
  path-more c event later e path =
      let whole : IsPathFrom p c (event ∷ later) = (e, path) in
      subst (λ front. IsPathFrom p c (front ++ later)) (sym e) whole

  events-path : (count : ℕ) (c : Scripted Hall) → p.IsHall c.standing.hall → Ready p c.standing → steps_left p c.standing ≤ count → IsPathFrom p c (events p count c)
  unfolding IsPathFrom events
  events-path zero c limits ready few = by_nothing (is_nothing c.standing.pending)
    where
      by_nothing : (c.standing.pending ≡ next.Nothing) ⊎ (c.standing.pending ≢ next.Nothing) → event_of c.standing ≡ []
      by_nothing (inl e) = event-none c.standing e (ended_at c.standing ready e)
      by_nothing (inr going) = let less = step-less c limits ready going in absurd (omega arith)
  events-path (suc count) c limits ready few = by_nothing (is_nothing c.standing.pending)
      (λ going. events-path count (scripted_step p c) (subst p.IsHall (sym (step-hall c)) limits) (step-ready c ready)
      (let less = step-less c limits ready going in omega arith))
    where
      by_nothing : (c.standing.pending ≡ next.Nothing) ⊎ (c.standing.pending ≢ next.Nothing)
          → (c.standing.pending ≢ next.Nothing → IsPathFrom p (scripted_step p c) (events p count (scripted_step p c)))
          → IsPathFrom p c (event_of c.standing ++ events p count (scripted_step p c))
      by_nothing (inl e) later =
          let ended = ended_at c.standing ready e in
          let none : IsPathFrom p c [] = event-none c.standing e ended in
          subst (IsPathFrom p c) (sym (events-none (suc count) c e ended)) none
      by_nothing (inr going) later =
          let first = event-some c.standing ready going in
          path-more c first.0 (events p count (scripted_step p c)) first.1 (later going)

  pub path-unique : (c : Scripted Hall) (one other : List Handler) → IsPathFrom p c one → IsPathFrom p c other → one ≡ other
  unfolding IsPathFrom
  path-unique c [] [] none also = refl
  path-unique c [] (event ∷ later) none path = absurd (let no : [] ≡ event ∷ [] = sym none ∙ path.0 in cc)
  path-unique c (event ∷ later) [] path none = absurd (let no : [] ≡ event ∷ [] = sym none ∙ path.0 in cc)
  path-unique c (event ∷ later) (first ∷ others) path also =
      let same : event ∷ [] ≡ first ∷ [] = sym path.0 ∙ also.0 in
      let rest = path-unique (scripted_step p c) later others path.1 also.1 in
      cc

  -- ---- the last event

  -- only the close leaves nothing
  stays-waiting : (c : ConnCoreState Hall) (all : Bool) → c.pending ≢ next.Nothing → (still_waiting c all).pending ≢ next.Nothing
  stays-waiting c true going e = cc
  stays-waiting c false going e = going e

  stays-read : (c : ConnCoreState Hall) (answer : LinkRead) (into : List ℕ) → c.pending ≢ next.Nothing → (after_read c answer into).pending ≢ next.Nothing
  stays-read c (read.Took count) into going e = cc
  stays-read c read.End into going e = cc
  stays-read c read.NotReady into going e = stays-waiting c (nat_le wait_limit (c.waits + 1)) going e
  stays-read c read.Failed into going e = cc

  stays-parse : (c : ConnCoreState Hall) (cut : Cut) → (after_parse p c cut).pending ≢ next.Nothing
  stays-parse c (Whole len) e = cc
  stays-parse c TooLong e = cc
  stays-parse c NotYet e = by_input (has_all_input p c) e
    where
      by_input : (all : Bool) → (if all then ending_as c ending.Done else going_to c next.Read).pending ≢ next.Nothing
      by_input true e = cc
      by_input false e = cc

  stays-part : (c : ConnCoreState Hall) (nothing closes : Bool) → c.pending ≢ next.Nothing → (after_part nothing closes c).pending ≢ next.Nothing
  stays-part c false closes going e = going e
  stays-part c true true going e = cc
  stays-part c true false going e = cc

  stays-answering : (c : ConnCoreState Hall) (answer : Answer) (rest : List ℕ) → (after_answer p c answer rest).pending ≢ next.Nothing
  stays-answering c answer rest = stays-part (with_answer p c answer rest) (p.is_empty answer) (p.closes answer) (λ e. cc)

  stays-look : (c : ConnCoreState Hall) (cut : Cut) → c.pending ≢ next.Nothing → (after_look p c cut).pending ≢ next.Nothing
  stays-look c (Whole len) going e = stays-answering c (p.answer c.hall (request (take len c.buffer)) (is_last p c)) (drop len c.buffer) e
  stays-look c TooLong going e = stays-answering c (p.answer c.hall too_long (is_last p c)) [] e
  stays-look c NotYet going e = going e

  stays-write : (c : ConnCoreState Hall) (answer : LinkWrite) → c.pending ≢ next.Nothing → (after_write c answer).pending ≢ next.Nothing
  stays-write c (write.Wrote count) going e =
      stays-part (record c { parts = after_sending count c.parts; written = c.written + count; waits = 0 }) (is_sent (after_sending count c.parts)) c.closes going e
  stays-write c write.NotReady going e = stays-waiting c (nat_le wait_limit (c.waits + 1)) going e
  stays-write c write.Failed going e = cc
  stays-write c write.Memory going e = cc

  only-close : (c : Scripted Hall) → IsReadyTo p c.standing.pending c.standing → (scripted_step p c).standing.pending ≡ next.Nothing → c.standing.pending ≢ next.Nothing
      → c.standing.pending ≡ next.Close
  only-close c ready gone going = by_pending c.standing.pending refl ready
    where
      Gone : Next → Type 0
      Gone pending = (scripted_at p pending c).standing.pending ≡ next.Nothing

      gone_at : (pending : Next) → c.standing.pending ≡ pending → Gone pending
      gone_at pending e = subst (λ (s : Scripted Hall). s.standing.pending ≡ next.Nothing) (step-at c pending e) gone

      by_pending : (pending : Next) → c.standing.pending ≡ pending → IsReadyTo p pending c.standing → c.standing.pending ≡ next.Close
      by_pending next.Open e ready = let read_next : next.Read ≡ next.Nothing = gone_at next.Open e in cc
      by_pending next.Read e ready =
          let said = read_of (room_of p c.standing) c.script.items in absurd (stays-read c.standing said.answer said.bytes going (gone_at next.Read e))
      by_pending next.Parse e ready = absurd (stays-parse c.standing (p.cut c.standing.buffer) (gone_at next.Parse e))
      by_pending next.Look e ready = absurd (stays-look c.standing (p.cut c.standing.buffer) going (gone_at next.Look e))
      by_pending next.Write e ready =
          absurd (stays-write c.standing (write_of c.script (length (front_of c.standing.parts))).answer going (gone_at next.Write e))
      by_pending next.Wait e ready = absurd ready
      by_pending next.Close e ready = e
      by_pending next.Nothing e ready = absurd (going e)

  path-close : (c : Scripted Hall) → Ready p c.standing → c.standing.pending ≢ next.Nothing → (path : List Handler) → IsPathFrom p c path
      → (before : List Handler) × (path ≡ before ++ handler.Close ∷ [])
  unfolding IsPathFrom
  path-close c ready going [] none =
      let first = event-some c.standing ready going in absurd (let no : [] ≡ first.0 ∷ [] = sym none ∙ first.1 in cc)
  path-close c ready going (event ∷ later) path = by_nothing (is_nothing (scripted_step p c).standing.pending)
      (λ more. path-close (scripted_step p c) (step-ready c ready) more later path.1)
    where
      by_nothing : ((scripted_step p c).standing.pending ≡ next.Nothing) ⊎ ((scripted_step p c).standing.pending ≢ next.Nothing)
          → ((scripted_step p c).standing.pending ≢ next.Nothing → (before : List Handler) × (later ≡ before ++ handler.Close ∷ []))
          → (before : List Handler) × (event ∷ later ≡ before ++ handler.Close ∷ [])
      by_nothing (inl gone) rest =
          let pending = only-close c ready gone going in
          let ended : IsEnded p c.standing = subst (λ stage. IsReadyTo p stage c.standing) pending ready in
          let event_is : event_of c.standing ≡ handler.Close ∷ [] =
          ap (λ w. if w then handler.Resume ∷ [] else handler_of c.standing.pending) (not-waiting c.standing ended) ∙ ap handler_of pending in
          let none : IsPathFrom p (scripted_step p c) [] = event-none (scripted_step p c).standing gone (ended_at (scripted_step p c).standing (step-ready c ready) gone) in
          let same : event ∷ [] ≡ handler.Close ∷ [] = sym path.0 ∙ event_is in
          ([], ap (λ l. event ∷ l) (path-unique (scripted_step p c) later [] path.1 none) ∙ same)
      by_nothing (inr more) rest =
          let last = rest more in (event ∷ last.0, ap (λ l. event ∷ l) last.1)

  -- ---- the rest of the path

  rest-path : (c : ConnCoreState Hall) (script : Script) → p.IsHall c.hall → Ready p c → IsPathFrom p (record { standing = c; script = script }) (rest_of_path p c script)
  rest-path c script limits ready = events-path (steps_left p c) (record { standing = c; script = script }) limits ready (omega arith)

  -- a step takes its event off the rest of the path
  pub rest-step : (c : Scripted Hall) → p.IsHall c.standing.hall → Ready p c.standing
      → rest_of_path p c.standing c.script ≡ event_of c.standing ++ rest_of_path p (scripted_step p c).standing (scripted_step p c).script
  rest-step c limits ready = by_nothing (is_nothing c.standing.pending)
    where
      by_nothing : (c.standing.pending ≡ next.Nothing) ⊎ (c.standing.pending ≢ next.Nothing)
          → rest_of_path p c.standing c.script ≡ event_of c.standing ++ rest_of_path p (scripted_step p c).standing (scripted_step p c).script
      by_nothing (inl e) =
          let ended = ended_at c.standing ready e in
          ap (λ front. front ++ rest_of_path p c.standing c.script) (sym (event-none c.standing e ended))
          ∙ ap (λ (s : Scripted Hall). event_of c.standing ++ rest_of_path p s.standing s.script) (sym (step-at c next.Nothing e))
      by_nothing (inr going) =
          let first = event-some c.standing ready going in
          path-unique c (rest_of_path p c.standing c.script) (event_of c.standing ++ rest_of_path p (scripted_step p c).standing (scripted_step p c).script)
          (rest-path c.standing c.script limits ready)
          (path-more c first.0 (rest_of_path p (scripted_step p c).standing (scripted_step p c).script) first.1
          (rest-path (scripted_step p c).standing (scripted_step p c).script (subst p.IsHall (sym (step-hall c)) limits) (step-ready c ready)))

  -- ---- the whole path

  events-step : (more : ℕ) (c : Scripted Hall) → events p (more + 1) c ≡ event_of c.standing ++ events p more (scripted_step p c)
  unfolding events
  events-step more c = ap (λ n. events p n c) (let next : more + 1 ≡ suc more = omega arith in next)

  -- the opening comes first
  pub path_of-open : (hall : Hall) (script : Script) → path_of p hall script ≡ handler.Open ∷ rest_of_path p (going_to (core_before_open hall) next.Read) script
  path_of-open hall script =
      ap (λ n. events p n (record { standing = core_before_open hall; script = script }))
      (let one : steps_left p (core_before_open hall) ≡ steps_left p (going_to (core_before_open hall) next.Read) + 1 = omega arith in one)
      ∙ events-step (steps_left p (going_to (core_before_open hall) next.Read)) (record { standing = core_before_open hall; script = script })

  pub path_of-path : (hall : Hall) (script : Script) → p.IsHall hall → IsPathFrom p (record { standing = core_before_open hall; script = script }) (path_of p hall script)
  path_of-path hall script limits = rest-path (core_before_open hall) script limits refl

  -- and the close last
  pub path_of-close : (hall : Hall) (script : Script) → p.IsHall hall → (before : List Handler) × (path_of p hall script ≡ before ++ handler.Close ∷ [])
  path_of-close hall script limits =
      path-close (record { standing = core_before_open hall; script = script }) refl (λ e. cc) (path_of p hall script) (path_of-path hall script limits)

  -- an example: the link is not ready once, and then at its end
  pub path_of-pause : (hall : Hall) (step cut : Option ℕ) → p.IsHall hall
      → path_of p hall (record { items = wait 1 ∷ []; step = step; cut = cut }) ≡ handler.Open ∷ handler.Read ∷ handler.Resume ∷ handler.Parse ∷ handler.Close ∷ []
  unfolding IsPathFrom
  path_of-pause hall step cut limits =
      path-unique (record { standing = core_before_open hall; script = script }) (path_of p hall script) (handler.Open ∷ handler.Read ∷ handler.Resume ∷ handler.Parse ∷ handler.Close ∷ [])
      (path_of-path hall script limits)
      (refl, (refl, (refl, (refl, last))))
    where
      script : Script
      script = record { items = wait 1 ∷ []; step = step; cut = cut }

      ended : ConnCoreState Hall
      ended = record (core_before_open hall) { input_ended = true; pending = next.Parse }

      last : IsPathFrom p (record { standing = after_parse p ended (p.cut []); script = record script { items = [] } }) (handler.Close ∷ [])
      last = subst (λ found. IsPathFrom p (record { standing = after_parse p ended found; script = record script { items = [] } }) (handler.Close ∷ [])) (sym orderly.nothing) (refl, refl)

  -- ---- over a link

  module _ {L : Type 0} (x : LinkWords L) where
    -- a link that tells no answers to come goes on so
    untold-step : (c d : ConnCoreState Hall) (link now : Option L) → StepsFrom p x c d c.pending link now
        → answers_to_come (told_by_link x link) ≡ None → answers_to_come (told_by_link x now) ≡ None
    untold-step c d link now steps none = by_pending c.pending link now steps none
      where
        Untold : Option L → Option L → Type 0
        Untold link now = answers_to_come (told_by_link x link) ≡ None → answers_to_come (told_by_link x now) ≡ None

        same : (link now : Option L) → now ≡ link → Untold link now
        same link now e none = ap (λ l. answers_to_come (told_by_link x l)) e ∙ none

        by_pending : (pending : Next) (link now : Option L) → StepsFrom p x c d pending link now → Untold link now
        by_pending next.Open link now steps = same link now steps.1
        by_pending next.Read (Some link) (Some now) once = untold-read (x.tells link) (x.tells now) (room_of p c) once.answer once.into once.called.takes
        by_pending next.Read (Some link) None once = absurd once
        by_pending next.Read None now once = absurd once
        by_pending next.Parse link now steps = same link now steps.1
        by_pending next.Look link now steps = same link now steps.1
        by_pending next.Write (Some link) (Some now) once = untold-written (x.tells link) (x.tells now) once.answer (front_of c.parts) once.called.puts
        by_pending next.Write (Some link) None once = absurd once
        by_pending next.Write None now once = absurd once
        by_pending next.Wait link now steps = absurd steps
        by_pending next.Close (Some link) (Some now) once = λ none. ap answers_to_come once.called.same ∙ none
        by_pending next.Close (Some link) None once = absurd once
        by_pending next.Close None now once = absurd once
        by_pending next.Nothing link now steps = same link now steps.1

    -- a step takes its event off the rest of the path
    pub takes-event : (before after : ConnState Hall L) → IsSound p x before
        → StepsFrom p x before.standing after.standing before.standing.pending before.link after.link → FollowsScript p x before after → TakesEvent p x before after
    takes-event before after sound steps follows =
        by_told (told_by_link x before.link) (told_by_link x after.link) follows (untold-step c d before.link after.link steps)
      where
        c : ConnCoreState Hall
        c = before.standing

        d : ConnCoreState Hall
        d = after.standing

        Takes : Option Script → Option LinkContents → Type 0
        Takes script now = TakesOff (event_of c) (rest_by p c script) (rest_by p d (answers_to_come now))

        by_script : (script : Option Script) (now : Option LinkContents) → FollowsBy p script c d now → (script ≡ None → answers_to_come now ≡ None)
            → UnlessMemory d.end (Takes script now)
        by_script None now follows untold = unless d.end (Takes None now) (ap (rest_by p d) (untold refl))
        by_script (Some script) now follows untold =
            unless-map d.end (Follows (scripted_step p (record { standing = c; script = script })) d now) (Takes (Some script) now) to follows
          where
            to : Follows (scripted_step p (record { standing = c; script = script })) d now → Takes (Some script) now
            to follows =
                let later = scripted_step p (record { standing = c; script = script }) in (
                  rest_of_path p d later.script,
                  ap (rest_by p d) (ap answers_to_come follows.is ∙ follows.to_come),
                  rest-step (record { standing = c; script = script }) sound.progress.limits sound.ready
                      ∙ ap (λ s. event_of c ++ rest_of_path p s later.script) (sym follows.standing),
                )

        by_told : (told now : Option LinkContents) → FollowsTold p told c d now → (answers_to_come told ≡ None → answers_to_come now ≡ None)
            → UnlessMemory d.end (Takes (answers_to_come told) now)
        by_told None now follows untold = unless d.end (Takes None now) (ap (rest_by p d) (untold refl))
        by_told (Some tells) now follows untold = by_script tells.to_come now follows untold

    -- no event is left where no step is pending
    pub none-left : (conn : ConnState Hall L) → IsSound p x conn → conn.standing.pending ≡ next.Nothing → HasNoEvents (known_rest p x conn)
    none-left conn sound pending = by_script (answers_to_come (told_by_link x conn.link))
      where
        by_script : (script : Option Script) → HasNoEvents (rest_by p conn.standing script)
        by_script None = tt
        by_script (Some script) =
            events-none (steps_left p conn.standing) (record { standing = conn.standing; script = script }) pending (ended_at conn.standing sound.ready pending)

  -- where there is no link yet, nothing has happened
  pub not_opened : {L : Type 0} (c : ConnCoreState Hall) (link : Option L) → Ready p c → IsLinked c.pending link → false ≡ is_some link → c ≡ core_before_open c.hall
  not_opened {L = L} c link ready linked none = by_pending c.pending ready linked
    where
      no : (link : Option L) → false ≡ is_some link → IsSome link → ⊥
      no link none some = let e : false ≡ true = none ∙ some in cc

      by_pending : (pending : Next) → IsReadyTo p pending c → IsLinked pending link → c ≡ core_before_open c.hall
      by_pending next.Open ready linked = ready
      by_pending next.Read ready linked = absurd (no link none linked)
      by_pending next.Parse ready linked = absurd (no link none linked)
      by_pending next.Look ready linked = absurd (no link none linked)
      by_pending next.Write ready linked = absurd (no link none linked)
      by_pending next.Wait ready linked = absurd ready
      by_pending next.Close ready linked = absurd (no link none linked)
      by_pending next.Nothing ready linked = absurd (no link none linked)

  -- opening takes the first event off the path
  pub opens-path : {L : Type 0} (x : LinkWords L) (c : ConnCoreState Hall) (before : Option L) (link : L) → Ready p c → IsLinked c.pending before → false ≡ is_some before
      → TakesOff (handler.Open ∷ []) (known_path p c.hall (x.tells link)) (known_rest p x (record { standing = going_to c next.Read; link = Some link }))
  opens-path x c before link ready linked none =
      subst (λ s. TakesOff (handler.Open ∷ []) (known_path p c.hall (x.tells link)) (known_rest p x (record { standing = going_to s next.Read; link = Some link })))
      (sym (not_opened c before ready linked none)) (by_script c.hall (answers_to_come (x.tells link)))
    where
      by_script : (hall : Hall) (script : Option Script) → TakesOff (handler.Open ∷ []) (path_by p hall script) (rest_by p (going_to (core_before_open hall) next.Read) script)
      by_script hall None = refl
      by_script hall (Some script) = (rest_of_path p (going_to (core_before_open hall) next.Read) script, refl, path_of-open hall script)

  -- ---- along a run

  module _ {L : Type 0} (x : LinkWords L) where
    -- an end stays
    pub end-stays : (c d : ConnCoreState Hall) (link now : Option L) (end : End) → Ready p c → StepsFrom p x c d c.pending link now → c.end ≡ Some end → d.end ≡ Some end
    end-stays c d link now end ready steps ended = by_pending c.pending link now ready steps
      where
        no_end : c.end ≡ None → d.end ≡ Some end
        no_end none = absurd (let no : None ≡ Some end = sym none ∙ ended in cc)

        by_pending : (pending : Next) (link now : Option L) → IsReadyTo p pending c → StepsFrom p x c d pending link now → d.end ≡ Some end
        by_pending next.Open link now ready steps = ap (λ (s : ConnCoreState Hall). s.end) steps.0 ∙ ended
        by_pending next.Read link now ready steps = no_end ready.between.no_end
        by_pending next.Parse link now ready steps = no_end ready.between.no_end
        by_pending next.Look link now ready steps = no_end ready.between.no_end
        by_pending next.Write link now ready steps = no_end ready.no_end
        by_pending next.Wait link now ready steps = absurd ready
        by_pending next.Close (Some link) (Some now) ready once = ap (λ (s : ConnCoreState Hall). s.end) once.becomes ∙ ended
        by_pending next.Close (Some link) None ready once = absurd once
        by_pending next.Close None now ready once = absurd once
        by_pending next.Nothing link now ready steps = ap (λ (s : ConnCoreState Hall). s.end) steps.0 ∙ ended

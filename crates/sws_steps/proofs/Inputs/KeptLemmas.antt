-- What the link keeps of its first state, step by step.
use Rattle.std.specs.Prelude.{if◌then◌else◌}
use Rattle.std.proofs.Common.{inl, inr, ◌⊎◌, ◌≡◌, ℕ, ◌+◌, Bool, true, false, nat_le, List, [], take, drop, Option, Some, None, refl, sym, ap, ◌∙◌, subst, append-nil}
use Rattle.sws_link.specs.declared.Link.{Ghosts as LinkWords}
use Rattle.sws_link.specs.declared.LinkRead.{LinkRead}
use Rattle.sws_link.specs.declared.LinkRead.TheVariants as read
use Rattle.sws_link.specs.declared.LinkWrite.{LinkWrite}
use Rattle.sws_link.specs.declared.LinkWrite.TheVariants as write
use Rattle.sws_link.specs.Links.{LinkContents, LinkTakes, read_fault, write_fault, reading, writing}
use Rattle.sws_parts.specs.Parts.{after_sending}
use Rattle.sws_steps.specs.Protocol.{Protocol, IsOrderly, Cut, Whole, TooLong, NotYet, request, too_long}
use Rattle.sws_steps.specs.declared.End.{End}
use Rattle.sws_steps.specs.declared.End.TheVariants as ending
use Rattle.sws_steps.specs.declared.Next.{Next}
use Rattle.sws_steps.specs.declared.Next.TheVariants as next
use Rattle.sws_steps.specs.ConnCore.{ConnCoreState, ConnState, is_sent}
use Rattle.sws_steps.specs.Step.{StepsFrom, ReadsOnce, WritesOnce, ShutsOnce, going_to, ending_as, still_waiting, room_of, wait_limit, has_all_input, after_read, after_parse, after_answer, with_answer, is_last, after_look, after_part, after_write}
use Rattle.sws_steps.specs.Sound.{IsSound, IsReadyTo, IsToRead, IsToldBy, IsTold}
use Rattle.sws_steps.specs.Serving.{IsAnswered, KeepsBy}
use Rattle.sws_steps.proofs.Inputs.ServedLemmas.{answered-read}

-- a read that fails changes nothing that is told
failed_told : {Hall Answer : Type 0} (p : Protocol Hall Answer) (hall : Hall) (before now : Option LinkContents) (room : ℕ) (into : List ℕ) → LinkTakes before now room read.Failed into
    → IsAnswered p hall before → IsAnswered p hall now
failed_told p hall None now room into takes told = subst (IsAnswered p hall) (sym takes) tt
failed_told p hall (Some before) now room into takes told = subst (IsAnswered p hall) (sym takes.is)
    (takes.written ∙ told ∙ ap (p.responses_of hall) (sym (takes.taken ∙ append-nil before.taken)))

module _ {Hall Answer L : Type 0} (p : Protocol Hall Answer) (x : LinkWords L) (hall : Hall) (first : L) where
  abbrev pub KeptAt : Option End → L → Type 0
  KeptAt None now = x.since first None now
  KeptAt (Some end) now = KeepsBy p x hall first now end

  unfoldable pub KeptLink : ConnCoreState Hall → Option L → Type 0
  KeptLink c None = ⊥
  KeptLink c (Some now) = KeptAt c.end now

module _ {Hall Answer L : Type 0} (p : Protocol Hall Answer) (orderly : IsOrderly p) (x : LinkWords L) (hall : Hall) (first : L) where
  pub kept-opened : (c : ConnCoreState Hall) → c.end ≡ None → x.since first None first → KeptLink p x hall first c (Some first)
  unfolding KeptLink
  kept-opened c none since = subst (λ e. KeptAt p x hall first e first) (sym none) since

  -- what is kept before any end
  before_end : (c : ConnCoreState Hall) (link : L) → c.end ≡ None → KeptLink p x hall first c (Some link) → x.since first None link
  unfolding KeptLink
  before_end c link none kept = subst (λ e. KeptAt p x hall first e link) none kept

  -- the same link, where the end wasn't known before and is not a fault now
  same_link : (c d : ConnCoreState Hall) (link now : Option L) → now ≡ link → c.end ≡ None → (d.end ≡ None) ⊎ (d.end ≡ Some ending.Done) → KeptLink p x hall first c link → KeptLink p x hall first d now
  unfolding KeptLink
  same_link c d link now e none end kept = subst (KeptLink p x hall first d) (sym e) (by_link link kept)
    where
      by_link : (link : Option L) → KeptLink p x hall first c link → KeptLink p x hall first d link
      by_link None kept = kept
      by_link (Some l) kept = elim end [
        | inl still ↦ subst (λ e. KeptAt p x hall first e l) (sym still) (subst (λ e. KeptAt p x hall first e l) none kept)
        | inr done ↦ subst (λ e. KeptAt p x hall first e l) (sym done) (subst (λ e. KeptAt p x hall first e l) none kept)
      ]

  waits_kept : (c : ConnCoreState Hall) (now : L) (all : Bool) → c.end ≡ None → x.since first None now → KeptAt p x hall first (still_waiting c all).end now
  waits_kept c now true none since = since
  waits_kept c now false none since = subst (λ e. KeptAt p x hall first e now) (sym none) since

  read_kept : (c d : ConnCoreState Hall) (link now : L) → c.end ≡ None → IsAnswered p hall (x.tells link) → ReadsOnce p x c d link now → KeptLink p x hall first c (Some link)
      → KeptLink p x hall first d (Some now)
  unfolding KeptLink
  read_kept c d link now none answered once kept = subst (λ (s : ConnCoreState Hall). KeptAt p x hall first s.end now) (sym once.becomes) (by_answer once.answer once.called.takes (once.since first (before_end c link none kept)))
    where
      by_answer : (answer : LinkRead) → LinkTakes (x.tells link) (x.tells now) (room_of p c) answer once.into → x.since first (read_fault answer) now
          → KeptAt p x hall first (after_read c answer once.into).end now
      by_answer (read.Took count) takes since = subst (λ e. KeptAt p x hall first e now) (sym none) since
      by_answer read.End takes since = subst (λ e. KeptAt p x hall first e now) (sym none) since
      by_answer read.NotReady takes since = waits_kept c now (nat_le wait_limit (c.waits + 1)) none since
      by_answer read.Failed takes since = inl (since, failed_told p hall (x.tells link) (x.tells now) (room_of p c) once.into takes answered)

  write_kept : (c d : ConnCoreState Hall) (link now : L) → c.end ≡ None → WritesOnce x c d link now → KeptLink p x hall first c (Some link) → KeptLink p x hall first d (Some now)
  unfolding KeptLink
  write_kept c d link now none once kept = subst (λ (s : ConnCoreState Hall). KeptAt p x hall first s.end now) (sym once.becomes) (by_answer once.answer (once.since first (before_end c link none kept)))
    where
      by_answer : (answer : LinkWrite) → x.since first (write_fault answer) now → KeptAt p x hall first (after_write c answer).end now
      by_answer (write.Wrote count) since = by_rest (is_sent (after_sending count c.parts)) c.closes
        where
          by_rest : (sent closes : Bool) → KeptAt p x hall first (after_part sent closes (record c { parts = after_sending count c.parts; written = c.written + count; waits = 0 })).end now
          by_rest false closes = subst (λ e. KeptAt p x hall first e now) (sym none) since
          by_rest true true = since
          by_rest true false = subst (λ e. KeptAt p x hall first e now) (sym none) since
      by_answer write.NotReady since = waits_kept c now (nat_le wait_limit (c.waits + 1)) none since
      by_answer write.Failed since = inr since
      by_answer write.Memory since = since

  shut_kept : (c d : ConnCoreState Hall) (link now : L) → ShutsOnce x c d link now → KeptLink p x hall first c (Some link) → KeptLink p x hall first d (Some now)
  unfolding KeptLink
  shut_kept c d link now once kept = subst (λ (s : ConnCoreState Hall). KeptAt p x hall first s.end now) (sym once.becomes) (by_end c.end kept)
    where
      by_end : (end : Option End) → KeptAt p x hall first end link → KeptAt p x hall first end now
      by_end None kept = once.since first None kept
      by_end (Some ending.Done) kept = once.since first None kept
      by_end (Some ending.Idle) kept = once.since first None kept
      by_end (Some ending.Fault) kept = elim kept [
        | inl read ↦ inl (once.since first (Some reading) read.0, subst (IsAnswered p hall) (sym once.called.same) read.1)
        | inr wrote ↦ inr (once.since first (Some writing) wrote)
      ]
      by_end (Some ending.Memory) kept = once.since first None kept

  pub kept-step : (c d : ConnCoreState Hall) (link now : Option L) → c.hall ≡ hall → IsSound p x (record { standing = c; link = link })
      → StepsFrom p x c d c.pending link now → KeptLink p x hall first c link → KeptLink p x hall first d now
  kept-step c d link now same sound steps kept = by_pending c.pending link now sound.ready sound.told steps kept
    where
      answered : (link : L) → IsToRead p c → IsToldBy x c (Some link) sound.taken sound.sent → IsAnswered p hall (x.tells link)
      answered link ready told = by_tells (x.tells link) told
        where
          by_tells : (tells : Option LinkContents) → IsTold c tells sound.taken sound.sent → IsAnswered p hall tells
          by_tells None told = tt
          by_tells (Some tells) told =
              answered-read p orderly c tells sound.taken sound.sent sound.progress told ready ∙ ap (λ s. p.responses_of s tells.taken) same

      parse_end : (cut : Cut) → c.end ≡ None → ((after_parse p c cut).end ≡ None) ⊎ ((after_parse p c cut).end ≡ Some ending.Done)
      parse_end (Whole len) none = inl none
      parse_end TooLong none = inl none
      parse_end NotYet none = by_input (has_all_input p c)
        where
          by_input : (all : Bool) → ((if all then ending_as c ending.Done else going_to c next.Read).end ≡ None)
              ⊎ ((if all then ending_as c ending.Done else going_to c next.Read).end ≡ Some ending.Done)
          by_input true = inr refl
          by_input false = inl none

      part_end : (s : ConnCoreState Hall) (nothing closes : Bool) → s.end ≡ None
          → ((after_part nothing closes s).end ≡ None) ⊎ ((after_part nothing closes s).end ≡ Some ending.Done)
      part_end s false closes none = inl none
      part_end s true true none = inr refl
      part_end s true false none = inl none

      answering_end : (answer : Answer) (rest : List ℕ) → c.end ≡ None
          → ((after_answer p c answer rest).end ≡ None) ⊎ ((after_answer p c answer rest).end ≡ Some ending.Done)
      answering_end answer rest none = part_end (with_answer p c answer rest) (p.is_empty answer) (p.closes answer) none

      look_end : (cut : Cut) → c.end ≡ None → ((after_look p c cut).end ≡ None) ⊎ ((after_look p c cut).end ≡ Some ending.Done)
      look_end (Whole len) none = answering_end (p.answer c.hall (request (take len c.buffer)) (is_last p c)) (drop len c.buffer) none
      look_end TooLong none = answering_end (p.answer c.hall too_long (is_last p c)) [] none
      look_end NotYet none = inl none

      End_is : ConnCoreState Hall → Type 0
      End_is s = (s.end ≡ None) ⊎ (s.end ≡ Some ending.Done)

      by_pending : (pending : Next) (link now : Option L) → IsReadyTo p pending c → IsToldBy x c link sound.taken sound.sent → StepsFrom p x c d pending link now
          → KeptLink p x hall first c link → KeptLink p x hall first d now
      by_pending next.Open link now ready told steps kept = subst (λ (s : ConnCoreState Hall). KeptLink p x hall first s now) (sym steps.0) (subst (KeptLink p x hall first c) (sym steps.1) kept)
      by_pending next.Read (Some link) (Some now) ready told once kept = read_kept c d link now ready.between.no_end (answered link ready told) once kept
      by_pending next.Read (Some link) None ready told once kept = absurd once
      by_pending next.Read None now ready told once kept = absurd once
      by_pending next.Parse link now ready told steps kept = same_link c d link now steps.1 ready.between.no_end
          (subst End_is (sym steps.0) (parse_end (p.cut c.buffer) ready.between.no_end)) kept
      by_pending next.Look link now ready told steps kept = same_link c d link now steps.1 ready.between.no_end
          (subst End_is (sym steps.0) (look_end (p.cut c.buffer) ready.between.no_end)) kept
      by_pending next.Write (Some link) (Some now) ready told once kept = write_kept c d link now ready.no_end once kept
      by_pending next.Write (Some link) None ready told once kept = absurd once
      by_pending next.Write None now ready told once kept = absurd once
      by_pending next.Wait link now ready told steps kept = absurd steps
      by_pending next.Close (Some link) (Some now) ready told once kept = shut_kept c d link now once kept
      by_pending next.Close (Some link) None ready told once kept = absurd once
      by_pending next.Close None now ready told once kept = absurd once
      by_pending next.Nothing link now ready told steps kept = subst (λ (s : ConnCoreState Hall). KeptLink p x hall first s now) (sym steps.0) (subst (KeptLink p x hall first c) (sym steps.1) kept)

  -- at the end
  pub kept-end : (now : L) (k : ConnState Hall L) (end : End) → k.standing.end ≡ Some end → k.link ≡ Some now → KeptLink p x hall first k.standing k.link → KeepsBy p x hall first now end
  unfolding KeptLink
  kept-end now k end end_is link_is kept =
      let at : KeptLink p x hall first k.standing (Some now) = subst (KeptLink p x hall first k.standing) link_is kept in subst (λ e. KeptAt p x hall first e now) end_is at

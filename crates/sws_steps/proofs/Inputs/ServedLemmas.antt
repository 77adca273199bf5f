-- What was written at the end of a connection.
use Rattle.std.specs.Prelude.{◌||◌}
use Rattle.std.proofs.Common.{inl, inr, ◌⊎◌, ◌≡◌, ℕ, ◌+◌, ◌-◌, ◌≤◌, Bool, true, false, nat_le, List, [], ◌++◌, length, take, Option, Some, None, refl, sym, ap, ◌∙◌, subst, arith, append_assoc, append-nil, length-append, take_all, leb-true}
use Rattle.std.proofs.Math.Seq.{take-append-add}
use Rattle.std.proofs.lemmas.List.{take-append-le}
use Rattle.std.proofs.lemmas.List.Concat.{flat_map-append}
use Rattle.sws_link.specs.declared.Link.{Ghosts as LinkWords}
use Rattle.sws_link.specs.Contents.{IsPrefix}
use Rattle.sws_link.specs.Counts.{Rose}
use Rattle.sws_link.specs.Links.{LinkContents, input_of}
use Rattle.sws_parts.specs.Parts.{unsent_bytes}
use Rattle.sws_steps.specs.Protocol.{Protocol, IsOrderly, NotYet, later_unless, text_of, texts_of, is_closed}
use Rattle.sws_steps.specs.declared.End.{End}
use Rattle.sws_steps.specs.declared.End.TheVariants as ending
use Rattle.sws_steps.specs.declared.Next.TheVariants as next
use Rattle.sws_steps.specs.ConnCore.{ConnCoreState, ConnState}
use Rattle.sws_steps.specs.Step.{has_all_input, wait_limit}
use Rattle.sws_steps.specs.Sound.{IsSound, IsReadyTo, IsToRead, IsEnded, IsDone, Progress, IsTold, IsUncut, IsToldBy}
use Rattle.sws_steps.specs.Path.{told_by_link}
use Rattle.sws_steps.specs.Serving.{IsLast, Serves, RoseBy, BeginsResponses}
use Rattle.sws_steps.proofs.Inputs.PartLemmas.{nothing-rest, front-first}
use Rattle.sws_steps.proofs.Inputs.SinceLemmas.{SameInput, Since, SinceLink}

module _ {Hall Answer : Type 0} (p : Protocol Hall Answer) (orderly : IsOrderly p) where
  -- the answers to what was taken, followed by whatever may come, are those
  -- that were given, and more
  responses-given : (c : ConnCoreState Hall) (taken sent more : List ℕ) (k : Progress p c taken sent) (bytes : List ℕ) → take (p.input_limit c.hall) bytes ≡ k.consumed ++ more
      → p.responses_of c.hall bytes ≡ texts_of p k.given ++ texts_of p (later_unless c.closes (p.answers (p.answer_limit c.hall - c.answered) c.hall more))
  responses-given c taken sent more k bytes is =
      orderly.texts c.hall bytes ∙ ap (texts_of p) (orderly.all c.hall bytes)
      ∙ ap (λ b. texts_of p (p.answers (p.answer_limit c.hall) c.hall b)) is ∙ ap (texts_of p) (k.given_first more)
      ∙ flat_map-append (text_of p) k.given (later_unless c.closes (p.answers (p.answer_limit c.hall - c.answered) c.hall more))

  -- all that was taken counts
  taken-few : (c : ConnCoreState Hall) (taken sent : List ℕ) → Progress p c taken sent → length taken ≤ p.input_limit c.hall
  taken-few c taken sent k = let few = k.read_few in let is = k.read_is in omega arith

  -- what was written begins the responses to the heads that were answered
  pub consumed-first : (c : ConnCoreState Hall) (tells : LinkContents) (taken sent : List ℕ) (k : Progress p c taken sent) → IsTold c (Some tells) taken sent
      → IsPrefix tells.written (p.responses_of c.hall k.consumed)
  consumed-first c tells taken sent k (taken_is, writes, left) =
      let rest = front-first c.parts in
      let few : take (p.input_limit c.hall) k.consumed ≡ k.consumed ++ [] =
      take_all (p.input_limit c.hall) k.consumed (let few = taken-few c taken sent k in let long = ap length k.taken_is in omega (arith, length-append k.consumed c.buffer))
      ∙ sym (append-nil k.consumed) in
      let later = texts_of p (later_unless c.closes (p.answers (p.answer_limit c.hall - c.answered) c.hall [])) in
      let unsent : unsent_bytes c.parts ≡ (writes.front ++ writes.prefix.0) ++ rest.0 = rest.1 ∙ ap (λ f. f ++ rest.0) writes.prefix.1 in
      let given : texts_of p k.given ≡ sent ++ ((writes.front ++ writes.prefix.0) ++ rest.0) = sym k.sent_is ∙ ap (λ u. sent ++ u) unsent in (
        writes.prefix.0 ++ (rest.0 ++ later),
        responses-given c taken sent [] k k.consumed few
            ∙ ap (λ g. g ++ later) given
            ∙ append_assoc sent ((writes.front ++ writes.prefix.0) ++ rest.0) later
            ∙ ap (λ l. sent ++ l) (append_assoc (writes.front ++ writes.prefix.0) rest.0 later ∙ append_assoc writes.front writes.prefix.0 (rest.0 ++ later))
            ∙ sym (append_assoc sent writes.front (writes.prefix.0 ++ (rest.0 ++ later)))
            ∙ ap (λ w. w ++ (writes.prefix.0 ++ (rest.0 ++ later))) (sym writes.is),
      )

  -- what was written begins the responses to what was taken
  pub written-first : (c : ConnCoreState Hall) (tells : LinkContents) (taken sent : List ℕ) → Progress p c taken sent → IsTold c (Some tells) taken sent
      → IsPrefix tells.written (p.responses_of c.hall tells.taken)
  written-first c tells taken sent k (taken_is, writes, left) =
      let later = texts_of p (later_unless c.closes (p.answers (p.answer_limit c.hall - c.answered) c.hall c.buffer)) in
      let rest = front-first c.parts in
      let all : take (p.input_limit c.hall) tells.taken ≡ k.consumed ++ c.buffer =
      ap (take (p.input_limit c.hall)) taken_is ∙ take_all (p.input_limit c.hall) taken (taken-few c taken sent k) ∙ k.taken_is in
      let unsent : unsent_bytes c.parts ≡ (writes.front ++ writes.prefix.0) ++ rest.0 = rest.1 ∙ ap (λ f. f ++ rest.0) writes.prefix.1 in
      let given : texts_of p k.given ≡ sent ++ ((writes.front ++ writes.prefix.0) ++ rest.0) = sym k.sent_is ∙ ap (λ u. sent ++ u) unsent in (
        writes.prefix.0 ++ (rest.0 ++ later),
        responses-given c taken sent c.buffer k tells.taken all
            ∙ ap (λ g. g ++ later) given
            ∙ append_assoc sent ((writes.front ++ writes.prefix.0) ++ rest.0) later
            ∙ ap (λ l. sent ++ l) (append_assoc (writes.front ++ writes.prefix.0) rest.0 later ∙ append_assoc writes.front writes.prefix.0 (rest.0 ++ later))
            ∙ sym (append_assoc sent writes.front (writes.prefix.0 ++ (rest.0 ++ later)))
            ∙ ap (λ w. w ++ (writes.prefix.0 ++ (rest.0 ++ later))) (sym writes.is),
      )

  -- where all is done, what was written is the responses to the whole input
  pub written-whole : (c : ConnCoreState Hall) (tells : LinkContents) (taken sent : List ℕ) → Progress p c taken sent → IsTold c (Some tells) taken sent
      → c.end ≡ Some ending.Done → IsDone p c → tells.written ≡ p.responses_of c.hall (input_of tells)
  written-whole c tells taken sent k (taken_is, writes, left) end done = by_last done.last
    where
      written_is : tells.written ≡ texts_of p k.given
      written_is = writes.is ∙ ap (λ f. sent ++ f) (writes.none (subst IsUncut (sym end) tt))
          ∙ ap (λ u. sent ++ u) (sym (nothing-rest c.parts done.nothing)) ∙ k.sent_is

      by_more : (more : List ℕ) → take (p.input_limit c.hall) (input_of tells) ≡ k.consumed ++ more
          → later_unless c.closes (p.answers (p.answer_limit c.hall - c.answered) c.hall more) ≡ [] → tells.written ≡ p.responses_of c.hall (input_of tells)
      by_more more is none = sym (responses-given c taken sent more k (input_of tells) is
          ∙ ap (λ l. texts_of p k.given ++ texts_of p l) none ∙ append-nil (texts_of p k.given) ∙ sym written_is)

      no_longer : length k.consumed ≤ p.input_limit c.hall
      no_longer = let few = taken-few c taken sent k in let long = ap length k.taken_is in omega (arith, length-append k.consumed c.buffer)

      -- more input doesn't count behind a closing answer
      by_close : c.closes ≡ true → tells.written ≡ p.responses_of c.hall (input_of tells)
      by_close closes =
          let behind = c.buffer ++ tells.left in
          by_more (take (p.input_limit c.hall - length k.consumed) behind)
          (ap (λ t. take (p.input_limit c.hall) (t ++ tells.left)) (taken_is ∙ k.taken_is)
          ∙ ap (take (p.input_limit c.hall)) (append_assoc k.consumed c.buffer tells.left)
          ∙ ap (λ n. take n (k.consumed ++ behind)) (let few = no_longer in let sum : p.input_limit c.hall ≡ length k.consumed + (p.input_limit c.hall - length k.consumed) = omega arith in sum)
          ∙ take-append-add k.consumed behind (p.input_limit c.hall - length k.consumed))
          (ap (λ t. later_unless t (p.answers (p.answer_limit c.hall - c.answered) c.hall (take (p.input_limit c.hall - length k.consumed) behind))) closes)

      -- all input that counts was taken
      all_taken : (ended : Bool) → ended ≡ c.input_ended → (ended || nat_le (p.input_limit c.hall) c.read) ≡ true → take (p.input_limit c.hall) (input_of tells) ≡ taken
      all_taken true e all =
          ap (λ l. take (p.input_limit c.hall) (tells.taken ++ l)) (left (sym e)) ∙ ap (take (p.input_limit c.hall)) (append-nil tells.taken ∙ taken_is)
          ∙ take_all (p.input_limit c.hall) taken (taken-few c taken sent k)
      all_taken false e all =
          let full = leb-true (p.input_limit c.hall) c.read all in let long = k.read_is in
          ap (λ t. take (p.input_limit c.hall) (t ++ tells.left)) taken_is ∙ take-append-le (p.input_limit c.hall) taken tells.left (omega arith)
          ∙ take_all (p.input_limit c.hall) taken (taken-few c taken sent k)

      by_input : c.closes ≡ false → p.cut c.buffer ≡ NotYet → has_all_input p c ≡ true → tells.written ≡ p.responses_of c.hall (input_of tells)
      by_input goes_on not_yet all = by_more c.buffer (all_taken c.input_ended refl all ∙ k.taken_is)
          (ap (λ t. later_unless t (p.answers (p.answer_limit c.hall - c.answered) c.hall c.buffer)) goes_on
          ∙ orderly.none_yet (p.answer_limit c.hall - c.answered) c.hall c.buffer not_yet)

      by_last : (c.closes ≡ true) ⊎ ((c.closes ≡ false) × (p.cut c.buffer ≡ NotYet) × (has_all_input p c ≡ true)) → tells.written ≡ p.responses_of c.hall (input_of tells)
      by_last (inl closes) = by_close closes
      by_last (inr (goes_on, not_yet, all)) = by_input goes_on not_yet all

  -- and why nothing more comes
  nothing-more : (c : ConnCoreState Hall) (tells : LinkContents) (taken sent : List ℕ) → Progress p c taken sent → IsTold c (Some tells) taken sent → IsDone p c
      → IsLast p c.hall tells
  nothing-more c tells taken sent k (taken_is, writes, left) done = by_last done.last
    where
      all : take (p.input_limit c.hall) tells.taken ≡ k.consumed ++ c.buffer
      all = ap (take (p.input_limit c.hall)) taken_is ∙ take_all (p.input_limit c.hall) taken (taken-few c taken sent k) ∙ k.taken_is

      closed : c.closes ≡ true → is_closed p (p.answers_to c.hall tells.taken) ≡ true
      closed closes =
          ap (is_closed p) (orderly.all c.hall tells.taken) ∙ ap (λ b. is_closed p (p.answers (p.answer_limit c.hall) c.hall b)) all ∙ ap (is_closed p) (k.given_first c.buffer)
          ∙ ap (λ t. is_closed p (k.given ++ later_unless t (p.answers (p.answer_limit c.hall - c.answered) c.hall c.buffer))) closes
          ∙ ap (is_closed p) (append-nil k.given) ∙ k.closed_is closes

      by_input : (ended : Bool) → ended ≡ c.input_ended → (ended || nat_le (p.input_limit c.hall) c.read) ≡ true → IsLast p c.hall tells
      by_input true e full = inl (left (sym e))
      by_input false e full =
          let most = leb-true (p.input_limit c.hall) c.read full in let long = k.read_is in let few = k.read_few in
          inr (inl (ap length taken_is ∙ (let is : length taken ≡ p.input_limit c.hall = omega arith in is)))

      by_last : (c.closes ≡ true) ⊎ ((c.closes ≡ false) × (p.cut c.buffer ≡ NotYet) × (has_all_input p c ≡ true)) → IsLast p c.hall tells
      by_last (inl closes) = inr (inr (closed closes))
      by_last (inr (goes_on, not_yet, full)) = by_input c.input_ended refl full

  -- where a read is to be made, all that was taken is answered
  pub answered-read : (c : ConnCoreState Hall) (tells : LinkContents) (taken sent : List ℕ) → Progress p c taken sent → IsTold c (Some tells) taken sent → IsToRead p c
      → tells.written ≡ p.responses_of c.hall tells.taken
  answered-read c tells taken sent k (taken_is, writes, left) ready =
      let all : take (p.input_limit c.hall) tells.taken ≡ k.consumed ++ c.buffer =
      ap (take (p.input_limit c.hall)) taken_is ∙ take_all (p.input_limit c.hall) taken (taken-few c taken sent k) ∙ k.taken_is in
      let later = p.answers (p.answer_limit c.hall - c.answered) c.hall c.buffer in
      writes.is ∙ ap (λ f. sent ++ f) (writes.none (subst IsUncut (sym ready.between.no_end) tt))
      ∙ ap (λ u. sent ++ u) (sym (nothing-rest c.parts ready.between.nothing)) ∙ k.sent_is ∙ sym (append-nil (texts_of p k.given))
      ∙ ap (λ l. texts_of p k.given ++ texts_of p l)
      (sym (ap (λ t. later_unless t later) ready.between.goes_on ∙ orderly.none_yet (p.answer_limit c.hall - c.answered) c.hall c.buffer ready.not_yet))
      ∙ sym (responses-given c taken sent c.buffer k tells.taken all)

  module _ {L : Type 0} (x : LinkWords L) where
    -- a connection that has ended, over the link that was handed in
    pub serves : (hall : Hall) (first now : L) (c : ConnCoreState Hall) (end : End) → c.hall ≡ hall → c.end ≡ Some end → IsEnded p c
        → IsSound p x (record { standing = c; link = Some now }) → Since x first c now → Serves p hall (x.tells first) (x.tells now) end
    unfolding SameInput
    serves hall first now c end same end_is ended sound since = by_tells (x.tells first) (x.tells now) since.input sound.told
      where
        by_tells : (before after : Option LinkContents) → SameInput before after → IsTold c after sound.taken sound.sent → Serves p hall before after end
        by_tells None after input told = input
        by_tells (Some before) after (tells, is, input) told =
            let says : IsTold c (Some tells) sound.taken sound.sent = subst (λ o. IsTold c o sound.taken sound.sent) is told in (
              tells,
              is,
              record {
                input = input;
                few = subst (λ h. length tells.taken ≤ p.input_limit h) same (subst (λ t. length t ≤ p.input_limit c.hall) (sym says.0) (taken-few c sound.taken sound.sent sound.progress));
                prefix = subst (λ s. IsPrefix tells.written (p.responses_of s tells.taken)) same (written-first c tells sound.taken sound.sent sound.progress says);
                whole = λ e.
                    let done : c.end ≡ Some ending.Done = end_is ∙ ap Some e in
                    written-whole c tells sound.taken sound.sent sound.progress says done (ended.done done)
                    ∙ ap (λ s. p.responses_of s (input_of tells)) same ∙ ap (p.responses_of hall) input;
                last = λ e.
                    let done : c.end ≡ Some ending.Done = end_is ∙ ap Some e in
                    subst (λ s. IsLast p s tells) same (nothing-more c tells sound.taken sound.sent sound.progress says (ended.done done));
              },
            )

    -- the same of a closed connection, with its counts
    pub served : (hall : Hall) (first now : L) (k : ConnState Hall L) (end : End) → k.standing.hall ≡ hall → k.standing.pending ≡ next.Nothing
        → k.standing.end ≡ Some end → k.link ≡ Some now → IsSound p x k → SinceLink x first k.standing k.link
        → Serves p hall (x.tells first) (x.tells now) end × (end ≡ ending.Fault → Rose (x.faults first) (x.faults now))
        × (end ≡ ending.Idle → RoseBy wait_limit (x.waits first) (x.waits now))
    unfolding SinceLink
    served hall first now k end same closed end_is link_is sound since =
        let ended : IsEnded p k.standing = subst (λ stage. IsReadyTo p stage k.standing) closed sound.ready in
        let is : IsSound p x (record { standing = k.standing; link = Some now }) =
        subst (λ o. IsSound p x (record { standing = k.standing; link = o })) link_is sound in
        let over : Since x first k.standing now = subst (SinceLink x first k.standing) link_is since in (
          serves hall first now k.standing end same end_is ended is over,
          λ e. over.failed (end_is ∙ ap Some e),
          λ e. subst (λ n. RoseBy n (x.waits first) (x.waits now)) (ended.idle (end_is ∙ ap Some e)) over.waited,
        )

    -- at every moment
    pub begins_responses : (k : ConnState Hall L) → IsSound p x k → BeginsResponses p k.standing.hall (told_by_link x k.link)
    begins_responses k sound = by_link k.link sound.told
      where
        by_tells : (tells : Option LinkContents) → IsTold k.standing tells sound.taken sound.sent → BeginsResponses p k.standing.hall tells
        by_tells None told = tt
        by_tells (Some tells) told = written-first k.standing tells sound.taken sound.sent sound.progress told

        by_link : (link : Option L) → IsToldBy x k.standing link sound.taken sound.sent → BeginsResponses p k.standing.hall (told_by_link x link)
        by_link None told = tt
        by_link (Some link) told = by_tells (x.tells link) told

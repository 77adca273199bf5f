-- Each step keeps a connection sound.
use Rattle.std.specs.Prelude.{IsSome, is_some, ◌||◌, if◌then◌else◌}
use Rattle.std.proofs.Common.{inl, inr, ◌⊎◌, ◌≡◌, ◌≢◌, ℕ, suc, ◌+◌, ◌-◌, ◌*◌, ◌≤◌, Bool, true, false, nat_le, List, [], ◌∷◌, ◌++◌, length, take, drop, Option, Some, None, refl, sym, ap, ◌∙◌, subst, arith, append_assoc, append-nil, length-append, length-take, take-append-drop}
use native.Mathlib.Nat.{suc-mul}
use Rattle.sws_link.specs.declared.Link.{Ghosts as LinkWords}
use Rattle.sws_link.specs.declared.LinkRead.{LinkRead}
use Rattle.sws_link.specs.declared.LinkRead.TheVariants as read
use Rattle.sws_link.specs.declared.LinkWrite.{LinkWrite}
use Rattle.sws_link.specs.declared.LinkWrite.TheVariants as write
use Rattle.sws_link.specs.Contents.{IsPrefix}
use Rattle.sws_link.specs.Links.{LinkContents, LinkTakes, LinkPuts, Reads, Writes, given_by, IsWritten}
use Rattle.sws_parts.specs.Parts.{PartsState, front_of, unsent_bytes, after_sending}
use Rattle.sws_steps.specs.Protocol.{Protocol, IsOrderly, Cut, Whole, TooLong, NotYet, Asked, request, too_long, later_unless, text_of, texts_of, answers_from, is_closed}
use Rattle.sws_steps.specs.declared.note.Note.{Note}
use Rattle.sws_steps.specs.ConnCore.{is_sent, ConnCoreState}
use Rattle.sws_steps.specs.declared.End.{End}
use Rattle.sws_steps.specs.declared.End.TheVariants as ending
use Rattle.sws_steps.specs.declared.Next.{Next}
use Rattle.sws_steps.specs.declared.Next.TheVariants as next
use Rattle.sws_steps.specs.Step.{StepsFrom, ReadsOnce, WritesOnce, ShutsOnce, OverLink, going_to, ending_as, still_waiting, room_of, wait_limit, has_all_input, after_read, after_parse, after_answer, with_answer, is_last, after_look, after_part, after_write}
use Rattle.sws_steps.specs.Sound.{IsSound, IsShutAtEnd, is_over, IsEnded, IsUnanswered, IsWriting, Progress, IsToldBy, IsTold, IsUncut, IsReadyTo, IsLinked, IsBetween, IsToRead, IsToLook, IsToWrite}
use Rattle.sws_steps.proofs.Inputs.PartLemmas.{sent-rest, nothing-rest, nil_of, fewer-left}
use Rattle.sws_steps.proofs.Inputs.AnswerLemmas.{first-whole, first-refused}
use Rattle.sws_steps.proofs.Steps.ReadyLemmas.{Ready, to_look-ready, done-ready, to_read-ready, answering-ready, read_waits-ready, read-ready, write_waits-ready, wrote-ready, write-ready, close-ready}

-- the standing and the link, sound
abbrev pub IsSoundAt : {Hall Answer L : Type 0} → Protocol Hall Answer → LinkWords L → ConnCoreState Hall → Option L → Type 0
IsSoundAt p x c link = IsSound p x (record { standing = c; link = link })

module _ {Hall Answer : Type 0} (p : Protocol Hall Answer) (orderly : IsOrderly p) where
  -- ---- the progress

  -- it doesn't depend on the step that is pending, the end, the waits, nor on
  -- whether the input has ended
  progress_goes_on : (c : ConnCoreState Hall) (taken sent : List ℕ) (pending : Next) (end : Option End) (waits : ℕ) (input_ended : Bool)
      → Progress p c taken sent → Progress p (record c { pending = pending; end = end; waits = waits; input_ended = input_ended }) taken sent
  progress_goes_on c taken sent pending end waits input_ended k = record {
    consumed = k.consumed;
    given = k.given;
    taken_is = k.taken_is;
    sent_is = k.sent_is;
    count = k.count;
    last = k.last;
    given_first = k.given_first;
    closed_is = k.closed_is;
    read_is = k.read_is;
    written_is = k.written_is;
    read_few = k.read_few;
    limits = k.limits;
    given_few = k.given_few;
    texts_few = k.texts_few;
  }

  -- a piece was taken
  progress_took : (c : ConnCoreState Hall) (taken sent piece : List ℕ) (count waits : ℕ) (pending : Next) → length piece ≡ count
      → c.read + count ≤ p.input_limit c.hall → Progress p c taken sent
      → Progress p (record c { buffer = c.buffer ++ piece; read = c.read + count; waits = waits; pending = pending }) (taken ++ piece) sent
  progress_took c taken sent piece count waits pending long few k = record {
    consumed = k.consumed;
    given = k.given;
    taken_is = ap (λ t. t ++ piece) k.taken_is ∙ append_assoc k.consumed c.buffer piece;
    sent_is = k.sent_is;
    count = k.count;
    last = k.last;
    given_first = k.given_first;
    closed_is = k.closed_is;
    read_is = let r = k.read_is in omega (arith, length-append taken piece);
    written_is = k.written_is;
    read_few = few;
    limits = k.limits;
    given_few = k.given_few;
    texts_few = k.texts_few;
  }

  -- what is left of the last answer becomes less
  still_writing : (parts now : PartsState) (note : Note) (given : List Answer) → length (unsent_bytes now) ≤ length (unsent_bytes parts)
      → IsUnanswered p parts given ⊎ IsWriting p parts note given → IsUnanswered p now given ⊎ IsWriting p now note given
  still_writing parts now note given less (inl none) = inl (record { given_is = none.given_is; nothing = nil_of (unsent_bytes now) (omega (arith, ap length none.nothing)) })
  still_writing parts now note given less (inr last) = inr (record {
    earlier = last.earlier;
    answer = last.answer;
    given_is = last.given_is;
    note_is = last.note_is;
    left = let most = last.left in omega arith;
  })

  -- some of the parts was sent
  progress_wrote : (c : ConnCoreState Hall) (taken sent : List ℕ) (count waits : ℕ) (pending : Next) (end : Option End) → count ≤ length (front_of c.parts)
      → Progress p c taken sent
      → Progress p (record c { parts = after_sending count c.parts; written = c.written + count; waits = waits; pending = pending; end = end })
      taken (sent ++ take count (front_of c.parts))
  progress_wrote c taken sent count waits pending end fits k = record {
    consumed = k.consumed;
    given = k.given;
    taken_is = k.taken_is;
    sent_is = append_assoc sent (take count (front_of c.parts)) (unsent_bytes (after_sending count c.parts)) ∙ ap (λ r. sent ++ r) (sent-rest c.parts count fits) ∙ k.sent_is;
    count = k.count;
    last = still_writing c.parts (after_sending count c.parts) c.note k.given (fewer-left c.parts count fits) k.last;
    given_first = k.given_first;
    closed_is = k.closed_is;
    read_is = k.read_is;
    written_is = let w = k.written_is in omega (arith, length-append sent (take count (front_of c.parts)), length-take count (front_of c.parts));
    read_few = k.read_few;
    limits = k.limits;
    given_few = k.given_few;
    texts_few = k.texts_few;
  }

  texts-snoc : (given : List Answer) (answer : Answer) → texts_of p (given ++ answer ∷ []) ≡ texts_of p given ++ text_of p answer
  texts-snoc [] answer = append-nil (text_of p answer)
  texts-snoc (first ∷ given) answer = ap (λ t. text_of p first ++ t) (texts-snoc given answer) ∙ sym (append_assoc (text_of p first) (texts_of p given) (text_of p answer))

  closed-snoc : (given : List Answer) (answer : Answer) → p.closes answer ≡ true → is_closed p (given ++ answer ∷ []) ≡ true
  closed-snoc [] answer closes = ap (λ t. t || is_closed p []) closes
  closed-snoc (first ∷ given) answer closes = by_first (p.closes first) (closed-snoc given answer closes)
    where
      by_first : (t : Bool) → is_closed p (given ++ answer ∷ []) ≡ true → (t || is_closed p (given ++ answer ∷ [])) ≡ true
      by_first true later = refl
      by_first false later = later

  -- one more request was answered: the bytes of it left the buffer, and it is answered first,
  -- whatever comes behind it
  progress_answered : (c : ConnCoreState Hall) (taken sent head rest : List ℕ) (answer : Answer) → IsBetween p c → c.buffer ≡ head ++ rest
      → ((more : List ℕ) → p.answers (p.answer_limit c.hall - c.answered) c.hall (head ++ more)
      ≡ answers_from p answer (p.answers (p.answer_limit c.hall - (c.answered + 1)) c.hall more))
      → length (text_of p answer) ≤ p.text_limit
      → Progress p c taken sent → Progress p (with_answer p c answer rest) taken sent
  progress_answered c taken sent head rest answer between split first few k = record {
    consumed = k.consumed ++ head;
    given = k.given ++ answer ∷ [];
    taken_is = k.taken_is ∙ ap (λ b. k.consumed ++ b) split ∙ sym (append_assoc k.consumed head rest);
    sent_is = ap (λ s. s ++ text_of p answer) all_sent ∙ sym (texts-snoc k.given answer);
    count = let many = k.count in omega (arith, length-append k.given (answer ∷ []));
    last = inr (record { earlier = k.given; answer = answer; given_is = refl; note_is = refl; left = omega arith });
    given_first = λ more. ap (p.answers (p.answer_limit c.hall) c.hall) (append_assoc k.consumed head more) ∙ k.given_first (head ++ more)
        ∙ ap (λ t. k.given ++ later_unless t (p.answers (p.answer_limit c.hall - c.answered) c.hall (head ++ more))) between.goes_on
        ∙ ap (λ l. k.given ++ l) (first more)
        ∙ sym (append_assoc k.given (answer ∷ []) (later_unless (p.closes answer) (p.answers (p.answer_limit c.hall - (c.answered + 1)) c.hall more)));
    closed_is = λ closes. closed-snoc k.given answer closes;
    read_is = k.read_is;
    written_is = k.written_is;
    read_few = k.read_few;
    limits = k.limits;
    given_few = let more = between.more in omega arith;
    texts_few = let old = k.texts_few in
        let one : (c.answered + 1) * p.text_limit ≡ c.answered * p.text_limit + p.text_limit = ap (λ n. n * p.text_limit) (let next : c.answered + 1 ≡ suc c.answered = omega arith in next) ∙ suc-mul c.answered p.text_limit in
        omega (arith, ap length (texts-snoc k.given answer), length-append (texts_of p k.given) (text_of p answer), one);
  }
    where
      all_sent : sent ≡ texts_of p k.given
      all_sent = sym (append-nil sent) ∙ ap (λ r. sent ++ r) (sym (nothing-rest c.parts between.nothing)) ∙ k.sent_is

  -- ---- what the link tells

  told_read : (c : ConnCoreState Hall) (before now : Option LinkContents) (room : ℕ) (answer : LinkRead) (into taken sent : List ℕ)
      → c.input_ended ≡ false → LinkTakes before now room answer into → IsTold c before taken sent → IsTold c now (taken ++ given_by answer into) sent
  told_read c None now room answer into taken sent goes_on e told = subst (λ o. IsTold c o (taken ++ given_by answer into) sent) (sym e) tt
  told_read c (Some before) now room answer into taken sent goes_on takes told = subst (λ o. IsTold c o (taken ++ given_by answer into) sent) (sym takes.is) (
    takes.taken ∙ ap (λ t. t ++ given_by answer into) told.0,
    record { front = told.1.front; is = takes.written ∙ told.1.is; prefix = told.1.prefix; none = told.1.none },
    λ ended. absurd (let f : true ≡ false = sym ended ∙ goes_on in cc),
  )

  -- the input has ended
  told_ended : (c : ConnCoreState Hall) (before now : Option LinkContents) (room : ℕ) (into taken sent : List ℕ) (pending : Next)
      → LinkTakes before now room read.End into → IsTold c before taken sent
      → IsTold (record c { input_ended = true; waits = 0; pending = pending }) now taken sent
  told_ended c None now room into taken sent pending e told =
      subst (λ o. IsTold (record c { input_ended = true; waits = 0; pending = pending }) o taken sent) (sym e) tt
  told_ended c (Some before) now room into taken sent pending takes told =
      subst (λ o. IsTold (record c { input_ended = true; waits = 0; pending = pending }) o taken sent) (sym takes.is) (
        takes.taken ∙ append-nil before.taken ∙ told.0,
        record { front = told.1.front; is = takes.written ∙ told.1.is; prefix = told.1.prefix; none = told.1.none },
        λ ended. sym takes.left ∙ takes.ends,
      )

  -- only the parts and the end count
  told_goes_on : (c d : ConnCoreState Hall) (tells : Option LinkContents) (taken sent : List ℕ) → d.parts ≡ c.parts → d.input_ended ≡ c.input_ended → (IsUncut d.end → IsUncut c.end)
      → IsTold c tells taken sent → IsTold d tells taken sent
  told_goes_on c d None taken sent parts same uncut told = tt
  told_goes_on c d (Some tells) taken sent parts same uncut told = (
    told.0,
    record {
      front = told.1.front;
      is = told.1.is;
      prefix = subst (λ unsent. IsPrefix told.1.front (front_of unsent)) (sym parts) told.1.prefix;
      none = λ u. told.1.none (uncut u);
    },
    λ ended. told.2 (sym same ∙ ended),
  )

  -- before a write fails, what was written is what was sent
  told_sent : (c : ConnCoreState Hall) (tells : LinkContents) (taken sent : List ℕ) → c.end ≡ None → IsTold c (Some tells) taken sent → tells.written ≡ sent
  told_sent c tells taken sent none told =
      told.1.is ∙ ap (λ f. sent ++ f) (told.1.none (subst IsUncut (sym none) tt)) ∙ append-nil sent

  told_wrote : (c d : ConnCoreState Hall) (before now : Option LinkContents) (count : ℕ) (taken sent : List ℕ) → d.input_ended ≡ c.input_ended → c.end ≡ None
      → LinkPuts before now (write.Wrote count) (front_of c.parts) → IsTold c before taken sent
      → IsTold d now taken (sent ++ take count (front_of c.parts))
  told_wrote c d None now count taken sent same none e told = subst (λ o. IsTold d o taken (sent ++ take count (front_of c.parts))) (sym e) tt
  told_wrote c d (Some before) now count taken sent same none puts told =
      subst (λ o. IsTold d o taken (sent ++ take count (front_of c.parts))) (sym puts.is) (
        puts.taken ∙ told.0,
        record {
          front = [];
          is = puts.written ∙ ap (λ w. w ++ puts.front) (told_sent c before taken sent none told) ∙ ap (λ f. sent ++ f) puts.front_is
              ∙ sym (append-nil (sent ++ take count (front_of c.parts)));
          prefix = (front_of d.parts, refl);
          none = λ u. refl;
        },
        λ ended. puts.left ∙ told.2 (sym same ∙ ended),
      )

  -- nothing was written
  told_unwritten : (c d : ConnCoreState Hall) (before now : Option LinkContents) (taken sent : List ℕ) → d.input_ended ≡ c.input_ended → c.end ≡ None
      → LinkPuts before now write.NotReady (front_of c.parts) → IsTold c before taken sent → IsTold d now taken sent
  told_unwritten c d None now taken sent same none e told = subst (λ o. IsTold d o taken sent) (sym e) tt
  told_unwritten c d (Some before) now taken sent same none puts told =
      subst (λ o. IsTold d o taken sent) (sym puts.is) (
        puts.taken ∙ told.0,
        record {
          front = [];
          is = puts.written ∙ ap (λ w. w ++ puts.front) (told_sent c before taken sent none told) ∙ ap (λ f. sent ++ f) puts.front_is;
          prefix = (front_of d.parts, refl);
          none = λ u. refl;
        },
        λ ended. puts.left ∙ told.2 (sym same ∙ ended),
      )

  -- a write failed
  told_cut : (c d : ConnCoreState Hall) (before now : Option LinkContents) (answer : LinkWrite) (taken sent : List ℕ) → d.input_ended ≡ c.input_ended → c.end ≡ None
      → (IsUncut d.end → ⊥) → d.parts ≡ c.parts
      → ((front piece : List ℕ) → IsWritten answer piece front → IsPrefix front piece)
      → LinkPuts before now answer (front_of c.parts) → IsTold c before taken sent → IsTold d now taken sent
  told_cut c d None now answer taken sent same none cut parts front e told = subst (λ o. IsTold d o taken sent) (sym e) tt
  told_cut c d (Some before) now answer taken sent same none cut parts front puts told =
      subst (λ o. IsTold d o taken sent) (sym puts.is) (
        puts.taken ∙ told.0,
        record {
          front = puts.front;
          is = puts.written ∙ ap (λ w. w ++ puts.front) (told_sent c before taken sent none told);
          prefix = subst (λ unsent. IsPrefix puts.front (front_of unsent)) (sym parts) (front puts.front (front_of c.parts) puts.front_is);
          none = λ u. absurd (cut u);
        },
        λ ended. puts.left ∙ told.2 (sym same ∙ ended),
      )

  -- ---- each step

  module _ {L : Type 0} (x : LinkWords L) where
    -- the link stays as it is
    shut_on : (pending next : Next) (link : Option L) → is_over next ≡ is_over pending → IsShutAtEnd x pending link → IsShutAtEnd x next link
    shut_on pending next None over shut = tt
    shut_on pending next (Some link) over shut = shut ∙ sym over

    -- a step that leaves the link as it is, and the parts, the buffer and the counts
    moved : (c : ConnCoreState Hall) (link : Option L) (pending : Next) (end : Option End) → IsSoundAt p x c link → (IsUncut end → IsUncut c.end)
        → IsReadyTo p pending (record c { pending = pending; end = end }) → IsLinked pending link → is_over pending ≡ is_over c.pending
        → IsSoundAt p x (record c { pending = pending; end = end }) link
    moved c link pending end s uncut ready linked over = record {
      taken = s.taken;
      sent = s.sent;
      ready = ready;
      linked = linked;
      shut = shut_on c.pending pending link over s.shut;
      progress = progress_goes_on c s.taken s.sent pending end c.waits c.input_ended s.progress;
      told = by_link link s.told;
    }
      where
        by_link : (link : Option L) → IsToldBy x c link s.taken s.sent → IsToldBy x (record c { pending = pending; end = end }) link s.taken s.sent
        by_link None told = told
        by_link (Some l) told = told_goes_on c (record c { pending = pending; end = end }) (x.tells l) s.taken s.sent refl refl uncut told

    parse_sound : (c : ConnCoreState Hall) (link : Option L) → IsSoundAt p x c link → c.pending ≡ next.Parse → IsBetween p c → IsSome link → IsSoundAt p x (after_parse p c (p.cut c.buffer)) link
    parse_sound c link s pending between some = by_cut (p.cut c.buffer) refl
      where
        not_over : false ≡ is_over c.pending
        not_over = ap is_over (sym pending)

        to_look : p.cut c.buffer ≢ NotYet → IsSoundAt p x (going_to c next.Look) link
        to_look whole = moved c link next.Look c.end s (λ u. u) (to_look-ready p orderly c between whole) some not_over

        by_input : (all : Bool) → all ≡ has_all_input p c → p.cut c.buffer ≡ NotYet
            → IsSoundAt p x (if all then ending_as c ending.Done else going_to c next.Read) link
        by_input true e none = moved c link next.Close (Some ending.Done) s (λ u. subst IsUncut (sym between.no_end) tt) (done-ready p orderly c between none e) some not_over
        by_input false e none = moved c link next.Read c.end s (λ u. u) (to_read-ready p orderly c between none e) some not_over

        by_cut : (cut : Cut) → cut ≡ p.cut c.buffer → IsSoundAt p x (after_parse p c cut) link
        by_cut (Whole len) e = to_look (λ f. let g : Whole len ≡ NotYet = e ∙ f in cc)
        by_cut TooLong e = to_look (λ f. let g : TooLong ≡ NotYet = e ∙ f in cc)
        by_cut NotYet e = by_input (has_all_input p c) refl (sym e)

    look_sound : (c : ConnCoreState Hall) (link : Option L) → IsSoundAt p x c link → c.pending ≡ next.Look → IsToLook p c → IsSome link → IsSoundAt p x (after_look p c (p.cut c.buffer)) link
    look_sound c link s pending look some = by_cut (p.cut c.buffer) refl
      where
        not_over : false ≡ is_over c.pending
        not_over = ap is_over (sym pending)

        -- what follows from progress that goes on with an answer, whatever is next
        sent : (asked : Asked) (rest : List ℕ) → Progress p (with_answer p c (p.answer c.hall asked (is_last p c)) rest) s.taken s.sent
            → (pending : Next) (end : Option End)
            → IsReadyTo p pending (record (with_answer p c (p.answer c.hall asked (is_last p c)) rest) { pending = pending; end = end })
            → IsLinked pending link → is_over pending ≡ false
            → IsSoundAt p x (record (with_answer p c (p.answer c.hall asked (is_last p c)) rest) { pending = pending; end = end }) link
        sent asked rest progress pending end ready linked over = record {
          taken = s.taken;
          sent = s.sent;
          ready = ready;
          linked = linked;
          shut = shut_on c.pending pending link (over ∙ not_over) s.shut;
          progress = progress_goes_on (with_answer p c (p.answer c.hall asked (is_last p c)) rest) s.taken s.sent pending end c.waits c.input_ended progress;
          told = by_link link s.told;
        }
          where
            by_tells : (tells : Option LinkContents) → IsTold c tells s.taken s.sent
                → IsTold (record (with_answer p c (p.answer c.hall asked (is_last p c)) rest) { pending = pending; end = end }) tells s.taken s.sent
            by_tells None told = tt
            by_tells (Some tells) told = (
              told.0,
              record {
                front = [];
                is = told_sent c tells s.taken s.sent look.between.no_end told ∙ sym (append-nil s.sent);
                prefix = (front_of (with_answer p c (p.answer c.hall asked (is_last p c)) rest).parts, refl);
                none = λ u. refl;
              },
              told.2,
            )

            by_link : (link : Option L) → IsToldBy x c link s.taken s.sent
                → IsToldBy x (record (with_answer p c (p.answer c.hall asked (is_last p c)) rest) { pending = pending; end = end }) link s.taken s.sent
            by_link None told = told
            by_link (Some l) told = by_tells (x.tells l) told

        answered : (asked : Asked) (rest : List ℕ) → Progress p (with_answer p c (p.answer c.hall asked (is_last p c)) rest) s.taken s.sent
            → IsSoundAt p x (after_answer p c (p.answer c.hall asked (is_last p c)) rest) link
        answered asked rest progress =
            by_bytes (p.is_empty (p.answer c.hall asked (is_last p c))) (p.closes (p.answer c.hall asked (is_last p c)))
            (answering-ready p orderly c asked rest look.between)
          where
            by_bytes : (empty closes : Bool) → Ready p (after_part empty closes (with_answer p c (p.answer c.hall asked (is_last p c)) rest))
                → IsSoundAt p x (after_part empty closes (with_answer p c (p.answer c.hall asked (is_last p c)) rest)) link
            by_bytes false closes ready = sent asked rest progress next.Write c.end ready some refl
            by_bytes true true ready = sent asked rest progress next.Close (Some ending.Done) ready some refl
            by_bytes true false ready = sent asked rest progress next.Parse c.end ready some refl

        by_cut : (cut : Cut) → cut ≡ p.cut c.buffer → IsSoundAt p x (after_look p c cut) link
        by_cut (Whole len) e = answered (request (take len c.buffer)) (drop len c.buffer)
            (progress_answered c s.taken s.sent (take len c.buffer) (drop len c.buffer) (p.answer c.hall (request (take len c.buffer)) (is_last p c)) look.between
            (sym (take-append-drop len c.buffer)) (λ more. first-whole p orderly c look.between.more len more (sym e))
            (orderly.short c.hall (request (take len c.buffer)) (is_last p c) s.progress.limits) s.progress)
        by_cut TooLong e = answered too_long []
            (progress_answered c s.taken s.sent c.buffer [] (p.answer c.hall too_long (is_last p c)) look.between
            (sym (append-nil c.buffer)) (λ more. first-refused p orderly c look.between.more more (sym e))
            (orderly.short c.hall too_long (is_last p c) s.progress.limits) s.progress)
        by_cut NotYet e = absurd (look.whole (sym e))

    read_sound : (c d : ConnCoreState Hall) (link now : L) → IsSoundAt p x c (Some link) → c.pending ≡ next.Read → IsToRead p c → ReadsOnce p x c d link now → IsSoundAt p x d (Some now)
    read_sound c d link now s pending to_read once = subst (λ d. IsSoundAt p x d (Some now)) (sym once.becomes) (by_answer once.answer once.called)
      where
        between : IsBetween p c
        between = to_read.between

        not_shut : x.is_shut now ≡ false
        not_shut = once.called.not_shut

        told_by : (answer : LinkRead) → Reads x.tells x.is_shut x.faults x.waits link (room_of p c) answer once.into now
            → IsTold c (x.tells now) (s.taken ++ given_by answer once.into) s.sent
        told_by answer called = told_read c (x.tells link) (x.tells now) (room_of p c) answer once.into s.taken s.sent to_read.goes_on called.takes s.told

        told_same : (d : ConnCoreState Hall) → d.parts ≡ c.parts → d.input_ended ≡ c.input_ended → IsTold c (x.tells now) (s.taken ++ []) s.sent → IsTold d (x.tells now) s.taken s.sent
        told_same d parts same told = told_goes_on c d (x.tells now) s.taken s.sent parts same (λ u. subst IsUncut (sym between.no_end) tt)
            (subst (λ t. IsTold c (x.tells now) t s.sent) (append-nil s.taken) told)

        by_wait : (all : Bool) → all ≡ nat_le wait_limit (c.waits + 1) → IsTold c (x.tells now) (s.taken ++ []) s.sent → IsSoundAt p x (still_waiting c all) (Some now)
        by_wait true e told = record {
          taken = s.taken;
          sent = s.sent;
          ready = read_waits-ready p orderly c pending to_read true e;
          linked = refl;
          shut = not_shut;
          progress = progress_goes_on c s.taken s.sent next.Close (Some ending.Idle) (c.waits + 1) c.input_ended s.progress;
          told = told_same (still_waiting c true) refl refl told;
        }
        by_wait false e told = record {
          taken = s.taken;
          sent = s.sent;
          ready = read_waits-ready p orderly c pending to_read false e;
          linked = subst (λ stage. IsLinked stage (Some now)) (sym pending) refl;
          shut = not_shut ∙ ap is_over (sym pending);
          progress = progress_goes_on c s.taken s.sent c.pending c.end (c.waits + 1) c.input_ended s.progress;
          told = told_same (still_waiting c false) refl refl told;
        }

        by_answer : (answer : LinkRead) → Reads x.tells x.is_shut x.faults x.waits link (room_of p c) answer once.into now → IsSoundAt p x (after_read c answer once.into) (Some now)
        by_answer (read.Took count) called =
            let size = called.size in
            let room = to_read.room in
            let fits = called.fits.1 in
            record {
              taken = s.taken ++ take count once.into;
              sent = s.sent;
              ready = read-ready p orderly c (read.Took count) once.into pending to_read;
              linked = refl;
              shut = not_shut;
              progress = progress_took c s.taken s.sent (take count once.into) count 0 next.Parse (omega (arith, length-take count once.into)) (omega arith) s.progress;
              told = told_goes_on c (after_read c (read.Took count) once.into) (x.tells now) (s.taken ++ take count once.into) s.sent refl refl (λ u. u)
                  (told_by (read.Took count) called);
            }
        by_answer read.End called = record {
          taken = s.taken;
          sent = s.sent;
          ready = read-ready p orderly c read.End once.into pending to_read;
          linked = refl;
          shut = not_shut;
          progress = progress_goes_on c s.taken s.sent next.Parse c.end 0 true s.progress;
          told = told_ended c (x.tells link) (x.tells now) (room_of p c) once.into s.taken s.sent next.Parse called.takes s.told;
        }
        by_answer read.NotReady called = by_wait (nat_le wait_limit (c.waits + 1)) refl (told_by read.NotReady called)
        by_answer read.Failed called = record {
          taken = s.taken;
          sent = s.sent;
          ready = read-ready p orderly c read.Failed once.into pending to_read;
          linked = refl;
          shut = not_shut;
          progress = progress_goes_on c s.taken s.sent next.Close (Some ending.Fault) c.waits c.input_ended s.progress;
          told = told_same (ending_as c ending.Fault) refl refl (told_by read.Failed called);
        }

    write_sound : (c d : ConnCoreState Hall) (link now : L) → IsSoundAt p x c (Some link) → c.pending ≡ next.Write → IsToWrite p c → WritesOnce x c d link now → IsSoundAt p x d (Some now)
    write_sound c d link now s pending to_write once = subst (λ d. IsSoundAt p x d (Some now)) (sym once.becomes) (by_answer once.answer once.called)
      where
        not_shut : x.is_shut now ≡ false
        not_shut = once.called.not_shut

        by_wait : (all : Bool) → all ≡ nat_le wait_limit (c.waits + 1) → LinkPuts (x.tells link) (x.tells now) write.NotReady (front_of c.parts)
            → IsSoundAt p x (still_waiting c all) (Some now)
        by_wait true e puts = record {
          taken = s.taken;
          sent = s.sent;
          ready = write_waits-ready p orderly c pending to_write true e;
          linked = refl;
          shut = not_shut;
          progress = progress_goes_on c s.taken s.sent next.Close (Some ending.Idle) (c.waits + 1) c.input_ended s.progress;
          told = told_unwritten c (still_waiting c true) (x.tells link) (x.tells now) s.taken s.sent refl to_write.no_end puts s.told;
        }
        by_wait false e puts = record {
          taken = s.taken;
          sent = s.sent;
          ready = write_waits-ready p orderly c pending to_write false e;
          linked = subst (λ stage. IsLinked stage (Some now)) (sym pending) refl;
          shut = not_shut ∙ ap is_over (sym pending);
          progress = progress_goes_on c s.taken s.sent c.pending c.end (c.waits + 1) c.input_ended s.progress;
          told = told_unwritten c (still_waiting c false) (x.tells link) (x.tells now) s.taken s.sent refl to_write.no_end puts s.told;
        }

        -- some was written, and this is next
        wrote : (count : ℕ) → count ≤ length (front_of c.parts) → LinkPuts (x.tells link) (x.tells now) (write.Wrote count) (front_of c.parts)
            → (next : Next) (end : Option End)
            → IsReadyTo p next (record c { parts = after_sending count c.parts; written = c.written + count; waits = 0; pending = next; end = end })
            → IsLinked next (Some now) → false ≡ is_over next
            → IsSoundAt p x (record c { parts = after_sending count c.parts; written = c.written + count; waits = 0; pending = next; end = end }) (Some now)
        wrote count fits puts next end ready linked over = record {
          taken = s.taken;
          sent = s.sent ++ take count (front_of c.parts);
          ready = ready;
          linked = linked;
          shut = not_shut ∙ over;
          progress = progress_wrote c s.taken s.sent count 0 next end fits s.progress;
          told = told_wrote c (record c { parts = after_sending count c.parts; written = c.written + count; waits = 0; pending = next; end = end })
              (x.tells link) (x.tells now) count s.taken s.sent refl to_write.no_end puts s.told;
        }

        by_rest : (count : ℕ) → count ≤ length (front_of c.parts) → LinkPuts (x.tells link) (x.tells now) (write.Wrote count) (front_of c.parts)
            → (nothing closes : Bool) → nothing ≡ is_sent (after_sending count c.parts) → closes ≡ c.closes
            → IsSoundAt p x (after_part nothing closes (record c { parts = after_sending count c.parts; written = c.written + count; waits = 0 })) (Some now)
        by_rest count fits puts false closes e f = wrote count fits puts c.pending c.end (wrote-ready p orderly c count pending to_write false closes e f)
            (subst (λ stage. IsLinked stage (Some now)) (sym pending) refl) (ap is_over (sym pending))
        by_rest count fits puts true true e f = wrote count fits puts next.Close (Some ending.Done) (wrote-ready p orderly c count pending to_write true true e f) refl refl
        by_rest count fits puts true false e f = wrote count fits puts next.Parse c.end (wrote-ready p orderly c count pending to_write true false e f) refl refl

        by_answer : (answer : LinkWrite) → Writes x.tells x.is_shut x.faults x.waits link (front_of c.parts) answer now → IsSoundAt p x (after_write c answer) (Some now)
        by_answer (write.Wrote count) called = by_rest count called.fits.1 called.puts (is_sent (after_sending count c.parts)) c.closes refl refl
        by_answer write.NotReady called = by_wait (nat_le wait_limit (c.waits + 1)) refl called.puts
        by_answer write.Failed called = record {
          taken = s.taken;
          sent = s.sent;
          ready = write-ready p orderly c write.Failed pending to_write;
          linked = refl;
          shut = not_shut;
          progress = progress_goes_on c s.taken s.sent next.Close (Some ending.Fault) c.waits c.input_ended s.progress;
          told = told_cut c (ending_as c ending.Fault) (x.tells link) (x.tells now) write.Failed s.taken s.sent refl to_write.no_end (λ u. u) refl (λ front piece is. is)
              called.puts s.told;
        }
        by_answer write.Memory called = record {
          taken = s.taken;
          sent = s.sent;
          ready = write-ready p orderly c write.Memory pending to_write;
          linked = refl;
          shut = not_shut;
          progress = progress_goes_on c s.taken s.sent next.Close (Some ending.Memory) c.waits c.input_ended s.progress;
          told = told_cut c (ending_as c ending.Memory) (x.tells link) (x.tells now) write.Memory s.taken s.sent refl to_write.no_end (λ u. u) refl (λ front piece is. is)
              called.puts s.told;
        }

    close_sound : (c d : ConnCoreState Hall) (link now : L) → IsSoundAt p x c (Some link) → IsEnded p c → ShutsOnce x c d link now → IsSoundAt p x d (Some now)
    close_sound c d link now s ended once = subst (λ d. IsSoundAt p x d (Some now)) (sym once.becomes) (record {
      taken = s.taken;
      sent = s.sent;
      ready = close-ready p orderly c ended;
      linked = refl;
      shut = once.called.shut;
      progress = progress_goes_on c s.taken s.sent next.Nothing c.end c.waits c.input_ended s.progress;
      told = told_goes_on c (going_to c next.Nothing) (x.tells now) s.taken s.sent refl refl (λ u. u)
          (subst (λ t. IsTold c t s.taken s.sent) (sym once.called.same) s.told);
    })

    same_sound : (c d : ConnCoreState Hall) (link now : Option L) → d ≡ c → now ≡ link → IsSoundAt p x c link → IsSoundAt p x d now
    same_sound c d link now e f s = subst (λ l. IsSoundAt p x d l) (sym f) (subst (λ d. IsSoundAt p x d link) (sym e) s)

    -- whatever is pending
    pub step_sound : (c d : ConnCoreState Hall) (link now : Option L) → IsSoundAt p x c link → StepsFrom p x c d c.pending link now → IsSoundAt p x d now
    step_sound c d link now s steps = by_pending c.pending refl s.ready s.linked steps
      where
        read_over : (link now : Option L) → IsSoundAt p x c link → c.pending ≡ next.Read → IsToRead p c → OverLink x c d (ReadsOnce p x c d) link now → IsSoundAt p x d now
        read_over (Some link) (Some now) s e ready once = read_sound c d link now s e ready once
        read_over (Some link) None s e ready once = absurd once
        read_over None now s e ready once = absurd once

        write_over : (link now : Option L) → IsSoundAt p x c link → c.pending ≡ next.Write → IsToWrite p c → OverLink x c d (WritesOnce x c d) link now → IsSoundAt p x d now
        write_over (Some link) (Some now) s e ready once = write_sound c d link now s e ready once
        write_over (Some link) None s e ready once = absurd once
        write_over None now s e ready once = absurd once

        close_over : (link now : Option L) → IsSoundAt p x c link → IsEnded p c → OverLink x c d (ShutsOnce x c d) link now → IsSoundAt p x d now
        close_over (Some link) (Some now) s ready once = close_sound c d link now s ready once
        close_over (Some link) None s ready once = absurd once
        close_over None now s ready once = absurd once

        by_pending : (pending : Next) → pending ≡ c.pending → IsReadyTo p pending c → IsLinked pending link → StepsFrom p x c d pending link now → IsSoundAt p x d now
        by_pending next.Open e ready linked steps = same_sound c d link now steps.0 steps.1 s
        by_pending next.Read e ready linked steps = read_over link now s (sym e) ready steps
        by_pending next.Parse e ready linked steps =
            same_sound (after_parse p c (p.cut c.buffer)) d link now steps.0 steps.1 (parse_sound c link s (sym e) ready.between linked)
        by_pending next.Look e ready linked steps =
            same_sound (after_look p c (p.cut c.buffer)) d link now steps.0 steps.1 (look_sound c link s (sym e) ready linked)
        by_pending next.Write e ready linked steps = write_over link now s (sym e) ready steps
        by_pending next.Wait e ready linked steps = absurd steps
        by_pending next.Close e ready linked steps = close_over link now s ready steps
        by_pending next.Nothing e ready linked steps = same_sound c d link now steps.0 steps.1 s

    -- a link stays
    pub step_linked : (c d : ConnCoreState Hall) (link now : Option L) → IsSome link → StepsFrom p x c d c.pending link now → IsSome now
    step_linked c d link now some steps = by_pending c.pending steps
      where
        over : (Does : L → L → Type 0) (link now : Option L) → OverLink x c d Does link now → IsSome now
        over Does (Some link) (Some now) once = refl
        over Does (Some link) None once = absurd once
        over Does None now once = absurd once

        same : now ≡ link → IsSome now
        same e = subst (λ (l : Option L). IsSome l) (sym e) some

        by_pending : (pending : Next) → StepsFrom p x c d pending link now → IsSome now
        by_pending next.Open steps = same steps.1
        by_pending next.Read steps = over (ReadsOnce p x c d) link now steps
        by_pending next.Parse steps = same steps.1
        by_pending next.Look steps = same steps.1
        by_pending next.Write steps = over (WritesOnce x c d) link now steps
        by_pending next.Wait steps = absurd steps
        by_pending next.Close steps = over (ShutsOnce x c d) link now steps
        by_pending next.Nothing steps = same steps.1

    -- where there is a link, the connection was opened
    pub linked_opened : (c : ConnCoreState Hall) (link : Option L) → IsLinked c.pending link → IsSome link → c.pending ≢ next.Open
    linked_opened c link linked some e =
        let none : link ≡ None = subst (λ stage. IsLinked stage link) e linked in
        let no : false ≡ true = sym (ap (λ (o : Option L). is_some o) none) ∙ some in cc

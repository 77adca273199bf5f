-- What is known of the pending step is known of the next one too, whatever the link answers.
use Rattle.std.specs.Prelude.{◌||◌, if◌then◌else◌}
use Rattle.std.proofs.Common.{inl, inr, ◌≡◌, ◌≢◌, ℕ, ◌+◌, ◌<◌, Bool, true, false, nat_le, List, [], take, drop, refl, sym, ◌∙◌, subst, arith, leb-true, leb-false, lit<}
use Rattle.std.proofs.lemmas.Bool.{eq-eqb}
use Rattle.sws_link.specs.declared.LinkRead.{LinkRead}
use Rattle.sws_link.specs.declared.LinkRead.TheVariants as read
use Rattle.sws_link.specs.declared.LinkWrite.{LinkWrite}
use Rattle.sws_link.specs.declared.LinkWrite.TheVariants as write
use Rattle.sws_parts.specs.Parts.{after_sending}
use Rattle.sws_steps.specs.Protocol.{Protocol, IsOrderly, Cut, Whole, TooLong, NotYet, Asked, request, too_long}
use Rattle.sws_steps.specs.ConnCore.{is_sent, ConnCoreState}
use Rattle.sws_steps.specs.declared.End.{End}
use Rattle.sws_steps.specs.declared.End.TheVariants as ending
use Rattle.sws_steps.specs.declared.Next.TheVariants as next
use Rattle.sws_steps.specs.Step.{going_to, ending_as, still_waiting, wait_limit, has_all_input, after_read, after_parse, after_answer, with_answer, is_last, after_look, after_part, after_write}
use Rattle.sws_steps.specs.Sound.{IsReadyTo, IsEnded, IsBetween, IsToRead, IsToLook, IsToWrite}

-- what is known where the connection stands so
abbrev pub Ready : {Hall Answer : Type 0} → Protocol Hall Answer → ConnCoreState Hall → Type 0
Ready p c = IsReadyTo p c.pending c

module _ {Hall Answer : Type 0} (p : Protocol Hall Answer) (orderly : IsOrderly p) where
  -- ---- a parse

  pub to_look-ready : (c : ConnCoreState Hall) → IsBetween p c → p.cut c.buffer ≢ NotYet → Ready p (going_to c next.Look)
  to_look-ready c between whole = record {
    between = record { nothing = between.nothing; goes_on = between.goes_on; more = between.more; no_end = between.no_end; patient = between.patient };
    whole = whole;
  }

  pub done-ready : (c : ConnCoreState Hall) → IsBetween p c → p.cut c.buffer ≡ NotYet → true ≡ has_all_input p c → Ready p (ending_as c ending.Done)
  done-ready c between none e = record {
    ended = λ f. cc;
    done = λ f. record { nothing = between.nothing; last = inr (between.goes_on, none, sym e) };
    idle = λ f. cc;
  }

  pub to_read-ready : (c : ConnCoreState Hall) → IsBetween p c → p.cut c.buffer ≡ NotYet → false ≡ has_all_input p c → Ready p (going_to c next.Read)
  to_read-ready c between none e = record {
    between = record { nothing = between.nothing; goes_on = between.goes_on; more = between.more; no_end = between.no_end; patient = between.patient };
    not_yet = none;
    room = by_parts c.input_ended e;
    goes_on = by_ended c.input_ended e;
  }
    where
      by_ended : (ended : Bool) → false ≡ (ended || nat_le (p.input_limit c.hall) c.read) → ended ≡ false
      by_ended true f = absurd (let g : false ≡ true = f in cc)
      by_ended false f = refl

      by_parts : (ended : Bool) → false ≡ (ended || nat_le (p.input_limit c.hall) c.read) → c.read < p.input_limit c.hall
      by_parts true f = absurd (let g : false ≡ true = f in cc)
      by_parts false f = leb-false (p.input_limit c.hall) c.read (sym f)

  pub parse-ready : (c : ConnCoreState Hall) → IsBetween p c → Ready p (after_parse p c (p.cut c.buffer))
  parse-ready c between = by_cut (p.cut c.buffer) refl
    where
      by_input : (all : Bool) → all ≡ has_all_input p c → p.cut c.buffer ≡ NotYet → Ready p (if all then ending_as c ending.Done else going_to c next.Read)
      by_input true e none = done-ready c between none e
      by_input false e none = to_read-ready c between none e

      by_cut : (cut : Cut) → cut ≡ p.cut c.buffer → Ready p (after_parse p c cut)
      by_cut (Whole len) e = to_look-ready c between (λ f. let g : Whole len ≡ NotYet = e ∙ f in cc)
      by_cut TooLong e = to_look-ready c between (λ f. let g : TooLong ≡ NotYet = e ∙ f in cc)
      by_cut NotYet e = by_input (has_all_input p c) refl (sym e)

  -- ---- a look

  -- an answer that doesn't close is not the last one
  more-answers : (c : ConnCoreState Hall) (asked : Asked) (last : Bool) → last ≡ is_last p c → IsBetween p c → p.closes (p.answer c.hall asked last) ≡ false
      → c.answered + 1 < p.answer_limit c.hall
  more-answers c asked true e between goes_on = absurd (let f : true ≡ false = sym (orderly.last_closes c.hall asked) ∙ goes_on in cc)
  more-answers c asked false e between goes_on = by_count (nat_le (p.answer_limit c.hall) (c.answered + 1)) refl
    where
      by_count : (all : Bool) → all ≡ nat_le (p.answer_limit c.hall) (c.answered + 1) → c.answered + 1 < p.answer_limit c.hall
      by_count false f = leb-false (p.answer_limit c.hall) (c.answered + 1) (sym f)
      by_count true f =
          let more = between.more in
          let long = leb-true (p.answer_limit c.hall) (c.answered + 1) (sym f) in
          let all : c.answered + 1 ≡ p.answer_limit c.hall = omega arith in
          absurd (let g : false ≡ true = e ∙ eq-eqb (c.answered + 1) (p.answer_limit c.hall) all in cc)

  -- an answer is written, or it closes and has no bytes
  pub answering-ready : (c : ConnCoreState Hall) (asked : Asked) (rest : List ℕ) → IsBetween p c → Ready p (after_answer p c (p.answer c.hall asked (is_last p c)) rest)
  answering-ready c asked rest between = by_bytes (p.is_empty (p.answer c.hall asked (is_last p c))) (p.closes (p.answer c.hall asked (is_last p c))) refl refl
    where
      by_bytes : (empty closes : Bool) → empty ≡ p.is_empty (p.answer c.hall asked (is_last p c)) → closes ≡ p.closes (p.answer c.hall asked (is_last p c))
          → Ready p (after_part empty closes (with_answer p c (p.answer c.hall asked (is_last p c)) rest))
      by_bytes false closes e f = record {
        something = sym (e ∙ orderly.empty_is c.hall asked (is_last p c));
        more = λ goes_on. more-answers c asked (is_last p c) refl between goes_on;
        no_end = between.no_end;
        patient = between.patient;
      }
      by_bytes true true e f = record {
        ended = λ g. cc;
        done = λ g. record { nothing = sym (e ∙ orderly.empty_is c.hall asked (is_last p c)); last = inl (sym f) };
        idle = λ g. cc;
      }
      by_bytes true false e f = absurd (let g : true ≡ false = e ∙ orderly.has_bytes c.hall asked (is_last p c) (sym f) in cc)

  pub look-ready : (c : ConnCoreState Hall) → IsToLook p c → Ready p (after_look p c (p.cut c.buffer))
  look-ready c look = by_cut (p.cut c.buffer) refl
    where
      by_cut : (cut : Cut) → cut ≡ p.cut c.buffer → Ready p (after_look p c cut)
      by_cut (Whole len) e = answering-ready c (request (take len c.buffer)) (drop len c.buffer) look.between
      by_cut TooLong e = answering-ready c too_long [] look.between
      by_cut NotYet e = absurd (look.whole (sym e))

  -- ---- a read

  -- the link was not ready for the last time
  idle-ready : (c : ConnCoreState Hall) → true ≡ nat_le wait_limit (c.waits + 1) → c.waits < wait_limit → Ready p (still_waiting c true)
  idle-ready c e patient = record {
    ended = λ f. cc;
    done = λ f. cc;
    idle = λ f. (let long = leb-true wait_limit (c.waits + 1) (sym e) in let all : c.waits + 1 ≡ wait_limit = omega arith in all);
  }

  -- the link failed, or found no memory
  failed-ready : (c : ConnCoreState Hall) (end : End) → end ≢ ending.Done → end ≢ ending.Idle → Ready p (ending_as c end)
  failed-ready c end not_done not_idle = record { ended = λ f. cc; done = λ f. absurd (not_done cc); idle = λ f. absurd (not_idle cc) }

  pub read_waits-ready : (c : ConnCoreState Hall) → c.pending ≡ next.Read → IsToRead p c → (all : Bool) → all ≡ nat_le wait_limit (c.waits + 1) → Ready p (still_waiting c all)
  read_waits-ready c pending to_read true e = idle-ready c e to_read.between.patient
  read_waits-ready c pending to_read false e = let between = to_read.between in subst (λ stage. IsReadyTo p stage (still_waiting c false)) (sym pending) (record {
    between = record { nothing = between.nothing; goes_on = between.goes_on; more = between.more; no_end = between.no_end; patient = leb-false wait_limit (c.waits + 1) (sym e) };
    not_yet = to_read.not_yet;
    room = to_read.room;
    goes_on = to_read.goes_on;
  })

  pub read-ready : (c : ConnCoreState Hall) (answer : LinkRead) (into : List ℕ) → c.pending ≡ next.Read → IsToRead p c → Ready p (after_read c answer into)
  read-ready c (read.Took count) into pending to_read = let between = to_read.between in
      record { between = record { nothing = between.nothing; goes_on = between.goes_on; more = between.more; no_end = between.no_end; patient = lit< tt }; no_waits = refl }
  read-ready c read.End into pending to_read = let between = to_read.between in
      record { between = record { nothing = between.nothing; goes_on = between.goes_on; more = between.more; no_end = between.no_end; patient = lit< tt }; no_waits = refl }
  read-ready c read.NotReady into pending to_read = read_waits-ready c pending to_read (nat_le wait_limit (c.waits + 1)) refl
  read-ready c read.Failed into pending to_read = failed-ready c ending.Fault (λ e. cc) (λ e. cc)

  -- ---- a write

  pub write_waits-ready : (c : ConnCoreState Hall) → c.pending ≡ next.Write → IsToWrite p c → (all : Bool) → all ≡ nat_le wait_limit (c.waits + 1) → Ready p (still_waiting c all)
  write_waits-ready c pending to_write true e = idle-ready c e to_write.patient
  write_waits-ready c pending to_write false e = subst (λ stage. IsReadyTo p stage (still_waiting c false)) (sym pending) (record {
    something = to_write.something;
    more = to_write.more;
    no_end = to_write.no_end;
    patient = leb-false wait_limit (c.waits + 1) (sym e);
  })

  pub wrote-ready : (c : ConnCoreState Hall) (count : ℕ) → c.pending ≡ next.Write → IsToWrite p c
      → (nothing closes : Bool) → nothing ≡ is_sent (after_sending count c.parts) → closes ≡ c.closes
      → Ready p (after_part nothing closes (record c { parts = after_sending count c.parts; written = c.written + count; waits = 0 }))
  wrote-ready c count pending to_write false closes e f =
      subst (λ stage. IsReadyTo p stage (record c { parts = after_sending count c.parts; written = c.written + count; waits = 0 })) (sym pending) (record {
        something = sym e;
        more = to_write.more;
        no_end = to_write.no_end;
        patient = lit< tt;
      })
  wrote-ready c count pending to_write true true e f =
      record { ended = λ g. cc; done = λ g. record { nothing = sym e; last = inl (sym f) }; idle = λ g. cc }
  wrote-ready c count pending to_write true false e f = record {
    between = record {
      nothing = sym e;
      goes_on = sym f;
      more = to_write.more (sym f);
      no_end = to_write.no_end;
      patient = lit< tt;
    };
    no_waits = refl;
  }

  pub write-ready : (c : ConnCoreState Hall) (answer : LinkWrite) → c.pending ≡ next.Write → IsToWrite p c → Ready p (after_write c answer)
  write-ready c (write.Wrote count) pending to_write = wrote-ready c count pending to_write (is_sent (after_sending count c.parts)) c.closes refl refl
  write-ready c write.NotReady pending to_write = write_waits-ready c pending to_write (nat_le wait_limit (c.waits + 1)) refl
  write-ready c write.Failed pending to_write = failed-ready c ending.Fault (λ e. cc) (λ e. cc)
  write-ready c write.Memory pending to_write = failed-ready c ending.Memory (λ e. cc) (λ e. cc)

  -- ---- the close

  pub close-ready : (c : ConnCoreState Hall) → IsEnded p c → Ready p (going_to c next.Nothing)
  close-ready c ended = record { ended = ended.ended; done = λ f. let d = ended.done f in record { nothing = d.nothing; last = d.last }; idle = ended.idle }

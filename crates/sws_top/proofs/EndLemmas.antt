-- How a run ends, by what a link keeps of its source and its sink.
use Rattle.std.specs.Prelude.{IsSome}
use Rattle.std.proofs.Common.{◌≡◌, ◌⊎◌, inl, inr, true, false, List, ℕ, Option, Some, None, refl, sym, subst, ◌∙◌, arith}
use Rattle.sws_link.specs.Counts.{Count, no_faults, HasCause}
use Rattle.sws_link.proofs.CountLemmas.{HasCause-none}
use Rattle.sws_link.specs.Links.{Way, reading, writing}
use Rattle.sws_site.specs.Site.{SiteState}
use Rattle.sws_steps.specs.declared.End.{End}
use Rattle.sws_steps.specs.declared.End.TheVariants as ending
use Rattle.sws_steps.specs.Step.{wait_limit}
use Rattle.sws_conn.specs.Serving.{RoseBy, Serves, IsAnswered}
use Rattle.sws_top.specs.declared.faults.TopFault.{TopFault}
use Rattle.sws_top.specs.declared.faults.TopFault.TheVariants.{ReadFault, WriteFault, Memory}
use Rattle.sws_top.specs.Faults.{fault_at_end}
use Rattle.sws_top.specs.Duplex.{IsWrittenBehind, GoesOn, duplex_tells}
use Rattle.sws_top.specs.Answered.{AnswersFrom}
use Rattle.sws_top.proofs.AnswerLemmas.{answered_by}

-- who is always ready is never kept waiting
pub never_idle : (end : End) → (end ≡ ending.Idle → RoseBy wait_limit no_faults no_faults) → end ≡ ending.Idle → ⊥
never_idle end idle is = elim (idle is) [ inl more ↦ absurd (omega arith) | inr full ↦ absurd (let no : false ≡ true = full in cc) ]

-- what is kept by the end, of a link of which this is so by the way in which it failed, and of
-- which that all is answered
abbrev pub KeptAs : (Option Way → Type 0) → Type 0 → End → Type 0
KeptAs Since Answers ending.Done = Since None
KeptAs Since Answers ending.Idle = Since None
KeptAs Since Answers ending.Fault = (Since (Some reading) × Answers) ⊎ Since (Some writing)
KeptAs Since Answers ending.Memory = Since None

module _ (Since : Option Way → Type 0) (Answers : Type 0) where
  -- what is kept, whatever the end
  pub kept_still : (Fact : Type 0) (end : End) → KeptAs Since Answers end → ((way : Option Way) → Since way → Fact) → Fact
  kept_still Fact ending.Done kept says = says None kept
  kept_still Fact ending.Idle kept says = says None kept
  kept_still Fact ending.Fault kept says = elim kept [ inl read ↦ says (Some reading) read.0 | inr wrote ↦ says (Some writing) wrote ]
  kept_still Fact ending.Memory kept says = says None kept

  module _ (fault : Option TopFault) (source source_now sink sink_now : Count)
      (says : (way : Option Way) → Since way → GoesOn way source source_now sink sink_now fault) where
    -- neither failed
    neither : (source_now ≡ source) × (sink_now ≡ sink) → (ended : Option TopFault) → ¬ (ended ≡ Some ReadFault) → ¬ (ended ≡ Some WriteFault)
        → HasCause source source_now (ended ≡ Some ReadFault) × HasCause sink sink_now (ended ≡ Some WriteFault)
    neither stand ended no_read no_write =
        (HasCause-none source source_now (ended ≡ Some ReadFault) stand.0 no_read, HasCause-none sink sink_now (ended ≡ Some WriteFault) stand.1 no_write)

    pub fault_kept : (end : End) → KeptAs Since Answers end → end ≡ ending.Fault → IsSome fault
    fault_kept end kept is = elim (subst (KeptAs Since Answers) is kept) [
      | inl read ↦ subst (λ (f : Option TopFault). IsSome f) (sym (says (Some reading) read.0).0) refl
      | inr wrote ↦ subst (λ (f : Option TopFault). IsSome f) (sym (says (Some writing) wrote).0) refl
    ]

    -- the counts, by the fault with which the run ends
    pub causes : (end : End) → KeptAs Since Answers end
        → HasCause source source_now (fault_at_end end fault ≡ Some ReadFault) × HasCause sink sink_now (fault_at_end end fault ≡ Some WriteFault)
    causes ending.Done kept = neither (says None kept) None (λ f. cc) (λ f. cc)
    causes ending.Idle kept = neither (says None kept) None (λ f. cc) (λ f. cc)
    causes ending.Fault (inl read) =
        let failed = says (Some reading) read.0 in (
          record { later = failed.1.later; rose = λ is. failed.1.rose; stays = λ well. absurd (well failed.0) },
          HasCause-none sink sink_now (fault ≡ Some WriteFault) failed.2 (λ is. (let other : Some ReadFault ≡ Some WriteFault = sym failed.0 ∙ is in cc)),
        )
    causes ending.Fault (inr wrote) =
        let failed = says (Some writing) wrote in (
          HasCause-none source source_now (fault ≡ Some ReadFault) failed.1 (λ is. (let other : Some WriteFault ≡ Some ReadFault = sym failed.0 ∙ is in cc)),
          record { later = failed.2.later; rose = λ is. failed.2.rose; stays = λ well. absurd (well failed.0) },
        )
    causes ending.Memory kept = neither (says None kept) (Some Memory) (λ f. cc) (λ f. cc)

    -- a fault of reading is the source's, and all that was taken has been answered
    pub read_kept : (end : End) → KeptAs Since Answers end → fault_at_end end fault ≡ Some ReadFault → Answers
    read_kept ending.Done kept is = cc
    read_kept ending.Idle kept is = cc
    read_kept ending.Fault (inl read) is = read.1
    read_kept ending.Fault (inr wrote) is = (let other : fault ≡ Some WriteFault = (says (Some writing) wrote).0 in cc)
    read_kept ending.Memory kept is = cc

-- the same input and the same bytes before, however the link names them
pub answered_over : (site : SiteState) (input left before written whole_first first_first whole first : Option (List ℕ)) (end : End) (fault ended : Option TopFault)
    → whole_first ≡ input → first_first ≡ before → whole ≡ input → first ≡ before
    → (end ≡ ending.Idle → ⊥) → (end ≡ ending.Fault → IsSome fault) → IsWrittenBehind first written
    → Serves site (duplex_tells whole_first input first_first before) (duplex_tells whole left first written) end
    → (fault_at_end end fault ≡ Some ReadFault → IsAnswered site (duplex_tells whole left first written))
    → ended ≡ fault_at_end end fault → AnswersFrom site input left before written ended
answered_over site input left before written whole_first first_first whole first end fault ended e f g h ready failed behind serves read is =
    subst (AnswersFrom site input left before written) (sym is)
    (answered_by site input left before written end fault ready failed (subst (λ b. IsWrittenBehind b written) h behind)
    (subst (λ b. Serves site (duplex_tells input input before before) (duplex_tells input left b written) end) h
    (subst (λ w. Serves site (duplex_tells input input before before) (duplex_tells w left first written) end) g
    (subst (λ b. Serves site (duplex_tells input input b before) (duplex_tells whole left first written) end) f
    (subst (λ w. Serves site (duplex_tells w input first_first before) (duplex_tells whole left first written) end) e serves))))
    (λ faulty. subst (λ b. IsAnswered site (duplex_tells input left b written)) h (subst (λ w. IsAnswered site (duplex_tells w left first written)) g (read faulty))))

-- the same run by other names
pub answers_as : (site : SiteState) (input before left left_now written written_now : Option (List ℕ)) (fault fault_now : Option TopFault)
    → left_now ≡ left → written_now ≡ written → fault_now ≡ fault → AnswersFrom site input left before written fault
    → AnswersFrom site input left_now before written_now fault_now
answers_as site input before left left_now written written_now fault fault_now e f g answers =
    subst (λ l. AnswersFrom site input l before written_now fault_now) (sym e)
    (subst (λ w. AnswersFrom site input left before w fault_now) (sym f)
    (subst (AnswersFrom site input left before written) (sym g) answers))

-- What was read of a script, and what it says.
use Rattle.std.proofs.Common.{◌≡◌, inl, inr, ℕ, Bool, take, List, ◌++◌, Option, Some, None, sym, ap, ◌∙◌, subst, append_assoc}
use Rattle.sws_link.specs.Counts.{IsLater}
use Rattle.sws_link.proofs.CountLemmas.{IsLater-same}
use Rattle.sws_link.specs.Contents.{Takes}
use Rattle.sws_link.specs.declared.Got.TheVariants as got
use Rattle.sws_link.specs.declared.Source.{Ghosts as SourceWords}
use Rattle.sws_script.specs.Grammar.{IsCause}
use Rattle.sws_script.specs.declared.fault.ScriptFault.{ScriptFault}
use Rattle.sws_script.specs.declared.fault.ScriptFault.TheVariants as script_fault
use Rattle.sws_top.specs.Faults.{script_fault_of}
use Rattle.sws_top.specs.Scripts.{IsReadOf, IsTextRead, LacksInput, HasNoInput}
use Rattle.sws_top.proofs.LongScriptLemmas.{cause_of_front}

module _ {R : Type 0} (r : SourceWords R) (schedule : Bool) (cores : ℕ) (source now : R) (read : List ℕ) (was_read : IsTextRead r source now read) where
  cause_in_all : (fault : ScriptFault) → IsCause schedule cores read fault → (text : List ℕ) → r.left source ≡ Some text → IsCause schedule cores text fault
  cause_in_all fault cause text is = elim (was_read.whole text is) [
    | inl same ↦ subst (λ t. IsCause schedule cores t fault) same cause
    | inr long ↦ let front : IsReadOf read (Some text) (r.left now) = subst (λ left. IsReadOf read left (r.left now)) is was_read.front in
        subst (λ t. IsCause schedule cores t fault) (sym front.2) (cause_of_front schedule cores read front.0 long fault cause)
  ]

  lacks_input : (fault : ScriptFault) → IsCause schedule cores read fault → LacksInput r schedule cores source now (script_fault_of fault)
  lacks_input (script_fault.Bad line) cause = (was_read.no_fault, cause_in_all (script_fault.Bad line) cause)
  lacks_input (script_fault.TooMany line) cause = (was_read.no_fault, cause_in_all (script_fault.TooMany line) cause)
  lacks_input script_fault.Memory cause = was_read.no_fault

  pub no_input : (fault : ScriptFault) → IsCause schedule cores read fault → HasNoInput r schedule cores source now (script_fault_of fault)
  no_input fault cause = record {
    why = lacks_input fault cause;
    later = subst (λ count. IsLater (r.faults source) count) (sym was_read.no_fault) (IsLater-same (r.faults source));
    read = read;
    rest = was_read.front;
  }

-- ---- piece by piece

pub more_read : (read : List ℕ) (first before now : Option (List ℕ)) (room : List ℕ) (count : ℕ) → IsReadOf read first before
    → Takes before now (got.Took count) room → IsReadOf (read ++ take count room) first now
more_read read None before now room count front takes = (let none : before ≡ None = front in takes_none before now none takes)
  where
    takes_none : (before now : Option (List ℕ)) → before ≡ None → Takes before now (got.Took count) room → now ≡ None
    takes_none None now none takes = takes
    takes_none (Some left) now none takes = cc
more_read read (Some text) None now room count front takes = cc
more_read read (Some text) (Some left) now room count front takes =
    let same : left ≡ front.0 = (let e = front.1 in cc) in
    (takes.0, takes.1, front.2 ∙ ap (λ rest. read ++ rest) (sym same ∙ takes.2) ∙ sym (append_assoc read (take count room) takes.0))

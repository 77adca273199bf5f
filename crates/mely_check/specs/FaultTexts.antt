-- What a reader sees of a fault.
use Rattle.std.specs.Prelude.{List, ℕ, ◌++◌, codes}
use Rattle.std.specs.Fmt.{decimal}
use Rattle.mely_check.specs.declared.fault.CheckFault.{CheckFault}
use Rattle.mely_check.specs.declared.fault.CheckFault.TheVariants.{Read, BadJournal, NotLegal, NotDrained, Memory}

-- the text of a fault
abbrev pub fault_text : CheckFault → List ℕ
fault_text Read = codes "the journal could not be read"
fault_text (BadJournal line) = codes "line " ++ decimal line ++ codes " is not a journal line"
fault_text (NotLegal line) = codes "line " ++ decimal line ++ codes " is not allowed"
fault_text (NotDrained colour) = codes "colour " ++ decimal colour ++ codes " is not drained"
fault_text Memory = codes "there was no memory"

-- What a user reads of a fault.
use Rattle.std.specs.Prelude.{List, ℕ, ◌++◌, codes}
use Rattle.std.specs.Fmt.{decimal}
use Rattle.sws_top.specs.declared.faults.SiteLimit.{SiteLimit}
use Rattle.sws_top.specs.declared.faults.SiteLimit.TheVariants.{Files, Bytes, Name}
use Rattle.sws_top.specs.declared.faults.TopFault.{TopFault}
use Rattle.sws_top.specs.declared.faults.TopFault.TheVariants.{Usage, BadScript, ReadFault, WriteFault, WorldFault, Memory, SiteFull, TooMany, BadJournal, NotLegal, NotDrained, Apart}

-- the line of a site's limit
abbrev pub limit_line : SiteLimit → List ℕ
limit_line (Files count) = codes "sws: the site has more than 4096 files"
limit_line (Bytes number) = codes "sws: the site passes 268435456 bytes at file " ++ decimal number
limit_line (Name number) = codes "sws: the name of file " ++ decimal number ++ codes " is too long"

-- the line of a fault
abbrev pub fault_line : TopFault → List ℕ
fault_line Usage = codes "sws: the command line is not understood"
fault_line (BadScript line) = codes "sws: line " ++ decimal line ++ codes " is not understood"
fault_line ReadFault = codes "sws: reading failed"
fault_line WriteFault = codes "sws: writing failed"
fault_line WorldFault = codes "sws: the network failed"
fault_line Memory = codes "sws: no memory"
fault_line (SiteFull limit) = limit_line limit
fault_line (TooMany line) = codes "sws: line " ++ decimal line ++ codes " begins connection 1025"
fault_line (BadJournal line) = codes "sws: line " ++ decimal line ++ codes " is not a journal line"
fault_line (NotLegal line) = codes "sws: line " ++ decimal line ++ codes " is not allowed"
fault_line (NotDrained colour) =
    codes "sws: colour " ++ decimal colour ++ codes " is not drained"
fault_line (Apart conn) = codes "sws: the run lost connection " ++ decimal conn

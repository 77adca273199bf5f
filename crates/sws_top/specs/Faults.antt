-- How a run ends: its status by its fault, and its fault by what went wrong in a part.
use Rattle.std.specs.Prelude.{ℕ, Option, Some, None, Result, Ok, Err, ⊤}
use Rattle.sws_link.specs.declared.Put.{Put}
use Rattle.sws_link.specs.declared.Put.TheVariants as put
use Rattle.sws_steps.specs.declared.End.{End}
use Rattle.sws_steps.specs.declared.End.TheVariants.{Done, Idle, Fault, Memory as EndMemory}
use Rattle.sws_site.specs.declared.site_faults.SiteFault.{SiteFault}
use Rattle.sws_site.specs.declared.site_faults.SiteFault.TheVariants.{TooManyFiles, TooManyBytes, LongName, Fault as FolderFault, Memory as NoMemory}
use Rattle.sws_replay.specs.declared.fault.RunFault.{RunFault}
use Rattle.sws_replay.specs.declared.fault.RunFault.TheVariants as run_fault
use Rattle.sws_script.specs.declared.fault.ScriptFault.{ScriptFault}
use Rattle.sws_script.specs.declared.fault.ScriptFault.TheVariants as script_fault
use Rattle.mely_check.specs.declared.fault.CheckFault.{CheckFault}
use Rattle.mely_check.specs.declared.fault.CheckFault.TheVariants as check_fault
use Rattle.sws_top.specs.declared.faults.SiteLimit.{SiteLimit}
use Rattle.sws_top.specs.declared.faults.SiteLimit.TheVariants.{Files, Bytes, Name}
use Rattle.sws_top.specs.declared.faults.TopFault.{TopFault}
use Rattle.sws_top.specs.declared.faults.TopFault.TheVariants.{Usage, BadScript, ReadFault, WriteFault, WorldFault, Memory, SiteFull, TooMany, BadJournal, NotLegal, NotDrained, Apart}

-- the status of a fault
abbrev pub fault_status : TopFault → ℕ
fault_status Usage = 2
fault_status (BadScript line) = 3
fault_status ReadFault = 4
fault_status WriteFault = 5
fault_status WorldFault = 6
fault_status Memory = 7
fault_status (SiteFull limit) = 8
fault_status (TooMany line) = 9
fault_status (BadJournal line) = 10
fault_status (NotLegal line) = 11
fault_status (NotDrained colour) = 12
fault_status (Apart conn) = 13

-- the status of a run that ended by this fault, or by none
abbrev pub status_of : Option TopFault → ℕ
status_of None = 0
status_of (Some fault) = fault_status fault

-- the fault of a result
abbrev pub fault_of : {T : Type 0} → Result T TopFault → Option TopFault
fault_of (Ok value) = None
fault_of (Err fault) = Some fault

-- the refusal of a site that meets this limit
abbrev pub refusal_of : SiteLimit → SiteFault
refusal_of (Files count) = TooManyFiles count
refusal_of (Bytes number) = TooManyBytes number
refusal_of (Name number) = LongName number

-- how a run ends whose site was not loaded
abbrev pub site_fault_of : SiteFault → TopFault
site_fault_of (TooManyFiles count) = SiteFull (Files count)
site_fault_of (TooManyBytes number) = SiteFull (Bytes number)
site_fault_of (LongName number) = SiteFull (Name number)
site_fault_of FolderFault = ReadFault
site_fault_of NoMemory = Memory

-- how a run ends whose script is none
abbrev pub script_fault_of : ScriptFault → TopFault
script_fault_of (script_fault.Bad line) = BadScript line
script_fault_of (script_fault.TooMany line) = TooMany line
script_fault_of script_fault.Memory = Memory

-- how a run of `answer` ends, by the end of its connection and the fault of the one of
-- source and sink that failed
abbrev pub fault_at_end : End → Option TopFault → Option TopFault
fault_at_end Done fault = None
fault_at_end Idle fault = None
fault_at_end Fault fault = fault
fault_at_end EndMemory fault = Some Memory

-- how a run ends whose whole output was handed to the sink
abbrev pub put_fault_of : Put → Option TopFault
put_fault_of put.Done = None
put_fault_of put.Failed = Some WriteFault
put_fault_of put.Memory = Some Memory

-- how a run ends by the answer of a run of a script
abbrev pub run_fault_of : RunFault → TopFault
run_fault_of run_fault.Write = WriteFault
run_fault_of run_fault.Memory = Memory

-- the fault of a run that was written, or was not
abbrev pub fault_of_run : {T : Type 0} → Result T RunFault → Option TopFault
fault_of_run (Ok value) = None
fault_of_run (Err fault) = Some (run_fault_of fault)

-- how a run ends whose journal was not accepted
abbrev pub check_fault_of : CheckFault → TopFault
check_fault_of check_fault.Read = ReadFault
check_fault_of (check_fault.BadJournal line) = BadJournal line
check_fault_of (check_fault.NotLegal line) = NotLegal line
check_fault_of (check_fault.NotDrained colour) = NotDrained colour
check_fault_of check_fault.Memory = Memory

-- how the answering of an input can end
abbrev pub EndsAnswering : Option TopFault → Type 0
EndsAnswering None = ⊤
EndsAnswering (Some ReadFault) = ⊤
EndsAnswering (Some WriteFault) = ⊤
EndsAnswering (Some Memory) = ⊤
EndsAnswering other = ⊥

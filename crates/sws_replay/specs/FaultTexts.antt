-- What a reader sees of a fault.
use Rattle.std.specs.Prelude.{List, ℕ, codes}
use Rattle.sws_replay.specs.declared.fault.RunFault.{RunFault}
use Rattle.sws_replay.specs.declared.fault.RunFault.TheVariants.{Write, Memory}

-- the text of a fault
abbrev pub fault_text : RunFault → List ℕ
fault_text Write = codes "what the run left could not be written"
fault_text Memory = codes "there was no memory"

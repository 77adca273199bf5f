-- What a shared stamp shows is what an owned one does, so threads may share it.
use denote.Param.Send.{IsSync, part_keyless}
use Rattle.mely_note.proofs.stamp.Stamp.TheSendSync.Send.{send}
use Rattle.mely_note.specs.contracts.stamp.Stamp.{the_row}

pub sync : IsSync the_row
sync = record { shared = λ d b o κ q. part_keyless the_row send q d b o }

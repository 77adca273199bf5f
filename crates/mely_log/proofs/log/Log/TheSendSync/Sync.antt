-- What a shared log shows is what an owned one does, so threads may share it.
use denote.Param.Send.{IsSync, part_keyless}
use denote.RattleType.{RattleType}
use Rattle.mely_log.proofs.log.Log.TheSendSync.Send.{send}
use Rattle.mely_log.specs.contracts.log.Log.{the_row}

pub sync : (A : RattleType) → IsSync (the_row A)
sync A = record { shared = λ d b o κ q. part_keyless (the_row A) (send A) q d b o }

-- A log owns nothing, so it may go to another thread whatever its notes are.
use denote.Param.Send.{IsSend, owning_send, sendable}
use denote.RattleType.{RattleType}
use Rattle.mely_log.specs.contracts.log.Log.{the_row, the_type}

pub send : (A : RattleType) → IsSend (the_row A)
send A = owning_send (the_type A) (search sendable, tt) (λ d. tt) (λ k x w. tt)

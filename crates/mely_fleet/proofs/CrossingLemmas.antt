-- What a lock keeps may go to another thread.
use denote.Param.Send.{IsSend, sendable}
use denote.RattleType.{RattleType}
use Rattle.std.proofs.Crossing.{crosses}
use Rattle.mely_event.specs.declared.fits.Fits.{Ghosts as FitsWords}
use Rattle.mely_event.specs.declared.trail.Trail.{Ghosts as TrailWords}
use Rattle.mely_history.proofs.history.History.TheSendSync as history
use Rattle.mely_shard.specs.contracts.shard.Shard as shard
use Rattle.mely_kept.specs.contracts.kept_shard.KeptShard as kept

module _ (S P F : RattleType) (fits : FitsWords S.Denot P.Denot F.Denot) (t : TrailWords S.Denot F.Denot) where
  shard_crosses : IsSend S → IsSend P → IsSend (shard.the_row S P F fits t)
  shard_crosses state load = search (crosses, sendable, history.the_send) depth 60 fits 20000

  -- a shard with its sample, where its states and loads may
  pub kept_crosses : IsSend S → IsSend P → IsSend (kept.the_row S P F fits t)
  kept_crosses state load = let inner = shard_crosses state load in search (crosses, sendable) depth 60 fits 20000

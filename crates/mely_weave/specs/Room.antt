-- The room that a weave keeps from the first, so that it is taken apart without memory.
use Rattle.std.specs.Prelude.{◌≡◌, ◌≤◌, ◌*◌, vec_len, vec_capacity}
use Rattle.mely_history.specs.Setup.{shape_of, colours_of}
use Rattle.mely_weave.specs.declared.room.WeaveRoom.TheInside.{Inside}

-- empty lists with room for all that a weave of the setup is taken apart into
pub record HasRoom {S P : Type 0} (r : Inside S P) : Type 0 where
  pub no_history : vec_len r.histories ≡ 0
  pub no_state : vec_len r.states ≡ 0
  pub none_queued : vec_len r.queued ≡ 0
  pub none_lost : vec_len r.lost ≡ 0
  pub no_states : vec_len r.states_by_shard ≡ 0
  pub no_queues : vec_len r.queued_by_shard ≡ 0
  pub histories : (shape_of r.setup).shards ≤ vec_capacity r.histories
  pub states : colours_of r.setup ≤ vec_capacity r.states
  pub queued : colours_of r.setup ≤ vec_capacity r.queued
  pub lost : 2 * (shape_of r.setup).batch * (shape_of r.setup).cores ≤ vec_capacity r.lost
  pub states_by_shard : (shape_of r.setup).shards ≤ vec_capacity r.states_by_shard
  pub queued_by_shard : (shape_of r.setup).shards ≤ vec_capacity r.queued_by_shard

-- What a contract sees of a shard behind its lock.
use Rattle.std.specs.Prelude.{List}
use Rattle.mely_note.specs.declared.note.Note.{Note}
use Rattle.mely_shard.specs.Shard.{ShardState}

-- what a shard behind its lock has, the notes of its history, and a state whose frame all its
-- states have
pub record KeptShardState (S P : Type 0) : Type 0 where
  pub has : ShardState S P
  pub notes : List (Note S P)
  pub sample : S

use Rattle.std.proofs.Common.{◌≡◌, ◌-◌, length, vec_len}
use Rattle.sws_link.specs.Scripts.{read_of}
use Rattle.sws_link.specs.ScriptReaderFields.{state_of, IsConsistent}
use Rattle.sws_link.proofs.script_reader.ScriptReader.read.Given as goal

abbrev pub invariant-items : goal.invariant-items
invariant-items l = record {
  read : read_of (length l.fn.into) (state_of l.self-inside).items ≡ read_of (length l.fn.into) l.fn.self.items;
  taken : (state_of l.self-inside).taken ≡ l.fn.self.taken;
  ok : IsConsistent l.self-inside;
}

abbrev pub decreases-items : goal.decreases-items
decreases-items l = vec_len l.self-inside.items - l.self-inside.at

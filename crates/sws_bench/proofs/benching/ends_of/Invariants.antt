use Rattle.std.proofs.Common.{◌≡◌, Some, map, take}
use Rattle.sws_bench.proofs.benching.ends_of.Given as goal

abbrev pub invariant-loop-conn : goal.invariant-loop-conn
invariant-loop-conn l = map (λ end. Some end) l.ends.items ≡ map (λ conn. conn.end) (take l.conn-index l.served)

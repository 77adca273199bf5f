use Rattle.std.proofs.Common.{◌≤◌, ◌-◌, drop, length}
use Rattle.example_redis.specs.Globbing.{Leads, parts_at}
use Rattle.example_redis.proofs.glob.run.Given as goal

abbrev pub invariant-parts : goal.invariant-parts
invariant-parts l = record {
  part : l.part ≤ length l.parts;
  byte : l.byte ≤ length l.key;
  behind : l.fn.from.part ≤ l.part;
  not_before : l.fn.from.byte ≤ l.byte;
  leads : Leads (parts_at l.parts l.fn.from.part) (parts_at l.parts l.part) (drop l.fn.from.byte l.key) (drop l.byte l.key);
}

abbrev pub decreases-parts : goal.decreases-parts
decreases-parts l = length l.parts - l.part

use Rattle.std.proofs.Common.{◌≡◌, ◌-◌, take, drop, sum}
use Rattle.mely_check.proofs.watch.Watch.drop_first.Given as goal

abbrev pub invariant-loop : goal.invariant-loop
invariant-loop l = record {
  owner : l.self.owner ≡ l.fn.self.owner;
  running : l.self.running ≡ l.fn.self.running;
  queued : l.self.queued.items ≡ drop l.counter l.fn.self.queued.items;
  worth : l.self.worth ≡ l.fn.self.worth - sum (take l.counter l.fn.self.queued.items);
}

use Rattle.std.proofs.Common.{◌≡◌, None, length}
use Rattle.mely_net.specs.Clients.{Writes, shown_client}
use Rattle.mely_net.proofs.client.Client.flush.Given as goal

abbrev pub invariant-writes : goal.invariant-writes
invariant-writes g l = record {
  writes : Writes (shown_client l.fn.self) (shown_client l.self);
  goes_on : l.self.end ≡ None;
}

abbrev pub decreases-writes : goal.decreases-writes
decreases-writes g l = length l.self.outbox

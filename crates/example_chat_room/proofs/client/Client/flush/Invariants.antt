use Rattle.std.proofs.Common.{◌≡◌, None, length}
use Rattle.example_chat_room.specs.Clients.{shown_client}
use Rattle.example_chat_room.specs.Talks.{Keeps}
use Rattle.example_chat_room.proofs.client.Client.flush.Given as goal

abbrev pub invariant-writes : goal.invariant-writes
invariant-writes g l = record {
  keeps : Keeps (shown_client l.fn.self) (shown_client l.self);
  come : (shown_client l.self).has_come ≡ (shown_client l.fn.self).has_come;
  goes : l.self.end ≡ None;
}

abbrev pub decreases-writes : goal.decreases-writes
decreases-writes g l = length l.self.outbox.bytes.items

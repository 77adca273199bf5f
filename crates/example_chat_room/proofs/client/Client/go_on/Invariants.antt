use Rattle.std.proofs.Common.{◌≡◌, None, [], true}
use Rattle.example_chat_room.specs.Clients.{shown_client}
use Rattle.example_chat_room.specs.Talks.{GoesOn, Keeps}
use Rattle.example_chat_room.proofs.client.Client.go_on.Given as goal

abbrev pub invariant-reads : goal.invariant-reads
invariant-reads g l = record {
  keeps : Keeps (shown_client l.fn.self) (shown_client l.self);
  there : (shown_client l.self).has_come ≡ true;
  goes_on : GoesOn (shown_client l.fn.self) (shown_client l.self);
  written : l.self.end ≡ None → l.self.outbox.bytes.items ≡ [];
}

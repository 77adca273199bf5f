use Rattle.std.proofs.Common.{◌≡◌, ◌<◌, ◌+◌, List, length}
use Rattle.mely_net.specs.Parts.{AreFresh}
use Rattle.mely_net.proofs.fresh.add_clients.Given as goal

abbrev pub invariant-clients : goal.invariant-clients
invariant-clients g l = record {
  many : length l.parts.items ≡ length l.fn.parts.items + l.counter;
  fresh : (cells : List g.row.C.Denot) → length cells < length l.fn.parts.items → AreFresh cells l.fn.parts.items → AreFresh cells l.parts.items;
}

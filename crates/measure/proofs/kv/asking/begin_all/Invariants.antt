use Rattle.std.proofs.Common.{◌≡◌, ◌+◌, length}
use Rattle.std.specs.List.{AllByRecursion}
use Rattle.mely_actor.specs.Sending.{MaySend}
use Rattle.measure.specs.declared.kv.asking.TheConstants.{BUCKETS, CLIENTS}
use Rattle.measure.specs.Asks.{IsPlaced, event_of}
use Rattle.measure.proofs.kv.asking.begin_all.Given as goal

abbrev pub invariant-clients : goal.invariant-clients
invariant-clients l = record {
  many : length l.posts.items ≡ l.client;
  may : AllByRecursion (MaySend (BUCKETS + CLIENTS) 3 event_of IsPlaced) l.posts.items;
}

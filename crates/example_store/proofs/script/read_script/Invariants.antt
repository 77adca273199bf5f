use Rattle.std.proofs.Common.{◌<◌, ◌+◌, length}
use Rattle.std.specs.List.{AllByRecursion}
use Rattle.mely_actor.specs.Sending.{MaySend}
use Rattle.example_store.specs.declared.store.TheConstants.{BUCKETS, CLIENTS}
use Rattle.example_store.specs.Stores.{IsPlaced, event_of}
use Rattle.example_store.proofs.script.read_script.Given as goal

abbrev pub invariant-lines : goal.invariant-lines
invariant-lines l = record {
  few : length l.posts.items < 65536;
  may : AllByRecursion (MaySend (BUCKETS + CLIENTS) 4 event_of IsPlaced) l.posts.items;
}

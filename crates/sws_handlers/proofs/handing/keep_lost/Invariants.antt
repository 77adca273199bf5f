use Rattle.std.proofs.Common.{◌≡◌, ◌++◌, length}
use Rattle.std.specs.Vec.Iter.{into_iter_items, into_iter_len}
use Rattle.mely_tally.specs.Tallies.{carried_by}
use Rattle.sws_handlers.specs.Handing.{HandsOut}
use Rattle.sws_handlers.proofs.handing.keep_lost.Given as goal

abbrev pub invariant-loop-colour : goal.invariant-loop-colour
invariant-loop-colour g l = record {
  split : l.yielded ++ into_iter_items l._colour-iterator ≡ l.fn.lost.items;
  left : into_iter_len l._colour-iterator ≡ length (into_iter_items l._colour-iterator);
  hands : HandsOut (carried_by l.yielded) l.initial.left l.left;
}

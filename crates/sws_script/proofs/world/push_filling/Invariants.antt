use Rattle.std.proofs.Common.{◌≡◌, ◌++◌, map, replicate}
use Rattle.sws_link.specs.LinkItems.{item_of}
use Rattle.sws_script.specs.Scripted.{filled_item}
use Rattle.sws_script.proofs.world.push_filling.Given as goal

abbrev pub invariant-pieces : goal.invariant-pieces
invariant-pieces l = map item_of l.items.items ≡ map item_of l.fn.items.items ++ replicate l.counter (filled_item l.piece)

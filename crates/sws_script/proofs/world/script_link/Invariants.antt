use Rattle.std.proofs.Common.{◌≡◌, ◌++◌, map, drop}
use Rattle.std.specs.List.{flat_map}
use Rattle.sws_link.specs.LinkItems.{item_of}
use Rattle.sws_script.specs.Scripted.{link_items}
use Rattle.sws_script.proofs.world.script_link.Given as goal

abbrev pub invariant-loop-item : goal.invariant-loop-item
invariant-loop-item l = map item_of l.items.items ++ flat_map link_items (drop l.item-index l.item-items) ≡ flat_map link_items l.conn.items

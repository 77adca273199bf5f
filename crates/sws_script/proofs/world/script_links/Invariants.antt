use Rattle.std.proofs.Common.{◌≡◌, ◌++◌, map, drop}
use Rattle.sws_script.specs.Scripted.{link_of}
use Rattle.sws_script.proofs.world.script_links.Given as goal

abbrev pub invariant-loop-conn : goal.invariant-loop-conn
invariant-loop-conn l = l.links.items ++ map link_of (drop l.conn-index l.conns) ≡ map link_of l.conns

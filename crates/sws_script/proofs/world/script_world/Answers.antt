use Rattle.std.proofs.Common.{rules, ◌≡◌, map, sym, ap, ◌∙◌, subst}
use Rattle.std.specs.List.{AllByRecursion}
use Rattle.sws_link.specs.Worlds.{AreScripted}
use Rattle.sws_link.specs.MemWorlds.{IsInitialMemLink, mem_world_tells}
use Rattle.sws_link.specs.MemWorld.{MemWorldState}
use Rattle.sws_script.specs.Scripted.{link_of, world_of}
use Rattle.sws_script.proofs.WorldLemmas.{links_initial, world_told, world_scripted}
use Rattle.sws_script.proofs.world.script_world.Goals as goal
use Rattle.sws_script.proofs.world.script_world.Goals.{After-new-2}

pub new-requires-2-clause-initial : goal.new-requires-2-clause-initial
new-requires-2-clause-initial c =
    let links : c.in_ok-links.links.items ≡ map link_of c.args.conns.now = search rules in
    subst (AllByRecursion IsInitialMemLink) (sym links) (links_initial c.args.conns.now)

-- the world that was made is that of the connections
made : (c : After-new-2) → c.new-2.result ≡ world_of c.args.conns.now
made c = search rules

pub returns-clause-tells : goal.returns-clause-tells
returns-clause-tells c schedule cores steps is =
    ap mem_world_tells (made (goal.at.returns-clause-tells c).After-new-2) ∙ world_told schedule cores (record { steps = steps; conns = c.args.conns.now }) is

pub returns-clause-scripted : goal.returns-clause-scripted
returns-clause-scripted c schedule cores steps is =
    subst (λ (w : MemWorldState). AreScripted (mem_world_tells w).coming) (sym (made (goal.at.returns-clause-scripted c).After-new-2)) (world_scripted schedule cores (record { steps = steps; conns = c.args.conns.now }) is)

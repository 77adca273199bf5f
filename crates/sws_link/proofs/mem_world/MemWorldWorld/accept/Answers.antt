use Rattle.std.proofs.Common.{subst}
use Rattle.sws_link.specs.declared.Accepted.TheVariants as accepted
use Rattle.sws_link.specs.Counts.{kept_count, no_faults}
use Rattle.sws_link.specs.MemLinks.{mem_link_tells}
use Rattle.sws_link.specs.Worlds.{Accepts}
use Rattle.sws_link.specs.MemWorlds.{mem_world_tells}
use Rattle.sws_link.specs.MemWorld.{MemWorldState}
use Rattle.sws_link.proofs.WorldLemmas.{mem-accepts}
use Rattle.sws_link.proofs.mem_world.MemWorldWorld.accept.Goals as goal

pub returns-clause-accepts : goal.returns-clause-accepts
returns-clause-accepts c =
    let inside = c.self.inside in
    subst (λ (before : MemWorldState). Accepts mem_world_tells (λ world. kept_count world.calls.failed) (λ _. no_faults)
    mem_link_tells (λ link. link.shut) (λ link. kept_count link.calls.failed) (λ link. kept_count link.waits)
    before (accepted.Link c.give.result) (record { lobby = c.give.new.self; calls = c.fails.new.self }))
    c.self.view_is
    (mem-accepts (record { lobby = inside.lobby; calls = inside.calls }) c.give.new.self c.fails.new.self c.give.result
    c.self.invariant c.give.ensures c.fails.ensures.counted (let cause = c.fails.ensures.cause in record { later = cause.later; rose = λ no. cc; stays = λ well. cause.stays (λ fails. cc) }))

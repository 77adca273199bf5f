use Rattle.std.proofs.Common.{subst}
use Rattle.sws_link.specs.declared.Accepted.TheVariants as accepted
use Rattle.sws_link.specs.Counts.{kept_count, no_faults}
use Rattle.sws_link.specs.MemLinks.{sure_link_tells}
use Rattle.sws_link.specs.SureLink.{SureLinkState}
use Rattle.sws_link.specs.Worlds.{Accepts}
use Rattle.sws_link.specs.MemWorlds.{sure_world_tells}
use Rattle.sws_link.specs.Lobby.{LobbyState}
use Rattle.sws_link.proofs.WorldLemmas.{sure-accepts}
use Rattle.sws_link.proofs.sure_world.SureWorldWorld.accept.Goals as goal

pub returns-clause-accepts : goal.returns-clause-accepts
returns-clause-accepts c =
    subst (λ (before : LobbyState SureLinkState). Accepts sure_world_tells (λ _. no_faults) (λ _. no_faults)
    sure_link_tells (λ link. link.shut) (λ _. no_faults) (λ link. kept_count link.waits)
    before (accepted.Link c.give.result) c.give.new.self)
    c.self.view_is
    (sure-accepts c.self.inside.lobby c.give.new.self c.give.result c.self.invariant c.give.ensures)

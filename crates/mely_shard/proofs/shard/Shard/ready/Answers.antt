use Rattle.std.proofs.Common.{ap, ◌∙◌, get_or}
use Rattle.mely_shard.proofs.RegisterLemmas.{slot_there}
use Rattle.mely_shard.proofs.ExposeLemmas.{told_ready}
use Rattle.mely_shard.proofs.shard.Shard.ready.Goals as goal

pub returns : goal.returns
returns g c =
    let own = rw (← c.self.view_is) at c.requires in
    let slots = c.self.inside.slots.items in
    let slot = c.index.result.now in
    let is = c.index.ensures ∙ ap (λ n. get_or slots n slot) c.place_of-place.ensures in
    let stands = slot_there c.self.invariant.0 c.args.colour slot own.there own.here is in
    rw (← c.self.view_is, c.ready.ensures) (told_ready c.self.invariant.0 c.args.colour slot stands)

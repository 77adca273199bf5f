use Rattle.std.proofs.Common.{refl}
use Rattle.mely_check.proofs.HearingLemmas.{none_at, drained_at}
use Rattle.mely_check.proofs.judge.Judge.is_drained.Goals as goal

pub returns-in-Some : goal.returns-in-Some
returns-in-Some c =
    let lookup = c.in-Some.ensures.lookup in
    drained_at c.args.self.now.watches.items c.deref.result.now c.args.colour c.in-Some.watch.now c.is_drained.result c.deref.ensures.value lookup.3.0 lookup.1 c.is_drained.ensures

pub returns-in-None : goal.returns-in-None
returns-in-None c = λ watch there. absurd (none_at c.args.self.now.watches.items c.deref.result.now c.args.colour c.args.colour watch c.deref.ensures.value refl c.in-None.ensures.lookup.3 there)

use Rattle.std.proofs.Common.{ap, ◌∙◌, subst}
use mathlib.Core.Option.{some}
use Rattle.mely_lock.specs.Steps.{Closes}
use Rattle.mely_lock.proofs.CallsLemmas.{not_none, same_value}
use Rattle.mely_lock.proofs.KeepsLemmas.{closes}
use Rattle.mely_lock.proofs.closing.take_back.Goals as goal

pub unreachable-requires : goal.unreachable-requires
unreachable-requires g c = let x = closes g.V.Kept.history_of g.V.Kept.pass_of g.V.Kept.frame_of _ _ _ _ _ _ c.requires.outside c.requires.all c.close_with-closed.ensures.values.2 in
    not_none _ x.0 x.1 (c.take-slot.ensures.value ∙ ap (λ o. some o) c.in_default.is)

pub returns : goal.returns
returns g c = let x = closes g.V.Kept.history_of g.V.Kept.pass_of g.V.Kept.frame_of _ _ _ _ _ _ c.requires.outside c.requires.all c.close_with-closed.ensures.values.2 in
    let same = same_value _ x.0 c.in-Some.value x.1 (c.take-slot.ensures.value ∙ ap (λ o. some o) c.in-Some.is) in
    subst (λ y. Closes g.V.Kept.history_of g.V.Kept.pass_of g.V.Kept.frame_of (g.V.Kept.frame_of c.args.room.shared.key.value.value) c.args.room.shared.key.passes c.args.seat.me.0.claims y) same x.2

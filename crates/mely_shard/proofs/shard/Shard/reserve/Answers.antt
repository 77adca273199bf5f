use Rattle.std.proofs.Common.{length, ap, refl, arith}
use Rattle.mely_shard.proofs.RegisterLemmas.{grown_within, kept_with_room}
use Rattle.mely_shard.proofs.ExposeLemmas.{kept_contents}
use Rattle.mely_shard.proofs.shard.Shard.reserve.Goals as goal

pub invariant_of-self : goal.invariant_of-self
invariant_of-self g c =
    let more = c.reserve.ensures.not_lower in
    rw c.reserve.ensures.same (kept_with_room c.self.invariant.0 c.reserve.new.self.most (omega (arith, more)) (grown_within c.self.inside.setup c.self.inside.history c.reserve.new.self c.self.invariant.3 c.reserve.ensures.same c.reserve.ensures.within), c.self.invariant.1, c.self.invariant.2, c.self.invariant.3)

pub returns-then-entries-self-clause-kept : goal.returns-then-entries-self-clause-kept
returns-then-entries-self-clause-kept g c = rw (← c.self.view_is) (kept_contents c.self.invariant.0)

pub returns-clause-kept : goal.returns-clause-kept
returns-clause-kept g c = kept_contents (invariant_of-self g c).0

pub returns-then-entries-self-clause-not_lower : goal.returns-then-entries-self-clause-not_lower
returns-then-entries-self-clause-not_lower g c = omega arith

pub returns-then-entries-self-clause-contents : goal.returns-then-entries-self-clause-contents
returns-then-entries-self-clause-contents g c = record { same_setup = refl; same_shard = refl; history = refl; lanes = refl }

pub returns-then-entries-self-clause-frame : goal.returns-then-entries-self-clause-frame
returns-then-entries-self-clause-frame g c = record { same_setup = refl; same_shard = refl; same_givens = refl }

pub returns-clause-not_lower : goal.returns-clause-not_lower
returns-clause-not_lower g c =
    let same = ap (λ h. length h.items) c.reserve.ensures.same in
    let more = c.reserve.ensures.not_lower in
    rw (← c.self.view_is) (omega (arith, same, more))

pub returns-clause-contents : goal.returns-clause-contents
returns-clause-contents g c = rw (← c.self.view_is) (record { same_setup = refl; same_shard = refl; history = ap (λ h. h.items) c.reserve.ensures.same; lanes = refl })

pub returns-clause-frame : goal.returns-clause-frame
returns-clause-frame g c = rw (← c.self.view_is) (record { same_setup = refl; same_shard = refl; same_givens = refl })

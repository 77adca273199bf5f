use Rattle.std.proofs.Common.{◌≤◌, refl, ◌∙◌, subst, arith}
use Rattle.mely_history.specs.Kept.{limit_of}
use Rattle.mely_shard.proofs.InitialSlotLemmas.{kept_initial, lanes_initial}
use Rattle.mely_shard.proofs.ExposeLemmas.{kept_contents}
use Rattle.mely_shard.proofs.shard.Shard.in_room.Goals as goal

pub invariant_of-result : goal.invariant_of-result
invariant_of-result g c =
    let slots = c.slots_of-slots.result.items in
    let kept = kept_initial g.S.Trail g.S.Fits.fits_under c.args.setup.now c.args.shard c.args.states.items slots c.requires.numbered c.requires.first c.slots_of-slots.ensures.many c.slots_of-slots.ensures.first in
    let listed = c.new.ensures.listed ∙ c.is_listed.ensures in
    let many = c.slots_of-slots.ensures.many in
    let states = c.args.room.for_states in
    let queues = c.args.room.for_queues in
    let enough = c.requires.room in
    (rw c.new.ensures.none (kept c.new.result.most (subst (λ b. c.new.result.most ≤ limit_of b) c.is_listed.ensures c.new.ensures.within)), record { no_state = states.0; no_queue = queues.0; room_for_states = omega (arith, many, states.1, enough); room_for_queues = omega (arith, many, queues.1, enough) }, c.new-2.ensures.items, listed)

pub returns-clause-made : goal.returns-clause-made
returns-clause-made g c = record {
  of_setup = refl;
  of_shard = refl;
  no_entry = c.new.ensures.none;
  lanes = lanes_initial g.S.Trail g.S.Fits.fits_under c.args.setup.now c.args.shard c.args.states.items c.slots_of-slots.result.items c.requires.numbered c.requires.first c.slots_of-slots.ensures.many c.slots_of-slots.ensures.first;
}

pub returns-clause-kept : goal.returns-clause-kept
returns-clause-kept g c =
    kept_contents (invariant_of-result g c).0

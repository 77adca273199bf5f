use Rattle.mely_shard.specs.Invariant.{lane_of}
use Rattle.std.proofs.Common.{◌≡◌, ◌++◌, [], Some, map, sym, ap, ◌∙◌}
use Rattle.std.proofs.lemmas.List.{nil_from_length}
use Rattle.mely_shard.proofs.EndLemmas.{all_at_home, map_twice}
use Rattle.mely_shard.proofs.shard.Shard.into_parts.Goals as goal

pub take_apart-requires-clause-at_home : goal.take_apart-requires-clause-at_home
take_apart-requires-clause-at_home g c =
    let rest = rw (← c.self.view_is) at c.requires in
    all_at_home c.self.invariant.0 (λ k there here. rest k (record { there = there; here = here }))

pub returns-clause-states : goal.returns-clause-states
returns-clause-states g c =
    let slots = c.self.inside.slots.items in
    let none : c.self.inside.states.items ≡ [] = nil_from_length c.self.inside.states.items (sym c.self.inside.states.ok.0 ∙ c.self.invariant.1.no_state) in
    rw (← c.self.view_is) (c.take_apart.ensures.states ∙ ap (λ states. map (λ state. Some state) states ++ map (λ slot. slot.home) slots) none ∙ sym (map_twice (λ lane. lane.state) lane_of slots))

pub returns-clause-queues : goal.returns-clause-queues
returns-clause-queues g c =
    let slots = c.self.inside.slots.items in
    let none : c.self.inside.queues.items ≡ [] = nil_from_length c.self.inside.queues.items (sym c.self.inside.queues.ok.0 ∙ c.self.invariant.1.no_queue) in
    rw (← c.self.view_is) (c.take_apart.ensures.queues ∙ ap (λ queues. map (λ queue. queue.items) queues ++ map (λ slot. slot.queue.events) slots) none ∙ sym (map_twice (λ lane. lane.events) lane_of slots))

use Rattle.std.proofs.Common.{◌≡◌, ℕ, length, ap, ◌∙◌, sym, subst, arith}
use Rattle.std.proofs.lemmas.List.{nil_from_length}
use Rattle.mely_history.specs.declared.setup.Setup.{Setup}
use Rattle.mely_history.specs.Setup.{shape_of, colours_of}
use Rattle.mely_shard.specs.Shard.{givens}
use Rattle.mely_weave.specs.Dealing.{AreDealt}
use Rattle.mely_weave.specs.Spreading.{AreFull}
use Rattle.mely_weave.proofs.Wholes.BackLemmas.{initial_rest, back_count, back_full, back_dealt}
use Rattle.mely_weave.proofs.room.WeaveRoom.states_of.Goals as goal
use Rattle.mely_weave.proofs.room.WeaveRoom.states_of.Goals.{After-take_apart}

-- each of the shards gives a pile
count : (g : _) (c : After-take_apart g) → length c.take_apart.new.states.items ≡ (shape_of c.args.self).shards
count g c = back_count (λ pile. pile.items) c.args.self c.take_apart.new.states.items c.args.shards.items c.requires.first c.take_apart.ensures.states ∙ c.requires.count

-- as many colours
colours_is : (g : _) (c : After-take_apart g) → colours_of c.self.inside.setup ≡ colours_of c.args.self
colours_is g c = ap (λ (s : Setup). colours_of s) c.self.view_is

pub take_apart-requires-clause-at_rest : goal.take_apart-requires-clause-at_rest
take_apart-requires-clause-at_rest g c = initial_rest (λ (pile : _). givens pile) c.args.self c.args.shards.items c.args.shards.items c.requires.first

pub take_apart-requires-clause-no_histories : goal.take_apart-requires-clause-no_histories
take_apart-requires-clause-no_histories g c = nil_from_length c.self.inside.histories.items (sym c.self.inside.histories.ok.0 ∙ c.self.invariant.no_history)

pub take_apart-requires-clause-no_states : goal.take_apart-requires-clause-no_states
take_apart-requires-clause-no_states g c = nil_from_length c.self.inside.states_by_shard.items (sym c.self.inside.states_by_shard.ok.0 ∙ c.self.invariant.no_states)

pub take_apart-requires-clause-none_queued : goal.take_apart-requires-clause-none_queued
take_apart-requires-clause-none_queued g c = nil_from_length c.self.inside.queued_by_shard.items (sym c.self.inside.queued_by_shard.ok.0 ∙ c.self.invariant.no_queues)

pub spread-requires-clause-some : goal.spread-requires-clause-some
spread-requires-clause-some g c =
    let at = (goal.at.spread-requires-clause-some g c).After-take_apart in
    omega (arith, count g at, c.args.self.shards_in.0)

pub spread-requires-clause-full : goal.spread-requires-clause-full
spread-requires-clause-full g c =
    let at = (goal.at.spread-requires-clause-full g c).After-take_apart in
    let full = back_full (λ pile. pile.items) c.args.self c.take_apart.new.states.items c.args.shards.items c.requires.first c.take_apart.ensures.states (shape_of c.args.self).shards (colours_of c.args.self) c.requires.full in
    subst (λ (k : ℕ). AreFull (λ pile. pile.items) k c.colours.result c.take_apart.new.states.items) (sym (count g at)) (subst (λ (k : ℕ). AreFull (λ pile. pile.items) (shape_of c.args.self).shards k c.take_apart.new.states.items) (sym (c.colours.ensures.value ∙ colours_is g at)) full)

pub spread-requires-clause-empty : goal.spread-requires-clause-empty
spread-requires-clause-empty g c = nil_from_length c.self.inside.states.items (sym c.self.inside.states.ok.0 ∙ c.self.invariant.no_state)

pub returns-clause-many : goal.returns-clause-many
returns-clause-many g c =
    let at = (goal.at.returns-clause-many g c).After-take_apart in
    c.spread.ensures.many ∙ c.colours.ensures.value ∙ colours_is g at

pub returns-clause-dealt : goal.returns-clause-dealt
returns-clause-dealt g c =
    let at = (goal.at.returns-clause-dealt g c).After-take_apart in
    back_dealt (λ pile. pile.items) c.args.self c.take_apart.new.states.items c.args.shards.items c.requires.first c.take_apart.ensures.states (shape_of c.args.self).shards c.spread.new.by_colour.items c.requires.count
    (subst (λ (k : ℕ). AreDealt (λ pile. pile.items) k c.spread.new.by_colour.items c.take_apart.new.states.items) (count g at) c.spread.ensures.dealt)

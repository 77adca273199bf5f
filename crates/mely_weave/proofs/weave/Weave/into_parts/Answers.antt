use Rattle.std.proofs.Common.{◌≡◌, ℕ, Some, length, map, ap, ◌∙◌, sym, subst, arith}
use Rattle.std.proofs.lemmas.List.{nil_from_length}
use Rattle.std.specs.Prelude.{slice_get, flat_map}
use Rattle.mely_history.specs.declared.setup.Setup.{Setup}
use Rattle.mely_history.specs.Setup.{shape_of, colours_of, is_listed}
use Rattle.mely_shard.specs.Shard.{ShardState, ColourState}
use Rattle.mely_worker.specs.Worker.{WorkerState}
use Rattle.mely_weave.specs.Dealing.{AreDealt}
use Rattle.mely_weave.specs.Shared.{SharedState}
use Rattle.mely_weave.specs.Spreading.{AreFull}
use Rattle.mely_weave.specs.StandsWell.{StandsWell}
use Rattle.mely_weave.specs.Weave.{WeaveState}
use Rattle.mely_weave.proofs.Wholes.PartsLemmas.{listed_as_setup, rests_where_free, pile_count, gives_full, spread_by_colour}
use Rattle.mely_weave.proofs.weave.Weave.into_parts.Goals as goal
use Rattle.mely_weave.proofs.weave.Weave.into_parts.Goals.{After-take_apart}

-- the weave stands well
well : (g : _) (c : After-take_apart g) → StandsWell g.S.Trail g.S.Fits.fits_under c.args.self
well g c = subst (λ (l : WeaveState g.row.S.Denot g.row.P.Denot). StandsWell g.S.Trail g.S.Fits.fits_under l) c.self.view_is c.self.invariant.0

-- what is taken apart is the weave's
shards_are : (g : _) (c : After-take_apart g) → c.shared.inside.shards.items ≡ c.args.self.shards
shards_are g c = ap (λ (s : SharedState g.row.S.Denot g.row.P.Denot). s.shards) c.shared.view_is ∙ ap (λ (l : WeaveState g.row.S.Denot g.row.P.Denot). l.shards) c.self.view_is

workers_are : (g : _) (c : After-take_apart g) → c.self.inside.workers.items ≡ c.args.self.workers
workers_are g c = ap (λ (l : WeaveState g.row.S.Denot g.row.P.Denot). l.workers) c.self.view_is

-- the room is for the weave's setup
setup_is : (g : _) (c : After-take_apart g) → c.room.inside.setup ≡ c.args.self.setup
setup_is g c = c.room.view_is ∙ c.self.invariant.1 ∙ ap (λ (l : WeaveState g.row.S.Denot g.row.P.Denot). l.setup) c.self.view_is

-- what each shard gives
states_are : (g : _) (c : After-take_apart g) → map (λ pile. map (λ (state : g.row.S.Denot). Some state) pile.items) c.take_apart.new.states.items ≡ map (λ (has : ShardState g.row.S.Denot g.row.P.Denot). map (λ (lane : ColourState g.row.S.Denot g.row.P.Denot). lane.state) has.lanes) c.args.self.shards
states_are g c = c.take_apart.ensures.states ∙ ap (map (λ (has : ShardState g.row.S.Denot g.row.P.Denot). map (λ (lane : ColourState g.row.S.Denot g.row.P.Denot). lane.state) has.lanes)) (shards_are g c)

queued_are : (g : _) (c : After-take_apart g) → map (λ pile. map (λ queue. queue.items) pile.items) c.take_apart.new.queued.items ≡ map (λ (has : ShardState g.row.S.Denot g.row.P.Denot). map (λ (lane : ColourState g.row.S.Denot g.row.P.Denot). lane.events) has.lanes) c.args.self.shards
queued_are g c = c.take_apart.ensures.queued ∙ ap (map (λ (has : ShardState g.row.S.Denot g.row.P.Denot). map (λ (lane : ColourState g.row.S.Denot g.row.P.Denot). lane.events) has.lanes)) (shards_are g c)

-- each of the shards gives a pile
states_count : (g : _) (c : After-take_apart g) → length c.take_apart.new.states.items ≡ (shape_of c.args.self.setup).shards
states_count g c = pile_count g.S.Trail g.S.Fits.fits_under c.args.self (well g c) (λ (state : g.row.S.Denot). Some state) (λ pile. pile.items) (λ (lane : ColourState g.row.S.Denot g.row.P.Denot). lane.state) c.take_apart.new.states.items (states_are g c)

queued_count : (g : _) (c : After-take_apart g) → length c.take_apart.new.queued.items ≡ (shape_of c.args.self.setup).shards
queued_count g c = pile_count g.S.Trail g.S.Fits.fits_under c.args.self (well g c) (λ queue. queue.items) (λ pile. pile.items) (λ (lane : ColourState g.row.S.Denot g.row.P.Denot). lane.events) c.take_apart.new.queued.items (queued_are g c)

pub take_apart-requires-clause-at_rest : goal.take_apart-requires-clause-at_rest
take_apart-requires-clause-at_rest g c =
    let well : StandsWell g.S.Trail g.S.Fits.fits_under c.args.self = subst (λ (l : WeaveState g.row.S.Denot g.row.P.Denot). StandsWell g.S.Trail g.S.Fits.fits_under l) c.self.view_is c.self.invariant.0 in
    let shards_are : c.shared.inside.shards.items ≡ c.args.self.shards = ap (λ (s : SharedState g.row.S.Denot g.row.P.Denot). s.shards) c.shared.view_is ∙ ap (λ (l : WeaveState g.row.S.Denot g.row.P.Denot). l.shards) c.self.view_is in
    λ number has at. rests_where_free g.S.Trail g.S.Fits.fits_under c.args.self well c.requires number has (ap (λ xs. slice_get xs number) (sym shards_are) ∙ at)

pub take_apart-requires-clause-no_histories : goal.take_apart-requires-clause-no_histories
take_apart-requires-clause-no_histories g c = nil_from_length c.room.inside.histories.items (sym c.room.inside.histories.ok.0 ∙ c.room.invariant.no_history)

pub take_apart-requires-clause-no_states : goal.take_apart-requires-clause-no_states
take_apart-requires-clause-no_states g c = nil_from_length c.room.inside.states_by_shard.items (sym c.room.inside.states_by_shard.ok.0 ∙ c.room.invariant.no_states)

pub take_apart-requires-clause-none_queued : goal.take_apart-requires-clause-none_queued
take_apart-requires-clause-none_queued g c = nil_from_length c.room.inside.queued_by_shard.items (sym c.room.inside.queued_by_shard.ok.0 ∙ c.room.invariant.no_queues)

pub spread-requires-clause-some : goal.spread-requires-clause-some
spread-requires-clause-some g c =
    let at = (goal.at.spread-requires-clause-some g c).After-take_apart in
    omega (arith, states_count g at, c.args.self.setup.shards_in.0)

pub spread-requires-clause-full : goal.spread-requires-clause-full
spread-requires-clause-full g c =
    let at = (goal.at.spread-requires-clause-full g c).After-take_apart in
    let full = gives_full g.S.Trail g.S.Fits.fits_under c.args.self (well g at) (λ (state : g.row.S.Denot). Some state) (λ pile. pile.items) (λ (lane : ColourState g.row.S.Denot g.row.P.Denot). lane.state) c.take_apart.new.states.items (states_are g at) in
    subst (λ (k : ℕ). AreFull (λ pile. pile.items) k c.colours.result c.take_apart.new.states.items) (sym (states_count g at)) (subst (λ (k : ℕ). AreFull (λ pile. pile.items) (shape_of c.args.self.setup).shards k c.take_apart.new.states.items) (sym (c.colours.ensures.value ∙ ap (λ (s : Setup). colours_of s) (setup_is g at))) full)

pub spread-requires-clause-empty : goal.spread-requires-clause-empty
spread-requires-clause-empty g c = nil_from_length c.room.inside.states.items (sym c.room.inside.states.ok.0 ∙ c.room.invariant.no_state)

pub returns-clause-listed : goal.returns-clause-listed
returns-clause-listed g c =
    let at = (goal.at.returns-clause-listed g c).After-take_apart in
    listed_as_setup g.S.Trail g.S.Fits.fits_under c.args.self (well g at) c.take_apart.new.histories.items
    (c.take_apart.ensures.listed ∙ ap (map (λ (has : ShardState g.row.S.Denot g.row.P.Denot). is_listed has.setup)) (shards_are g at))

pub returns-clause-states : goal.returns-clause-states
returns-clause-states g c =
    let at = (goal.at.returns-clause-states g c).After-take_apart in
    spread_by_colour g.S.Trail g.S.Fits.fits_under c.args.self (well g at) (λ (state : g.row.S.Denot). Some state) (λ pile. pile.items) (λ (lane : ColourState g.row.S.Denot g.row.P.Denot). lane.state) c.take_apart.new.states.items (states_are g at) c.spread.new.by_colour.items (c.spread.ensures.many ∙ (c.colours.ensures.value ∙ ap (λ (s : Setup). colours_of s) (setup_is g at)))
    (subst (λ (k : ℕ). AreDealt (λ pile. pile.items) k c.spread.new.by_colour.items c.take_apart.new.states.items) (states_count g at) c.spread.ensures.dealt)

pub spread-requires-2-clause-some : goal.spread-requires-2-clause-some
spread-requires-2-clause-some g c =
    let at = (goal.at.spread-requires-2-clause-some g c).After-take_apart in
    omega (arith, queued_count g at, c.args.self.setup.shards_in.0)

pub spread-requires-2-clause-full : goal.spread-requires-2-clause-full
spread-requires-2-clause-full g c =
    let at = (goal.at.spread-requires-2-clause-full g c).After-take_apart in
    let full = gives_full g.S.Trail g.S.Fits.fits_under c.args.self (well g at) (λ queue. queue.items) (λ pile. pile.items) (λ (lane : ColourState g.row.S.Denot g.row.P.Denot). lane.events) c.take_apart.new.queued.items (queued_are g at) in
    subst (λ (k : ℕ). AreFull (λ pile. pile.items) k c.colours-2.result c.take_apart.new.queued.items) (sym (queued_count g at)) (subst (λ (k : ℕ). AreFull (λ pile. pile.items) (shape_of c.args.self.setup).shards k c.take_apart.new.queued.items) (sym (c.colours-2.ensures.value ∙ ap (λ (s : Setup). colours_of s) (setup_is g at))) full)

pub spread-requires-2-clause-empty : goal.spread-requires-2-clause-empty
spread-requires-2-clause-empty g c = nil_from_length c.room.inside.queued.items (sym c.room.inside.queued.ok.0 ∙ c.room.invariant.none_queued)

pub returns-clause-queued : goal.returns-clause-queued
returns-clause-queued g c =
    let at = (goal.at.returns-clause-queued g c).After-take_apart in
    spread_by_colour g.S.Trail g.S.Fits.fits_under c.args.self (well g at) (λ queue. queue.items) (λ pile. pile.items) (λ (lane : ColourState g.row.S.Denot g.row.P.Denot). lane.events) c.take_apart.new.queued.items (queued_are g at) c.spread-2.new.by_colour.items (c.spread-2.ensures.many ∙ (c.colours-2.ensures.value ∙ ap (λ (s : Setup). colours_of s) (setup_is g at)))
    (subst (λ (k : ℕ). AreDealt (λ pile. pile.items) k c.spread-2.new.by_colour.items c.take_apart.new.queued.items) (queued_count g at) c.spread-2.ensures.dealt)

pub collect_lost-requires-clause-free : goal.collect_lost-requires-clause-free
collect_lost-requires-clause-free g c =
    let at = (goal.at.collect_lost-requires-clause-free g c).After-take_apart in
    λ core w is.
    let there = ap (λ ws. slice_get ws core) (sym (workers_are g at)) ∙ is in
    (c.requires core w there, ((well g at).worker core w there).may.batch ∙ sym (c.batch.ensures.value ∙ ap (λ (s : Setup). (shape_of s).batch) (setup_is g at)))

pub collect_lost-requires-clause-empty : goal.collect_lost-requires-clause-empty
collect_lost-requires-clause-empty g c = nil_from_length c.room.inside.lost.items (sym c.room.inside.lost.ok.0 ∙ c.room.invariant.none_lost)

pub returns-clause-lost : goal.returns-clause-lost
returns-clause-lost g c =
    let at = (goal.at.returns-clause-lost g c).After-take_apart in
    c.collect_lost.ensures ∙ ap (flat_map (λ (w : WorkerState g.row.S.Denot g.row.P.Denot). w.lost)) (workers_are g at)

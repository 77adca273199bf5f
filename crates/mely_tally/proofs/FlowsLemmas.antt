-- What the calls of a shard do to the states at home and the events that wait there.
use Rattle.std.proofs.Common.{◌≡◌, ℕ, ◌+◌, List, Option, None, Some, Result, Ok, Err, take, ap, arith}
use Rattle.std.proofs.lemmas.List.Sums.{sum_by-take-drop, sum_by_push}
use Rattle.std.specs.Prelude.{slice_get, slice_set, flat_map, sum_by}
use Rattle.mely_event.specs.declared.colour.Colour.{Colour}
use Rattle.mely_event.specs.declared.event.Event.{Event}
use Rattle.mely_event.specs.declared.unregistered.Unregistered.{Unregistered}
use Rattle.mely_history.specs.declared.registered.Registered.{Registered}
use Rattle.mely_history.specs.declared.no_take.NoTake.{NoTake}
use Rattle.mely_history.specs.declared.no_steal.NoSteal.{NoSteal}
use Rattle.mely_history.specs.declared.stolen.Stolen.{Stolen}
use Rattle.mely_history.specs.declared.after.After.{After}
use Rattle.mely_queue.specs.Turn.{TurnState}
use Rattle.mely_shard.specs.Shard.{ShardState, ColourState}
use Rattle.mely_worker.specs.Outs.{in_place}
use Rattle.mely_weave.specs.Calls.{RegisterAs, TakeAs, FinishAs, StealAs}
use Rattle.mely_tally.specs.Tallies.{Carried, homes_in, waiting_in}
use Rattle.mely_tally.proofs.SumsLemmas.{sum_one, sum_set}

abbrev home_of : {S P : Type 0} → ColourState S P → List S
home_of lane = in_place lane.state

module _ {S P : Type 0} where
  abbrev pub homes : (S → ℕ) → ShardState S P → ℕ
  homes f has = sum_by f (homes_in has)

  abbrev pub waits : (Carried P → ℕ) → ShardState S P → ℕ
  waits g has = sum_by g (waiting_in has)

  -- one lane becomes another
  homes_change : (f : S → ℕ) (old new : ShardState S P) (i : ℕ) (before after : ColourState S P) → slice_get old.lanes i ≡ Some before → new.lanes ≡ slice_set old.lanes i after
      → homes f new + sum_by f (home_of before) ≡ homes f old + sum_by f (home_of after)
  homes_change f old new i before after was is =
      let e : homes f new ≡ sum_by f (flat_map (λ (l : ColourState S P). home_of l) (slice_set old.lanes i after)) = ap (λ (ls : List (ColourState S P)). sum_by f (flat_map (λ (l : ColourState S P). home_of l) ls)) is in
      omega (arith, e, sum_set (λ (l : ColourState S P). home_of l) f old.lanes i before after was)

  waits_change : (g : Carried P → ℕ) (old new : ShardState S P) (i : ℕ) (before after : ColourState S P) → slice_get old.lanes i ≡ Some before → new.lanes ≡ slice_set old.lanes i after
      → waits g new + sum_by g before.events ≡ waits g old + sum_by g after.events
  waits_change g old new i before after was is =
      let e : waits g new ≡ sum_by g (flat_map (λ (l : ColourState S P). l.events) (slice_set old.lanes i after)) = ap (λ (ls : List (ColourState S P)). sum_by g (flat_map (λ (l : ColourState S P). l.events) ls)) is in
      omega (arith, e, sum_set (λ (l : ColourState S P). l.events) g old.lanes i before after was)

  same_homes : (f : S → ℕ) (old new : ShardState S P) → new.lanes ≡ old.lanes → homes f new ≡ homes f old
  same_homes f old new is = ap (λ (ls : List (ColourState S P)). sum_by f (flat_map (λ (l : ColourState S P). home_of l) ls)) is

  same_waits : (g : Carried P → ℕ) (old new : ShardState S P) → new.lanes ≡ old.lanes → waits g new ≡ waits g old
  same_waits g old new is = ap (λ (ls : List (ColourState S P)). sum_by g (flat_map (λ (l : ColourState S P). l.events) ls)) is

  -- a registration
  pub register_homes : (f : S → ℕ) (c : Colour) (event : Event) (load : Option P) (by : ℕ) (answer : Result Registered (Unregistered P)) (old new : ShardState S P) → RegisterAs c event load by answer old new → homes f new ≡ homes f old
  register_homes f c event load by (Ok reply) old new does =
      let h = homes_change f old new _ does.0.before _ does.0.was does.0.after.lanes in omega (arith, h)
  register_homes f c event load by (Err back) old new does = same_homes f old new does.lanes

  pub registered_waits : (g : Carried P → ℕ) (c : Colour) (event : Event) (load : Option P) (by : ℕ) (reply : Registered) (old new : ShardState S P) → RegisterAs c event load by (Ok reply) old new → waits g new ≡ waits g old + g (event, load)
  registered_waits g c event load by reply old new does =
      let h = waits_change g old new _ does.0.before _ does.0.was does.0.after.lanes in
      let more = sum_by_push g does.0.before.events (event, load) in
      omega (arith, h, more)

  pub refused_waits : (g : Carried P → ℕ) (c : Colour) (event : Event) (load : Option P) (by : ℕ) (back : Unregistered P) (old new : ShardState S P) → RegisterAs c event load by (Err back) old new → waits g new ≡ waits g old
  refused_waits g c event load by back old new does = same_waits g old new does.lanes

  -- a take
  pub taken_homes : (f : S → ℕ) (c : Colour) (core : ℕ) (turn : TurnState S P) (old new : ShardState S P) → TakeAs c core (Ok turn) old new → homes f new + f turn.state ≡ homes f old
  taken_homes f c core turn old new does =
      let h = homes_change f old new _ does.before _ does.was does.after.lanes in
      let home = ap (λ (o : Option S). sum_by f (in_place o)) does.at_home in
      let one = sum_one f does.home in
      let same : f turn.state ≡ f does.home = ap (λ (tu : TurnState S P). f tu.state) does.made in
      omega (arith, h, home, one, same)

  pub taken_waits : (g : Carried P → ℕ) (c : Colour) (core : ℕ) (turn : TurnState S P) (old new : ShardState S P) → TakeAs c core (Ok turn) old new → waits g new + sum_by g turn.events ≡ waits g old
  taken_waits g c core turn old new does =
      let h = waits_change g old new _ does.before _ does.was does.after.lanes in
      let out : sum_by g turn.events ≡ sum_by g (take turn.count does.before.events) = ap (λ (tu : TurnState S P). sum_by g tu.events) does.made in
      let parts = sum_by-take-drop g does.before.events turn.count in
      omega (arith, h, out, parts)

  pub not_taken_homes : (f : S → ℕ) (c : Colour) (core : ℕ) (why : NoTake) (old new : ShardState S P) → TakeAs c core (Err why) old new → homes f new ≡ homes f old
  not_taken_homes f c core why old new does = same_homes f old new does.0.lanes

  pub not_taken_waits : (g : Carried P → ℕ) (c : Colour) (core : ℕ) (why : NoTake) (old new : ShardState S P) → TakeAs c core (Err why) old new → waits g new ≡ waits g old
  not_taken_waits g c core why old new does = same_waits g old new does.0.lanes

  -- a finish, of a colour whose state is away
  pub finish_homes : (f : S → ℕ) (turn : TurnState S P) (answer : After) (old new : ShardState S P) → (does : FinishAs turn answer old new) → does.0.before.state ≡ None → homes f new ≡ homes f old + f turn.state
  finish_homes f turn answer old new does away =
      let h = homes_change f old new _ does.0.before _ does.0.was does.0.after.lanes in
      let none : sum_by f (home_of does.0.before) ≡ 0 = ap (λ (o : Option S). sum_by f (in_place o)) away in
      let one = sum_one f turn.state in
      omega (arith, h, none, one)

  pub finish_waits : (g : Carried P → ℕ) (turn : TurnState S P) (answer : After) (old new : ShardState S P) → FinishAs turn answer old new → waits g new ≡ waits g old
  finish_waits g turn answer old new does =
      let h = waits_change g old new _ does.0.before _ does.0.was does.0.after.lanes in omega (arith, h)

  -- a steal
  steal_lanes : (c : Colour) (to : ℕ) (answer : Result Stolen NoSteal) (old new : ShardState S P) → StealAs c to answer old new → new.lanes ≡ old.lanes
  steal_lanes c to (Ok stolen) old new does = does.lanes
  steal_lanes c to (Err why) old new does = does.0.lanes

  pub steal_homes : (f : S → ℕ) (c : Colour) (to : ℕ) (answer : Result Stolen NoSteal) (old new : ShardState S P) → StealAs c to answer old new → homes f new ≡ homes f old
  steal_homes f c to answer old new does = same_homes f old new (steal_lanes c to answer old new does)

  pub steal_waits : (g : Carried P → ℕ) (c : Colour) (to : ℕ) (answer : Result Stolen NoSteal) (old new : ShardState S P) → StealAs c to answer old new → waits g new ≡ waits g old
  steal_waits g c to answer old new does = same_waits g old new (steal_lanes c to answer old new does)

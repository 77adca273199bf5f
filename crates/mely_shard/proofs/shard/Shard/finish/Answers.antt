use Rattle.std.proofs.Common.{◌≡◌, ◌<◌, ◌≤◌, ◌/◌, ◌%◌, ◌+◌, ◌++◌, ◌∷◌, [], Some, map, length, length-append, arith, sym, ap, ◌∙◌, get_or, refl}
use Rattle.std.specs.Prelude.{slice_get, reverse}
use Rattle.std.proofs.lemmas.List.{map-set, append-nil, reverse-reverse}
use Rattle.std.proofs.Math.ListN.{set}
use Rattle.mely_history.specs.Setup.{shape_of, colours_of}
use Rattle.mely_history.specs.ColourAccount.{account_of}
use Rattle.mely_history.specs.Legal.{IsRunningOn}
use Rattle.mely_history.specs.declared.entry.Entry.TheVariants.{Fin}
use Rattle.mely_shard.specs.Invariant.{SlotStands, lane_of}
use Rattle.mely_shard.proofs.RegisterLemmas.{slot_there, lane_there}
use Rattle.mely_shard.proofs.FinishLemmas.{finish_whole, running_positive, kept_finished, told_finished}
use Rattle.mely_shard.proofs.SlotLemmas.{has_room_set}
use Rattle.mely_shard.proofs.ExposeLemmas.{kept_contents, givens_set, given_there}
use Rattle.mely_shard.proofs.shard.Shard.finish.Goals as goal
use Rattle.mely_shard.proofs.shard.Shard.finish.Goals.{After-push-arg-1, After-index_mut}

-- the colour of the turn runs on it, so its state is away
record Away (g : _) (c : After-push-arg-1 g) : Type 0 where
  pub there : c.args.turn.colour.0 < colours_of c.self.inside.setup
  pub here : c.args.turn.colour.0 % (shape_of c.self.inside.setup).shards ≡ c.self.inside.shard
  pub runs : IsRunningOn c.self.inside.history.items c.args.turn.colour c.args.turn.core c.args.turn.count
  pub some : 1 ≤ c.self.inside.running

away : (g : _) (c : After-push-arg-1 g) → Away g c
away g c =
    let own = rw (← c.self.view_is) at c.requires.own in
    let runs = rw (← c.self.view_is) at c.requires.stands.away in
    record {
      there = own.there;
      here = own.here;
      runs = runs;
      some = running_positive c.self.invariant.0 c.args.turn.colour c.args.turn.core c.args.turn.count own.there own.here runs;
    }

-- what is known of the colour's slot
record Found (g : _) (c : After-index_mut g) : Type 0 where
  pub is : c.index_mut.result.now ≡ get_or c.self.inside.slots.items (c.args.turn.colour.0 / (shape_of c.self.inside.setup).shards) c.index_mut.result.now
  pub lane : slice_get (map lane_of c.self.inside.slots.items) (c.args.turn.colour.0 / (shape_of c.self.inside.setup).shards) ≡ Some (lane_of c.index_mut.result.now)
  pub stands : SlotStands g.S.Trail g.S.Fits.fits_under c.self.inside.setup c.args.turn.colour (account_of c.self.inside.setup c.self.inside.history.items c.args.turn.colour) c.index_mut.result.now
  pub history : c.push.new.self.items ≡ c.self.inside.history.items ++ Fin c.args.turn.colour c.args.turn.core c.args.turn.count ∷ []

found : (g : _) (c : After-index_mut g) → Found g c
found g c =
    let own = rw (← c.self.view_is) at c.requires.own in
    let slots = c.self.inside.slots.items in
    let slot = c.index_mut.result.now in
    let is = c.index_mut.ensures.value ∙ ap (λ n. get_or slots n slot) c.place_of-place.ensures ∙ ap (λ k. get_or slots (k.0 / (shape_of c.self.inside.setup).shards) slot) c.colour-colour.ensures in
    record {
      is = is;
      lane = lane_there c.self.invariant.0 c.args.turn.colour slot own.there own.here is;
      stands = slot_there c.self.invariant.0 c.args.turn.colour slot own.there own.here is;
      history = rw (c.push.ensures, c.colour-colour.ensures, c.core-core.ensures, c.count-count.ensures) refl;
    }

pub index_mut-requires : goal.index_mut-requires
index_mut-requires g c =
    let a = away g (goal.at.index_mut-requires g c).After-push-arg-1 in
    let there = c.self.invariant.0.whole c.args.turn.colour.0 a.there a.here in
    rw (c.place_of-place.ensures, c.colour-colour.ensures) (omega (arith, there, c.self.inside.slots.ok.0))

pub finish-requires : goal.finish-requires
finish-requires g c =
    let a = away g (goal.at.finish-requires g c).After-push-arg-1 in
    let f = found g (goal.at.finish-requires g c).After-index_mut in
    let whole = finish_whole c.self.invariant.0 c.args.turn.colour c.args.turn.core c.args.turn.count c.index_mut.result.now f.stands a.runs in
    omega (arith, whole.1, f.stands.started, f.stands.finished, c.count-count.ensures)

pub overflow_sub-self : goal.overflow_sub-self
overflow_sub-self g c = (away g (goal.at.overflow_sub-self g c).After-push-arg-1).some

pub push-requires : goal.push-requires
push-requires g c =
    let a = away g (goal.at.push-requires g c).After-push-arg-1 in
    omega (arith, a.some, c.self.invariant.0.room)

pub invariant_of-self : goal.invariant_of-self
invariant_of-self g c =
    let a = away g (goal.at.invariant_of-self g c).After-push-arg-1 in
    let f = found g (goal.at.invariant_of-self g c).After-index_mut in
    let slot = c.index_mut.result.now in
    let i = c.args.turn.colour.0 / (shape_of c.self.inside.setup).shards in
    let whole = rw (← c.self.view_is) at c.requires.stands.trailed in
    let of_trail = sym (ap (λ es. g.S.Trail.trail_of c.args.turn.state ++ map (λ e. e.0) es) c.requires.spent ∙ append-nil (g.S.Trail.trail_of c.args.turn.state)) ∙ whole in
    let of_frame = rw (← c.self.view_is) at c.requires.stands.framed in
    let kept = kept_finished c.self.invariant.0 c.args.turn.colour c.args.turn.core c.args.turn.count c.args.turn.state slot a.there a.here f.is a.runs c.requires.stands.coloured (of_frame i slot.given.value (given_there (map lane_of c.self.inside.slots.items) i (lane_of slot) f.lane)) of_trail in
    let emptied = c.into_parts-state.result.1.items in
    let none : emptied ≡ [] = sym (reverse-reverse emptied) ∙ ap reverse (c.into_parts-state.ensures.left ∙ c.requires.spent) in
    rw (c.push.ensures, c.core-core.ensures, c.finish.ensures.slot, c.into_parts-state.ensures.state, c.place_of-place.ensures, c.colour-colour.ensures, c.count-count.ensures) (kept.1, has_room_set _ _ _ _ _ _ _ c.self.invariant.1, none, c.self.invariant.3)

pub returns-clause-home : goal.returns-clause-home
returns-clause-home g c =
    let f = found g (goal.at.returns-clause-home g c).After-index_mut in
    let slots = c.self.inside.slots.items in
    let i = c.args.turn.colour.0 / (shape_of c.self.inside.setup).shards in
    rw (← c.self.view_is) (record {
      before = lane_of c.index_mut.result.now;
      was = f.lane;
      after = record {
        same_setup = refl;
        same_shard = refl;
        history = f.history;
        lanes = rw (c.place_of-place.ensures, c.colour-colour.ensures) (map-set lane_of slots i c.finish.new.self ∙ ap (λ b. set (map lane_of slots) i (lane_of b)) c.finish.ensures.slot ∙ rw c.into_parts-state.ensures.state refl);
      };
    })

pub returns-clause-reply : goal.returns-clause-reply
returns-clause-reply g c =
    let f = found g (goal.at.returns-clause-reply g c).After-index_mut in
    rw (← c.self.view_is, f.history, c.finish.ensures.reply)
    (told_finished c.self.invariant.0 c.args.turn.colour c.args.turn.core c.args.turn.count c.index_mut.result.now f.stands)

pub returns-clause-spare_stays : goal.returns-clause-spare_stays
returns-clause-spare_stays g c =
    let a = away g (goal.at.returns-clause-spare_stays g c).After-push-arg-1 in
    let f = found g (goal.at.returns-clause-spare_stays g c).After-index_mut in
    let longer : length c.push.new.self.items ≡ length c.self.inside.history.items + 1 = ap length f.history ∙ length-append c.self.inside.history.items (Fin c.args.turn.colour c.args.turn.core c.args.turn.count ∷ []) in
    let room = ap (λ h. h.most) c.push.ensures in rw (← c.self.view_is) (omega (arith, a.some, longer, room))

pub returns-clause-kept : goal.returns-clause-kept
returns-clause-kept g c = kept_contents (invariant_of-self g c).0

pub returns-clause-frame : goal.returns-clause-frame
returns-clause-frame g c =
    let slot = c.index_mut.result.now in
    rw (← c.self.view_is) (record { same_setup = refl; same_shard = refl; same_givens = givens_set c.self.inside.slots.items _ c.finish.new.self slot (ap (λ b. b.given.value) c.finish.ensures.slot ∙ ap (λ b. b.given.value) c.index_mut.ensures.value) })

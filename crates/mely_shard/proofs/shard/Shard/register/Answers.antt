use Rattle.std.proofs.Common.{◌≡◌, ◌≤◌, ◌<◌, ◌/◌, ◌%◌, ◌+◌, ◌++◌, ◌∷◌, [], Some, map, length, length-append, arith, ap, ◌∙◌, get_or, refl}
use Rattle.std.specs.Prelude.{slice_get, Result, Ok, Err, OnErr}
use Rattle.std.proofs.Math.ListN.{set}
use Rattle.std.proofs.lemmas.List.{set-get_or, map-set}
use Rattle.mely_event.specs.HandlerTable.{rows_of, weight_of}
use Rattle.mely_history.specs.Setup.{shape_of, colours_of}
use Rattle.mely_history.specs.History.{weight}
use Rattle.mely_history.specs.ColourAccount.{account_of}
use Rattle.mely_history.specs.declared.entry.Entry.TheVariants.{Reg}
use Rattle.mely_shard.specs.Invariant.{SlotStands, lane_of}
use Rattle.mely_shard.proofs.RegisterLemmas.{entries_fit, grown_within, kept_with_room, slot_there, registered_few, kept_registered, lane_there, told_registered}
use Rattle.mely_shard.proofs.SlotLemmas.{has_room_set}
use Rattle.mely_shard.proofs.ExposeLemmas.{kept_contents, givens_set}
use Rattle.mely_shard.proofs.shard.Shard.register.Goals as goal
use Rattle.mely_shard.proofs.shard.Shard.register.Goals.{After-index_mut, After-push, In_err-reply}

-- what is known of the colour's slot before the event joins it
record Found (g : _) (c : After-index_mut g) : Type 0 where
  pub there : c.args.colour.0 < colours_of c.self.inside.setup
  pub here : c.args.colour.0 % (shape_of c.self.inside.setup).shards ≡ c.self.inside.shard
  pub is : c.index_mut.result.now ≡ get_or c.self.inside.slots.items (c.args.colour.0 / (shape_of c.self.inside.setup).shards) c.index_mut.result.now
  pub lane : slice_get (map lane_of c.self.inside.slots.items) (c.args.colour.0 / (shape_of c.self.inside.setup).shards) ≡ Some (lane_of c.index_mut.result.now)
  pub stands : SlotStands g.S.Trail g.S.Fits.fits_under c.self.inside.setup c.args.colour (account_of c.self.inside.setup c.self.inside.history.items c.args.colour) c.index_mut.result.now
  pub fit : g.S.Fits.fits_under (g.S.Trail.frame_of c.index_mut.result.now.given.value) c.args.colour c.args.event c.args.load
  pub weighed : c.weight-weight.result ≡ weight c.self.inside.setup c.args.event

found : (g : _) (c : After-index_mut g) → Found g c
found g c =
    let own = rw (← c.self.view_is) at c.requires.own in
    let fit = rw (← c.self.view_is) at c.requires.fit in
    let slots = c.self.inside.slots.items in
    let slot = c.index_mut.result.now in
    let is = c.index_mut.ensures.value ∙ ap (λ n. get_or slots n slot) c.place_of-place.ensures in
    let lane = lane_there c.self.invariant.0 c.args.colour slot own.there own.here is in
    record {
      there = own.there;
      here = own.here;
      is = is;
      lane = lane;
      stands = slot_there c.self.invariant.0 c.args.colour slot own.there own.here is;
      fit = fit _ lane;
      weighed = c.weight-weight.ensures ∙ ap (λ h. weight_of (rows_of h) c.args.event.handler) c.handlers.ensures;
    }

-- what is known once the entry was pushed
record Pushed (g : _) (c : After-push g) : Type 0 where
  pub history : c.push.new.self.items ≡ c.self.inside.history.items ++ Reg c.args.colour c.args.event c.args.by ∷ []
  pub room : length c.self.inside.history.items + 1 + c.self.inside.running ≤ c.reserve.new.self.most

pushed : (g : _) (c : After-push g) → Pushed g c
pushed g c =
    let same = ap (λ h. length h.items) c.reserve.ensures.same in
    let room = c.in-Ok.ensures.room in
    record {
      history = ap (λ h. h.items) c.push.ensures ∙ ap (λ h. h.items ++ Reg c.args.colour c.args.event c.args.by ∷ []) c.reserve.ensures.same;
      room = omega (arith, same, room);
    }

pub index_mut-requires : goal.index_mut-requires
index_mut-requires g c =
    let own = rw (← c.self.view_is) at c.requires.own in
    let there = c.self.invariant.0.whole c.args.colour.0 own.there own.here in
    rw c.place_of-place.ensures (omega (arith, there, c.self.inside.slots.ok.0))

pub register-requires : goal.register-requires
register-requires g c =
    let f = found g (goal.at.register-requires g c).After-index_mut in
    let few = registered_few c.self.invariant.0 c.args.colour c.index_mut.result.now f.stands in
    let fit = entries_fit c.self.invariant.0 in omega (arith, few, fit)

pub invariant_of-self : goal.invariant_of-self
invariant_of-self g c =
    let more = c.reserve.ensures.not_lower in
    rw c.reserve.ensures.same (kept_with_room c.self.invariant.0 c.reserve.new.self.most (omega (arith, more)) (grown_within c.self.inside.setup c.self.inside.history c.reserve.new.self c.self.invariant.3 c.reserve.ensures.same c.reserve.ensures.within), c.self.invariant.1, c.self.invariant.2, c.self.invariant.3)

-- a refused push leaves the slots as they were
same_slots : (g : _) (c : In_err-reply g) → set c.self.inside.slots.items c.place_of-place.result c.register.new.self ≡ c.self.inside.slots.items
same_slots g c =
    let slots = c.self.inside.slots.items in
    let k = c.place_of-place.result in
    ap (set slots k) (c.in_err-reply.ensures.err ∙ c.index_mut.ensures.value) ∙ set-get_or slots k c.index_mut.result.now

pub invariant_of-self-in_err-reply : goal.invariant_of-self-in_err-reply
invariant_of-self-in_err-reply g c =
    let more = c.reserve.ensures.not_lower in
    rw (c.reserve.ensures.same, same_slots g (goal.at.invariant_of-self-in_err-reply g c).In_err-reply) (kept_with_room c.self.invariant.0 c.reserve.new.self.most (omega (arith, more)) (grown_within c.self.inside.setup c.self.inside.history c.reserve.new.self c.self.invariant.3 c.reserve.ensures.same c.reserve.ensures.within), c.self.invariant.1, c.self.invariant.2, c.self.invariant.3)

-- what holds anyway holds where there is an error
on_err : {T E P : Type 0} (r : Result T E) → P → OnErr r P
on_err (Ok value) holds = tt
on_err (Err error) holds = holds

pub returns-in_err-reply-clause-err : goal.returns-in_err-reply-clause-err
returns-in_err-reply-clause-err g c =
    let same = same_slots g (goal.at.returns-in_err-reply-clause-err g c).In_err-reply in
    rw (← c.self.view_is) (on_err c.from_residual.result (record {
      same_setup = refl;
      same_shard = refl;
      history = ap (λ h. h.items) c.reserve.ensures.same;
      lanes = ap (map lane_of) same;
    }))

pub invariant_of-self-2 : goal.invariant_of-self-2
invariant_of-self-2 g c =
    let f = found g (goal.at.invariant_of-self-2 g c).After-index_mut in
    let p = pushed g c in
    let may = rw (← c.self.view_is) at c.requires.may in
    rw (c.push.ensures, c.reserve.ensures.same, c.in_ok-reply.ensures.ok, f.weighed, c.place_of-place.ensures) (
      kept_registered c.self.invariant.0 c.args.colour c.args.event c.args.load c.args.by c.reserve.new.self.most c.index_mut.result.now f.there f.here f.is may f.fit p.room (grown_within c.self.inside.setup c.self.inside.history c.reserve.new.self c.self.invariant.3 c.reserve.ensures.same c.reserve.ensures.within),
      has_room_set _ _ _ _ _ _ _ c.self.invariant.1,
      c.self.invariant.2,
      c.self.invariant.3,
    )

pub returns-clause-ok : goal.returns-clause-ok
returns-clause-ok g c =
    let f = found g (goal.at.returns-clause-ok g c).After-index_mut in
    let p = pushed g c in
    let slots = c.self.inside.slots.items in
    let slot = c.index_mut.result.now in
    let i = c.args.colour.0 / (shape_of c.self.inside.setup).shards in
    rw (← c.self.view_is) (record {
      before = lane_of slot;
      was = f.lane;
      after = record {
        same_setup = refl;
        same_shard = refl;
        history = p.history;
        lanes = ap (λ n. map lane_of (set slots n c.register.new.self)) c.place_of-place.ensures ∙ map-set lane_of slots i c.register.new.self ∙ ap (λ b. set (map lane_of slots) i (lane_of b)) c.in_ok-reply.ensures.ok;
      };
    })

pub returns-clause-reply : goal.returns-clause-reply
returns-clause-reply g c =
    let f = found g (goal.at.returns-clause-reply g c).After-index_mut in
    let p = pushed g c in
    rw (← c.self.view_is, p.history, c.in_ok-reply.ensures.reply, c.in_ok-reply.ensures.ok, f.weighed)
    (told_registered c.self.invariant.0 c.args.colour c.args.event c.args.load c.args.by c.index_mut.result.now f.stands f.fit)

pub returns-in_default-clause-kept : goal.returns-in_default-clause-kept
returns-in_default-clause-kept g c = kept_contents (invariant_of-self g c).0

pub returns-in_err-reply-clause-kept : goal.returns-in_err-reply-clause-kept
returns-in_err-reply-clause-kept g c = kept_contents (invariant_of-self-in_err-reply g c).0

pub returns-clause-kept : goal.returns-clause-kept
returns-clause-kept g c = kept_contents (invariant_of-self-2 g c).0

pub returns-clause-frame : goal.returns-clause-frame
returns-clause-frame g c =
    let slot = c.index_mut.result.now in
    rw (← c.self.view_is) (record { same_setup = refl; same_shard = refl; same_givens = givens_set c.self.inside.slots.items c.place_of-place.result c.register.new.self slot (ap (λ b. b.given.value) c.in_ok-reply.ensures.ok ∙ ap (λ b. b.given.value) c.index_mut.ensures.value) })

pub returns-in_default-clause-err : goal.returns-in_default-clause-err
returns-in_default-clause-err g c = rw (← c.self.view_is) (record { same_setup = refl; same_shard = refl; history = ap (λ h. h.items) c.reserve.ensures.same; lanes = refl })

pub returns-in_default-clause-spare_left : goal.returns-in_default-clause-spare_left
returns-in_default-clause-spare_left g c =
    let same = ap (λ h. length h.items) c.reserve.ensures.same in
    let more = c.reserve.ensures.not_lower in
    rw (← c.self.view_is) (omega (arith, same, more))

pub returns-in_default-clause-spare_stays : goal.returns-in_default-clause-spare_stays
returns-in_default-clause-spare_stays g c =
    let same = ap (λ h. length h.items) c.reserve.ensures.same in
    let more = c.reserve.ensures.not_lower in
    rw (← c.self.view_is) (omega (arith, same, more))

pub returns-in_default-clause-frame : goal.returns-in_default-clause-frame
returns-in_default-clause-frame g c = rw (← c.self.view_is) (record { same_setup = refl; same_shard = refl; same_givens = refl })

pub returns-in_err-reply-clause-spare_left : goal.returns-in_err-reply-clause-spare_left
returns-in_err-reply-clause-spare_left g c =
    let same = ap (λ h. length h.items) c.reserve.ensures.same in
    let more = c.reserve.ensures.not_lower in
    rw (← c.self.view_is) (omega (arith, same, more))

pub returns-in_err-reply-clause-spare_stays : goal.returns-in_err-reply-clause-spare_stays
returns-in_err-reply-clause-spare_stays g c =
    let same = ap (λ h. length h.items) c.reserve.ensures.same in
    let more = c.reserve.ensures.not_lower in
    rw (← c.self.view_is) (on_err c.from_residual.result (omega (arith, same, more)))

pub returns-in_err-reply-clause-frame : goal.returns-in_err-reply-clause-frame
returns-in_err-reply-clause-frame g c =
    let same = same_slots g (goal.at.returns-in_err-reply-clause-frame g c).In_err-reply in
    rw (← c.self.view_is) (record { same_setup = refl; same_shard = refl; same_givens = ap (λ s. map (λ lane. lane.given) (map lane_of s)) same })

pub returns-clause-spare_left : goal.returns-clause-spare_left
returns-clause-spare_left g c =
    let p = pushed g (goal.at.returns-clause-spare_left g c).After-push in
    let longer : length c.push.new.self.items ≡ length c.self.inside.history.items + 1 = ap length p.history ∙ length-append c.self.inside.history.items (Reg c.args.colour c.args.event c.args.by ∷ []) in
    let room = ap (λ h. h.most) c.push.ensures in
    let more = c.reserve.ensures.not_lower in
    rw (← c.self.view_is) (omega (arith, longer, room, more))

pub overflow_add-self-inside : goal.overflow_add-self-inside
overflow_add-self-inside g c = let fit = entries_fit c.self.invariant.0 in omega (arith, fit)

pub push-requires : goal.push-requires
push-requires g c = let room = c.in-Ok.ensures.room in omega (arith, room)

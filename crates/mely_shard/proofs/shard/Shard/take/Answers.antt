use Rattle.std.proofs.Common.{◌≡◌, ◌≤◌, ◌<◌, ◌/◌, ◌%◌, ◌+◌, ◌++◌, ◌∷◌, [], length, length-append, map, take, arith, sym, ap, ◌∙◌, subst, get_or, refl, Some, None}
use Rattle.std.specs.Prelude.{min, slice_get}
use Rattle.std.proofs.Math.ListN.{set}
use Rattle.std.proofs.lemmas.List.{map-set, length-map, set-get_or, take_min}
use Rattle.mely_history.specs.Setup.{shape_of, colours_of}
use Rattle.mely_history.specs.ColourAccount.{account_of}
use Rattle.mely_history.specs.Legal.{MayTake}
use Rattle.mely_history.specs.declared.entry.Entry.TheVariants.{Take}
use Rattle.mely_queue.specs.ColourQueue.{after_take}
use Rattle.mely_queue.specs.Turn.{EachFits}
use Rattle.mely_shard.specs.Invariant.{SlotStands, IsConsistentShard, lane_of}
use Rattle.mely_shard.proofs.RegisterLemmas.{entries_fit, grown_within, kept_with_room, slot_there, lane_there}
use Rattle.mely_shard.proofs.TakeLemmas.{Refuses, slot_refuses, ready_home, kept_taken, taken_turn, all_by_recursion-take}
use Rattle.mely_shard.proofs.SlotLemmas.{has_room_set}
use Rattle.mely_shard.proofs.ExposeLemmas.{kept_contents, givens_set, given_frame}
use Rattle.mely_shard.proofs.shard.Shard.take.Goals as goal
use Rattle.mely_shard.proofs.shard.Shard.take.Goals.{After-no_take, After-push}

-- what is known once the colour's slot was asked
record Asked (g : _) (c : After-no_take g) : Type 0 where
  pub there : c.args.colour.0 < colours_of c.self.inside.setup
  pub here : c.args.colour.0 % (shape_of c.self.inside.setup).shards ≡ c.self.inside.shard
  pub place : c.args.colour.0 / (shape_of c.self.inside.setup).shards < length c.self.inside.slots.items
  pub is : c.index_mut-slot.result.now ≡ get_or c.self.inside.slots.items (c.args.colour.0 / (shape_of c.self.inside.setup).shards) c.index_mut-slot.result.now
  pub stands : SlotStands g.S.Trail g.S.Fits.fits_under c.self.inside.setup c.args.colour (account_of c.self.inside.setup c.self.inside.history.items c.args.colour) c.index_mut-slot.result.now
  pub refuses : Refuses c.self.invariant.0 c.args.colour c.args.core c.index_mut-slot.result.now.given.value c.index_mut-slot.result.now.home c.no_take.result
  pub same : set c.self.inside.slots.items c.place_of-place.result c.index_mut-slot.result.now ≡ c.self.inside.slots.items

asked : (g : _) (c : After-no_take g) → Asked g c
asked g c =
    let own = rw (← c.self.view_is) at c.requires.own in
    let slots = c.self.inside.slots.items in
    let slot = c.index_mut-slot.result.now in
    let is = c.index_mut-slot.ensures.value ∙ ap (λ n. get_or slots n slot) c.place_of-place.ensures in
    let stands = slot_there c.self.invariant.0 c.args.colour slot own.there own.here is in
    record {
      there = own.there;
      here = own.here;
      place = c.self.invariant.0.whole c.args.colour.0 own.there own.here;
      is = is;
      stands = stands;
      refuses = rw c.no_take.ensures (slot_refuses c.self.invariant.0 c.args.colour c.args.core slot stands);
      same = ap (set slots c.place_of-place.result) c.index_mut-slot.ensures.value ∙ set-get_or slots c.place_of-place.result slot;
    }

-- what is known once the entry was pushed
record Pushed (g : _) (c : After-push g) : Type 0 where
  pub first : c.count-count.result ≡ min c.batch-batch.result (length c.index_mut-slot.result.now.queue.events)
  pub counted : c.in-Ok-take.turn.count ≡ min c.batch-batch.result (length c.index_mut-slot.result.now.queue.events)
  pub whole : c.count-count.result ≡ min (shape_of c.self.inside.setup).batch (length c.index_mut-slot.result.now.queue.events)
  pub after : c.take.new.self ≡ record c.index_mut-slot.result.now { queue = after_take c.index_mut-slot.result.now.queue c.count-count.result; home = None; core = c.args.core; count = c.count-count.result }
  pub history : c.push.new.self.items ≡ c.self.inside.history.items ++ Take c.args.colour c.args.core c.count-count.result ∷ []
  pub allowed : MayTake c.self.inside.setup c.self.inside.history.items c.args.colour c.args.core c.count-count.result
  pub kept : IsConsistentShard g.S.Trail g.S.Fits.fits_under c.self.inside.setup c.self.inside.shard (c.self.inside.history.items ++ Take c.args.colour c.args.core c.count-count.result ∷ []) (set c.self.inside.slots.items (c.args.colour.0 / (shape_of c.self.inside.setup).shards) c.take.new.self) (c.self.inside.running + 1) c.reserve.new.self.most

pushed : (g : _) (c : After-push g) → c.args.colour.0 < colours_of c.self.inside.setup → c.args.colour.0 % (shape_of c.self.inside.setup).shards ≡ c.self.inside.shard
    → c.index_mut-slot.result.now ≡ get_or c.self.inside.slots.items (c.args.colour.0 / (shape_of c.self.inside.setup).shards) c.index_mut-slot.result.now
    → Refuses c.self.invariant.0 c.args.colour c.args.core c.index_mut-slot.result.now.given.value c.index_mut-slot.result.now.home None
    → Pushed g c
pushed g c there here is ready =
    let slot = c.index_mut-slot.result.now in
    let takes = c.in-Ok-take.ensures.ok in
    let n = c.count-count.result in
    let first : n ≡ min c.batch-batch.result (length slot.queue.events) = c.count-count.ensures ∙ ap (λ t. t.count) takes.made in
    let whole : n ≡ min (shape_of c.self.inside.setup).batch (length slot.queue.events) = first ∙ ap (λ b. min b (length slot.queue.events)) c.batch-batch.ensures.value in
    let after : c.take.new.self ≡ record slot { queue = after_take slot.queue n; home = None; core = c.args.core; count = n } = rw first takes.left in
    let same = ap (λ h. length h.items) c.reserve.ensures.same in
    let room = c.in-Ok.ensures.room in
    let roomy : length c.self.inside.history.items + 2 + c.self.inside.running ≤ c.reserve.new.self.most = omega (arith, same, room) in
    let both = kept_taken c.self.invariant.0 c.args.colour c.args.core c.reserve.new.self.most slot c.take.new.self there here is ready n whole c.self.inside.setup.batch_in.0 after roomy (grown_within c.self.inside.setup c.self.inside.history c.reserve.new.self c.self.invariant.3 c.reserve.ensures.same c.reserve.ensures.within) in
    record {
      first = first;
      counted = ap (λ t. t.count) takes.made;
      whole = whole;
      after = after;
      history = ap (λ h. h.items) c.push.ensures ∙ ap (λ h. h.items ++ Take c.args.colour c.args.core n ∷ []) c.reserve.ensures.same;
      allowed = both.0;
      kept = both.1;
    }

pub invariant_of-self : goal.invariant_of-self
invariant_of-self g c = let a = asked g (goal.at.invariant_of-self g c).After-no_take in rw a.same c.self.invariant

pub returns-in-Some-clause-refusal : goal.returns-in-Some-clause-refusal
returns-in-Some-clause-refusal g c =
    let a = asked g (goal.at.returns-in-Some-clause-refusal g c).After-no_take in
    rw (← c.self.view_is) (rw c.in-Some.is at a.refuses)

pub returns-in-Some-clause-err : goal.returns-in-Some-clause-err
returns-in-Some-clause-err g c =
    let a = asked g (goal.at.returns-in-Some-clause-err g c).After-no_take in
    rw (← c.self.view_is) (record {
      same_setup = refl;
      same_shard = refl;
      history = refl;
      lanes = ap (map lane_of) a.same;
    })

pub returns-in-Some-clause-kept : goal.returns-in-Some-clause-kept
returns-in-Some-clause-kept g c = kept_contents (invariant_of-self g c).0

pub invariant_of-self-in_default-reserve : goal.invariant_of-self-in_default-reserve
invariant_of-self-in_default-reserve g c =
    let a = asked g (goal.at.invariant_of-self-in_default-reserve g c).After-no_take in
    let more = c.reserve.ensures.not_lower in
    rw (c.reserve.ensures.same, a.same) (kept_with_room c.self.invariant.0 c.reserve.new.self.most (omega (arith, more)) (grown_within c.self.inside.setup c.self.inside.history c.reserve.new.self c.self.invariant.3 c.reserve.ensures.same c.reserve.ensures.within), c.self.invariant.1, c.self.invariant.2, c.self.invariant.3)

pub returns-in_default-reserve-clause-err : goal.returns-in_default-reserve-clause-err
returns-in_default-reserve-clause-err g c =
    let a = asked g (goal.at.returns-in_default-reserve-clause-err g c).After-no_take in
    rw (← c.self.view_is) (record {
      same_setup = refl;
      same_shard = refl;
      history = ap (λ h. h.items) c.reserve.ensures.same;
      lanes = ap (map lane_of) a.same;
    })

pub returns-in_default-reserve-clause-refusal : goal.returns-in_default-reserve-clause-refusal
returns-in_default-reserve-clause-refusal g c =
    let a = asked g (goal.at.returns-in_default-reserve-clause-refusal g c).After-no_take in
    let ready = rw c.in_default.is at a.refuses in
    rw (← c.self.view_is) (ready.0, ready.1)

pub returns-in_default-reserve-clause-kept : goal.returns-in_default-reserve-clause-kept
returns-in_default-reserve-clause-kept g c = kept_contents (invariant_of-self-in_default-reserve g c).0

pub take-requires-clause-emptied : goal.take-requires-clause-emptied
take-requires-clause-emptied g c = c.self.invariant.2

pub take-requires-clause-home : goal.take-requires-clause-home
take-requires-clause-home g c =
    let a = asked g (goal.at.take-requires-clause-home g c).After-no_take in
    let slot = c.index_mut-slot.result.now in
    let ready = rw c.in_default.is at a.refuses in
    ready_home c.self.invariant.0 c.args.colour slot.given.value slot.home ready.2

pub take-requires-clause-waiting : goal.take-requires-clause-waiting
take-requires-clause-waiting g c =
    let a = asked g (goal.at.take-requires-clause-waiting g c).After-no_take in
    let ready = rw c.in_default.is at a.refuses in
    omega (arith, ready.1.waiting, ap length a.stands.events, length-map c.index_mut-slot.result.now.queue.events (λ e. e.0))

pub take-requires-clause-fit : goal.take-requires-clause-fit
take-requires-clause-fit g c = (asked g (goal.at.take-requires-clause-fit g c).After-no_take).stands.fit

pub invariant_of-self-in_default-take : goal.invariant_of-self-in_default-take
invariant_of-self-in_default-take g c =
    let a = asked g (goal.at.invariant_of-self-in_default-take g c).After-no_take in
    let more = c.reserve.ensures.not_lower in
    rw (c.reserve.ensures.same, c.in_default-take.ensures.err, a.same) (kept_with_room c.self.invariant.0 c.reserve.new.self.most (omega (arith, more)) (grown_within c.self.inside.setup c.self.inside.history c.reserve.new.self c.self.invariant.3 c.reserve.ensures.same c.reserve.ensures.within), c.self.invariant.1, c.take.ensures.emptied, c.self.invariant.3)

pub returns-in_default-take-clause-err : goal.returns-in_default-take-clause-err
returns-in_default-take-clause-err g c =
    let a = asked g (goal.at.returns-in_default-take-clause-err g c).After-no_take in
    rw (← c.self.view_is) (record {
      same_setup = refl;
      same_shard = refl;
      history = ap (λ h. h.items) c.reserve.ensures.same;
      lanes = rw c.in_default-take.ensures.err (ap (map lane_of) a.same);
    })

pub returns-in_default-take-clause-refusal : goal.returns-in_default-take-clause-refusal
returns-in_default-take-clause-refusal g c =
    let a = asked g (goal.at.returns-in_default-take-clause-refusal g c).After-no_take in
    let ready = rw c.in_default.is at a.refuses in
    rw (← c.self.view_is) (ready.0, ready.1)

pub returns-in_default-take-clause-kept : goal.returns-in_default-take-clause-kept
returns-in_default-take-clause-kept g c = kept_contents (invariant_of-self-in_default-take g c).0

pub returns-in_default-take-clause-frame : goal.returns-in_default-take-clause-frame
returns-in_default-take-clause-frame g c =
    let slot = c.index_mut-slot.result.now in
    rw (← c.self.view_is) (record { same_setup = refl; same_shard = refl; same_givens = givens_set c.self.inside.slots.items _ c.take.new.self slot (ap (λ b. b.given.value) c.in_default-take.ensures.err ∙ ap (λ b. b.given.value) c.index_mut-slot.ensures.value) })

pub invariant_of-self-2 : goal.invariant_of-self-2
invariant_of-self-2 g c =
    let a = asked g (goal.at.invariant_of-self-2 g c).After-no_take in
    let ready = rw c.in_default.is at a.refuses in
    let p = pushed g (goal.at.invariant_of-self-2 g c).After-push a.there a.here a.is ready in
    rw (c.push.ensures, c.reserve.ensures.same, c.place_of-place.ensures) (p.kept, has_room_set _ _ _ _ _ _ _ c.self.invariant.1, c.take.ensures.emptied, c.self.invariant.3)

pub returns-clause-ok : goal.returns-clause-ok
returns-clause-ok g c =
    let a = asked g (goal.at.returns-clause-ok g c).After-no_take in
    let ready = rw c.in_default.is at a.refuses in
    let p = pushed g (goal.at.returns-clause-ok g c).After-push a.there a.here a.is ready in
    let slots = c.self.inside.slots.items in
    let slot = c.index_mut-slot.result.now in
    let i = c.args.colour.0 / (shape_of c.self.inside.setup).shards in
    let takes = c.in-Ok-take.ensures.ok in
    rw (← c.self.view_is) (record {
      before = lane_of slot;
      was = lane_there c.self.invariant.0 c.args.colour slot a.there a.here a.is;
      home = takes.home;
      at_home = takes.was;
      allowed = rw (← c.count-count.ensures) p.allowed;
      made = takes.made ∙ rw (p.counted, ← take_min c.batch-batch.result slot.queue.events) refl;
      after = record {
        same_setup = refl;
        same_shard = refl;
        history = rw (p.history, c.count-count.ensures) refl;
        lanes = ap (λ m. map lane_of (set slots m c.take.new.self)) c.place_of-place.ensures ∙ map-set lane_of slots i c.take.new.self ∙ ap (λ b. set (map lane_of slots) i (lane_of b)) p.after ∙ rw c.count-count.ensures refl;
      };
    })

pub returns-clause-stands : goal.returns-clause-stands
returns-clause-stands g c =
    let a = asked g (goal.at.returns-clause-stands g c).After-no_take in
    let ready = rw c.in_default.is at a.refuses in
    let p = pushed g (goal.at.returns-clause-stands g c).After-push a.there a.here a.is ready in
    let slots = c.self.inside.slots.items in
    let slot = c.index_mut-slot.result.now in
    let takes = c.in-Ok-take.ensures.ok in
    let some : 1 ≤ c.count-count.result = omega (arith, p.whole, c.self.inside.setup.batch_in.0, ready.1.waiting, ap length a.stands.events, length-map slot.queue.events (λ e. e.0)) in
    let turn = taken_turn c.self.invariant.0 c.args.colour c.args.core c.count-count.result slot a.stands ready some takes.home takes.was in
    let given : c.take.new.self.given.value ≡ slot.given.value = ap (λ b. b.given.value) p.after in
    rw takes.made (record {
      away = rw (p.history, ← p.first) turn.0;
      trailed = rw (p.history, ← take_min c.batch-batch.result slot.queue.events, ← p.first) turn.1;
      coloured = turn.2;
      framed = λ j given_j there. turn.3 ∙ given_frame c.self.invariant.0 (c.args.colour.0 / (shape_of c.self.inside.setup).shards) slot a.place a.is j given_j
          (subst (λ gs. slice_get gs j ≡ Some given_j) (givens_set slots c.place_of-place.result c.take.new.self slot (given ∙ ap (λ b. b.given.value) c.index_mut-slot.ensures.value)) there);
      fit = subst (λ f. EachFits (g.S.Fits.fits_under f c.args.colour) (take c.batch-batch.result slot.queue.events)) (sym turn.3) (all_by_recursion-take _ c.batch-batch.result slot.queue.events a.stands.fit);
    })

pub returns-clause-kept : goal.returns-clause-kept
returns-clause-kept g c = kept_contents (invariant_of-self-2 g c).0

pub returns-clause-frame : goal.returns-clause-frame
returns-clause-frame g c =
    let slot = c.index_mut-slot.result.now in
    rw (← c.self.view_is) (record { same_setup = refl; same_shard = refl; same_givens = givens_set c.self.inside.slots.items _ c.take.new.self slot (ap (λ b. b.given.value) c.in-Ok-take.ensures.ok.left ∙ ap (λ b. b.given.value) c.index_mut-slot.ensures.value) })

pub returns-in-Some-clause-spare_left : goal.returns-in-Some-clause-spare_left
returns-in-Some-clause-spare_left g c = rw (← c.self.view_is) (omega arith)

pub returns-in-Some-clause-spare_stays : goal.returns-in-Some-clause-spare_stays
returns-in-Some-clause-spare_stays g c = rw (← c.self.view_is) (omega arith)

pub returns-in-Some-clause-frame : goal.returns-in-Some-clause-frame
returns-in-Some-clause-frame g c =
    let a = asked g (goal.at.returns-in-Some-clause-frame g c).After-no_take in
    rw (← c.self.view_is) (record { same_setup = refl; same_shard = refl; same_givens = ap (λ s. map (λ lane. lane.given) (map lane_of s)) a.same })

pub returns-in_default-reserve-clause-spare_left : goal.returns-in_default-reserve-clause-spare_left
returns-in_default-reserve-clause-spare_left g c =
    let same = ap (λ h. length h.items) c.reserve.ensures.same in
    let more = c.reserve.ensures.not_lower in
    rw (← c.self.view_is) (omega (arith, same, more))

pub returns-in_default-reserve-clause-spare_stays : goal.returns-in_default-reserve-clause-spare_stays
returns-in_default-reserve-clause-spare_stays g c =
    let same = ap (λ h. length h.items) c.reserve.ensures.same in
    let more = c.reserve.ensures.not_lower in
    rw (← c.self.view_is) (omega (arith, same, more))

pub returns-in_default-reserve-clause-frame : goal.returns-in_default-reserve-clause-frame
returns-in_default-reserve-clause-frame g c =
    let a = asked g (goal.at.returns-in_default-reserve-clause-frame g c).After-no_take in
    rw (← c.self.view_is) (record { same_setup = refl; same_shard = refl; same_givens = ap (λ s. map (λ lane. lane.given) (map lane_of s)) a.same })

pub returns-in_default-take-clause-spare_left : goal.returns-in_default-take-clause-spare_left
returns-in_default-take-clause-spare_left g c =
    let same = ap (λ h. length h.items) c.reserve.ensures.same in
    let more = c.reserve.ensures.not_lower in
    rw (← c.self.view_is) (omega (arith, same, more))

pub returns-in_default-take-clause-spare_stays : goal.returns-in_default-take-clause-spare_stays
returns-in_default-take-clause-spare_stays g c =
    let same = ap (λ h. length h.items) c.reserve.ensures.same in
    let more = c.reserve.ensures.not_lower in
    rw (← c.self.view_is) (omega (arith, same, more))

pub returns-clause-spare_left : goal.returns-clause-spare_left
returns-clause-spare_left g c =
    let a = asked g (goal.at.returns-clause-spare_left g c).After-no_take in
    let ready = rw c.in_default.is at a.refuses in
    let p = pushed g (goal.at.returns-clause-spare_left g c).After-push a.there a.here a.is ready in
    let longer : length c.push.new.self.items ≡ length c.self.inside.history.items + 1 = ap length p.history ∙ length-append c.self.inside.history.items (Take c.args.colour c.args.core c.count-count.result ∷ []) in
    let room = ap (λ h. h.most) c.push.ensures in
    let more = c.reserve.ensures.not_lower in
    rw (← c.self.view_is) (omega (arith, longer, room, more))

pub overflow_add-self-inside : goal.overflow_add-self-inside
overflow_add-self-inside g c = let fit = entries_fit c.self.invariant.0 in omega (arith, fit)

pub push-requires : goal.push-requires
push-requires g c = let room = c.in-Ok.ensures.room in omega (arith, room)

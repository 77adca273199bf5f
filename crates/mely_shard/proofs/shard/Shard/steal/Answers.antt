use Rattle.std.proofs.Common.{◌≡◌, ℕ, Bool, true, false, Some, None, if◌then◌else◌, ◌==◌, is_none, nat_lt, ◌≤◌, ◌<◌, ◌/◌, ◌%◌, ◌+◌, ◌++◌, ◌∷◌, [], map, length, length-append, arith, sym, ap, ◌∙◌, get_or, refl, drop, sum}
use Rattle.std.proofs.Math.Seq.{map-set_same}
use Rattle.std.proofs.Math.ListN.{set}
use Rattle.std.proofs.lemmas.List.{set-get_or}
use Rattle.std.proofs.lemmas.List.Sums.{sum-map}
use Rattle.std.specs.List.{sum_by}
use Rattle.mely_history.specs.Setup.{shape_of, pinned_of, colours_of}
use Rattle.mely_history.specs.History.{weight, queued_of}
use Rattle.mely_history.specs.ColourAccount.{ColourAccount, account_of}
use Rattle.mely_history.specs.declared.entry.Entry.TheVariants.{Steal}
use Rattle.mely_history.specs.declared.no_steal.NoSteal.{NoSteal}
use Rattle.mely_history.specs.declared.no_steal.NoSteal.TheVariants as steals
use Rattle.mely_history.specs.declared.no_steal.NoSteal.TheVariants.{Own, Cheap}
use Rattle.mely_queue.specs.ColourQueue.{registered_in}
use Rattle.mely_history.proofs.ColourAccountLemmas.{account-own}
use Rattle.mely_shard.specs.Invariant.{SlotStands, lane_of}
use Rattle.mely_shard.proofs.RegisterLemmas.{entries_fit, slot_there, grown_within, kept_with_room}
use Rattle.mely_shard.proofs.StealLemmas.{Refuses, slot_refuses, kept_stolen}
use Rattle.mely_shard.proofs.SlotLemmas.{has_room_set}
use Rattle.mely_shard.proofs.ExposeLemmas.{kept_contents, givens_set}
use Rattle.mely_shard.proofs.shard.Shard.steal.Goals as goal
use Rattle.mely_shard.proofs.shard.Shard.steal.Goals.{After-no_steal, After-push}

-- what is known once the colour's slot was asked
record Asked (g : _) (c : After-no_steal g) : Type 0 where
  pub free : pinned_of c.self.inside.setup ≤ c.args.colour.0
  pub there : c.args.colour.0 < colours_of c.self.inside.setup
  pub here : c.args.colour.0 % (shape_of c.self.inside.setup).shards ≡ c.self.inside.shard
  pub is : c.index_mut-slot.result.now ≡ get_or c.self.inside.slots.items (c.args.colour.0 / (shape_of c.self.inside.setup).shards) c.index_mut-slot.result.now
  pub stands : SlotStands g.S.Trail g.S.Fits.fits_under c.self.inside.setup c.args.colour (account_of c.self.inside.setup c.self.inside.history.items c.args.colour) c.index_mut-slot.result.now
  pub refuses : Refuses c.self.invariant.0 c.args.colour c.args.to c.no_steal.result
  pub same : set c.self.inside.slots.items c.place_of-place.result c.index_mut-slot.result.now ≡ c.self.inside.slots.items

asked : (g : _) (c : After-no_steal g) → Asked g c
asked g c =
    let own = rw (← c.self.view_is) at c.requires.own in
    let slots = c.self.inside.slots.items in
    let slot = c.index_mut-slot.result.now in
    let free : pinned_of c.self.inside.setup ≤ c.args.colour.0 = omega (arith, c.pinned.ensures.value, c.from.ensures, c.if-from-pinned.false) in
    let is = c.index_mut-slot.ensures.value ∙ ap (λ n. get_or slots n slot) c.place_of-place.ensures in
    let stands = slot_there c.self.invariant.0 c.args.colour slot own.there own.here is in
    record {
      free = free;
      there = own.there;
      here = own.here;
      is = is;
      stands = stands;
      refuses = rw c.no_steal.ensures (slot_refuses c.self.invariant.0 c.args.colour free c.args.to c.steal_cost.result slot stands c.steal_cost.ensures);
      same = ap (set slots c.place_of-place.result) c.index_mut-slot.ensures.value ∙ set-get_or slots c.place_of-place.result slot;
    }

pub index_mut-slot-requires : goal.index_mut-slot-requires
index_mut-slot-requires g c =
    let own = rw (← c.self.view_is) at c.requires.own in
    let there = c.self.invariant.0.whole c.args.colour.0 own.there own.here in
    rw c.place_of-place.ensures (omega (arith, there, c.self.inside.slots.ok.0))

pub returns-then-from-pinned-clause-kept : goal.returns-then-from-pinned-clause-kept
returns-then-from-pinned-clause-kept g c = rw (← c.self.view_is) (kept_contents c.self.invariant.0)

pub invariant_of-self : goal.invariant_of-self
invariant_of-self g c = let a = asked g (goal.at.invariant_of-self g c).After-no_steal in rw a.same c.self.invariant

pub returns-in-Some-clause-refusal : goal.returns-in-Some-clause-refusal
returns-in-Some-clause-refusal g c =
    let a = asked g (goal.at.returns-in-Some-clause-refusal g c).After-no_steal in
    rw (← c.self.view_is) (rw c.in-Some.is at a.refuses)

pub returns-in-Some-clause-kept : goal.returns-in-Some-clause-kept
returns-in-Some-clause-kept g c = kept_contents (invariant_of-self g c).0

pub invariant_of-self-in_default-reserve : goal.invariant_of-self-in_default-reserve
invariant_of-self-in_default-reserve g c =
    let a = asked g (goal.at.invariant_of-self-in_default-reserve g c).After-no_steal in
    let more = c.reserve.ensures.not_lower in
    rw (c.reserve.ensures.same, a.same) (kept_with_room c.self.invariant.0 c.reserve.new.self.most (omega (arith, more)) (grown_within c.self.inside.setup c.self.inside.history c.reserve.new.self c.self.invariant.3 c.reserve.ensures.same c.reserve.ensures.within), c.self.invariant.1, c.self.invariant.2, c.self.invariant.3)

pub returns-in_default-reserve-clause-refusal : goal.returns-in_default-reserve-clause-refusal
returns-in_default-reserve-clause-refusal g c =
    let a = asked g (goal.at.returns-in_default-reserve-clause-refusal g c).After-no_steal in
    let ready = rw c.in_default.is at a.refuses in
    rw (← c.self.view_is) (a.free, ready.0, ready.1, ready.2)

pub returns-in_default-reserve-clause-kept : goal.returns-in_default-reserve-clause-kept
returns-in_default-reserve-clause-kept g c = kept_contents (invariant_of-self-in_default-reserve g c).0

pub returns-in_default-reserve-clause-spare : goal.returns-in_default-reserve-clause-spare
returns-in_default-reserve-clause-spare g c =
    let spare : c.self.inside.history.most ≤ length c.self.inside.history.items + c.self.inside.running = let full = c.in_default-reserve.ensures.full in omega (arith, full) in
    rw (← c.self.view_is) (λ some same. omega (arith, some, spare))

-- what is known once the entry was pushed
record Pushed (g : _) (c : After-push g) : Type 0 where
  pub history : c.push.new.self.items ≡ c.self.inside.history.items ++ Steal c.args.colour c.index_mut-slot.result.now.owner c.args.to ∷ []
  pub room : length c.self.inside.history.items + 1 + c.self.inside.running ≤ c.reserve.new.self.most

pushed : (g : _) (c : After-push g) → Pushed g c
pushed g c =
    let same = ap (λ h. length h.items) c.reserve.ensures.same in
    let room = c.in-Ok.ensures.room in
    record {
      history = rw (c.push.ensures, c.steal-stolen.ensures.reply, c.reserve.ensures.same) refl;
      room = omega (arith, same, room);
    }

pub invariant_of-self-2 : goal.invariant_of-self-2
invariant_of-self-2 g c =
    let a = asked g (goal.at.invariant_of-self-2 g c).After-no_steal in
    let p = pushed g c in
    let core = rw (← c.self.view_is) at c.requires.core in
    let ready = rw c.in_default.is at a.refuses in
    rw (c.push.ensures, c.reserve.ensures.same, c.steal-stolen.ensures.reply, c.steal-stolen.ensures.slot, c.place_of-place.ensures)
    ((kept_stolen c.self.invariant.0 c.args.colour a.free c.args.to c.reserve.new.self.most c.index_mut-slot.result.now a.there a.here a.is core ready p.room (grown_within c.self.inside.setup c.self.inside.history c.reserve.new.self c.self.invariant.3 c.reserve.ensures.same c.reserve.ensures.within)).1, has_room_set _ _ _ _ _ _ _ c.self.invariant.1, c.self.invariant.2, c.self.invariant.3)

pub returns-clause-ok : goal.returns-clause-ok
returns-clause-ok g c =
    let a = asked g (goal.at.returns-clause-ok g c).After-no_steal in
    let p = pushed g c in
    let slots = c.self.inside.slots.items in
    let slot = c.index_mut-slot.result.now in
    let core = rw (← c.self.view_is) at c.requires.core in
    let ready = rw c.in_default.is at a.refuses in
    let stolen = kept_stolen c.self.invariant.0 c.args.colour a.free c.args.to c.reserve.new.self.most slot a.there a.here a.is core ready p.room (grown_within c.self.inside.setup c.self.inside.history c.reserve.new.self c.self.invariant.3 c.reserve.ensures.same c.reserve.ensures.within) in
    let next = account-own c.self.inside.setup c.self.inside.history.items (Steal c.args.colour slot.owner c.args.to) c.args.colour refl in
    rw (← c.self.view_is, c.steal-stolen.ensures.reply) (record {
      allowed = stolen.0;
      same_setup = refl;
      same_shard = refl;
      history = p.history;
      lanes = map-set_same lane_of slots c.place_of-place.result _ slot (ap lane_of c.steal-stolen.ensures.slot ∙ ap lane_of c.index_mut-slot.ensures.value);
      started = rw p.history (a.stands.started ∙ ap (λ (s : ColourAccount). s.begun) (sym next));
      worth = rw p.history (ap sum a.stands.weights ∙ sum-map (weight c.self.inside.setup) (queued_of c.self.inside.history.items c.args.colour) ∙ ap (λ (s : ColourAccount). sum_by (weight c.self.inside.setup) (drop s.begun s.registered)) (sym next));
    })

pub returns-clause-kept : goal.returns-clause-kept
returns-clause-kept g c = kept_contents (invariant_of-self-2 g c).0

pub returns-clause-frame : goal.returns-clause-frame
returns-clause-frame g c =
    let slot = c.index_mut-slot.result.now in
    rw (← c.self.view_is) (record { same_setup = refl; same_shard = refl; same_givens = givens_set c.self.inside.slots.items _ c.steal-stolen.new.self slot (ap (λ b. b.given.value) c.steal-stolen.ensures.slot ∙ ap (λ b. b.given.value) c.index_mut-slot.ensures.value) })

pub returns-then-from-pinned-clause-err : goal.returns-then-from-pinned-clause-err
returns-then-from-pinned-clause-err g c = record { same_setup = refl; same_shard = refl; history = refl; lanes = refl }

pub returns-then-from-pinned-clause-spare_left : goal.returns-then-from-pinned-clause-spare_left
returns-then-from-pinned-clause-spare_left g c = omega arith

pub returns-then-from-pinned-clause-spare_stays : goal.returns-then-from-pinned-clause-spare_stays
returns-then-from-pinned-clause-spare_stays g c = omega arith

pub returns-then-from-pinned-clause-frame : goal.returns-then-from-pinned-clause-frame
returns-then-from-pinned-clause-frame g c = record { same_setup = refl; same_shard = refl; same_givens = refl }

pub returns-in-Some-clause-err : goal.returns-in-Some-clause-err
returns-in-Some-clause-err g c =
    let a = asked g (goal.at.returns-in-Some-clause-err g c).After-no_steal in
    rw (← c.self.view_is) (record { same_setup = refl; same_shard = refl; history = refl; lanes = ap (map lane_of) a.same })

pub returns-in-Some-clause-spare_left : goal.returns-in-Some-clause-spare_left
returns-in-Some-clause-spare_left g c = rw (← c.self.view_is) (omega arith)

pub returns-in-Some-clause-spare_stays : goal.returns-in-Some-clause-spare_stays
returns-in-Some-clause-spare_stays g c = rw (← c.self.view_is) (omega arith)

pub returns-in-Some-clause-frame : goal.returns-in-Some-clause-frame
returns-in-Some-clause-frame g c =
    let a = asked g (goal.at.returns-in-Some-clause-frame g c).After-no_steal in
    rw (← c.self.view_is) (record { same_setup = refl; same_shard = refl; same_givens = ap (λ s. map (λ lane. lane.given) (map lane_of s)) a.same })

pub returns-in_default-reserve-clause-err : goal.returns-in_default-reserve-clause-err
returns-in_default-reserve-clause-err g c =
    let a = asked g (goal.at.returns-in_default-reserve-clause-err g c).After-no_steal in
    rw (← c.self.view_is) (record { same_setup = refl; same_shard = refl; history = ap (λ h. h.items) c.reserve.ensures.same; lanes = ap (map lane_of) a.same })

pub returns-in_default-reserve-clause-spare_left : goal.returns-in_default-reserve-clause-spare_left
returns-in_default-reserve-clause-spare_left g c =
    let same = ap (λ h. length h.items) c.reserve.ensures.same in
    let more = c.reserve.ensures.not_lower in
    rw (← c.self.view_is) (omega (arith, same, more))

pub returns-in_default-reserve-clause-spare_stays : goal.returns-in_default-reserve-clause-spare_stays
returns-in_default-reserve-clause-spare_stays g c =
    let same = ap (λ h. length h.items) c.reserve.ensures.same in
    let more = c.reserve.ensures.not_lower in
    rw (← c.self.view_is) (omega (arith, same, more))

pub returns-in_default-reserve-clause-frame : goal.returns-in_default-reserve-clause-frame
returns-in_default-reserve-clause-frame g c =
    let a = asked g (goal.at.returns-in_default-reserve-clause-frame g c).After-no_steal in
    rw (← c.self.view_is) (record { same_setup = refl; same_shard = refl; same_givens = ap (λ s. map (λ lane. lane.given) (map lane_of s)) a.same })

pub returns-clause-spare_left : goal.returns-clause-spare_left
returns-clause-spare_left g c =
    let p = pushed g (goal.at.returns-clause-spare_left g c).After-push in
    let longer : length c.push.new.self.items ≡ length c.self.inside.history.items + 1 = ap length p.history ∙ length-append c.self.inside.history.items (Steal c.args.colour c.index_mut-slot.result.now.owner c.args.to ∷ []) in
    let room = ap (λ h. h.most) c.push.ensures in
    let more = c.reserve.ensures.not_lower in
    rw (← c.self.view_is) (omega (arith, longer, room, more))

pub overflow_add-self-inside : goal.overflow_add-self-inside
overflow_add-self-inside g c = let fit = entries_fit c.self.invariant.0 in omega (arith, fit)

pub push-requires : goal.push-requires
push-requires g c = let room = c.in-Ok.ensures.room in omega (arith, room)

pub returns-then-from-pinned-clause-refusal : goal.returns-then-from-pinned-clause-refusal
returns-then-from-pinned-clause-refusal g c = rw (← c.self.view_is) (omega (arith, c.pinned.ensures.value, c.from.ensures, c.if-from-pinned.true), refl)

pub returns-then-from-pinned-clause-spare : goal.returns-then-from-pinned-clause-spare
returns-then-from-pinned-clause-spare g c some same = cc

-- a slot that is asked never refuses for want of memory
never_memory : (own busy some dear : Bool) (core worth count : ℕ) (refusal : NoSteal)
    → (if own then Some Own else (if busy then Some (steals.Busy core) else (if some then (if dear then None else Some (Cheap worth)) else Some (steals.Empty count)))) ≡ Some refusal → refusal ≡ steals.Memory → ⊥
never_memory true busy some dear core worth count refusal is same = cc
never_memory false true some dear core worth count refusal is same = cc
never_memory false false true true core worth count refusal is same = cc
never_memory false false true false core worth count refusal is same = cc
never_memory false false false dear core worth count refusal is same = cc

pub returns-in-Some-clause-spare : goal.returns-in-Some-clause-spare
returns-in-Some-clause-spare g c some same =
    let slot = c.index_mut-slot.result.now in
    never_memory (c.args.to == slot.owner) (is_none slot.home) (nat_lt 0 (length slot.queue.events)) (nat_lt c.steal_cost.result (sum slot.queue.weights)) slot.core (sum slot.queue.weights) (registered_in slot.queue) c.in-Some.refusal (sym c.no_steal.ensures ∙ c.in-Some.is) same

use Rattle.std.proofs.Common.{◌≡◌, ◌≤◌, ◌+◌, ◌*◌, ◌++◌, ◌∷◌, [], ℕ, length, subst, ap, ◌∙◌, sym, arith, length-append, append_assoc, append-nil}
use Rattle.std.proofs.lemmas.List.{nil_from_length}
use Rattle.std.specs.Prelude.{slice_get}
use Rattle.std.specs.Vec.Iter.{into_iter_items}
use Rattle.mely_history.specs.Setup.{shape_of, colours_of}
use Rattle.mely_shard.specs.Shard.{IsInitialShard, AreInitialStates}
use Rattle.mely_weave.proofs.Wholes.DealLemmas.{both_push, each_popped, seam_at}
use Rattle.mely_weave.proofs.shards_room.fill_each.Goals as goal

pub loop-states-preserved : goal.loop-states-preserved
loop-states-preserved g c =
    let at = c.loop-states.invariant in
    let states = c.in-Some.states in
    let steps : into_iter_items c.loop-states.states-iterator ≡ states ∷ into_iter_items c.next.new.self = c.in-Some.ensures.steps.0 in
    let short = ap length steps in
    let left = at.left in
    let gone = c.in-Some.ensures.steps.1 in
    let longer : length (c.loop-states.yielded ++ states ∷ []) ≡ length c.loop-states.yielded + 1 = length-append c.loop-states.yielded (states ∷ []) in
    let number = at.number in
    let many = at.many in
    let pushed = c.push_reserved.ensures.items in
    record {
      split = append_assoc c.loop-states.yielded (states ∷ []) _ ∙ rw (← steps) at.split;
      left = omega (arith, left, short, gone);
      number = omega (arith, number, longer);
      room = let room = at.room in let kept = c.push_reserved.ensures.capacity in let len = c.push_reserved.ensures.len in omega (arith, room, kept, len, short);
      rooms_left = let left = at.rooms_left in let popped = c.in-Some-pop.ensures.items in let one = length-append c.pop.new.self.items (c.in-Some-pop.room ∷ []) in let gone = ap length popped in omega (arith, left, gone, one, short);
      rooms = (each_popped (λ one. colours_of c.args.setup.now ≤ one.colours * (shape_of c.args.setup.now).shards) c.loop-states.rooms.items c.pop.new.self.items c.in-Some-pop.room c.in-Some-pop.ensures.items at.rooms).1;
      many = ap length pushed ∙ length-append c.loop-states.shards.items (c.in_room.result ∷ []) ∙ omega (arith, many, longer);
      first = rw pushed (both_push (λ shard pile has. IsInitialShard c.args.setup.now shard pile.items has) c.loop-states.yielded c.loop-states.shards.items states c.in_room.result c.loop-states.number (sym number) (many ∙ sym number) at.first c.in_room.ensures.made);
    }

pub in_room-requires-clause-first : goal.in_room-requires-clause-first
in_room-requires-clause-first g c =
    let at = c.loop-states.invariant in
    let steps : into_iter_items c.loop-states.states-iterator ≡ c.in-Some.states ∷ into_iter_items c.next.new.self = c.in-Some.ensures.steps.0 in
    let there = ap (λ piles. slice_get piles (length c.loop-states.yielded)) (sym at.split ∙ ap (λ rest. c.loop-states.yielded ++ rest) steps) ∙ seam_at c.loop-states.yielded c.in-Some.states (into_iter_items c.next.new.self) in
    subst (λ (n : ℕ). AreInitialStates g.S.Trail c.args.setup.now n c.in-Some.states.items) (sym at.number) (c.requires.first (length c.loop-states.yielded) c.in-Some.states there)

pub in_room-requires-clause-room : goal.in_room-requires-clause-room
in_room-requires-clause-room g c =
    let at = c.loop-states.invariant in
    let steps : into_iter_items c.loop-states.states-iterator ≡ c.in-Some.states ∷ into_iter_items c.next.new.self = c.in-Some.ensures.steps.0 in
    let there = ap (λ piles. slice_get piles (length c.loop-states.yielded)) (sym at.split ∙ ap (λ rest. c.loop-states.yielded ++ rest) steps) ∙ seam_at c.loop-states.yielded c.in-Some.states (into_iter_items c.next.new.self) in
    c.requires.few (length c.loop-states.yielded) c.in-Some.states there c.in-Some-pop.room.colours
    (each_popped (λ one. colours_of c.args.setup.now ≤ one.colours * (shape_of c.args.setup.now).shards) c.loop-states.rooms.items c.pop.new.self.items c.in-Some-pop.room c.in-Some-pop.ensures.items at.rooms).0

pub returns-clause-first : goal.returns-clause-first
returns-clause-first g c =
    let at = c.loop-states.invariant in
    let none = c.in-None.ensures.steps in
    let empty : into_iter_items c.loop-states.states-iterator ≡ [] = nil_from_length _ (sym at.left ∙ none.0) in
    let all : c.loop-states.yielded ≡ c.args.by_shard.items = sym (append-nil c.loop-states.yielded) ∙ rw empty at at.split in
    λ shard pile has pile_at has_at. at.first shard pile has (ap (λ piles. slice_get piles shard) all ∙ pile_at) has_at

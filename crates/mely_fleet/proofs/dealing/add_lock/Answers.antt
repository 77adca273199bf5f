use Rattle.std.proofs.Common.{◌≡◌, ◌<◌, ◌++◌, ◌∷◌, [], length, get_or, subst, sym, arith}
use Rattle.std.proofs.lemmas.List.Elements.{All-get_or}
use Rattle.mely_lock.specs.Words.{front, IsPassOf, IsOutside}
use Rattle.mely_weave.proofs.Wholes.GatherLemmas.{get_there}
use Rattle.mely_fleet.specs.Dealing.{IsInitialRow}
use Rattle.mely_fleet.proofs.OpeningLemmas.{row_grow}
use Rattle.mely_fleet.proofs.dealing.add_lock.Goals as goal

pub returns-clause-added : goal.returns-clause-added
returns-clause-added g c = record {
  lock = c.in_ok-lock.lock;
  behind = c.push_reserved.ensures.items;
  framed = c.in_ok-lock.ensures.frame;
  counted = c.in_ok-lock.ensures.count.0;
}

pub returns-clause-rows : goal.returns-clause-rows
returns-clause-rows g c = λ n d low first.
    let lock = c.in_ok-lock.lock in
    let dealt = c.in_ok-lock.dealt in
    let made = c.in_ok-lock.ensures in
    let many = c.requires.many in
    let low_rows : n < length c.args.rows.now.items = omega (arith, low, many) in
    let dealt_many = made.count.1 in
    let low_dealt : n < length dealt.items = omega (arith, low, dealt_many) in
    let one = get_there dealt.items n low_dealt in
    rw c.push_reserved.ensures.items (subst (λ row. IsInitialRow g.V.Kept.frame_of (c.args.locks.now.items ++ lock ∷ []) n row) (sym (c.hand_in.ensures.each n d one.0 low_rows))
    (row_grow g.V.Kept.frame_of c.args.locks.now.items n (get_or c.args.rows.now.items n d).items first lock (get_or dealt.items n one.0)
    (All-get_or (λ p. IsPassOf g.V.Kept.frame_of lock p × IsOutside p × (front p ≡ [])) dealt.items n one.0 low_dealt made.each) (made.numbers n one.0 low)))

pub hand_in-requires-clause-room : goal.hand_in-requires-clause-room
hand_in-requires-clause-room g c = λ n d low. let many = c.requires.many in c.requires.row_room n d (omega (arith, low, many))

pub returns-clause-row_len : goal.returns-clause-row_len
returns-clause-row_len g c = λ n d low. let many = c.requires.many in c.hand_in.ensures.len n d (omega (arith, low, many))

pub returns-clause-row_capacity : goal.returns-clause-row_capacity
returns-clause-row_capacity g c = λ n d low. let many = c.requires.many in c.hand_in.ensures.capacity n d (omega (arith, low, many))

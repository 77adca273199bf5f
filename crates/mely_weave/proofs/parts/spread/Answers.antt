use Rattle.std.proofs.Common.{◌≡◌, ◌-◌, ◌<◌, ◌≤◌, ◌%◌, ◌∷◌, ℕ, List, Some, [], length, take, drop, ap, ◌∙◌, subst, sym, arith}
use Rattle.std.proofs.lemmas.List.{reverse-append}
use Rattle.std.proofs.lemmas.Option.{slice_get-get_or}
use Rattle.std.specs.Prelude.{slice_get, reverse}
use Rattle.mely_weave.specs.Dealing.{AreDealt}
use Rattle.mely_weave.proofs.Wholes.SpreadLemmas.{were_dealt, pile_size, dealt_last, dealt_less, last_of}
use Rattle.mely_weave.proofs.parts.spread.Goals as goal
use Rattle.mely_weave.proofs.parts.spread.Goals.{After-len-shards, After-index_mut, After-reverse}

-- a list that was dealt to the shards
record Given (g : _) (c : After-len-shards g) : Type 0 where
  pub some : 1 ≤ c.len-shards.result
  pub all : List g.row.T.Denot
  pub many : length all ≡ c.args.colours
  pub dealt : AreDealt (λ pile. pile.items) c.len-shards.result all c.args.by_shard.items

given_by : (g : _) (c : After-len-shards g) → c.len-shards.result ≡ length c.args.by_shard.items → Given g c
given_by g c shards =
    let some : 1 ≤ c.len-shards.result = let s = c.requires.some in omega (arith, shards, s) in
    let were = were_dealt (λ pile. pile.items) c.len-shards.result some c.args.colours c.args.by_shard.items (sym shards) (rw shards c.requires.full) in
    record { some = some; all = were.all; many = were.many; dealt = were.dealt }

-- the pile that is taken from
there : (g : _) (c : After-index_mut g) → 1 ≤ c.len-shards.result → length c.loop-left.by_shard.items ≡ c.len-shards.result → slice_get c.loop-left.by_shard.items ((c.loop-left.left - 1) % c.len-shards.result) ≡ Some c.index_mut.result.now
there g c some many =
    let low : (c.loop-left.left - 1) % c.len-shards.result < length c.loop-left.by_shard.items = omega (arith, many, some) in
    slice_get-get_or c.loop-left.by_shard.items ((c.loop-left.left - 1) % c.len-shards.result) c.index_mut.result.now low ∙ ap (λ pile. Some pile) (sym c.index_mut.ensures.value)

-- in the end all of it was moved
moved : (g : _) (c : After-reverse g) (all : List g.row.T.Denot) → length all ≡ c.args.colours → AreDealt (λ pile. pile.items) c.len-shards.result all c.args.by_shard.items → c.reverse.new.self.items ≡ all
moved g c all many dealt =
    let none : c.loop-left.left ≡ 0 = let test = c.loop-left-test.false in omega (arith, test) in
    c.reverse.ensures.items ∙ c.loop-left.invariant.done all many dealt ∙ ap (λ k. drop k all) none

pub index_mut-requires : goal.index_mut-requires
index_mut-requires g c =
    let given = given_by g (goal.at.index_mut-requires g c).After-len-shards c.loop-left.invariant.shards in
    let now = c.loop-left.invariant.dealt given.all given.many given.dealt in
    omega (arith, now.many, c.loop-left.by_shard.ok.0, given.some)

pub unreachable-requires : goal.unreachable-requires
unreachable-requires g c =
    let given = given_by g (goal.at.unreachable-requires g c).After-len-shards c.loop-left.invariant.shards in
    let now = c.loop-left.invariant.dealt given.all given.many given.dealt in
    let pile = there g (goal.at.unreachable-requires g c).After-index_mut given.some now.many in
    let below = c.loop-left.invariant.below in
    let last = last_of given.all c.loop-left.left c.loop-left-test.true (let all = given.many in omega (arith, below, all)) in
    let size = pile_size (λ pile. pile.items) c.len-shards.result given.some (take (c.loop-left.left - 1) given.all) c.loop-left.by_shard.items c.index_mut.result.now last.x (c.loop-left.left - 1) last.many (rw last.split at now) pile in
    let none = c.in_default.ensures.cases.0 in
    let length_is = c.index_mut.result.now.ok.0 in
    omega (arith, size, none, length_is)

pub loop-left-preserved : goal.loop-left-preserved
loop-left-preserved g c =
    let given = given_by g (goal.at.loop-left-preserved g c).After-len-shards c.loop-left.invariant.shards in
    let now = c.loop-left.invariant.dealt given.all given.many given.dealt in
    let pile = there g (goal.at.loop-left-preserved g c).After-index_mut given.some now.many in
    let below = c.loop-left.invariant.below in
    let last = c.in-Some.last in
    let next = λ (all : List g.row.T.Denot) (all_many : length all ≡ c.args.colours). last_of all c.loop-left.left c.loop-left-test.true (omega (arith, below, all_many)) in
    let pushed = c.push_reserved.ensures.items in
    record {
      below = omega (arith, below);
      room = let room = c.loop-left.invariant.room in let test = c.loop-left-test.true in let len = c.push_reserved.ensures.len in let kept = c.push_reserved.ensures.capacity in omega (arith, room, test, len, kept);
      shards = c.loop-left.invariant.shards;
      dealt = λ all all_many dealt.
          let end = next all all_many in
          dealt_less (λ pile. pile.items) c.len-shards.result given.some (take (c.loop-left.left - 1) all) c.loop-left.by_shard.items c.index_mut.result.now end.x (c.loop-left.left - 1) end.many
          (rw end.split at (c.loop-left.invariant.dealt all all_many dealt)) pile c.pop.new.self last c.in-Some.ensures.items;
      done = λ all all_many dealt.
          let end = next all all_many in
          let is : last ≡ end.x = dealt_last (λ pile. pile.items) c.len-shards.result given.some (take (c.loop-left.left - 1) all) c.loop-left.by_shard.items c.index_mut.result.now end.x (c.loop-left.left - 1) end.many
          (rw end.split at (c.loop-left.invariant.dealt all all_many dealt)) pile c.pop.new.self last c.in-Some.ensures.items in
          ap reverse pushed ∙ reverse-append c.loop-left.by_colour.items (last ∷ []) ∙ ap (λ xs. last ∷ xs) (c.loop-left.invariant.done all all_many dealt) ∙ ap (λ x. x ∷ drop c.loop-left.left all) is ∙ sym end.behind;
    }

pub returns-clause-many : goal.returns-clause-many
returns-clause-many g c =
    let given = given_by g (goal.at.returns-clause-many g c).After-len-shards c.loop-left.invariant.shards in
    ap length (moved g (goal.at.returns-clause-many g c).After-reverse given.all given.many given.dealt) ∙ given.many

pub returns-clause-dealt : goal.returns-clause-dealt
returns-clause-dealt g c =
    let given = given_by g (goal.at.returns-clause-dealt g c).After-len-shards c.loop-left.invariant.shards in
    subst (λ (k : ℕ). AreDealt (λ pile. pile.items) k c.reverse.new.self.items c.args.by_shard.items) c.loop-left.invariant.shards (subst (λ (xs : List g.row.T.Denot). AreDealt (λ pile. pile.items) c.len-shards.result xs c.args.by_shard.items) (sym (moved g (goal.at.returns-clause-dealt g c).After-reverse given.all given.many given.dealt)) given.dealt)

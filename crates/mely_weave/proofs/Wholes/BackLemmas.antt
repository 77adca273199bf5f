-- What shards in which nothing was registered give back.
use Rattle.std.proofs.Common.{◌≡◌, ℕ, ◌+◌, ◌*◌, ◌≤◌, ◌/◌, ◌%◌, List, [], ◌∷◌, Option, None, Some, length, map, refl, ap, sym, ◌∙◌, subst, arith}
use Rattle.std.proofs.lemmas.List.{length-map}
use Rattle.std.proofs.lemmas.Nat.{div-add-mod'}
use Rattle.std.proofs.lemmas.Option.{slice_get_within, same_Some}
use Rattle.std.specs.Prelude.{slice_get}
use Rattle.mely_history.specs.declared.setup.Setup.{Setup}
use Rattle.mely_history.specs.History.{IsRunning}
use Rattle.mely_shard.specs.Shard.{ShardState, ColourState, IsInitialShard, initial_lane, givens}
use Rattle.mely_weave.specs.Dealing.{AreDealt}
use Rattle.mely_weave.specs.Spreading.{AreFull, IsAtRest}
use Rattle.mely_weave.proofs.Wholes.DealLemmas.{within_both}
use Rattle.mely_weave.proofs.Wholes.GatherLemmas.{get_there}
use Rattle.mely_weave.proofs.Wholes.PartsLemmas.{get_same}

-- the elements that are there
abbrev somes : {A : Type 0} → List (Option A) → List A
somes [] = []
somes (None ∷ xs) = somes xs
somes (Some x ∷ xs) = x ∷ somes xs

somes_all : {A : Type 0} (xs : List A) → somes (map (λ x. Some x) xs) ≡ xs
somes_all [] = refl
somes_all (x ∷ xs) = ap (λ rest. x ∷ rest) (somes_all xs)

initial_states : {S : Type 0} (P : Type 0) (xs : List S) → map (λ (lane : ColourState S P). lane.state) (map (λ x. initial_lane {S = S} {P = P} x) xs) ≡ map (λ x. Some x) xs
initial_states P [] = refl
initial_states P (x ∷ xs) = ap (λ rest. Some x ∷ rest) (initial_states P xs)

-- of what is dealt, each shard has one for each of its own
pub full_of_dealt : {X Y : Type 0} (items : Y → List X) (shards colours : ℕ) (all : List X) (piles : List Y) → length all ≡ colours → AreDealt items shards all piles → AreFull items shards colours piles
full_of_dealt items shards colours all piles many dealt shard pile at i = (
  (λ low. let there = within_both (items pile) all i (i * shards + shard) (dealt.each shard pile at i) low in omega (arith, there, many)),
  (λ low. within_both all (items pile) (i * shards + shard) i (sym (dealt.each shard pile at i)) (omega (arith, low, many))),
)

-- lists that are dealt to the same piles are one
pub dealt_one : {X Y : Type 0} (items : Y → List X) (shards : ℕ) (some : 1 ≤ shards) (xs ys : List X) (piles : List Y) → AreDealt items shards xs piles → AreDealt items shards ys piles → (c : ℕ) → slice_get xs c ≡ slice_get ys c
dealt_one items shards some xs ys piles one two c =
    let pile = get_there piles (c % shards) (let many = one.many in omega (arith, some, many)) in
    ap (slice_get xs) (sym (div-add-mod' c shards)) ∙ sym (one.each (c % shards) pile.0 pile.1 (c / shards)) ∙ two.each (c % shards) pile.0 pile.1 (c / shards) ∙ ap (slice_get ys) (div-add-mod' c shards)

module _ {S P Y : Type 0} (items : Y → List S) (setup : Setup) (piles : List Y) (shards : List (ShardState S P)) (first : (shard : ℕ) (has : ShardState S P) → slice_get shards shard ≡ Some has → IsInitialShard setup shard (givens has) has) where
  -- no colour runs
  pub initial_rest : (shard : ℕ) (has : ShardState S P) → slice_get shards shard ≡ Some has → IsAtRest has
  initial_rest shard has at c own runs = let none : IsRunning [] c = subst (λ h. IsRunning h c) (first shard has at).no_entry runs in omega (arith, none)

  module _ (gave : map (λ pile. map (λ state. Some state) (items pile)) piles ≡ map (λ (has : ShardState S P). map (λ (lane : ColourState S P). lane.state) has.lanes) shards) where
    pub back_count : length piles ≡ length shards
    back_count = sym (length-map piles (λ pile. map (λ state. Some state) (items pile))) ∙ ap length gave ∙ length-map shards (λ (has : ShardState S P). map (λ (lane : ColourState S P). lane.state) has.lanes)

    -- the pile of a shard is what it was given
    pub record IsBack (shard : ℕ) (has : ShardState S P) : Type 0 where
      pub pile : Y
      pub there : slice_get piles shard ≡ Some pile
      pub is : items pile ≡ givens has

    pub back_of : (shard : ℕ) (has : ShardState S P) → slice_get shards shard ≡ Some has → IsBack shard has
    back_of shard has at =
        let mine = get_same (λ y. map (λ state. Some state) (items y)) (λ (h : ShardState S P). map (λ (lane : ColourState S P). lane.state) h.lanes) piles shards shard has gave at in
        record {
          pile = mine.0;
          there = mine.1.0;
          is = sym (somes_all (items mine.0)) ∙ ap somes (mine.1.1 ∙ ap (map (λ (lane : ColourState S P). lane.state)) (first shard has at).lanes ∙ initial_states P (givens has)) ∙ somes_all (givens has);
        }

    -- the piles have one for each of their shards' own
    pub back_full : (n colours : ℕ) → AreFull givens n colours shards → AreFull items n colours piles
    back_full n colours full shard pile at i =
        let has = get_there shards shard (let low = slice_get_within piles shard pile at in omega (arith, low, back_count)) in
        let back = back_of shard has.0 has.1 in
        let is : items pile ≡ givens has.0 = ap items (same_Some pile back.pile (sym at ∙ back.there)) ∙ back.is in
        let many = ap length is in
        let whole = full shard has.0 has.1 i in
        ((λ low. whole.0 (omega (arith, low, many))), (λ low. let there = whole.1 low in omega (arith, there, many)))

    -- what is dealt to the piles is dealt to the shards
    pub back_dealt : (n : ℕ) (all : List S) → length shards ≡ n → AreDealt items n all piles → AreDealt givens n all shards
    back_dealt n all many dealt = record {
      many = many;
      each = λ shard has at i. let back = back_of shard has at in ap (λ xs. slice_get xs i) (sym back.is) ∙ dealt.each shard back.pile back.there i;
    }

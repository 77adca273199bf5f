-- The pieces of a weave at first are the given states, each on its colour.
use Rattle.std.proofs.Common.{◌≡◌, ◌<◌, ◌≤◌, ◌+◌, ◌*◌, ◌/◌, ◌%◌, ℕ, zero, suc, List, [], ◌∷◌, ◌++◌, Option, None, Some, length, map, append_assoc, arith, refl, sym, ap, subst, ◌∙◌, inl, inr, length-append}
use Rattle.std.specs.Prelude.{slice_get, slice_set, flat_map, option_map, IsPermutation}
use Rattle.std.proofs.lemmas.Bool.{cases_lt}
use Rattle.std.proofs.lemmas.Option.{none-some, same_Some, slice_get_within, slice_get_past, slice_get-map}
use Rattle.std.proofs.lemmas.Nat.{div-add-mod', mod-mul-add, div-mul-add}
use Rattle.std.proofs.lemmas.List.{append-nil}
use Rattle.std.proofs.lemmas.List.Sorted.{IsPermutation-cons, IsPermutation-append_right, IsPermutation-middle, IsPermutation-to_front}
use Rattle.mely_event.specs.declared.colour.Colour.{Colour}
use Rattle.mely_event.specs.declared.event.Event.{Event}
use Rattle.mely_event.specs.declared.trail.Trail.{Ghosts as TrailWords}
use Rattle.mely_history.specs.declared.setup.Setup.{Setup}
use Rattle.mely_history.specs.Setup.{shape_of, colours_of}
use Rattle.mely_shard.specs.Shard.{ShardState, ColourState, initial_lane, givens, colour_at, place, lane_at}
use Rattle.mely_worker.specs.Worker.{WorkerState}
use Rattle.mely_weave.specs.Dealing.{AreDealt}
use Rattle.mely_weave.specs.Side.{shard_of}
use Rattle.mely_weave.specs.Lanes.{lane_in}
use Rattle.mely_weave.specs.StandsWell.{StandsWell}
use Rattle.mely_weave.specs.Weave.{WeaveState}
use Rattle.mely_weave.specs.Making.{IsInitialWeave}
use Rattle.mely_weave.proofs.Entries.SideLemmas.{get_map}
use Rattle.mely_weave.proofs.Wholes.SpreadLemmas.{pile_size, dealt_last, dealt_less}
use Rattle.mely_run.specs.Pieces.{Piece, state_piece, of_lane, of_lanes, of_shard, of_worker, pieces}
use Rattle.mely_run.specs.Pieces.{kept_from}
use Rattle.mely_run.proofs.Lists.ElementsLemmas.{there_of}
use Rattle.mely_run.proofs.Pieces.PermutingLemmas.{same_order, onward, back}

-- the last of a list that isn't empty
record Snoc {A : Type 0} (xs : List A) : Type 0 where
  pub front : List A
  pub last : A
  pub is : xs ≡ front ++ last ∷ []

snoc : {A : Type 0} (x : A) (xs : List A) → Snoc (x ∷ xs)
snoc x [] = record { front = []; last = x; is = refl }
snoc x (y ∷ xs) = let s = snoc y xs in record { front = x ∷ s.front; last = s.last; is = ap (λ l. x ∷ l) s.is }

snoc_of : {A : Type 0} (xs : List A) (n : ℕ) → length xs ≡ n + 1 → Snoc xs
snoc_of [] n e = absurd (omega (arith, e))
snoc_of (x ∷ xs) n e = snoc x xs

size_map : {A B : Type 0} (f : A → B) (xs : List A) → length (map f xs) ≡ length xs
size_map f [] = refl
size_map f (x ∷ xs) = ap suc (size_map f xs)

nothing_at : {A : Type 0} (pile : List A) → ((i : ℕ) → slice_get pile i ≡ None) → pile ≡ []
nothing_at [] none = refl
nothing_at (x ∷ pile) none = absurd (none-some x (sym (none 0)))

-- one thing more was dealt: it is the last of the pile of its shard
module _ {S : Type 0} (shards : ℕ) (some : 1 ≤ shards) (n : ℕ) (front old : List S) (x : S) (piles : List (List S)) (count : length front ≡ n) (dealt : AreDealt (λ pile. pile) shards (front ++ x ∷ []) piles) (there : slice_get piles (n % shards) ≡ Some old)
    (new : List S) (y : S) (is : old ≡ new ++ y ∷ []) where
  less : AreDealt (λ pile. pile) shards front (slice_set piles (n % shards) new)
  less = dealt_less (λ (p : List S). p) shards some front piles old x n count dealt there new y is

  same : y ≡ x
  same = dealt_last (λ (p : List S). p) shards some front piles old x n count dealt there new y is

  size_is : length new ≡ n / shards
  size_is =
      let long = ap length is in
      let parts = length-append new (y ∷ []) in
      let size = pile_size (λ (p : List S). p) shards some front piles old x n count dealt there in
      omega (arith, long, parts, size)

  colour_is : length new * shards + (0 + n % shards) ≡ 0 + length front
  colour_is =
      let first : length new * shards + (0 + n % shards) ≡ n / shards * shards + (0 + n % shards) = ap (λ (k : ℕ). k * shards + (0 + n % shards)) size_is in
      let whole = div-add-mod' n shards in
      omega (arith, first, whole, count)

module _ {S P : Type 0} (shards : ℕ) (some : 1 ≤ shards) where
  -- the states of a shard from a place on
  abbrev pub of_pile : ℕ → ℕ → List S → List (Piece S P)
  of_pile g i [] = []
  of_pile g i (state ∷ pile) = state_piece (record { 0 = i * shards + g }) state ∷ of_pile g (i + 1) pile

  abbrev pub spread : ℕ → List (List S) → List (Piece S P)
  spread g [] = []
  spread g (pile ∷ piles) = of_pile g 0 pile ++ spread (g + 1) piles

  pile_more : (g i : ℕ) (pile : List S) (state : S) → of_pile g i (pile ++ state ∷ []) ≡ of_pile g i pile ++ state_piece (record { 0 = (i + length pile) * shards + g }) state ∷ []
  pile_more g i [] state = ap (λ (n : ℕ). state_piece {S = S} {P = P} (record { 0 = n * shards + g }) state ∷ []) (let e : i ≡ i + 0 = omega arith in e)
  pile_more g i (x ∷ pile) state =
      ap (λ (ps : List (Piece S P)). state_piece (record { 0 = i * shards + g }) x ∷ ps)
      (pile_more g (i + 1) pile state
      ∙ ap (λ (n : ℕ). of_pile g (i + 1) pile ++ state_piece (record { 0 = n * shards + g }) state ∷ []) (let e : (i + 1) + length pile ≡ i + length (x ∷ pile) = omega arith in e))

  kept_more : (n : ℕ) (states : List S) (state : S) → kept_from {S = S} {P = P} n (states ++ state ∷ []) ≡ kept_from n states ++ state_piece (record { 0 = n + length states }) state ∷ []
  kept_more n [] state = ap (λ (k : ℕ). state_piece {S = S} {P = P} (record { 0 = k }) state ∷ []) (let e : n ≡ n + 0 = omega arith in e)
  kept_more n (x ∷ states) state =
      ap (λ (ps : List (Piece S P)). state_piece (record { 0 = n }) x ∷ ps)
      (kept_more (n + 1) states state ∙ ap (λ (k : ℕ). kept_from (n + 1) states ++ state_piece (record { 0 = k }) state ∷ []) (let e : (n + 1) + length states ≡ n + length (x ∷ states) = omega arith in e))

  -- one more in a pile
  spread_more : (g : ℕ) (piles : List (List S)) (k : ℕ) (old new : List S) (state : S) → slice_get piles k ≡ Some old → old ≡ new ++ state ∷ []
      → IsPermutation (spread g piles) (state_piece (record { 0 = length new * shards + (g + k) }) state ∷ spread g (slice_set piles k new))
  spread_more g [] k old new state there e = absurd (none-some old there)
  spread_more g (pile ∷ piles) zero old new state there e =
      let is : pile ≡ new ++ state ∷ [] = same_Some pile old there ∙ e in
      let last : of_pile g 0 pile ≡ of_pile g 0 new ++ state_piece (record { 0 = length new * shards + (g + 0) }) state ∷ [] =
      ap (of_pile g 0) is ∙ pile_more g 0 new state
      ∙ ap (λ (n : ℕ). of_pile g 0 new ++ state_piece (record { 0 = n }) state ∷ []) (let a : (0 + length new) ≡ length new = omega arith in let b : g ≡ g + 0 = omega arith in λ i. a i * shards + b i) in
      onward (same_order (of_pile g 0 pile ++ spread (g + 1) piles) (of_pile g 0 new ++ state_piece (record { 0 = length new * shards + (g + 0) }) state ∷ spread (g + 1) piles)
      (ap (λ (ps : List (Piece S P)). ps ++ spread (g + 1) piles) last ∙ append_assoc (of_pile g 0 new) (state_piece (record { 0 = length new * shards + (g + 0) }) state ∷ []) (spread (g + 1) piles)))
      (IsPermutation-middle (of_pile g 0 new) (state_piece (record { 0 = length new * shards + (g + 0) }) state) (spread (g + 1) piles))
  spread_more g (pile ∷ piles) (suc k) old new state there e =
      let at : (g + 1) + k ≡ g + suc k = omega arith in
      let more = subst (λ (n : ℕ). IsPermutation (spread (g + 1) piles) (state_piece (record { 0 = length new * shards + n }) state ∷ spread (g + 1) (slice_set piles k new))) at (spread_more (g + 1) piles k old new state there e) in
      onward (IsPermutation-append_right (of_pile g 0 pile) (spread (g + 1) piles) (state_piece (record { 0 = length new * shards + (g + suc k) }) state ∷ spread (g + 1) (slice_set piles k new)) more)
      (IsPermutation-middle (of_pile g 0 pile) (state_piece (record { 0 = length new * shards + (g + suc k) }) state) (spread (g + 1) (slice_set piles k new)))

  all_empty : (g : ℕ) (piles : List (List S)) → ((k : ℕ) (pile : List S) → slice_get piles k ≡ Some pile → pile ≡ []) → spread g piles ≡ []
  all_empty g [] none = refl
  all_empty g (pile ∷ piles) none = λ i. of_pile g 0 (none 0 pile refl i) ++ all_empty (g + 1) piles (λ k. none (suc k)) i

  -- so its piece comes beside those of the others
  module _ (n : ℕ) (front old : List S) (x : S) (piles : List (List S)) (count : length front ≡ n) (dealt : AreDealt (λ pile. pile) shards (front ++ x ∷ []) piles) (there : slice_get piles (n % shards) ≡ Some old) (new : List S) (y : S) (is : old ≡ new ++ y ∷ []) where
    abbrev others : List (Piece S P)
    others = spread 0 (slice_set piles (n % shards) new)

    in_pile : IsPermutation (spread 0 piles) (state_piece (record { 0 = 0 + length front }) x ∷ others)
    in_pile =
        subst (λ (k : ℕ). IsPermutation (spread 0 piles) (state_piece (record { 0 = k }) x ∷ others)) (colour_is shards some n front old x piles count dealt there new y is)
        (subst (λ (z : S). IsPermutation (spread 0 piles) (state_piece (record { 0 = length new * shards + (0 + n % shards) }) z ∷ others)) (same shards some n front old x piles count dealt there new y is)
        (spread_more 0 piles (n % shards) old new y there is))

    one_dealt : IsPermutation (kept_from 0 front) others → IsPermutation (kept_from 0 (front ++ x ∷ [])) (spread 0 piles)
    one_dealt rest =
        onward (same_order (kept_from 0 (front ++ x ∷ [])) (kept_from 0 front ++ state_piece (record { 0 = 0 + length front }) x ∷ []) (kept_more 0 front x))
        (onward (IsPermutation-to_front (kept_from 0 front) (state_piece (record { 0 = 0 + length front }) x))
        (onward (IsPermutation-cons (state_piece (record { 0 = 0 + length front }) x) (kept_from 0 front) others rest) (back in_pile)))

  -- states that were dealt to the shards stand there on their colours
  dealt_pieces : (n : ℕ) (all : List S) (piles : List (List S)) → length all ≡ n → AreDealt (λ pile. pile) shards all piles → IsPermutation (kept_from 0 all) (spread 0 piles)
  dealt_pieces zero [] piles many dealt = same_order [] (spread 0 piles) (sym (all_empty 0 piles (λ k pile there. nothing_at pile (λ i. dealt.each k pile there i))))
  dealt_pieces zero (x ∷ all) piles many dealt = absurd (omega (arith, many))
  dealt_pieces (suc n) all piles many dealt =
      let s = snoc_of all n (omega (arith, many)) in
      let count : length s.front ≡ n = let e = ap length s.is in let parts = length-append s.front (s.last ∷ []) in omega (arith, e, parts, many) in
      let dealt_on : AreDealt (λ (pile : List S). pile) shards (s.front ++ s.last ∷ []) piles = subst (λ (l : List S). AreDealt (λ (pile : List S). pile) shards l piles) s.is dealt in
      let pile = there_of piles (n % shards) (let count_piles = dealt.many in omega (arith, count_piles, some)) in
      let last = snoc_of pile.0 (n / shards) (pile_size (λ (p : List S). p) shards some s.front piles pile.0 s.last n count dealt_on pile.1) in
      subst (λ (l : List S). IsPermutation (kept_from 0 l) (spread 0 piles)) (sym s.is)
      (one_dealt n s.front pile.0 s.last piles count dealt_on pile.1 last.front last.last last.is
      (dealt_pieces n s.front (slice_set piles (n % shards) last.front) count (less shards some n s.front pile.0 s.last piles count dealt_on pile.1 last.front last.last last.is)))

-- ---- a weave at first

module _ {S P F : Type 0} (t : TrailWords S F) (fits : F → Colour → Event → Option P → Type 0) (setup : Setup) (states : List S) (weave : WeaveState S P) (first : IsInitialWeave setup states weave) (well : StandsWell t fits weave) (all : length states ≡ colours_of setup) where
  abbrev count : ℕ
  count = (shape_of weave.setup).shards

  some : 1 ≤ (shape_of weave.setup).shards
  some = weave.setup.shards_in.0

  -- the lane at a place of a shard
  lane_is : (g : ℕ) (has : ShardState S P) → slice_get weave.shards g ≡ Some has → (i : ℕ) (state : S) → slice_get states (i * count + g) ≡ Some state → slice_get has.lanes i ≡ Some (initial_lane state)
  lane_is g has there i state at =
      let is = well.shard g has there in
      let low : g < count = let within = slice_get_within weave.shards g has there in let many = well.shards in omega (arith, within, many) in
      let found = first.lane (record { 0 = i * count + g }) state at in
      let shard_is : shard_of weave.setup (record { 0 = i * count + g }) ≡ g = mod-mul-add i count g low in
      let lane : lane_at has (record { 0 = i * count + g }) ≡ Some (initial_lane state) =
      subst (λ (o : Option (ShardState S P)). lane_in o (record { 0 = i * count + g }) ≡ Some (initial_lane state)) (ap (slice_get weave.shards) shard_is ∙ there) found in
      let place_is : place has.setup (record { 0 = i * count + g }) ≡ i = ap (λ (s : Setup). (i * count + g) / (shape_of s).shards) is.of_setup ∙ div-mul-add i count g low in
      ap (slice_get has.lanes) (sym place_is) ∙ lane

  -- a place without a state has no lane, and one with a lane has a state
  below : (g : ℕ) (has : ShardState S P) → slice_get weave.shards g ≡ Some has → (i : ℕ) → i < length has.lanes → i * count + g < length states
  below g has there i low =
      let is = well.shard g has there in
      let one : (colour_at has.setup has.shard i).0 < colours_of has.setup = is.kept.only i low in
      let two : i * count + g < colours_of weave.setup =
      subst (λ (s : Setup). i * (shape_of s).shards + g < colours_of s) is.of_setup (subst (λ (n : ℕ). i * (shape_of has.setup).shards + n < colours_of has.setup) is.numbered one) in
      let same : colours_of weave.setup ≡ colours_of setup = ap colours_of first.of_setup in
      omega (arith, two, same, all)

  abbrev piles : List (List S)
  piles = map givens weave.shards

  given_at : (g : ℕ) (has : ShardState S P) → slice_get weave.shards g ≡ Some has → (i : ℕ) → slice_get (givens has) i ≡ slice_get states (i * count + g)
  given_at g has there i = elim (cases_lt (i * count + g) (length states)) [
    | inl low ↦
        let state = there_of states (i * count + g) low in
        get_map (λ (l : ColourState S P). l.given) has.lanes i (initial_lane state.0) (lane_is g has there i state.0 state.1) ∙ sym state.1
    | inr high ↦
        let none : length has.lanes ≤ i = elim (cases_lt i (length has.lanes)) [
          | inl less ↦ absurd (let under = below g has there i less in omega (arith, under, high))
          | inr more ↦ more
        ] in
        slice_get_past (givens has) i (omega (arith, none, size_map (λ (l : ColourState S P). l.given) has.lanes)) ∙ sym (slice_get_past states (i * count + g) high)
  ]

  dealt : AreDealt (λ (pile : List S). pile) count states piles
  dealt = record {
    many = size_map givens weave.shards ∙ well.shards;
    each = λ g pile at i. by_shard g pile i (slice_get weave.shards g) refl (sym (slice_get-map givens weave.shards g) ∙ at);
  }
    where
      by_shard : (g : ℕ) (pile : List S) (i : ℕ) (found : Option (ShardState S P)) → slice_get weave.shards g ≡ found → option_map givens found ≡ Some pile → slice_get pile i ≡ slice_get states (i * count + g)
      by_shard g pile i None there at = absurd (none-some pile at)
      by_shard g pile i (Some has) there at = ap (λ (p : List S). slice_get p i) (sym (same_Some (givens has) pile at)) ∙ given_at g has there i

  -- the lanes of a shard have the given states
  lanes_pieces : (s : Setup) (g i : ℕ) (lanes : List (ColourState S P)) → ((k : ℕ) (lane : ColourState S P) → slice_get lanes k ≡ Some lane → lane ≡ initial_lane lane.given) → of_lanes s g i lanes ≡ of_pile {S = S} {P = P} (shape_of s).shards (s.shards_in.0) g i (map (λ lane. lane.given) lanes)
  lanes_pieces s g i [] each = refl
  lanes_pieces s g i (lane ∷ lanes) each =
      (λ j. of_lane (colour_at s g i) (each 0 lane refl j) ++ of_lanes s g (i + 1) lanes)
      ∙ ap (λ (ps : List (Piece S P)). state_piece (colour_at s g i) lane.given ∷ ps) (lanes_pieces s g (i + 1) lanes (λ k. each (suc k)))

  lane_first : (g : ℕ) (has : ShardState S P) → slice_get weave.shards g ≡ Some has → (k : ℕ) (lane : ColourState S P) → slice_get has.lanes k ≡ Some lane → lane ≡ initial_lane lane.given
  lane_first g has there k lane at =
      let state = there_of states (k * count + g) (below g has there k (slice_get_within has.lanes k lane at)) in
      let is : lane ≡ initial_lane state.0 = same_Some lane (initial_lane state.0) (sym at ∙ lane_is g has there k state.0 state.1) in
      is ∙ ap initial_lane (sym (ap (λ (l : ColourState S P). l.given) is))

  shard_pieces : (g : ℕ) (has : ShardState S P) → slice_get weave.shards g ≡ Some has → of_shard has ≡ of_pile {S = S} {P = P} count some g 0 (givens has)
  shard_pieces g has there =
      let is = well.shard g has there in
      (λ j. of_lanes (is.of_setup j) (is.numbered j) 0 has.lanes) ∙ lanes_pieces weave.setup g 0 has.lanes (lane_first g has there)

  spread_is : (g : ℕ) (shards : List (ShardState S P)) → ((k : ℕ) (has : ShardState S P) → slice_get shards k ≡ Some has → of_shard has ≡ of_pile {S = S} {P = P} count some (g + k) 0 (givens has)) → flat_map of_shard shards ≡ spread {S = S} {P = P} count some g (map givens shards)
  spread_is g [] each = refl
  spread_is g (has ∷ shards) each =
      let at : g + 0 ≡ g = omega arith in
      λ j. (each 0 has refl ∙ ap (λ (n : ℕ). of_pile {S = S} {P = P} count some n 0 (givens has)) at) j
      ++ spread_is (g + 1) shards (λ k h there. each (suc k) h there ∙ ap (λ (n : ℕ). of_pile {S = S} {P = P} count some n 0 (givens h)) (let e : g + suc k ≡ (g + 1) + k = omega arith in e)) j

  no_worker : (ws : List (WorkerState S P)) → ((k : ℕ) (w : WorkerState S P) → slice_get ws k ≡ Some w → of_worker w ≡ []) → flat_map of_worker ws ≡ []
  no_worker [] none = refl
  no_worker (w ∷ ws) none = λ j. none 0 w refl j ++ no_worker ws (λ k. none (suc k)) j

  -- what an app has in a weave at first is the states that were given
  pub first_pieces : IsPermutation (kept_from 0 states) (pieces weave)
  first_pieces =
      onward (dealt_pieces count some (length states) states piles refl dealt)
      (same_order (spread {S = S} {P = P} count some 0 piles) (pieces weave)
      (sym (spread_is 0 weave.shards (λ k has there. shard_pieces k has there ∙ ap (λ (n : ℕ). of_pile {S = S} {P = P} count some n 0 (givens has)) (let e : k ≡ 0 + k = omega arith in e)))
      ∙ sym (append-nil (flat_map of_shard weave.shards))
      ∙ ap (λ (ps : List (Piece S P)). flat_map of_shard weave.shards ++ ps) (sym (no_worker weave.workers (λ k w there. ap of_worker (first.worker k w there))))))

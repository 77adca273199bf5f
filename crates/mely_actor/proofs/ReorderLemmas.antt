-- Lists of the same elements in another order, by taking them out one after another.
use Rattle.std.proofs.Common.{◌≡◌, List, [], ◌∷◌, ◌++◌, ◌⊎◌, refl, sym, ◌∙◌, ap, subst, inl, inr, append_assoc, append-nil}

module _ {X : Type 0} where
  -- the one has the elements of the other, each as often
  abbrev pub Same : List X → List X → Type 0
  Same [] ys = ys ≡ []
  Same (x ∷ xs) ys = (front back : List X) × (ys ≡ front ++ x ∷ back) × Same xs (front ++ back)

  pub same_all : (xs : List X) → Same xs xs
  same_all [] = refl
  same_all (x ∷ xs) = ([], xs, refl, same_all xs)

  pub same_is : (xs ys zs : List X) → ys ≡ zs → Same xs ys → Same xs zs
  same_is xs ys zs is same = subst (Same xs) is same

  -- of two places in a list the one is before the other
  abbrev Places : List X → List X → List X → X → List X → Type 0
  Places front back first x last = ((between : List X) × (front ≡ first ++ x ∷ between) × (last ≡ between ++ back)) ⊎ ((between : List X) × (first ≡ front ++ between) × (back ≡ between ++ x ∷ last))

  places : (front back first : List X) (x : X) (last : List X) → front ++ back ≡ first ++ x ∷ last → Places front back first x last
  places [] back first x last is = inr (first, refl, is)
  places (y ∷ front) back [] x last is = inl (front, cc, cc)
  places (y ∷ front) back (z ∷ first) x last is = for (places front back first x last cc) where
    for : Places front back first x last → Places (y ∷ front) back (z ∷ first) x last
    for (inl (between, one, other)) = inl (between, let head : y ≡ z = cc in cc, other)
    for (inr (between, one, other)) = inr (between, let head : y ≡ z = cc in cc, other)

  -- what is in the one can be taken out of the other
  abbrev pub Taken : X → List X → List X → Type 0
  Taken x rest ys = (front back : List X) × (ys ≡ front ++ x ∷ back) × Same rest (front ++ back)

  pub taken : (before : List X) (x : X) (after ys : List X) → Same (before ++ x ∷ after) ys → Taken x (before ++ after) ys
  taken [] x after ys same = same
  taken (z ∷ before) x after ys (front, back, is, same) = for (taken before x after (front ++ back) same) where
    for : Taken x (before ++ after) (front ++ back) → Taken x (z ∷ before ++ after) ys
    for (first, last, there, rest) = go (places front back first x last there) where
      go : Places front back first x last → Taken x (z ∷ before ++ after) ys
      go (inl (between, one, other)) = (
        first,
        between ++ z ∷ back,
        is ∙ ap (λ l. l ++ z ∷ back) one ∙ append_assoc first (x ∷ between) (z ∷ back),
        (first ++ between, back, sym (append_assoc first between (z ∷ back)), same_is (before ++ after) (first ++ last) ((first ++ between) ++ back) (ap (λ l. first ++ l) other ∙ sym (append_assoc first between back)) rest),
      )
      go (inr (between, one, other)) = (
        front ++ z ∷ between,
        last,
        is ∙ ap (λ l. front ++ z ∷ l) other ∙ sym (append_assoc front (z ∷ between) (x ∷ last)),
        (front, between ++ last, append_assoc front (z ∷ between) last, same_is (before ++ after) (first ++ last) (front ++ (between ++ last)) (ap (λ l. l ++ last) one ∙ append_assoc front between last) rest),
      )

  pub same_then : (xs ys zs : List X) → Same xs ys → Same ys zs → Same xs zs
  same_then [] ys zs none same = subst (λ l. Same l zs) none same
  same_then (x ∷ xs) ys zs (front, back, is, rest) same =
      let there = taken front x back zs (subst (λ l. Same l zs) is same) in
      (there.0, there.1, there.2, same_then xs (front ++ back) (there.0 ++ there.1) rest there.3)

  -- with others before or behind them
  pub same_before : (zs xs ys : List X) → Same xs ys → Same (zs ++ xs) (zs ++ ys)
  same_before [] xs ys same = same
  same_before (z ∷ zs) xs ys same = ([], zs ++ ys, refl, same_before zs xs ys same)

  pub same_behind : (zs xs ys : List X) → Same xs ys → Same (xs ++ zs) (ys ++ zs)
  same_behind zs [] ys none = subst (λ l. Same zs (l ++ zs)) (sym none) (same_all zs)
  same_behind zs (x ∷ xs) ys (front, back, is, rest) = (
    front,
    back ++ zs,
    ap (λ l. l ++ zs) is ∙ append_assoc front (x ∷ back) zs,
    same_is (xs ++ zs) ((front ++ back) ++ zs) (front ++ (back ++ zs)) (append_assoc front back zs) (same_behind zs xs (front ++ back) rest),
  )

  pub same_turned : (xs ys : List X) → Same (xs ++ ys) (ys ++ xs)
  same_turned [] ys = subst (Same ys) (sym (append-nil ys)) (same_all ys)
  same_turned (x ∷ xs) ys = (ys, xs, refl, same_turned xs ys)

  -- ---- lists that are joined

  abbrev pub joined : List (List X) → List X
  joined [] = []
  joined (xs ∷ more) = xs ++ joined more

  joined-append : (some more : List (List X)) → joined (some ++ more) ≡ joined some ++ joined more
  joined-append [] more = refl
  joined-append (xs ∷ some) more = ap (λ l. xs ++ l) (joined-append some more) ∙ sym (append_assoc xs (joined some) (joined more))

-- lists in another order have the same elements, joined
module _ {X : Type 0} where
  pub same_joined : (some more : List (List X)) → Same some more → Same (joined some) (joined more)
  same_joined [] more none = ap joined none
  same_joined (xs ∷ some) more (front, back, is, rest) =
      let before = joined front in
      let after = joined back in
      let all : joined more ≡ before ++ (xs ++ after) = ap joined is ∙ joined-append front (xs ∷ back) in
      let others : Same (joined some) (before ++ after) = same_is (joined some) (joined (front ++ back)) (before ++ after) (joined-append front back) (same_joined some (front ++ back) rest) in
      let first : Same (xs ++ joined some) ((xs ++ before) ++ after) = same_is (xs ++ joined some) (xs ++ (before ++ after)) ((xs ++ before) ++ after) (sym (append_assoc xs before after)) (same_before xs (joined some) (before ++ after) others) in
      let turned : Same ((xs ++ before) ++ after) ((before ++ xs) ++ after) = same_behind after (xs ++ before) (before ++ xs) (same_turned xs before) in
      same_is (xs ++ joined some) ((before ++ xs) ++ after) (joined more) (append_assoc before xs after ∙ sym all) (same_then (xs ++ joined some) ((xs ++ before) ++ after) ((before ++ xs) ++ after) first turned)

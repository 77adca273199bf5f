-- One element of a list more.
use Rattle.std.proofs.Common.{◌≡◌, ℕ, ◌+◌, ◌<◌, List, ◌∷◌, ◌++◌, length, drop, get_or, sym, ap, ◌∙◌, append_assoc, drop-cons, add-one}
use Rattle.mely_picture.specs.Texts.{numbered}

-- behind an index stand the element there and what is behind that
pub drop_more : {X : Type 0} (xs : List X) (at : ℕ) (d : X) → at < length xs → drop at xs ≡ get_or xs at d ∷ drop (at + 1) xs
drop_more xs at d low = drop-cons xs at d low ∙ ap (λ n. get_or xs at d ∷ drop n xs) (sym (add-one at))

-- the element at an index comes next
pub next_of : {X : Type 0} (xs : List X) (at : ℕ) (x : X) → at < length xs → x ≡ get_or xs at x → drop at xs ≡ x ∷ drop (at + 1) xs
next_of xs at x low is = drop_more xs at x low ∙ ap (λ y. y ∷ drop (at + 1) xs) (sym is)

-- a text to which some is added, of which the rest is still to come
pub text_more : (before more after rest whole : List ℕ) → after ≡ before ++ more → before ++ (more ++ rest) ≡ whole → after ++ rest ≡ whole
text_more before more after rest whole is all = ap (λ t. t ++ rest) is ∙ append_assoc before more rest ∙ all

-- ---- a text to which words and numbers were added

pub start : (old new word : List ℕ) (n m : ℕ) → n ≡ m → new ≡ old ++ numbered word n → new ≡ old ++ numbered word m
start old new word n m same one = one ∙ ap (λ k. old ++ numbered word k) same

pub join : (old mid new some more : List ℕ) → mid ≡ old ++ some → new ≡ mid ++ more → new ≡ old ++ (some ++ more)
join old mid new some more before one = one ∙ ap (λ t. t ++ more) before ∙ append_assoc old some more

pub put : (old mid new some word : List ℕ) (n m : ℕ) → mid ≡ old ++ some → n ≡ m → new ≡ mid ++ numbered word n → new ≡ old ++ (some ++ numbered word m)
put old mid new some word n m before same one = join old mid new some (numbered word m) before (start mid new word n m same one)

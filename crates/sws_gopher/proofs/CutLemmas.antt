-- Where a line ends, by the place of its LF.
use Rattle.std.proofs.Common.{◌≡◌, ℕ, zero, suc, ◌<◌, ◌≤◌, Bool, true, false, cond, eqb, List, [], ◌∷◌, length, take, refl, sym, ap, subst, ◌∙◌, arith, take_all}
use Rattle.std.specs.Prelude.{nat_le, nat_lt, Some, None}
use Rattle.std.specs.List.{position, position_or_len, before_first}
use Rattle.std.proofs.lemmas.Bool.{ltb-false, leb-true, leb-false}
use Rattle.memchr.specs.Find.{Nowhere, NoneBefore, Passes, is_byte}
use Rattle.sws_steps.specs.Protocol.{Cut, Whole, TooLong, NotYet}
use Rattle.sws_gopher.specs.Gopher.{cut_within, cut_of, one_later, input_limit, ends_not}

abbrev IsFeedAt : List ℕ → ℕ → Type 0
IsFeedAt bytes k = Passes (is_byte 10) bytes k

-- the line ends behind the first LF of the bytes that count
found : (limit : ℕ) (bytes : List ℕ) (at : ℕ) → at < length (take limit bytes) → Nowhere (IsFeedAt (take limit bytes)) 0 at → IsFeedAt (take limit bytes) at
    → cut_within limit bytes ≡ Whole (suc at)
found zero bytes at within before there = absurd (omega arith)
found (suc limit) [] at within before there = absurd (omega arith)
found (suc limit) (byte ∷ bytes) zero within before there = ap (λ b. cond b (Whole 1) (one_later (cut_within limit bytes))) there
found (suc limit) (byte ∷ bytes) (suc at) within before there =
    ap (λ b. cond b (Whole 1) (one_later (cut_within limit bytes))) (other (eqb byte 10) refl)
    ∙ ap one_later (found limit bytes at (omega arith) (λ k low high. before (suc k) (omega arith) (omega arith)) there)
  where
    other : (b : Bool) → eqb byte 10 ≡ b → eqb byte 10 ≡ false
    other true is = absurd (before 0 (omega arith) (omega arith) is)
    other false is = is

-- no line ends where there is no LF among these: it is too long, or isn't whole yet
missed : (limit : ℕ) (bytes : List ℕ) → Nowhere (IsFeedAt (take limit bytes)) 0 (length (take limit bytes))
    → (limit ≤ length bytes → cut_within limit bytes ≡ TooLong) × (length bytes < limit → cut_within limit bytes ≡ NotYet)
missed zero bytes none = (λ long. refl, λ few. absurd (omega arith))
missed (suc limit) [] none = (λ long. absurd (omega arith), λ few. refl)
missed (suc limit) (byte ∷ bytes) none =
    let later = missed limit bytes (λ k low high. none (suc k) (omega arith) (omega arith)) in
    let next : cut_within (suc limit) (byte ∷ bytes) ≡ one_later (cut_within limit bytes) = ap (λ b. cond b (Whole 1) (one_later (cut_within limit bytes))) (other (eqb byte 10) refl) in
    (λ long. next ∙ ap one_later (later.0 (omega arith)), λ few. next ∙ ap one_later (later.1 (omega arith)))
  where
    other : (b : Bool) → eqb byte 10 ≡ b → eqb byte 10 ≡ false
    other true is = absurd (none 0 (omega arith) (omega arith) is)
    other false is = is

pub cut-found : (bytes : List ℕ) (at : ℕ) → at < length (take input_limit bytes) → Nowhere (IsFeedAt (take input_limit bytes)) 0 at → IsFeedAt (take input_limit bytes) at
    → cut_of bytes ≡ Whole (suc at)
unfolding cut_of
cut-found bytes at within before there = found input_limit bytes at within before there

pub cut-missed : (bytes : List ℕ) → Nowhere (IsFeedAt (take input_limit bytes)) 0 (length (take input_limit bytes)) → cut_of bytes ≡ ends_not input_limit bytes
unfolding cut_of
cut-missed bytes none = by_test (nat_le input_limit (length bytes)) refl
  where
    by_test : (b : Bool) → nat_le input_limit (length bytes) ≡ b → cut_within input_limit bytes ≡ cond b TooLong NotYet
    by_test true is = (missed input_limit bytes none).0 (leb-true input_limit (length bytes) is)
    by_test false is = (missed input_limit bytes none).1 (leb-false input_limit (length bytes) is)

-- the same of bytes that are those that count
pub line-found : (bytes counted : List ℕ) (at end : ℕ) → counted ≡ take input_limit bytes → NoneBefore (IsFeedAt counted) 0 (length counted) at → IsFeedAt counted at
    → end ≡ suc at → cut_of bytes ≡ Whole end
line-found bytes counted at end is none there next =
    subst (λ t. NoneBefore (IsFeedAt t) 0 (length t) at → IsFeedAt t at → cut_of bytes ≡ Whole (suc at)) (sym is)
    (λ before feed. cut-found bytes at (NoneBefore.high before) (NoneBefore.before before) feed) none there
    ∙ ap (λ n. Whole n) (sym next)

pub line-missed : (bytes counted : List ℕ) → counted ≡ take input_limit bytes → Nowhere (IsFeedAt counted) 0 (length counted) → cut_of bytes ≡ ends_not input_limit bytes
line-missed bytes counted is none =
    subst (λ t. Nowhere (IsFeedAt t) 0 (length t) → cut_of bytes ≡ ends_not input_limit bytes) (sym is) (λ no. cut-missed bytes no) none

few : (limit : ℕ) (bytes : List ℕ) → cut_within limit bytes ≡ NotYet → length bytes < limit
few zero bytes is = cc
few (suc limit) [] is = omega arith
few (suc limit) (byte ∷ bytes) is = by_test (eqb byte 10) is (λ at. few limit bytes at)
  where
    by_cut : (cut : Cut) → cut_within limit bytes ≡ cut → one_later cut ≡ NotYet → (cut_within limit bytes ≡ NotYet → length bytes < limit) → length (byte ∷ bytes) < suc limit
    by_cut (Whole k) at is later = cc
    by_cut TooLong at is later = cc
    by_cut NotYet at is later = let l = later at in omega arith

    by_test : (b : Bool) → cond b (Whole 1) (one_later (cut_within limit bytes)) ≡ NotYet → (cut_within limit bytes ≡ NotYet → length bytes < limit) → length (byte ∷ bytes) < suc limit
    by_test true is later = cc
    by_test false is later = by_cut (cut_within limit bytes) refl is later

-- fewer bytes than count have no line yet
pub not_yet-few : (bytes : List ℕ) → cut_of bytes ≡ NotYet → length bytes < input_limit
unfolding cut_of
not_yet-few bytes is = few input_limit bytes is

-- ---- the place of a byte, and what stands before it

pub before-found : (test : ℕ → Bool) (bytes : List ℕ) (at : ℕ) → Some at ≡ position test bytes → take at bytes ≡ before_first test bytes
before-found test bytes at is = by_test (nat_lt (position_or_len test bytes) (length bytes)) is
  where
    by_test : (b : Bool) → Some at ≡ cond b (Some (position_or_len test bytes)) None → take at bytes ≡ take (position_or_len test bytes) bytes
    by_test true e = let same : at ≡ position_or_len test bytes = cc in ap (λ n. take n bytes) same
    by_test false e = cc

pub before-missed : (test : ℕ → Bool) (bytes : List ℕ) → None ≡ position test bytes → bytes ≡ before_first test bytes
before-missed test bytes is = by_test (nat_lt (position_or_len test bytes) (length bytes)) refl is
  where
    by_test : (b : Bool) → b ≡ nat_lt (position_or_len test bytes) (length bytes) → None ≡ cond b (Some (position_or_len test bytes)) None → bytes ≡ take (position_or_len test bytes) bytes
    by_test true e is = cc
    by_test false e is = sym (take_all (position_or_len test bytes) bytes (ltb-false (position_or_len test bytes) (length bytes) (sym e)))

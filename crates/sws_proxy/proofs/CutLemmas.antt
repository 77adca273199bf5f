-- What stands before and behind a byte, by its first place.
use Rattle.std.proofs.Common.{◌≡◌, ◌≢◌, ℕ, zero, suc, ◌+◌, ◌<◌, Bool, true, false, cond, eqb, List, [], ◌∷◌, length, take, drop, slice_index, refl, ap, ◌∙◌, arith, true-eqb, None, Some}
use Rattle.std.proofs.lemmas.Bool.{eqb-true, eq-eqb, false≢true}
use Rattle.memchr.specs.Find.{IsFirstByte, is_byte}
use Rattle.sws_proxy.specs.Lines.{before, behind}

hit : (byte b : ℕ) (bytes : List ℕ) → b ≡ byte → (before byte (b ∷ bytes) ≡ []) × (behind byte (b ∷ bytes) ≡ bytes)
hit byte b bytes is = by_test (eqb b byte) refl
  where
    by_test : (t : Bool) → t ≡ eqb b byte → (cond t [] (b ∷ before byte bytes) ≡ []) × (cond t bytes (behind byte bytes) ≡ bytes)
    by_test true e = (refl, refl)
    by_test false e = absurd (false≢true (e ∙ eq-eqb b byte is))

miss : (byte b : ℕ) (bytes : List ℕ) → b ≢ byte → (before byte (b ∷ bytes) ≡ b ∷ before byte bytes) × (behind byte (b ∷ bytes) ≡ behind byte bytes)
miss byte b bytes not = by_test (eqb b byte) refl
  where
    by_test : (t : Bool) → t ≡ eqb b byte → (cond t [] (b ∷ before byte bytes) ≡ b ∷ before byte bytes) × (cond t bytes (behind byte bytes) ≡ behind byte bytes)
    by_test true e = absurd (not (true-eqb b byte e))
    by_test false e = (refl, refl)

at_place : (byte : ℕ) (text : List ℕ) (at : ℕ) → at < length text → slice_index text at ≡ byte → ((k : ℕ) → k < at → slice_index text k ≢ byte) → (before byte text ≡ take at text) × (behind byte text ≡ drop (at + 1) text)
at_place byte [] at within is none = absurd (omega arith)
at_place byte (b ∷ text) zero within is none = hit byte b text is
at_place byte (b ∷ text) (suc at) within is none =
    let later = at_place byte text at (omega arith) is (λ k lt. none (suc k) (omega arith)) in
    let here = miss byte b text (none 0 (omega arith)) in
    let next : suc (at + 1) ≡ suc at + 1 = omega arith in
    (here.0 ∙ ap (λ xs. b ∷ xs) later.0, here.1 ∙ later.1 ∙ ap (λ n. drop n (b ∷ text)) next)

nowhere : (byte : ℕ) (text : List ℕ) → ((k : ℕ) → k < length text → slice_index text k ≢ byte) → (before byte text ≡ text) × (behind byte text ≡ [])
nowhere byte [] none = (refl, refl)
nowhere byte (b ∷ text) none =
    let later = nowhere byte text (λ k lt. none (suc k) (omega arith)) in
    let here = miss byte b text (none 0 (omega arith)) in
    (here.0 ∙ ap (λ xs. b ∷ xs) later.0, here.1 ∙ later.1)

pub found : (byte : ℕ) (text : List ℕ) (at : ℕ) → IsFirstByte (is_byte byte) text (Some at) → (before byte text ≡ take at text) × (behind byte text ≡ drop (at + 1) text)
found byte text at first = at_place byte text at first.0.high (eqb-true (slice_index text at) byte first.1) (λ k lt is. first.0.before k (omega arith) lt (eq-eqb (slice_index text k) byte is))

pub missing : (byte : ℕ) (text : List ℕ) → IsFirstByte (is_byte byte) text None → (before byte text ≡ text) × (behind byte text ≡ [])
missing byte text first = nowhere byte text (λ k lt is. first k (omega arith) lt (eq-eqb (slice_index text k) byte is))

-- What is left of an answer's parts.
use Rattle.std.specs.Prelude.{◌==◌}
use Rattle.std.proofs.Common.{◌≡◌, ℕ, zero, suc, ◌-◌, ◌<◌, ◌≤◌, true, false, List, [], ◌∷◌, ◌++◌, length, take, drop, refl, sym, ap, ◌∙◌, arith, append_assoc, take-append-drop, append-nil, length-append}
use Rattle.std.proofs.lemmas.Bool.{eqb-true}
use Rattle.sws_parts.specs.Parts.{PartsState, unsent_bytes, front_of, head_or_body, after_sending}
use Rattle.sws_steps.specs.ConnCore.{is_sent}

drop_nil : (count : ℕ) → drop {A = ℕ} count [] ≡ []
drop_nil zero = refl
drop_nil (suc count) = refl

-- what was taken off the front, and what is left then
pub sent-rest : (parts : PartsState) (count : ℕ) → count ≤ length (front_of parts)
    → take count (front_of parts) ++ unsent_bytes (after_sending count parts) ≡ unsent_bytes parts
sent-rest parts count fits = by_head parts.head parts.body fits
  where
    by_head : (head body : List ℕ) → count ≤ length (head_or_body head body)
        → take count (head_or_body head body) ++ (drop count head ++ drop (count - length head) body) ≡ head ++ body
    by_head [] body fits =
        ap (λ l. take count body ++ (l ++ drop (count - 0) body)) (drop_nil count)
        ∙ ap (λ n. take count body ++ drop n body) (let same : count - 0 ≡ count = omega arith in same)
        ∙ take-append-drop count body
    by_head (byte ∷ head) body fits =
        sym (append_assoc (take count (byte ∷ head)) (drop count (byte ∷ head)) (drop (count - length (byte ∷ head)) body))
        ∙ ap (λ h. h ++ drop (count - length (byte ∷ head)) body) (take-append-drop count (byte ∷ head))
        ∙ ap (λ n. (byte ∷ head) ++ drop n body) (let none : count - length (byte ∷ head) ≡ 0 = omega arith in none)

pub nil_of : (bytes : List ℕ) → length bytes ≡ 0 → bytes ≡ []
nil_of [] e = refl
nil_of (byte ∷ bytes) e = absurd (omega arith)

-- no more is left than before
pub fewer-left : (parts : PartsState) (count : ℕ) → count ≤ length (front_of parts) → length (unsent_bytes (after_sending count parts)) ≤ length (unsent_bytes parts)
fewer-left parts count fits =
    omega (arith, ap length (sent-rest parts count fits), length-append (take count (front_of parts)) (unsent_bytes (after_sending count parts)))

-- nothing is left
pub nothing-rest : (parts : PartsState) → is_sent parts ≡ true → unsent_bytes parts ≡ []
nothing-rest parts e = nil_of (unsent_bytes parts) (eqb-true (length (unsent_bytes parts)) 0 e)

-- something is left
pub something-rest : (parts : PartsState) → is_sent parts ≡ false → 0 < length (unsent_bytes parts)
something-rest parts e = by_bytes (unsent_bytes parts) e
  where
    by_bytes : (bytes : List ℕ) → (length bytes == 0) ≡ false → 0 < length bytes
    by_bytes [] e = cc
    by_bytes (byte ∷ bytes) e = omega arith

-- and then a write has something to offer
pub something-front : (parts : PartsState) → is_sent parts ≡ false → 0 < length (front_of parts)
something-front parts e = by_head parts.head parts.body (something-rest parts e)
  where
    by_head : (head body : List ℕ) → 0 < length (head ++ body) → 0 < length (head_or_body head body)
    by_head [] body some = some
    by_head (byte ∷ head) body some = omega arith

-- what a write offers begins what is left
pub front-first : (parts : PartsState) → (rest : List ℕ) × (unsent_bytes parts ≡ front_of parts ++ rest)
front-first parts = by_head parts.head parts.body
  where
    by_head : (head body : List ℕ) → (rest : List ℕ) × (head ++ body ≡ head_or_body head body ++ rest)
    by_head [] body = ([], sym (append-nil body))
    by_head (byte ∷ head) body = (body, refl)

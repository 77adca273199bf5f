-- A request is read byte by byte.
use Rattle.std.proofs.Common.{◌≡◌, ◌<◌, ◌≤◌, ◌+◌, ℕ, List, ◌∷◌, length, get_or, drop, refl, ◌∙◌, ap, arith, add-one, drop-cons, sym}
use Rattle.std.proofs.lemmas.List.{drop_all}
use Rattle.mely_net.specs.declared.cut.Cut.{Cut}
use Rattle.mely_net.specs.declared.cut.Cut.TheVariants as cut
use Rattle.example_redis.specs.declared.frame.Place.{Place}
use Rattle.example_redis.specs.declared.frame.Next.{Next}
use Rattle.example_redis.specs.declared.frame.Next.TheVariants.{Goes}
use Rattle.example_redis.specs.Frames.{Words, cut_by, cut_from, heard_by, heard_from, longer, next_of, role_of, words_after}

longer-zero : (one : Cut) → longer 0 one ≡ one
longer-zero cut.More = refl
longer-zero (cut.Frame size) = ap cut.Frame (let same : 0 + size ≡ size = omega arith in same)
longer-zero cut.Fault = refl

longer-longer : (count : ℕ) (one : Cut) → longer count (longer 1 one) ≡ longer (count + 1) one
longer-longer count cut.More = refl
longer-longer count (cut.Frame size) = ap cut.Frame (let same : count + (1 + size) ≡ count + 1 + size = omega arith in same)
longer-longer count cut.Fault = refl

pub cut_begins : (bytes : List ℕ) (place : Place) → cut_from place bytes ≡ longer 0 (cut_from place (drop 0 bytes))
cut_begins bytes place = sym (longer-zero (cut_from place bytes))

-- the bytes behind the first ones, by their first
pub cut_turn : (bytes : List ℕ) (place : Place) (i : ℕ) → i < length bytes → cut_from place (drop i bytes) ≡ cut_by (next_of place (get_or bytes i 0)) (λ next. cut_from next (drop (i + 1) bytes))
cut_turn bytes place i low = ap (cut_from place) (let step : drop i bytes ≡ get_or bytes i 0 ∷ drop (i + 1) bytes = rw (add-one, drop-cons bytes i 0) in step)

pub cut_goes : (bytes : List ℕ) (whole : Cut) (place next : Place) (i : ℕ) → i < length bytes → whole ≡ longer i (cut_from place (drop i bytes)) → next_of place (get_or bytes i 0) ≡ Goes next → whole ≡ longer (i + 1) (cut_from next (drop (i + 1) bytes))
cut_goes bytes whole place next i low so is = so ∙ ap (longer i) (cut_turn bytes place i low ∙ ap (λ (n : Next). cut_by n (λ next. cut_from next (drop (i + 1) bytes))) is) ∙ longer-longer i (cut_from next (drop (i + 1) bytes))

pub cut_ends : (bytes : List ℕ) (whole : Cut) (place : Place) (next : Next) (i : ℕ) → i < length bytes → whole ≡ longer i (cut_from place (drop i bytes)) → next_of place (get_or bytes i 0) ≡ next → cut_by next (λ next. cut_from next (drop (i + 1) bytes)) ≡ cut.Frame 1 → whole ≡ cut.Frame (i + 1)
cut_ends bytes whole place next i low so is ends = so ∙ ap (longer i) (cut_turn bytes place i low ∙ ap (λ (n : Next). cut_by n (λ next. cut_from next (drop (i + 1) bytes))) is ∙ ends)

pub cut_more : (bytes : List ℕ) (whole : Cut) (place : Place) (i : ℕ) → length bytes ≤ i → whole ≡ longer i (cut_from place (drop i bytes)) → whole ≡ cut.More
cut_more bytes whole place i high so = so ∙ ap (λ (l : List ℕ). longer i (cut_from place l)) (drop_all i bytes high)

pub heard_turn : (bytes : List ℕ) (place : Place) (words : Words) (i : ℕ) → i < length bytes → heard_from place words (drop i bytes) ≡ heard_by (next_of place (get_or bytes i 0)) (words_after (role_of place (get_or bytes i 0)) (get_or bytes i 0) words) (λ next after. heard_from next after (drop (i + 1) bytes))
heard_turn bytes place words i low = ap (heard_from place words) (let step : drop i bytes ≡ get_or bytes i 0 ∷ drop (i + 1) bytes = rw (add-one, drop-cons bytes i 0) in step)

-- Bytes in pieces.
use Rattle.std.proofs.Common.{◌≡◌, ℕ, zero, suc, ◌+◌, ◌*◌, ◌<◌, ◌≤◌, min, List, [], ◌∷◌, ◌++◌, length, map, take, drop, sym, ap, ◌∙◌, arith, add-one, append-nil}
use Rattle.std.specs.List.{range_with_len, flat_map}
use Rattle.std.specs.Int.{div_ceil}
use Rattle.std.specs.Fork.{slice_chunk}
use Rattle.std.proofs.lemmas.Grind.{div_ceil_times, flat_map-append}
use Rattle.std.proofs.lemmas.List.FromFn.{map-range_with_len_more}
use Rattle.std.proofs.lemmas.List.{take_min, drop_min, drop-drop, length-drop, take_all}
use Rattle.std.proofs.Math.Seq.{take-append_seam, drop-append_seam, take-add}
use Rattle.std.proofs.Math.Nat.{suc-mul, zero-mul, lt_of_mul-lt-mul_right}
use Rattle.sws_bench.specs.BenchScript.{pieces}

-- a front of the rest that is as long as a piece is the piece of this number
pub piece_is : (bytes rest piece behind : List ℕ) (size n : ℕ) → rest ≡ drop (n * size) bytes → rest ≡ piece ++ behind → length piece ≡ min size (length rest) → piece ≡ slice_chunk bytes size n
piece_is bytes rest piece behind size n at parts long =
    sym (take-append_seam piece behind) ∙ ap (take (length piece)) (sym parts) ∙ ap (λ k. take k rest) long ∙ take_min size rest ∙ ap (take size) at

-- and what is behind it is the rest at the next number
pub rest_is : (bytes rest piece behind : List ℕ) (size n : ℕ) → rest ≡ drop (n * size) bytes → rest ≡ piece ++ behind → length piece ≡ min size (length rest) → behind ≡ drop ((n + 1) * size) bytes
rest_is bytes rest piece behind size n at parts long =
    sym (drop-append_seam piece behind) ∙ ap (drop (length piece)) (sym parts) ∙ ap (λ k. drop k rest) long ∙ drop_min size rest ∙ ap (drop size) at
    ∙ drop-drop size (n * size) bytes ∙ ap (λ k. drop k bytes) (sym (suc-mul n size) ∙ ap (λ k. k * size) (sym (add-one n)))

-- where something is left, there is a piece of this number
pub is_below : (bytes : List ℕ) (size n : ℕ) → 0 < size → 0 < length (drop (n * size) bytes) → n + 1 ≤ div_ceil (length bytes) size
is_below bytes size n some left =
    let long = length-drop (n * size) bytes in
    let bound = (div_ceil_times (length bytes) size some).0 in
    let below : n < div_ceil (length bytes) size = lt_of_mul-lt-mul_right size (omega (arith, long, bound)) in
    omega arith

-- where nothing is left, these were all pieces
pub are_all : (bytes : List ℕ) (size n : ℕ) → 0 < size → length (drop (n * size) bytes) ≡ 0 → n ≤ div_ceil (length bytes) size → n ≡ div_ceil (length bytes) size
are_all bytes size n some none few =
    let long = length-drop (n * size) bytes in
    let bound = (div_ceil_times (length bytes) size some).1 in
    let next = suc-mul n size in
    let below : div_ceil (length bytes) size < suc n = lt_of_mul-lt-mul_right size (omega (arith, long, bound, next)) in
    omega arith

-- ---- joined again

joined_front : (bytes : List ℕ) (size n : ℕ) → flat_map (λ part. part) (map (slice_chunk bytes size) (range_with_len 0 n)) ≡ take (n * size) bytes
joined_front bytes size zero = ap (λ k. take k bytes) (sym (zero-mul size))
joined_front bytes size (suc n) =
    let f = slice_chunk bytes size in
    ap (λ k. flat_map (λ part. part) (map f (range_with_len 0 k))) (sym (add-one n))
    ∙ ap (flat_map (λ part. part)) (map-range_with_len_more f 0 n n (omega arith))
    ∙ flat_map-append (λ part. part) (map f (range_with_len 0 n)) (f n ∷ [])
    ∙ ap (λ front. front ++ (f n ++ [])) (joined_front bytes size n)
    ∙ ap (λ last. take (n * size) bytes ++ last) (append-nil (f n))
    ∙ sym (take-add (n * size) size bytes)
    ∙ ap (λ k. take k bytes) (sym (suc-mul n size))

-- the pieces are the bytes
pub joined : (size : ℕ) (bytes : List ℕ) → 0 < size → flat_map (λ part. part) (pieces size bytes) ≡ bytes
unfolding pieces
joined size bytes some =
    joined_front bytes size (div_ceil (length bytes) size) ∙ take_all (div_ceil (length bytes) size * size) bytes (div_ceil_times (length bytes) size some).0

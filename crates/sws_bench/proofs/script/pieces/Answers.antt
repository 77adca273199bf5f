use Rattle.std.proofs.Common.{◌≡◌, ℕ, ◌*◌, ◌<◌, ◌≤◌, List, [], ◌∷◌, ◌++◌, length, map, drop, min, sym, ap, subst, ◌∙◌}
use Rattle.std.specs.List.{range_with_len}
use Rattle.std.specs.Int.{div_ceil}
use Rattle.std.specs.Fork.{slice_chunk}
use Rattle.std.specs.Slice.Iter.{chunks_rest}
use Rattle.std.proofs.lemmas.List.{length_push}
use Rattle.std.proofs.lemmas.Simd.{map-map}
use Rattle.sws_script.specs.declared.input.Item.TheVariants.{Send}
use Rattle.sws_bench.specs.BenchScript.{pieces}
use Rattle.sws_bench.proofs.ListLemmas.{map_more}
use Rattle.sws_bench.proofs.PieceLemmas.{piece_is, rest_is, is_below, are_all}
use Rattle.sws_bench.proofs.script.pieces.Goals as goal

pub pieces-preserved : goal.pieces-preserved
pieces-preserved c =
    let bytes = c.args.bytes.now in
    let size = c.args.size in
    let piece = c.in-Some.piece.now in
    let before = c.pieces.invariant in
    let steps = c.in-Some.ensures.steps in
    let count = length_push c.pieces.yielded c.in-Some.piece in
    let n = length c.pieces.yielded in
    let rest = chunks_rest c.pieces.piece-iterator in
    let long : length piece ≡ min size (length rest) = steps.1.1 ∙ ap (λ (k : ℕ). min k (length rest)) before.size in
    record {
      size = steps.0 ∙ before.size;
      rest = rest_is bytes rest piece (chunks_rest c.next.new.self) size n before.rest steps.1.0 long ∙ ap (λ (k : ℕ). drop (k * size) bytes) (sym count);
      few =
          let some : 0 < length (drop (n * size) bytes) = subst (λ (xs : List ℕ). 0 < length xs) before.rest steps.1.2 in
          subst (λ (k : ℕ). k ≤ div_ceil (length bytes) size) (sym count) (is_below bytes size n c.requires some);
      items =
          map_more (λ (k : ℕ). Send (slice_chunk bytes size k)) n _ _ before.items
          (c.in_ok-push.ensures.items
          ∙ ap (λ (b : List ℕ). c.pieces.items.items ++ Send b ∷ [])
          (c.new.ensures ∙ c.in_ok-from_slice.ensures.items ∙ piece_is bytes rest piece (chunks_rest c.next.new.self) size n before.rest steps.1.0 long))
          ∙ ap (λ (k : ℕ). map (λ (j : ℕ). Send (slice_chunk bytes size j)) (range_with_len 0 k)) (sym count);
    }

pub returns : goal.returns
unfolding pieces
returns c =
    let bytes = c.args.bytes.now in
    let size = c.args.size in
    let end = c.pieces.invariant in
    let none : length (drop (length c.pieces.yielded * size) bytes) ≡ 0 = sym (ap (λ (xs : List ℕ). length xs) end.rest) ∙ c.in-None.ensures.steps.1.0 in
    end.items
    ∙ ap (λ (k : ℕ). map (λ (j : ℕ). Send (slice_chunk bytes size j)) (range_with_len 0 k)) (are_all bytes size (length c.pieces.yielded) c.requires none end.few)
    ∙ sym (map-map Send (slice_chunk bytes size) (range_with_len 0 (div_ceil (length bytes) size)))

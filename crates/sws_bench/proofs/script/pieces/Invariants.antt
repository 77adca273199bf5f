use Rattle.std.proofs.Common.{◌≡◌, ◌*◌, ◌≤◌, length, map, drop}
use Rattle.std.specs.List.{range_with_len}
use Rattle.std.specs.Int.{div_ceil}
use Rattle.std.specs.Fork.{slice_chunk}
use Rattle.std.specs.Slice.Iter.{chunks_rest, chunks_size}
use Rattle.sws_script.specs.declared.input.Item.TheVariants.{Send}
use Rattle.sws_bench.proofs.script.pieces.Given as goal

abbrev pub invariant-pieces : goal.invariant-pieces
invariant-pieces l = record {
  size : chunks_size l.piece-iterator ≡ l.size;
  rest : chunks_rest l.piece-iterator ≡ drop (length l.yielded * l.size) l.bytes;
  few : length l.yielded ≤ div_ceil (length l.bytes) l.size;
  items : l.items.items ≡ map (λ n. Send (slice_chunk l.bytes l.size n)) (range_with_len 0 (length l.yielded));
}

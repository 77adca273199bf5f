use Rattle.std.proofs.Common.{◌≡◌, ◌+◌, ◌%◌, map}
use Rattle.std.specs.List.{range_with_len}
use Rattle.sws_bench.proofs.site.contents.Given as goal

abbrev pub invariant-loop-place : goal.invariant-loop-place
invariant-loop-place l = l.bytes.items ≡ map (λ place. 97 + (place + l.first) % 26) (range_with_len 0 l.place)

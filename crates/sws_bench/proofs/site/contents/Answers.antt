use Rattle.std.proofs.Common.{◌≡◌, ◌+◌, ◌*◌, ◌%◌, ℕ, map, arith, ap, ◌∙◌}
use Rattle.std.specs.List.{range_with_len}
use Rattle.sws_bench.specs.BenchSite.{contents}
use Rattle.sws_bench.proofs.ListLemmas.{map_more}
use Rattle.sws_bench.proofs.site.contents.Goals as goal

pub loop-place-preserved : goal.loop-place-preserved
loop-place-preserved c =
    map_more (λ (place : ℕ). 97 + (place + c.from-first.result) % 26) c.loop-place.place _ _ c.loop-place.invariant c.in_ok-push.ensures.items

pub returns : goal.returns
unfolding contents
returns c =
    let first : c.from-first.result ≡ c.args.number = c.from-first.ensures in
    let all : c.loop-place.place ≡ 64 * (c.args.number + 1) = omega arith in
    c.loop-place.invariant
    ∙ ap (λ (n : ℕ). map (λ (place : ℕ). 97 + (place + n) % 26) (range_with_len 0 c.loop-place.place)) first
    ∙ ap (λ (n : ℕ). map (λ (place : ℕ). 97 + (place + c.args.number) % 26) (range_with_len 0 n)) all

use Rattle.std.proofs.Common.{List, ℕ, ◌++◌, ◌%◌, codes, ap, ◌∙◌}
use Rattle.std.specs.Fmt.{decimal}
use Rattle.sws_site.specs.ResponseHeads.{line_end}
use Rattle.sws_bench.specs.BenchScript.{request}
use Rattle.sws_bench.proofs.ListLemmas.{three}
use Rattle.sws_bench.proofs.script.push_request.Goals as goal

pub returns : goal.returns
unfolding request
returns c =
    three (codes "GET /f") (decimal (c.args.draw % 20)) (codes ".txt HTTP/1.1" ++ (line_end ++ (codes "Host: b" ++ (line_end ++ line_end)))) _ _ _ _
    c.in_ok-extend_from_slice.ensures.items
    (c.in_ok-extend_from_slice-2.ensures.items ∙ ap (λ (t : List ℕ). c.extend_from_slice.new.self.items ++ t) (c.as_bytes.ensures.value ∙ c.format.ensures.text))
    c.in_ok-extend_from_slice-3.ensures.items

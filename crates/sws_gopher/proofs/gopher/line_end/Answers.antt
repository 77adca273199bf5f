use Rattle.std.proofs.Common.{◌+◌, ap, ◌∙◌, arith, take}
use Rattle.std.proofs.lemmas.List.{take_min}
use Rattle.sws_gopher.specs.Gopher.{input_limit}
use Rattle.sws_gopher.proofs.CutLemmas.{line-found, line-missed}
use Rattle.sws_gopher.proofs.gopher.line_end.Goals as goal

pub returns-in-Some-clause-cut : goal.returns-in-Some-clause-cut
returns-in-Some-clause-cut c =
    line-found c.args.bytes.now (take c.min-counted.result c.args.bytes.now) c.in-Some.feed (c.in-Some.feed + 1)
    (ap (λ n. take n c.args.bytes.now) c.min-counted.ensures ∙ take_min input_limit c.args.bytes.now) c.in-Some.ensures.0 c.in-Some.ensures.1 (omega arith)

pub returns-in-None-clause-cut : goal.returns-in-None-clause-cut
returns-in-None-clause-cut c =
    line-missed c.args.bytes.now (take c.min-counted.result c.args.bytes.now)
    (ap (λ n. take n c.args.bytes.now) c.min-counted.ensures ∙ take_min input_limit c.args.bytes.now) c.in-None.ensures

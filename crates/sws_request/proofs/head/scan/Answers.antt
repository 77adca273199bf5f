use Rattle.std.proofs.Common.{◌≡◌, ◌+◌, length, take, ap, ◌∙◌, arith, take_all}
use Rattle.std.specs.Prelude.{◌||◌}
use Rattle.sws_request.specs.Cuts.{lines_of}
use Rattle.sws_request.specs.Scans.{whole_lines, has_other}
use Rattle.sws_request.proofs.ScanLemmas.{cut-found, cut-too_long, cut-not_yet, stands-on}
use Rattle.sws_request.proofs.head.scan.Goals as goal

pub returns-in-End-clause-cut : goal.returns-in-End-clause-cut
returns-in-End-clause-cut c front stands =
    cut-found c.args.from front stands c.args.rest.now c.min-most.result c.in-End.len c.min-most.ensures c.in-End.ensures.found

pub returns-in-Lines-clause-cut : goal.returns-in-Lines-clause-cut
returns-in-Lines-clause-cut c front stands =
    cut-not_yet c.args.from front stands c.args.rest.now c.min-most.result c.min-most.ensures c.if-rest-room.true c.in-Lines.ensures.found.0

pub returns-in-Lines-clause-goes_on : goal.returns-in-Lines-clause-goes_on
returns-in-Lines-clause-goes_on c front stands not_yet =
    let rest = c.args.rest.now in
    let found = c.in-Lines.ensures.found in
    let all : take c.min-most.result rest ≡ rest = take_all c.min-most.result rest (omega arith) in
    stands-on c.args.from front stands rest _
    (cut-not_yet c.args.from front stands rest c.min-most.result c.min-most.ensures c.if-rest-room.true found.0)
    (ap (λ n. c.args.from.at + n) (found.1 ∙ ap (λ b. length (whole_lines b)) all))
    (found.2 ∙ ap (λ b. c.args.from.begun || has_other (lines_of b)) all)

pub returns-in-Lines-2-clause-cut : goal.returns-in-Lines-2-clause-cut
returns-in-Lines-2-clause-cut c front stands =
    cut-too_long c.args.from front stands c.args.rest.now c.min-most.result c.min-most.ensures c.if-rest-room.false c.in-Lines-2.ensures.found.0

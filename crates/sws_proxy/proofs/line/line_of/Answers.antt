use Rattle.std.proofs.Common.{arith, sym, ap, ◌∙◌, ◌≤◌, length}
use Rattle.std.proofs.lemmas.List.{take_all, length-take-le}
use Rattle.sws_proxy.specs.Lines.{before}
use Rattle.sws_proxy.proofs.line.line_of.Goals as goal

pub returns-then-bytes-le-LONGEST_LINE-clause-line :
    goal.returns-then-bytes-le-LONGEST_LINE-clause-line
returns-then-bytes-le-LONGEST_LINE-clause-line c =
    let few : length c.args.bytes.now ≤ 107 = omega (arith, c.if-bytes-le-LONGEST_LINE.true) in
    c.cut.ensures.before ∙ ap (before 10) (sym (take_all 107 c.args.bytes.now few))

pub slice_bounds-cut-end : goal.slice_bounds-cut-end
slice_bounds-cut-end c =
    let many : 107 ≤ length c.args.bytes.now = omega (arith, c.if-bytes-le-LONGEST_LINE.false) in
    sym (length-take-le 107 c.args.bytes.now many)

pub returns-clause-within : goal.returns-clause-within
returns-clause-within c =
    let many : 107 ≤ length c.args.bytes.now = omega (arith, c.if-bytes-le-LONGEST_LINE.false) in
    omega (arith, c.cut-2.ensures.within, length-take-le 107 c.args.bytes.now many)

pub returns-clause-few : goal.returns-clause-few
returns-clause-few c =
    let many : 107 ≤ length c.args.bytes.now = omega (arith, c.if-bytes-le-LONGEST_LINE.false) in
    omega (arith, c.cut-2.ensures.within, length-take-le 107 c.args.bytes.now many)

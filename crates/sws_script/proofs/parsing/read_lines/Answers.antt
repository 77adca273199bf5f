use Rattle.std.proofs.Common.{◌≡◌, ◌≤◌, [], length, false, refl, sym, subst, arith, rules}
use Rattle.std.proofs.lemmas.Result.{err_from_is_err_and}
use Rattle.sws_script.specs.declared.input.Input.{Input}
use Rattle.sws_script.specs.Order.{in_script}
use Rattle.sws_text.specs.Lines.{IsFirstLine}
use Rattle.sws_script.specs.Grammar.{Spells}
use Rattle.sws_text.proofs.LineLemmas.{first-goes}
use Rattle.sws_script.proofs.StandingLemmas.{Stands-none, Stands-more, outside, too_long, few_conns, cause, too_early, whole_read}
use Rattle.sws_script.proofs.parsing.read_lines.Goals as goal
use Rattle.sws_script.proofs.parsing.read_lines.Goals.{In-Some, In_ok-input}

-- what was read is the first line of the rest
first : (c : In-Some) → IsFirstLine c.lines.rest.now c.in-Some.words.now c.in-Some.after.now
first c = search rules

-- behind the last line there is nothing
none : (c : In_ok-input) → c.lines.rest.now ≡ []
none c = search rules

pub lines-init : goal.lines-init
lines-init c = Stands-none c.args.schedule c.args.cores c.args.text.now c.new-parser.result c.new-parser.ensures.state c.new-parser.ensures.contents c.new-parser.ensures.cores

pub overflow_add-line : goal.overflow_add-line
overflow_add-line c =
    let few = c.lines.invariant.few_lines in
    let within = c.lines.invariant.within in omega arith

pub overflow_sub-text : goal.overflow_sub-text
overflow_sub-text c =
    let shorter = (first-goes c.lines.rest.now c.in-Some.words.now c.in-Some.after.now (first (goal.at.overflow_sub-text c).In-Some)).shorter in
    let few = c.lines.invariant.few_lines in omega arith

pub returns-then-text-after-gt-MAX_BYTES-clause-fault : goal.returns-then-text-after-gt-MAX_BYTES-clause-fault
returns-then-text-after-gt-MAX_BYTES-clause-fault c =
    let line = first (goal.at.returns-then-text-after-gt-MAX_BYTES-clause-fault c).In-Some in (
      c.lines.line,
      refl,
      outside c.args.schedule c.args.cores c.args.text.now c.lines.rest.now c.lines.line c.lines.parser c.in-Some.words.now c.in-Some.after.now c.lines.invariant line
          (too_long c.args.schedule c.args.cores c.args.text.now c.lines.rest.now c.lines.line c.lines.parser c.in-Some.words.now c.in-Some.after.now c.lines.invariant line
          c.if-text-after-gt-MAX_BYTES.true),
      few_conns c.args.schedule c.args.cores c.args.text.now c.lines.rest.now c.lines.line c.lines.parser c.lines.invariant,
    )

pub add_line-requires-clause-total : goal.add_line-requires-clause-total
add_line-requires-clause-total c = c.lines.invariant.total

pub add_line-requires-clause-conns : goal.add_line-requires-clause-conns
add_line-requires-clause-conns c = c.lines.invariant.few

pub returns-in_err-add_line-clause-fault : goal.returns-in_err-add_line-clause-fault
returns-in_err-add_line-clause-fault c =
    let p = err_from_is_err_and c.from_residual.result c.from_residual.ensures.1 in
    rw (p.1, p.2)
    (cause c.args.schedule c.args.cores c.args.text.now c.lines.rest.now c.lines.line c.lines.parser c.add_line.new.parser c.in-Some.words.now c.in-Some.after.now c.lines.invariant (first (goal.at.returns-in_err-add_line-clause-fault c).In-Some)
    (omega arith) c.in_err-add_line.field-0.0 c.in_err-add_line.ensures)

pub lines-preserved : goal.lines-preserved
lines-preserved c =
    Stands-more c.args.schedule c.args.cores c.args.text.now c.lines.rest.now c.lines.line c.lines.parser c.add_line.new.parser c.in-Some.words.now c.in-Some.after.now c.lines.invariant (first (goal.at.lines-preserved c).In-Some)
    (omega arith) (c.in_ok-add_line.ensures)

pub overflow_add-result : goal.overflow_add-result
overflow_add-result c =
    let few = c.lines.invariant.few_lines in
    let within = c.lines.invariant.within in omega arith

pub returns-in-Some-2-clause-input : goal.returns-in-Some-2-clause-input
returns-in-Some-2-clause-input c =
    let finished = rw c.in-Some-2.is at c.in_ok-input.ensures in
    let spells = whole_read c.args.schedule c.args.cores c.args.text.now c.lines.rest.now c.lines.line c.lines.parser c.lines.invariant (none (goal.at.returns-in-Some-2-clause-input c).In_ok-input) finished.0 in
    let few = c.lines.invariant.few in (
      subst (Spells c.args.schedule c.args.cores c.args.text.now) (sym finished.1) spells,
      subst (λ (i : Input). length i.conns ≤ 1024) (sym finished.1) few,
    )

pub returns-in-None-clause-fault : goal.returns-in-None-clause-fault
returns-in-None-clause-fault c =
    let off : in_script c.lines.parser.place ≡ false = rw c.in-None.is at c.in_ok-input.ensures in (
      c.lines.line,
      refl,
      too_early c.args.schedule c.args.cores c.args.text.now c.lines.rest.now c.lines.line c.lines.parser c.lines.invariant (none (goal.at.returns-in-None-clause-fault c).In_ok-input) off,
      few_conns c.args.schedule c.args.cores c.args.text.now c.lines.rest.now c.lines.line c.lines.parser c.lines.invariant,
    )

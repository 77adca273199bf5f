use Rattle.std.proofs.Common.{◌≤◌, length, ap, ◌∙◌, arith}
use Rattle.sws_site.proofs.HeaderLemmas.{header-fits}
use Rattle.sws_site.proofs.header_lines.HeaderLines.add.Goals as goal

short : (c : goal.After-drop-line-2) → length c.extend_from_slice.new.self.items ≤ 1024
short c = header-fits c.extend_from_slice.new.self.items c.self.inside.text.items c.deref.result.now c.args.name.now c.args.value.now
    c.in_ok-extend_from_slice.ensures.items (c.deref.ensures.value ∙ c.in_ok-line.ensures)
    (omega (arith, c.in_default.ensures.fits, ap length c.self.view_is))

pub invariant_of-self-2 : goal.invariant_of-self-2
invariant_of-self-2 c = short c

pub returns-clause-short : goal.returns-clause-short
returns-clause-short c = short c

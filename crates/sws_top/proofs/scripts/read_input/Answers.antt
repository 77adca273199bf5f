use Rattle.std.proofs.Common.{sym, subst}
use Rattle.sws_script.specs.Grammar.{IsCause}
use Rattle.sws_top.specs.Scripts.{HasNoInput}
use Rattle.sws_top.proofs.ScriptLemmas.{no_input}
use Rattle.sws_top.proofs.scripts.read_input.Goals as goal

pub returns : goal.returns
returns g c =
    let r = g.R.Source in
    let cause = subst (λ text. IsCause c.args.schedule c.args.cores text c.in-Err.fault) c.deref.ensures.value c.in-Err.ensures.fault in
    subst (HasNoInput r c.args.schedule c.args.cores c.args.source.now c.read_text.new.source) (sym c.script_fault.ensures)
    (no_input r c.args.schedule c.args.cores c.args.source.now c.read_text.new.source c.in_ok-text.text.items c.in_ok-text.ensures.read c.in-Err.fault cause)

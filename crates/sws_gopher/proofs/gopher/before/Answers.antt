use Rattle.std.proofs.Common.{sym, ◌∙◌}
use Rattle.std.specs.Prelude.{◌==◌}
use Rattle.sws_gopher.proofs.CutLemmas.{before-found, before-missed}
use Rattle.sws_gopher.proofs.gopher.before.Goals as goal

pub returns-in-Some : goal.returns-in-Some
returns-in-Some c = before-found (λ byte. byte == c.args.end) c.args.bytes.now c.in-Some.at (sym c.in-Some.is ∙ c.first_of.ensures)

pub returns-in-None : goal.returns-in-None
returns-in-None c = before-missed (λ byte. byte == c.args.end) c.args.bytes.now (sym c.in-None.is ∙ c.first_of.ensures)

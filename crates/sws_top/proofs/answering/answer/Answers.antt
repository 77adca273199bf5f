use Rattle.std.proofs.Common.{inr}
use Rattle.sws_top.proofs.answering.answer.Goals as goal

pub returns : goal.returns
returns g c = inr (c.in_ok-site.site, c.in_ok-site.ensures, c.answer_input.ensures)

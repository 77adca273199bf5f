use Rattle.std.proofs.Common.{inr}
use Rattle.sws_top.proofs.serving.serve.Goals as goal

pub returns-in-Ok-clause-ran : goal.returns-in-Ok-clause-ran
returns-in-Ok-clause-ran g c = inr (c.in-Ok.site, c.in-Ok.ensures, c.serve_hall.ensures.served)

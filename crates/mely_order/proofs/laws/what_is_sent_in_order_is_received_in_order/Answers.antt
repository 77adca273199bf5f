use Rattle.mely_order.proofs.RunOrderLemmas.{one_step, run_in_order, drain_in_order}
use Rattle.mely_order.proofs.laws.what_is_sent_in_order_is_received_in_order.Goals as goal

pub returns-clause-step : goal.returns-clause-step
returns-clause-step g c = λ app stream core step before after serves well call was. one_step g.S.Trail g.S.Fits.fits_under g.R.App app stream before after core step serves well call was

pub returns-clause-run : goal.returns-clause-run
returns-clause-run g c = λ app stream cores went before after serves well runs was. run_in_order g.S.Trail g.S.Fits.fits_under g.R.App app stream before after cores went serves well runs was

pub returns-clause-drain : goal.returns-clause-drain
returns-clause-drain g c = λ app stream drained before after serves well drains was. drain_in_order g.S.Trail g.S.Fits.fits_under g.R.App app stream before after drained serves well drains was

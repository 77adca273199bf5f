use Rattle.sws_lane.proofs.keeping.responses_begin.Goals as goal

pub returns : goal.returns
returns g c = g.met.T.Talk.responses_begin

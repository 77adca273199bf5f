use Rattle.sws_lane.proofs.keeping.serve_all_generations.Given as goal

abbrev pub invariant-generations : goal.invariant-generations
invariant-generations g l = g.M.Leads.leads l.terms l.fn.lane l.lane

use Rattle.sws_top.proofs.serving.little_counts.Goals as goal

pub returns-clause-input : goal.returns-clause-input
returns-clause-input g c = g.met.T.Talk.few_input

pub returns-clause-output : goal.returns-clause-output
returns-clause-output g c = g.met.T.Talk.few_output

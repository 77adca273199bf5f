use Rattle.sws_handlers.proofs.Paths.PathServerLemmas.{place_runs, stays_spoilt}
use Rattle.sws_handlers.proofs.laws.the_handlers_follow_the_paths.Goals as goal

pub returns-clause-follows : goal.returns-clause-follows
returns-clause-follows g c hall first log paths total tells = place_runs g.W.World g.W.Link.Link g.T.Talk hall first paths tells c.a_run_serves.ensures.steps log total

pub returns-clause-spoilt : goal.returns-clause-spoilt
returns-clause-spoilt g c total = stays_spoilt g.W.World g.W.Link.Link g.T.Talk total

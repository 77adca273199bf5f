use Rattle.sws_access.proofs.TellingLemmas.{tells-each}
use Rattle.sws_access.proofs.telling.a_run_tells.Goals as goal

pub returns : goal.returns
returns g c first trail talk clerk told =
    let number = g.C.Clerk.number_of clerk in
    tells-each (g.T.Talk.log (g.T.Talk.hall_of talk) number) (g.L.Link.tells first) number (g.T.Talk.view_of talk) (g.C.Clerk.told_of clerk) told.many told.told
    (c.a_run_serves.ensures.lines first trail talk number told.ran)

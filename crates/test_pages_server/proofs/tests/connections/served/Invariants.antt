use Rattle.std.specs.Prelude.{List}
use Rattle.sws_steps.specs.declared.Handler.{Handler}
use Rattle.sws_steps.specs.Path.{steps_left}
use Rattle.sws_steps.specs.Run.{HasRun}
use Rattle.sws_conn.specs.Http.{http}
use Rattle.test_pages_server.proofs.tests.connections.served.Given as goal

abbrev pub invariant-loop-conn : goal.invariant-loop-conn
invariant-loop-conn g l = (trail : List Handler) × HasRun http g.L.Link l.fn.site l.fn.link trail l.conn.conn

abbrev pub decreases-loop-conn : goal.decreases-loop-conn
decreases-loop-conn g l = steps_left http l.conn.conn.standing

use Rattle.std.proofs.Common.{◌≤◌, vec_capacity}
use Rattle.sws_handlers.specs.Initial.{AreInitialPlacesOver}
use Rattle.sws_handlers.proofs.initial.initial_places.Given as goal

abbrev pub invariant-loop-number : goal.invariant-loop-number
invariant-loop-number g l = AreInitialPlacesOver g.T.Talk l.fn.world (g.T.Talk.contents_of l.hall) l.total l.number l.places.items × (l.colours ≤ vec_capacity l.places)

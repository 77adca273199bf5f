use Rattle.sws_lane.proofs.keeping.serve_all_generations.Goals as goal

pub generations-preserved : goal.generations-preserved
generations-preserved g c = c.requires.onward _ _ _ c.generations.invariant c.if-not-serve_next.ensures.next

pub returns-then-not-serve_next : goal.returns-then-not-serve_next
returns-then-not-serve_next g c = c.requires.stops _ _ _ c.generations.invariant c.if-not-serve_next.ensures.none

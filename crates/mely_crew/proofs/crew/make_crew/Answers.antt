use Rattle.mely_crew.proofs.crew.make_crew.Goals as goal

pub returns-clause-manned : goal.returns-clause-manned
returns-clause-manned g c = c.in_ok-manned.ensures

pub returns-clause-room : goal.returns-clause-room
returns-clause-room g c = c.in_ok-spare.ensures.room

pub returns-clause-outsiders : goal.returns-clause-outsiders
returns-clause-outsiders g c = c.in_ok-spare.ensures.outsiders

pub returns-clause-rested : goal.returns-clause-rested
returns-clause-rested g c = c.in_ok-spare.ensures.rested

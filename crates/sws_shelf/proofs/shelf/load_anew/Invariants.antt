use Rattle.sws_shelf.specs.Dates.{IsLoaded}
use Rattle.sws_shelf.proofs.shelf.load_anew.Given as goal

abbrev pub invariant-loads : goal.invariant-loads
invariant-loads l = IsLoaded l.before l.origin l.loaded

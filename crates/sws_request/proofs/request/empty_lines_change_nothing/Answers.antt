use Rattle.sws_request.specs.RequestLaws.{IsRequest-from, SaysRequest-from}
use Rattle.sws_request.proofs.request.empty_lines_change_nothing.Goals as goal

pub returns-clause-dropped : goal.returns-clause-dropped
returns-clause-dropped c = SaysRequest-from

pub returns-clause-kept : goal.returns-clause-kept
returns-clause-kept c = IsRequest-from

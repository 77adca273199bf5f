use Rattle.std.proofs.Common.{rules}
use Rattle.sws_request.specs.RequestLaws.{IsRequest-from, SaysRequest-from}
use Rattle.sws_request.proofs.ViewLemmas.{SaysRequest-shown}
use Rattle.sws_request.proofs.request.view_in.Goals as goal

pub returns-in-Ok-Complete-clause-request : goal.returns-in-Ok-Complete-clause-request
returns-in-Ok-Complete-clause-request c = IsRequest-from c.args.head.now _
    (SaysRequest-shown c.args.head.now c.parse_request.new.headers c.in-Ok-Complete.found (search rules) (search rules) (search rules))

pub returns-in_default-clause-refused : goal.returns-in_default-clause-refused
returns-in_default-clause-refused c = λ request is. let says = SaysRequest-from c.args.head.now request is in search rules

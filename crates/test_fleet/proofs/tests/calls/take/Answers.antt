use Rattle.std.proofs.Common.{arith}
use Rattle.test_fleet.proofs.RowLemmas.{may_finish}
use Rattle.test_fleet.proofs.tests.calls.take.Goals as goal

pub returns-clause-turn : goal.returns-clause-turn
returns-clause-turn g c =
    let low = c.requires.colour in
    let colours = c.requires.row.colours in
    may_finish _ _ c.args.fleet.now c.args.own.now c.take.new.passes (record { 0 = c.args.colour }) c.take.result (omega (arith, low, colours)) c.take.ensures.same.0 c.take.ensures.sees

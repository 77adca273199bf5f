use Rattle.std.proofs.Common.{arith}
use Rattle.mely_history.proofs.SetupLemmas.{colour_quotient}
use Rattle.mely_history.proofs.setup.Setup.place_of.Goals as goal

-- src/setup.rt:111:5
pub returns : goal.returns
returns c =
    let setup = c.args.self.now in
    rw (c.from.ensures, setup.reciprocal_in) (colour_quotient c.args.colour.0 setup.shape.shards (omega (arith)) setup.shards_in.0 setup.shards_in.1)

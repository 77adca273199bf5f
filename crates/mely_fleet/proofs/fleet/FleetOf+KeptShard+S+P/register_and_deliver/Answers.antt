use Rattle.std.proofs.Common.{Ok}
use Rattle.mely_fleet.proofs.SideLemmas.{names_core}
use Rattle.mely_fleet.proofs.fleet.FleetOf+KeptShard+S+P.register_and_deliver.Goals as goal

pub deliver-requires-clause-may : goal.deliver-requires-clause-may
deliver-requires-clause-may g c =
    let seen = c.in_ok-reply.ensures.sees.seen in
    c.after.ensures.may c.args.self.now.setup c.requires.fits.colour
    (names_core c.args.self.now.setup c.args.passes.now.number c.args.colour c.args.event c.args.load (Ok c.in_ok-reply.reply) seen.point _ seen.legal seen.does)

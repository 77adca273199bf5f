use Rattle.std.proofs.Common.{◌++◌, ◌∷◌, [], subst}
use Rattle.example_chat_room.specs.declared.part.Part.TheVariants as part
use Rattle.example_chat_room.specs.Parts.{KeepsPart}
use Rattle.example_chat_room.proofs.SeatLemmas.{desk_goes, part_goes, quiet_signed}
use Rattle.example_chat_room.proofs.acting.ChatActor.on.Goals as goal

pub returns-in-Desk-clause-kept : goal.returns-in-Desk-clause-kept
returns-in-Desk-clause-kept g c = λ received sent many kept.
    let l = g.W.Link.Link in
    let coming = (g.W.World.tells c.args.self.now.world.value).coming in
    let clients = c.args.self.now.clients in
    let colour = c.args.place.colour in
    part_goes l coming clients colour received (received ++ c.args.message ∷ []) sent c.at_desk.new.sends (part.Desk c.in-Desk.desk) (part.Desk c.at_desk.new.desk) (quiet_signed colour c.at_desk.new.sends c.at_desk.ensures.quiet)
    (desk_goes l coming clients colour received sent c.at_desk.new.sends c.args.message c.in-Desk.desk c.at_desk.new.desk c.at_desk.ensures.asks) (subst (KeepsPart l coming clients colour received sent) c.in-Desk.is kept)

pub returns-in-Room-clause-kept : goal.returns-in-Room-clause-kept
returns-in-Room-clause-kept g c = λ received sent many kept.
    let l = g.W.Link.Link in
    let coming = (g.W.World.tells c.args.self.now.world.value).coming in
    let clients = c.args.self.now.clients in
    let colour = c.args.place.colour in
    part_goes l coming clients colour received (received ++ c.args.message ∷ []) sent c.at_room.new.sends (part.Room c.in-Room.room) (part.Room c.at_room.new.room) c.at_room.ensures.signed
    (c.at_room.ensures.kept received sent) (subst (KeepsPart l coming clients colour received sent) c.in-Room.is kept)

pub returns-in-Client-clause-kept : goal.returns-in-Client-clause-kept
returns-in-Client-clause-kept g c = λ received sent many kept.
    let l = g.W.Link.Link in
    let coming = (g.W.World.tells c.args.self.now.world.value).coming in
    let clients = c.args.self.now.clients in
    let colour = c.args.place.colour in
    part_goes l coming clients colour received (received ++ c.args.message ∷ []) sent c.at_client.new.sends (part.Client c.in-Client.client) (part.Client c.at_client.new.client) c.at_client.ensures.signed
    (c.at_client.ensures.kept received sent) (subst (KeepsPart l coming clients colour received sent) c.in-Client.is kept)

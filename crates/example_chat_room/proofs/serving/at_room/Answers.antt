use Rattle.std.proofs.Common.{◌+◌, ◌%◌, ◌^◌, ◌∷◌, [], ap, length, sym, ◌∙◌}
use Rattle.mely_actor.proofs.ListLemmas.{one_sent}
use Rattle.example_chat_room.specs.Messages.{heard_by_sends, told_in}
use Rattle.example_chat_room.proofs.SeatLemmas.{room_goes}
use Rattle.example_chat_room.proofs.serving.at_room.Goals as goal

pub returns-clause-kept : goal.returns-clause-kept
returns-clause-kept g c = λ received sent kept.
    let told = ap (λ m. told_in (m ∷ [])) c.in-Say.is in
    room_goes g.W.Link.Link (g.W.World.tells c.args.chat.now.world.value).coming c.args.chat.now.clients c.args.colour received sent c.send.new.self c.args.message c.args.room.now _
    (ap heard_by_sends (one_sent _ _ _ c.requires.empty c.send.ensures) ∙ sym told) (sym (ap (λ t. (c.args.room.now.lines + length t) % 2 ^ 64) told)) kept

use Rattle.std.proofs.Common.{◌-◌, ◌∷◌, [], ap, subst, sym, ◌∙◌}
use Rattle.mely_actor.proofs.ListLemmas.{one_sent}
use Rattle.example_chat_room.specs.Clients.{shown_client}
use Rattle.example_chat_room.specs.Messages.{MayGet, heard_by_sends, heard_in, is_open, line_heard, told_by_sends}
use Rattle.example_chat_room.specs.Shown.{all_said}
use Rattle.example_chat_room.specs.Talks.{Says}
use Rattle.example_chat_room.proofs.SeatLemmas.{client_hears, client_opens, client_says, says_none, seat_goes}
use Rattle.example_chat_room.proofs.serving.at_client.Goals as goal

pub returns-in-Open-clause-kept : goal.returns-in-Open-clause-kept
returns-in-Open-clause-kept g c = λ received sent kept.
    let l = g.W.Link.Link in
    let coming = (g.W.World.tells c.args.chat.now.world.value).coming in
    let clients = c.args.chat.now.clients in
    let colour = c.args.colour in
    let m = c.args.message in
    let new = c.send.new.self in
    let one = one_sent _ _ _ c.requires.empty c.send.ensures in
    let new_link = (subst (MayGet l g.W.World.tells coming clients colour) c.in-Open.is c.requires.may_get).1 in
    seat_goes l coming clients colour received sent new m c.args.client.now c.open.new.self (λ low. ap heard_by_sends one ∙ sym (ap (λ n. heard_in (n ∷ [])) c.in-Open.is))
    (client_opens l coming (colour.0 - 2) sent new received m c.args.client.now c.open.new.self (l.tells c.in-Open.link) (ap is_open c.in-Open.is) (ap line_heard c.in-Open.is) (ap told_by_sends one) new_link.is new_link.initial c.open.ensures.first c.open.ensures.second) kept

pub returns-in-Wake-clause-kept : goal.returns-in-Wake-clause-kept
returns-in-Wake-clause-kept g c = λ received sent kept.
    let l = g.W.Link.Link in
    let coming = (g.W.World.tells c.args.chat.now.world.value).coming in
    let m = c.args.message in
    seat_goes l coming c.args.chat.now.clients c.args.colour received sent c.wake.new.sends m c.args.client.now c.wake.new.client (λ low. c.wake.ensures.none ∙ sym (ap (λ n. heard_in (n ∷ [])) c.in-Wake.is))
    (client_says l coming (c.args.colour.0 - 2) sent c.wake.new.sends received m c.args.client.now c.wake.new.client (ap is_open c.in-Wake.is) (ap line_heard c.in-Wake.is) c.wake.ensures.goes_on c.wake.ensures.says) kept

pub returns-in-Cut-clause-kept : goal.returns-in-Cut-clause-kept
returns-in-Cut-clause-kept g c = λ received sent kept.
    let l = g.W.Link.Link in
    let coming = (g.W.World.tells c.args.chat.now.world.value).coming in
    let m = c.args.message in
    let before = shown_client {l = l} c.args.client.now in
    let after = shown_client {l = l} c.cut.new.self in
    seat_goes l coming c.args.chat.now.clients c.args.colour received sent c.args.sends.now m c.args.client.now c.cut.new.self (λ low. ap heard_by_sends c.requires.empty ∙ sym (ap (λ n. heard_in (n ∷ [])) c.in-Cut.is))
    (client_says l coming (c.args.colour.0 - 2) sent c.args.sends.now received m c.args.client.now c.cut.new.self (ap is_open c.in-Cut.is) (ap line_heard c.in-Cut.is) c.cut.ensures.goes_on (subst (λ s. Says (all_said (told_by_sends s)) before after) (sym c.requires.empty) (says_none before after c.cut.ensures.keeps))) kept

pub returns-in-Hear-clause-kept : goal.returns-in-Hear-clause-kept
returns-in-Hear-clause-kept g c = λ received sent kept.
    let l = g.W.Link.Link in
    let coming = (g.W.World.tells c.args.chat.now.world.value).coming in
    let clients = c.args.chat.now.clients in
    let colour = c.args.colour in
    let m = c.args.message in
    let new = c.pass_on.new.sends in
    seat_goes l coming clients colour received sent new m c.args.client.now c.hear.new.self (λ low. c.pass_on.ensures.passed low ∙ sym (ap (λ n. heard_in (n ∷ [])) c.in-Hear.is))
    (client_hears l coming (colour.0 - 2) sent new received m c.args.client.now c.hear.new.self c.in-Hear.line (ap is_open c.in-Hear.is) (ap line_heard c.in-Hear.is) c.pass_on.ensures.none c.hear.ensures.shows c.hear.ensures.before c.hear.ensures.after c.hear.ensures.goes_on) kept

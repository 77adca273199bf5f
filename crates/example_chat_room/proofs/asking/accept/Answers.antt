use Rattle.std.proofs.Common.{subst, sym, ◌∙◌}
use Rattle.sws_link.specs.Worlds.{GivesBy}
use Rattle.mely_actor.proofs.ListLemmas.{one_sent}
use Rattle.example_chat_room.specs.Messages.{Holds, MayAll}
use Rattle.example_chat_room.proofs.SeatLemmas.{all_fit, link_given, none_given, open_fits, poll_fits}
use Rattle.example_chat_room.proofs.asking.accept.Goals as goal
use Rattle.example_chat_room.proofs.asking.accept.Goals.{in-Link, in-NotYet, in-Failed}

pub returns-clause-fit : goal.returns-clause-fit
returns-clause-fit g c =
    let l = g.W.Link.Link in
    let tells = g.W.World.tells in
    let coming = (tells c.args.chat.now.world.value).coming in
    let clients = c.args.chat.now.clients in
    let held = c.args.held in
    let world = c.accept.new.self in
    let linked = link_given l tells coming clients held world c.requires.holds l.faults l.waits c.accept.result in
    let gives = c.accept.ensures.gives in
    let none = c.requires.empty in
    let sent : MayAll l tells coming clients c.match-accept.sends = elim c.match-accept.branch [
      | in-Link w ↦ subst (MayAll l tells coming clients) (sym (w.sends-is ∙ one_sent _ _ _ none w.send.ensures)) (open_fits l tells coming clients held.accepted w.in-Link.link c.requires.more (linked w.in-Link.link gives w.in-Link.is).0)
      | in-NotYet w ↦ subst (MayAll l tells coming clients) (sym (w.sends-is ∙ none)) tt
      | in-Failed w ↦ subst (MayAll l tells coming clients) (sym (w.sends-is ∙ none)) tt
    ] in
    let holds : Holds tells coming clients (record { world = world; accepted = c.match-accept.given }) = elim c.match-accept.branch [
      | in-Link w ↦ subst (λ n. Holds tells coming clients (record { world = world; accepted = n })) (sym w.given-is) (linked w.in-Link.link gives w.in-Link.is).1
      | in-NotYet w ↦ subst (λ n. Holds tells coming clients (record { world = world; accepted = n })) (sym w.given-is) (none_given l tells coming clients held world c.requires.holds (subst (λ a. GivesBy l.tells l.is_shut l.faults l.waits (tells held.world) a (tells world)) w.in-NotYet.is gives))
      | in-Failed w ↦ subst (λ n. Holds tells coming clients (record { world = world; accepted = n })) (sym w.given-is) (none_given l tells coming clients held world c.requires.holds (subst (λ a. GivesBy l.tells l.is_shut l.faults l.waits (tells held.world) a (tells world)) w.in-Failed.is gives))
    ] in
    subst (MayAll l tells coming clients) (sym c.send-2.ensures) (all_fit l tells coming clients c.match-accept.sends _ sent (poll_fits l tells coming clients (record { world = world; accepted = c.match-accept.given }) holds))

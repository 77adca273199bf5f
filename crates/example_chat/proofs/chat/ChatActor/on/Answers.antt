use Rattle.std.proofs.Common.{◌≡◌, ◌<◌, ◌≤◌, ◌+◌, ◌*◌, ◌++◌, map, ap, sym, ◌∙◌, subst, arith}
use Rattle.std.specs.Prelude.{OnOk}
use Rattle.example_chat.specs.Chats.{IsOfScript, MayHear, note_of, notes, says, sent_as, to_clients}
use Rattle.mely_actor.proofs.ListLemmas.{one_sent}
use Rattle.example_chat.proofs.SeatLemmas.{late_noted, late_sent, line_noted, line_sent, none_more, on_ok, seat_kept, seat_more}
use Rattle.example_chat.proofs.chat.ChatActor.on.Goals as goal

pub returns-then-at-ge-LINES-clause-kept : goal.returns-then-at-ge-LINES-clause-kept
returns-then-at-ge-LINES-clause-kept c = λ received sent many seat.
    let n = c.args.at.number in
    let heard = c.args.seat.now.heard.items in
    let is = c.if-at-ge-LINES.true in
    let late : 256 ≤ n = omega (arith, is) in
    seat_more received sent c.args.sends.now heard heard c.args.message n many
    (ap (map sent_as) c.requires.empty ∙ late_sent n c.in-Line.number c.in-Line.text late ∙ ap (says n) (sym c.in-Line.is))
    (none_more (map note_of heard) ∙ ap (λ l. map note_of heard ++ l) (late_noted n c.in-Line.number c.in-Line.text late ∙ ap (notes n) (sym c.in-Line.is))) seat

pub returns-in-Say-clause-kept : goal.returns-in-Say-clause-kept
returns-in-Say-clause-kept c = λ received sent many seat.
    let n = c.args.at.number in
    let heard = c.args.seat.now.heard.items in
    seat_more received sent c.send.new.self heard heard c.args.message n many
    (ap (map sent_as) (one_sent c.args.sends.now c.send.new.self _ c.requires.empty c.send.ensures) ∙ ap (says n) (sym c.in-Say.is))
    (none_more (map note_of heard) ∙ ap (λ m. map note_of heard ++ notes n m) (sym c.in-Say.is)) seat

pub returns-in_ok-send_to_all-in-Line-clause-kept : goal.returns-in_ok-send_to_all-in-Line-clause-kept
returns-in_ok-send_to_all-in-Line-clause-kept c =
    let n = c.args.at.number in
    let k = c.in-Line.number in
    let heard = c.args.seat.now.heard.items in
    let after = c.keep.new.seat.heard.items in
    let is = c.if-at-ge-LINES.false in
    let low : n < 256 = omega (arith, is) in
    seat_kept c.keep.result c.send_to_all.new.sends heard after c.args.message n
    (c.in_ok-send_to_all-in-Line.ensures.sent ∙ ap (to_clients (record { handler = 3; arg = n * 256 + k })) c.deref.ensures.value ∙ line_sent n k c.in-Line.text low ∙ ap (says n) (sym c.in-Line.is))
    (subst (λ l. OnOk c.keep.result (map note_of after ≡ map note_of heard ++ l)) (line_noted n k c.in-Line.text low ∙ ap (notes n) (sym c.in-Line.is)) c.keep.ensures)

pub returns-in_ok-send_to_all-in-Line-clause-allowed : goal.returns-in_ok-send_to_all-in-Line-clause-allowed
returns-in_ok-send_to_all-in-Line-clause-allowed c =
    let script = c.args.self.now.script.value.items in
    let may = subst (λ m. MayHear script c.args.at.colour m) c.in-Line.is c.requires.sound in
    on_ok c.keep.result (c.in_ok-send_to_all-in-Line.ensures.allowed script (subst (IsOfScript script c.in-Line.number) (sym c.deref.ensures.value) may.1))

pub returns-in-Hear-clause-kept : goal.returns-in-Hear-clause-kept
returns-in-Hear-clause-kept c =
    let n = c.args.at.number in
    let heard = c.args.seat.now.heard.items in
    let after = c.keep-in-Hear.new.seat.heard.items in
    seat_kept c.keep-in-Hear.result c.args.sends.now heard after c.args.message n
    (ap (map sent_as) c.requires.empty ∙ ap (says n) (sym c.in-Hear.is))
    (subst (λ l. OnOk c.keep-in-Hear.result (map note_of after ≡ map note_of heard ++ l)) (ap (notes n) (sym c.in-Hear.is)) c.keep-in-Hear.ensures)

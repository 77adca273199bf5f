use Rattle.std.proofs.Common.{◌≡◌, ◌+◌, ◌*◌, ◌++◌, ◌∷◌, [], ℕ, List, map, ap, sym, subst, ◌∙◌, arith}
use Rattle.std.proofs.lemmas.List.{map-append}
use Rattle.std.proofs.lemmas.List.FromFn.{map-range_with_len_more}
use Rattle.std.specs.List.{AllByRecursion, range_with_len}
use Rattle.mely_event.specs.declared.colour.Colour.{Colour}
use Rattle.mely_actor.specs.Sending.{MaySend}
use Rattle.mely_weave.proofs.Marks.VictimLemmas.{all_append}
use Rattle.example_chat.specs.declared.chat.TheConstants.{CLIENTS}
use Rattle.example_chat.specs.declared.message.Message.{Message}
use Rattle.example_chat.specs.declared.message.Message.TheVariants.{Hear}
use Rattle.example_chat.specs.Chats.{IsOfScript, MayHear, Sent, event_of, sent_as}
use Rattle.example_chat.proofs.chat.send_to_all.Goals as goal

pub clients-preserved : goal.clients-preserved
clients-preserved c =
    let client = c.clients.client in
    let copy = c.extend_from_slice.new.self in
    let text = c.args.text.now in
    let hear : Colour × Message = (record { 0 = client + 1 }, Hear c.args.place c.args.number copy) in
    let is : copy.items ≡ text = c.in_ok-extend_from_slice.ensures.items ∙ ap (λ l. l ++ text) c.new-copy.ensures.items in
    let one : ℕ → Sent = λ n. (record { 0 = n }, record { handler = 3; arg = c.args.place * 256 + c.args.number }, text) in
    let next : 1 + client ≡ client + 1 = omega arith in
    let low = c.clients-test.true in
    record {
      sent = ap (map sent_as) c.in_ok-send_more.ensures ∙ map-append sent_as c.clients.sends (hear ∷ []) ∙ ap (λ l. l ++ sent_as hear ∷ []) c.clients.invariant.sent
          ∙ ap (λ (t : List ℕ). map one (range_with_len 1 client) ++ (record { 0 = client + 1 }, record { handler = 3; arg = c.args.place * 256 + c.args.number }, t) ∷ []) is ∙ sym (map-range_with_len_more one 1 client (client + 1) next);
      allowed = λ script of_script. subst (AllByRecursion (MaySend (CLIENTS + 1) 4 event_of (MayHear script))) (sym c.in_ok-send_more.ensures) (all_append (MaySend (CLIENTS + 1) 4 event_of (MayHear script)) c.clients.sends (hear ∷ []) (c.clients.invariant.allowed script of_script)
          (record { there = omega (arith, low); own = omega arith; row = omega arith; is_sound = (omega arith, subst (IsOfScript script c.args.number) (sym is) of_script) }, tt));
    }

use Rattle.std.proofs.Common.{◌≡◌, ◌+◌, ◌*◌, List, map}
use Rattle.std.specs.List.{AllByRecursion, range_with_len}
use Rattle.mely_actor.specs.Sending.{MaySend}
use Rattle.example_chat.specs.declared.chat.TheConstants.{CLIENTS}
use Rattle.example_chat.specs.declared.script.Line.{Line as ScriptLine}
use Rattle.example_chat.specs.Chats.{IsOfScript, MayHear, event_of, sent_as}
use Rattle.example_chat.proofs.chat.send_to_all.Given as goal

abbrev pub invariant-clients : goal.invariant-clients
invariant-clients l = record {
  sent : map sent_as l.sends ≡ map (λ n. (record { 0 = n }, record { handler = 3; arg = l.fn.place * 256 + l.fn.number }, l.fn.text)) (range_with_len 1 l.client);
  allowed : (script : List ScriptLine) → IsOfScript script l.fn.number l.fn.text → AllByRecursion (MaySend (CLIENTS + 1) 4 event_of (MayHear script)) l.sends;
}

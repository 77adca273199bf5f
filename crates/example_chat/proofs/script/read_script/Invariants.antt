use Rattle.std.proofs.Common.{◌≤◌, length}
use Rattle.std.specs.List.{AllByRecursion}
use Rattle.example_chat.specs.Chats.{IsByClient}
use Rattle.example_chat.proofs.script.read_script.Given as goal

abbrev pub invariant-lines : goal.invariant-lines
invariant-lines l = record {
  few : length l.lines.items ≤ 256;
  clients : AllByRecursion IsByClient l.lines.items;
}

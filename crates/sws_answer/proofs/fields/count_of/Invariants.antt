use Rattle.std.proofs.Common.{◌≡◌, ◌+◌, ◌≤◌, drop, length}
use Rattle.sws_answer.specs.Fields.{values_of}
use Rattle.sws_answer.proofs.fields.count_of.Given as goal

abbrev pub invariant-loop-i : goal.invariant-loop-i
invariant-loop-i l = record {
  count : l.count + length (values_of l.name (drop l.i l.request.fields)) ≡ length (values_of l.name l.request.fields);
  few : l.count ≤ l.i;
}

use Rattle.std.proofs.Common.{◌≡◌, drop}
use Rattle.std.specs.List.{list_any}
use Rattle.sws_answer.specs.Framing.{is_bad_field}
use Rattle.sws_answer.proofs.framing.has_bad_field.Given as goal

abbrev pub invariant-loop-i : goal.invariant-loop-i
invariant-loop-i l = list_any is_bad_field (drop l.i l.request.fields) ≡ list_any is_bad_field l.request.fields

use Rattle.std.proofs.Common.{◌≡◌, drop}
use Rattle.std.specs.List.{list_all}
use Rattle.sws_answer.specs.Framing.{is_digit}
use Rattle.sws_answer.proofs.framing.are_digits.Given as goal

abbrev pub invariant-loop-byte : goal.invariant-loop-byte
invariant-loop-byte l = list_all is_digit (drop l.byte-index l.value) ≡ list_all is_digit l.value

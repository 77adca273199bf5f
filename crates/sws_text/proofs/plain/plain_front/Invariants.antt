use Rattle.std.proofs.Common.{◌≤◌, take}
use Rattle.std.specs.List.{AllByRecursion}
use Rattle.sws_text.specs.Signs.{IsPlain}
use Rattle.sws_text.proofs.plain.plain_front.Given as goal

abbrev pub invariant-loop-at : goal.invariant-loop-at
invariant-loop-at l = AllByRecursion IsPlain (take l.at l.bytes) × (l.at ≤ l.most)

use Rattle.std.proofs.Common.{◌≡◌, ◌+◌, ◌≤◌, length, take}
use Rattle.std.specs.Prelude.{not}
use Rattle.std.specs.List.{suffix_len}
use Rattle.sws_answer.specs.Targets.{is_slash}
use Rattle.sws_answer.proofs.dot_segments.segment_start.Given as goal

abbrev pub invariant-segment : goal.invariant-segment
invariant-segment l = record {
  within : l.start ≤ length l.path;
  counts : l.start + suffix_len (λ byte. not (is_slash byte)) l.path ≡ length l.path + suffix_len (λ byte. not (is_slash byte)) (take l.start l.path);
}

abbrev pub decreases-segment : goal.decreases-segment
decreases-segment l = l.start

use Rattle.std.proofs.Common.{◌≡◌, ◌+◌, ◌≤◌, ℕ, List, ◌++◌, length}
use Rattle.std.specs.List.{slice_split}
use Rattle.percent_encoding.specs.Percent.{percent_decode}
use Rattle.percent_encoding.specs.Iter.{decoded_bytes}
use Rattle.sws_answer.specs.Targets.{is_slash, path_through, without_dot_segments}
use Rattle.sws_answer.specs.DotSteps.{IsWritten}
use Rattle.sws_answer.proofs.dot_segments.decode_without_dots.Given as goal

abbrev pub invariant-bytes : goal.invariant-bytes
invariant-bytes l = record {
  written : (folders : List (List ℕ)) × (segment : List ℕ) × IsWritten l.room folders segment
      × (path_through folders (slice_split is_slash (segment ++ decoded_bytes l.byte-iterator)) ≡ without_dot_segments (percent_decode l.fn.path));
  short : length l.room + length (decoded_bytes l.byte-iterator) ≤ length (percent_decode l.fn.path);
}

use Rattle.std.proofs.Common.{◌+◌, ◌<◌, ◌≤◌, ◌++◌, [], length, sym, subst, ap, ◌∙◌, arith}
use Rattle.std.specs.List.{slice_split}
use Rattle.percent_encoding.specs.Percent.{percent_decode}
use Rattle.percent_encoding.specs.Iter.{decoded_bytes}
use Rattle.sws_answer.specs.Targets.{is_slash, path_through}
use Rattle.sws_answer.specs.DotSteps.{IsWritten, folders_after, segment_after}
use Rattle.sws_answer.proofs.DotLemmas.{through-none, written-none, through-byte, through-last, length-decoded}
use Rattle.sws_answer.proofs.dot_segments.decode_without_dots.Goals as goal

pub bytes-init : goal.bytes-init
bytes-init c =
    let left = ap decoded_bytes c.into_iter-byte-iterator.ensures.into_iter_gives ∙ c.percent_decode-byte-items.ensures.bytes in
    record {
      written = (
        [],
        [],
        subst (λ room. IsWritten room [] []) (sym c.requires.empty) written-none,
        ap (λ bytes. path_through [] (slice_split is_slash ([] ++ bytes))) left ∙ through-none (percent_decode c.args.path.now),
      );
      short = let empty = ap length c.requires.empty in let as_long = ap length left in omega arith;
    }

pub put_byte-requires : goal.put_byte-requires
put_byte-requires c =
    let left = ap length c.in-Some.ensures.steps in
    let short : length c.bytes.room + length (decoded_bytes c.bytes.byte-iterator) ≤ length (percent_decode c.args.path.now) = c.bytes.invariant.short in
    let decoded = length-decoded c.args.path.now in
    let few : length c.args.path.now < 8192 = c.requires.short in
    omega arith

pub bytes-preserved : goal.bytes-preserved
bytes-preserved c =
    let w = c.bytes.invariant.written in
    let byte = c.in-Some.byte in
    let rest = decoded_bytes c.next.new.self in
    record {
      written = (
        folders_after byte w.0 w.1,
        segment_after byte w.1,
        c.put_byte.ensures.written w.0 w.1 w.2,
        through-byte byte w.0 w.1 rest (w.2.last)
            ∙ ap (λ bytes. path_through w.0 (slice_split is_slash (w.1 ++ bytes))) (sym c.in-Some.ensures.steps) ∙ w.3,
      );
      short =
          let left = ap length c.in-Some.ensures.steps in
          let before : length c.bytes.room + length (decoded_bytes c.bytes.byte-iterator) ≤ length (percent_decode c.args.path.now) = c.bytes.invariant.short in
          let more = c.put_byte.ensures.short in
          omega arith;
    }

pub returns : goal.returns
returns c =
    let w = c.bytes.invariant.written in
    through-last c.bytes.room c.end_segment.new.room w.0 w.1 c.end_segment.result w.2 (c.end_segment.ensures.ends w.0 w.1 w.2)
    ∙ ap (λ bytes. path_through w.0 (slice_split is_slash (w.1 ++ bytes))) (sym c.in-None.ensures.steps.0) ∙ w.3

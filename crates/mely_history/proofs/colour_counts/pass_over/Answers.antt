use Rattle.std.proofs.Common.{◌≡◌, ◌+◌, ◌∷◌, ◌++◌, [], Some, None, length, take, drop, arith, sym, ap, ◌∙◌}
use Rattle.std.specs.List.{sum_by}
use Rattle.std.proofs.lemmas.List.{length-append, append-nil}
use Rattle.std.proofs.Math.Seq.{take-length}
use Rattle.mely_history.specs.History.{registered_of, weight}
use Rattle.mely_history.proofs.RegistrationLemmas.{registered-more, sum_by-drop-append, passes_over}
use Rattle.mely_history.proofs.colour_counts.pass_over.Goals as goal
use Rattle.mely_history.proofs.colour_counts.pass_over.Goals.{in-Some, in_default}

pub loop-place-preserved : goal.loop-place-preserved
loop-place-preserved c =
    let entries = c.args.entries.now in
    let first = length (registered_of (take c.args.from entries) c.args.colour) in
    let before = registered_of (take c.loop-place.place entries) c.args.colour in
    let few = c.loop-place.invariant.few in
    let passed : length before ≡ first + c.loop-place.passed = c.loop-place.invariant.passed in
    let weighed = c.loop-place.invariant.weighed in
    let small = c.loop-place.invariant.small in
    let not = c.if-passed-count.false in
    elim c.match-registration.branch [
      | in-Some w ↦
          let more = registered-more entries c.loop-place.place c.args.colour _ (Some w.in-Some.event) c.loop-place-test.true (sym w.in-Some.ensures) in
          let longer : length (before ++ w.in-Some.event ∷ []) ≡ length before + 1 = length-append before (w.in-Some.event ∷ []) in
          let sums = sum_by-drop-append (weight c.args.setup.now) before first w.in-Some.event (omega (arith, passed)) in
          record {
            few = omega arith;
            passed = rw more (omega arith);
            weighed = rw more (omega arith);
            small = omega arith;
          }
      | in_default w ↦
          let same = registered-more entries c.loop-place.place c.args.colour _ None c.loop-place-test.true (sym w.in_default.ensures) ∙ append-nil before in
          record {
            few = omega arith;
            passed = rw same (omega arith);
            weighed = rw same (omega arith);
            small = omega arith;
          }
    ]

pub returns-then-passed-count : goal.returns-then-passed-count
returns-then-passed-count c =
    let all = c.if-passed-count.true in
    let within = c.loop-place-test.true in
    passes_over c.args.setup.now c.args.entries.now c.args.colour c.args.from c.args.count c.loop-place.place c.loop-place.sum (omega arith)
    (c.loop-place.invariant.passed ∙ ap (λ n. length (registered_of (take c.args.from c.args.entries.now) c.args.colour) + n) all) c.loop-place.invariant.weighed

pub returns : goal.returns
returns c =
    let entries = c.args.entries.now in
    let first = length (registered_of (take c.args.from entries) c.args.colour) in
    let end : c.loop-place.place ≡ length entries = let past = c.loop-place-test.false in let low = c.loop-place.auto.place-end c.requires.within in omega (arith, past, low) in
    let whole : registered_of (take c.loop-place.place entries) c.args.colour ≡ registered_of entries c.args.colour = ap (λ n. registered_of (take n entries) c.args.colour) end ∙ ap (λ es. registered_of es c.args.colour) (take-length entries) in
    let passed : length (registered_of entries c.args.colour) ≡ first + c.loop-place.passed = sym (ap length whole) ∙ c.loop-place.invariant.passed in
    let few = c.loop-place.invariant.few in
    let there = c.requires.there in
    let all : c.loop-place.passed ≡ c.args.count = omega (arith, passed, few, there) in
    passes_over c.args.setup.now entries c.args.colour c.args.from c.args.count (length entries) c.loop-place.sum (omega arith)
    (ap (λ n. length (registered_of (take n entries) c.args.colour)) (sym end) ∙ c.loop-place.invariant.passed ∙ ap (λ n. first + n) all)
    (c.loop-place.invariant.weighed ∙ ap (λ n. sum_by (weight c.args.setup.now) (drop first (registered_of (take n entries) c.args.colour))) end)

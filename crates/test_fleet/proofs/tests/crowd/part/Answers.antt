use Rattle.std.proofs.Common.{◌≡◌, ◌+◌, ◌≤◌, ◌++◌, ◌∷◌, [], length, ap, ◌∙◌, refl, sym, arith, subst, length-append}
use Rattle.std.specs.Prelude.{slice_get}
use Rattle.mely_history.specs.Setup.{shape_of}
use Rattle.mely_weave.proofs.Wholes.DealLemmas.{each_push}
use Rattle.mely_kept.specs.Frames.{shard_frame}
use Rattle.mely_fleet.specs.Seats.{IsOutsider}
use Rattle.test_fleet.specs.Callers.{IsCaller}
use Rattle.test_fleet.proofs.RowLemmas.{caller_outside, each_but_last}
use Rattle.test_fleet.proofs.tests.crowd.part.Goals as goal

pub part-preserved : goal.part-preserved
part-preserved c =
    let at = c.part.invariant in
    let rest = c.pop.new.self.items in
    let caller = c.in-Some.caller in
    let old = c.in-Some.ensures.items in
    let shorter : length (rest ++ caller ∷ []) ≡ length rest + 1 = length-append rest (caller ∷ []) in
    let many = ap length old in
    let pushed = c.push_reserved.ensures.items in
    let longer : length (c.part.outside.items ++ caller.passes ∷ []) ≡ length c.part.outside.items + 1 = length-append c.part.outside.items (caller.passes ∷ []) in
    let more = ap length pushed in
    let all = at.all in
    let room = at.room in
    let both = each_but_last (λ n one. IsCaller (λ s. tt) (λ f c e l. Unit {0}) c.args.fleet.now n one.passes one.worker) rest caller (λ n one is. at.callers n one (ap (λ l. slice_get l n) old ∙ is)) in
    let test = c.part-test.true in
    let len = c.len-in-part.ensures in
    let cores = c.cores-cores.ensures.value in
    let counted = c.part.callers.ok in
    let least : (shape_of c.args.setup.now).cores ≤ length rest = omega (arith, test, len, cores, many, shorter, counted) in
    record {
      least = least;
      all = omega (arith, all, more, longer, many, shorter);
      room = let len = c.push_reserved.ensures.len in let capacity = c.push_reserved.ensures.capacity in omega (arith, room, len, capacity, many, shorter);
      callers = both.0;
      outside = rw pushed (each_push (λ _ own. IsOutsider (shard_frame (λ s. tt)) c.args.fleet.now own) c.part.outside.items caller.passes (length c.part.outside.items) refl at.outside
          (caller_outside (λ s. tt) (λ f c e l. Unit {0}) c.args.fleet.now (length rest) caller.passes caller.worker both.1 (subst (λ s. (shape_of s).cores ≤ length rest) (sym c.requires.of_setup) least)));
    }

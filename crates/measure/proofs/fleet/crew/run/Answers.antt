use Rattle.std.proofs.Common.{◌++◌, ◌∷◌, [], length, ap, ◌∙◌, sym, subst, arith, length-append}
use Rattle.std.specs.Prelude.{slice_get}
use Rattle.std.proofs.lemmas.Option.{slice_get_within}
use Rattle.mely_history.specs.Setup.{shape_of}
use Rattle.mely_weave.proofs.Wholes.DealLemmas.{push_at, push_other}
use Rattle.mely_kept.specs.Frames.{shard_frame}
use Rattle.mely_fleet.specs.Seats.{IsOutsider}
use Rattle.measure.proofs.FleetLemmas.{refilled, the_only}
use Rattle.measure.proofs.fleet.crew.run.Goals as goal

pub post_all-is_posted-requires-clause-passes : goal.post_all-is_posted-requires-clause-passes
post_all-is_posted-requires-clause-passes g c =
    let rest = c.pop.new.self.items in
    let outside = c.in_ok-outside.outside in
    (c.in-Ok.ensures.each (length rest) outside (ap (λ l. slice_get l (length rest)) c.in_ok-outside.ensures.items ∙ push_at rest outside)).are

pub seats-requires-clause-many : goal.seats-requires-clause-many
seats-requires-clause-many g c =
    let rest = c.pop.new.self.items in
    let many = ap length c.in_ok-outside.ensures.items in
    let all = c.in-Ok.ensures.many in
    let cores = ap (λ k. (shape_of k).cores) c.in-Ok.ensures.of_setup in
    omega (arith, many, all, cores, length-append rest (c.in_ok-outside.outside ∷ []))

pub seats-requires-clause-first : goal.seats-requires-clause-first
seats-requires-clause-first g c = λ n own at.
    let rest = c.pop.new.self.items in
    c.in-Ok.ensures.each n own (ap (λ l. slice_get l n) c.in_ok-outside.ensures.items ∙ push_other rest c.in_ok-outside.outside n (λ same. let within = slice_get_within rest n own at in omega (arith, within, same)) ∙ at)

pub work_all-requires-clause-seats : goal.work_all-requires-clause-seats
work_all-requires-clause-seats g c = λ _ _ k own there. c.in-Ok-seats.ensures.each k own (ap (λ l. slice_get l k) (sym c.deref_mut.ensures.value) ∙ there)

pub close_seats-requires : goal.close_seats-requires
close_seats-requires g c =
    let fleet = c.in-Ok.fleet in
    let rest = c.pop.new.self.items in
    let passed = c.in_ok-outside.outside in
    let one = c.push_reserved.ensures.items ∙ ap (λ l. l ++ c.post_all-is_posted.new.outside ∷ []) c.in-Ok-with_capacity.ensures.items in
    let back = refilled c.work_all.new.seats c.in-Ok-seats.seats.items c.in-Ok-seats.seats.len c.in-Ok-seats.seats.ok.0 (c.work_all.auto.seats ∙ ap length c.deref_mut.ensures.value) in
    let many = ap length back ∙ c.work_all.auto.seats ∙ ap length c.deref_mut.ensures.value ∙ c.in-Ok-seats.ensures.many in
    let cores = ap (λ k. (shape_of k).cores) c.in-Ok.ensures.of_setup in
    let count = c.in-Ok.ensures.of_count in
    let last = c.in-Ok.ensures.each (length rest) passed (ap (λ l. slice_get l (length rest)) c.in_ok-outside.ensures.items ∙ push_at rest passed) in
    record {
      home = record {
        of_setup = c.in-Ok-new.ensures.setup ∙ sym c.in-Ok.ensures.of_setup;
        of_passes = c.in-Ok-new.ensures.passes ∙ sym c.in-Ok.ensures.of_count;
        cores = many;
        all = let single = ap length one in omega (arith, many, single, count, cores);
        seats = λ place seat at. c.work_all.ensures place seat (ap (λ l. slice_get l place) (sym back) ∙ at);
        outsiders = λ place own at.
            let is = the_only c.post_all-is_posted.new.outside own place (ap (λ l. slice_get l place) (sym one) ∙ at) in
            let same = c.post_all-is_posted.ensures.number in
            let numbered = last.numbered in
            let all = ap length c.in_ok-outside.ensures.items in
            let length_all = c.in-Ok.ensures.many in
            subst (λ p. IsOutsider (shard_frame (λ s. tt)) fleet p) is (record { passes = c.post_all-is_posted.ensures.passes; outside = omega (arith, same, numbered, all, length_all, cores, length-append rest (passed ∷ [])) });
      };
    }

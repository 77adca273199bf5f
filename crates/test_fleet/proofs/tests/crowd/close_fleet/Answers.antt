use Rattle.std.proofs.Common.{◌∙◌, ap, arith, sym}
use Rattle.std.proofs.lemmas.Option.{slice_get_within}
use Rattle.mely_history.specs.Setup.{shape_of}
use Rattle.test_fleet.proofs.RowLemmas.{caller_seat}
use Rattle.test_fleet.proofs.tests.crowd.close_fleet.Goals as goal

pub close_seats-requires : goal.close_seats-requires
close_seats-requires c =
    let opened = c.requires in
    let cores = ap (λ s. (shape_of s).cores) (sym opened.of_setup) in
    record {
      home = record {
        of_setup = opened.room_setup ∙ sym opened.of_setup;
        of_passes = opened.room_passes;
        cores = c.in_ok-outside.ensures.cores ∙ cores;
        all = c.in_ok-outside.ensures.all ∙ opened.many;
        seats = λ n seat at.
            let within = slice_get_within c.part.new.callers.items n seat at in
            let low = c.in_ok-outside.ensures.cores in
            caller_seat (λ s. tt) (λ f c e l. Unit {0}) c.args.opened.fleet n seat.passes seat.worker (c.part.ensures.callers n seat at) (omega (arith, within, low, cores));
        outsiders = c.in_ok-outside.ensures.outside;
      };
    }

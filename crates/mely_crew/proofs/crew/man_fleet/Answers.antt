use Rattle.std.proofs.Common.{◌∷◌, [], length, ap, ◌∙◌, arith, length-append}
use Rattle.std.specs.Prelude.{slice_get}
use Rattle.mely_history.specs.declared.setup.Setup.{Setup}
use Rattle.mely_history.specs.Setup.{shape_of}
use Rattle.mely_weave.proofs.Wholes.DealLemmas.{push_at}
use Rattle.mely_crew.proofs.CrewLemmas.{still_there}
use Rattle.mely_crew.proofs.crew.man_fleet.Goals as goal

pub seats-requires-clause-many : goal.seats-requires-clause-many
seats-requires-clause-many g c =
    let many = ap length c.in-Some.ensures.items in
    let all = c.in_ok-fleet.ensures.many in
    let cores = ap (λ (k : Setup). (shape_of k).cores) c.in_ok-fleet.ensures.of_setup in
    omega (arith, many, all, cores, length-append c.pop.new.self.items (c.in-Some.outside ∷ []))

pub seats-requires-clause-first : goal.seats-requires-clause-first
seats-requires-clause-first g c = λ n own at. c.in_ok-fleet.ensures.each n own (ap (λ l. slice_get l n) c.in-Some.ensures.items ∙ still_there c.pop.new.self.items c.in-Some.outside n own at)

pub returns : goal.returns
returns g c =
    let rest = c.pop.new.self.items in
    let outside = c.in-Some.outside in
    let opened = c.in_ok-fleet.ensures in
    let own = opened.each (length rest) outside (ap (λ l. slice_get l (length rest)) c.in-Some.ensures.items ∙ push_at rest outside) in
    let many = ap length c.in-Some.ensures.items in
    let all = opened.many in
    let numbered = own.numbered in
    let cores = ap (λ (k : Setup). (shape_of k).cores) opened.of_setup in
    let longer = length-append rest (outside ∷ []) in
    record {
      of_setup = opened.of_setup;
      framed = λ state at. opened.framed 0 state at;
      given = opened.given;
      callers = opened.of_count;
      cores = c.in-Ok.ensures.many ∙ cores;
      seats = c.in-Ok.ensures.each;
      fresh = c.in-Ok.ensures.fresh;
      outside = record { passes = own.are; outside = omega (arith, many, all, numbered, cores, longer) };
      numbered = omega (arith, many, all, numbered, cores, longer);
      unseen = own.unseen;
    }

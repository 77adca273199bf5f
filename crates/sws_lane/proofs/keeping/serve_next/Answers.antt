use Rattle.std.proofs.Common.{refl, sym, ◌∙◌}
use Rattle.sws_lane.specs.Keepers.{report_of}
use Rattle.sws_lane.proofs.GenerationLemmas.{serves_one, stops_lost, stops_refused}
use Rattle.sws_lane.proofs.keeping.serve_next.Goals as goal

pub returns-in_default-clause-none : goal.returns-in_default-clause-none
returns-in_default-clause-none g c =
    stops_lost g.W.World g.W.Link.Link _ _ c.args.terms.now g.K.Keeper _ _ c.are_kept.ensures refl (sym c.take.ensures.value ∙ c.in_default.is) c.take.ensures.after refl

pub returns-then-not-begin-clause-none : goal.returns-then-not-begin-clause-none
returns-then-not-begin-clause-none g c =
    stops_refused g.W.World g.W.Link.Link _ _ c.args.terms.now g.K.Keeper _ _ c.in-Some.world c.are_kept.ensures refl (sym c.take.ensures.value ∙ c.in-Some.is) refl c.if-not-begin.ensures

pub returns-clause-next : goal.returns-clause-next
returns-clause-next g c =
    serves_one g.W.World g.W.Link.Link _ _ c.args.terms.now g.K.Keeper c.args.lane.now
    (record { world = c.serve_generation-left.result.0; keeper = c.end.new.self; totals = c.add.new.self }) c.begin.new.self c.in-Some.world c.site.result.now
    (report_of c.serve_generation-left.result.1) (sym c.take.ensures.value ∙ c.in-Some.is) c.serve_generation-left.ensures c.add.ensures c.site.ensures
    (c.if-not-begin.ensures) c.end.ensures

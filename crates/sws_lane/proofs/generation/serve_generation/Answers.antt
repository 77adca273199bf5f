use Rattle.std.proofs.Common.{refl}
use Rattle.sws_link.specs.declared.Opened.TheVariants.{Failed, Memory}
use Rattle.sws_lane.proofs.GenerationLemmas.{leaves_run, leaves_unopened}
use Rattle.sws_lane.specs.Keepers.{report_of}
use Rattle.sws_lane.proofs.generation.serve_generation.Goals as goal

pub returns-in-Failed : goal.returns-in-Failed
returns-in-Failed g c =
    let left = c.unopened.ensures in
    leaves_unopened g.W.World g.W.Link.Link _ _ c.args.terms.now c.args.site.now c.args.world c.open.new.self Failed c.unopened.result.0 (report_of c.unopened.result.1)
    c.in-Failed.ensures refl left.world left.opened left.unjudged left.nothing

pub returns-in-Memory : goal.returns-in-Memory
returns-in-Memory g c =
    let left = c.unopened-in-Memory.ensures in
    leaves_unopened g.W.World g.W.Link.Link _ _ c.args.terms.now c.args.site.now c.args.world c.open.new.self Memory c.unopened-in-Memory.result.0 (report_of c.unopened-in-Memory.result.1)
    c.in-Memory.ensures refl left.world left.opened left.unjudged left.nothing

pub returns : goal.returns
returns g c =
    let told = c.told_of.ensures in
    leaves_run g.W.World g.W.Link.Link _ _ c.args.terms.now c.args.site.now c.args.world c.open.new.self c.run_opened.result c.told_of.result.0 (report_of c.told_of.result.1)
    c.in-Ready.ensures c.run_opened.ensures told.world told.opened told.verdict told.counted

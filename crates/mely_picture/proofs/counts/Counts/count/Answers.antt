use Rattle.std.proofs.Common.{◌≤◌, ◌<◌, ◌+◌, ◌*◌, ◌/◌, min, get_or, refl, ap, ◌∙◌, subst}
use Rattle.mely_history.specs.Setup.{place}
use Rattle.mely_picture.specs.Plots.{place_of}
use Rattle.mely_picture.proofs.CountLemmas.{other_core, other_bucket, one_more}
use Rattle.mely_picture.proofs.counts.Counts.count.Goals as goal

pub returns-then-core-self-clause-cells : goal.returns-then-core-self-clause-cells
returns-then-core-self-clause-cells c = λ cell core bucket class room.
    other_core c.args.setup.now c.args.self.now.width c.args.self.now.cores cell c.args.at c.args.entry.now (get_or c.args.self.now.cells.items (place_of cell) 0)
    (subst (λ k. c.args.self.now.cores ≤ k) c.pass-core.ensures c.if-core-self.true) core

pub returns-then-bucket-from-clause-cells : goal.returns-then-bucket-from-clause-cells
returns-then-bucket-from-clause-cells c = λ cell core bucket class room.
    other_bucket c.args.setup.now c.args.self.now.width cell c.args.at c.args.entry.now (get_or c.args.self.now.cells.items (place_of cell) 0)
    (subst (λ k. k ≤ c.args.at / c.args.self.now.width) c.from.ensures c.if-bucket-from.true) bucket

pub returns-clause-cells : goal.returns-clause-cells
returns-clause-cells c = λ cell core bucket class room.
    let width = c.args.self.now.width in
    let at = c.args.at in
    let n = 17 * (c.from-2.result * c.pass-core.result + at / width) + c.min-class.result in
    one_more c.args.setup.now width c.args.self.now.cores cell at c.args.entry.now c.args.self.now.cells.items c.pass-core.result (at / width) c.min-class.result n c.index.result.now _ c.saturating_add.result c.pass-core.ensures refl
    (c.min-class.ensures ∙ ap (λ k. min k 16) (c.place_of.ensures ∙ ap (place c.args.setup.now) c.colour.ensures)) (ap (λ k. 17 * (k * c.pass-core.result + at / width) + c.min-class.result) c.from-2.ensures) c.if-core-self.false
    (subst (λ k. at / width < k) c.from.ensures c.if-bucket-from.false) c.args.self.now.many c.index.ensures c.saturating_add.ensures bucket class room

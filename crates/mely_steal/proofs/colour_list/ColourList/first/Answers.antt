use Rattle.std.proofs.Common.{◌<◌, length, arith, subst}
use Rattle.mely_steal.specs.Links.{after_at}
use Rattle.mely_steal.specs.ColourList.{ColourListState}
use Rattle.mely_steal.proofs.LinkLemmas.{walked-in}
use Rattle.mely_steal.proofs.colour_list.ColourList.first.Goals as goal

pub returns-clause-within : goal.returns-clause-within
returns-clause-within c =
    let L = c.self.inside.links.items in
    let e = c.self.inside.ends in
    let some = c.if-self-eq0.false in
    let pos : 0 < e.len = omega arith in
    let inside : e.first < length L = c.self.invariant.strung.below e.first (walked-in (after_at L) e.len 0 e.first pos) in
    let long = c.self.invariant.long in
    let Within : ColourListState → Type 0 = λ v. e.first < v.colours in
    let within : e.first < c.self.inside.colours = omega arith in
    subst Within c.self.view_is within

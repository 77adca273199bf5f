use Rattle.std.proofs.Common.{List, ℕ, sym, ap}
use Rattle.mely_steal.specs.ColourList.{ColourListState}
use Rattle.mely_steal.proofs.LinkLemmas.{dropped-none}
use Rattle.mely_steal.proofs.colour_list.ColourList.remove.Goals as goal

pub returns-else-contains : goal.returns-else-contains
returns-else-contains c =
    let now = c.args.self.now in
    let like : List ℕ → ColourListState = λ xs. record { list = xs; colours = now.colours } in
    record { after = ap like (sym (dropped-none c.args.colour.0 now.list (sym c.if-contains.ensures.value))) }

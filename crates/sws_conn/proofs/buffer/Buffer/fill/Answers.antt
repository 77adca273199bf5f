use Rattle.std.proofs.Common.{sym, subst}
use Rattle.sws_link.specs.Links.{given_by}
use Rattle.sws_conn.specs.Searches.{IsSearchedFor}
use Rattle.sws_conn.proofs.SearchLemmas.{searched-more}
use Rattle.sws_conn.proofs.buffer.Buffer.fill.Goals as goal

pub invariant_of-self : goal.invariant_of-self
invariant_of-self g c =
    let buffer = c.self.inside in
    let fills = c.fill.ensures.fills in
    subst (IsSearchedFor buffer.cut buffer.scan buffer.seen) (sym fills.grown)
    (searched-more buffer.cut buffer.scan buffer.seen buffer.window (given_by c.fill.result fills.into) c.self.invariant)

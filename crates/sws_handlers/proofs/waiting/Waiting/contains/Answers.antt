use Rattle.std.proofs.Common.{◌≡◌, ◌≤◌, ◌∙◌, None, sym, ap, arith, get_or, length}
use Rattle.std.proofs.lemmas.List.{get_or_past}
use Rattle.std.specs.Prelude.{◌==◌, is_some}
use Rattle.std.specs.List.{list_any}
use Rattle.sws_handlers.specs.Waiting.{WaitingState}
use Rattle.sws_handlers.specs.WaitingKept.{is_marked}
use Rattle.sws_handlers.proofs.Events.TableLemmas.{marked_any}
use Rattle.sws_handlers.proofs.waiting.Waiting.contains.Goals as goal

pub returns-in-Some : goal.returns-in-Some
returns-in-Some c =
    let told = c.in-Some.ensures in
    let at : c.in-Some.since.now ≡ get_or c.deref.result.now c.from.result None = told.lookup.4 (omega arith) None in
    c.is_some.ensures
    ∙ ap is_some at
    ∙ ap (λ xs. is_some (get_or xs c.from.result None)) c.deref.ensures.value
    ∙ ap (λ k. is_marked c.self.inside.since.items k) c.from.ensures
    ∙ marked_any c.self.inside.conns.items c.self.inside.since.items c.self.invariant.counted c.args.conn
    ∙ ap (λ (w : WaitingState). list_any (λ k. k == c.args.conn) w.items) c.self.view_is

pub returns-in-None : goal.returns-in-None
returns-in-None c =
    let told = c.in-None.ensures in
    let past : length c.self.inside.since.items ≤ c.args.conn = let p = told.lookup.3 in let same = ap length c.deref.ensures.value in let conn = c.from.ensures in omega (arith, p, same, conn) in
    sym (ap is_some (get_or_past c.self.inside.since.items c.args.conn None past))
    ∙ marked_any c.self.inside.conns.items c.self.inside.since.items c.self.invariant.counted c.args.conn
    ∙ ap (λ (w : WaitingState). list_any (λ k. k == c.args.conn) w.items) c.self.view_is

use Rattle.std.proofs.Common.{arith, ℕ, ◌+◌, sym, ap, ◌∙◌}
use Rattle.mely_lock.proofs.CallsLemmas.{tries_at, has_slot, came_in}
use Rattle.mely_lock.proofs.ticketed.Ticketed.try_enter.Goals as goal

pub compare_exchange-found-requires : goal.compare_exchange-found-requires
compare_exchange-found-requires g c = let t = c.requires.outside in let size = c.args.self.now.sized in let from = c.from-ticket.ensures in
    (c.requires.table, omega arith, tries_at g.V.Kept.history_of g.V.Kept.pass_of g.V.Kept.frame_of _ _ _ _ _ _ t.0 size.1 t.1 (ap (λ (n : ℕ). n + 1) (from ∙ sym t.2)))

pub exchange-requires : goal.exchange-requires
exchange-requires g c = let t = c.requires.outside in let e = c.compare_exchange-found.ensures in let in_it = e.2.1 c.if-found-ne0.false t.0 t.1 in
    (e.0 ∙ c.requires.table, has_slot _ _ _ in_it.1)

pub returns-clause-refused : goal.returns-clause-refused
returns-clause-refused g c = let t = c.requires.outside in let e = c.compare_exchange-found.ensures in let w = c.exchange.ensures in
    (came_in g.V.Kept.history_of g.V.Kept.pass_of g.V.Kept.frame_of _ _ _ _ _ t.0 t.1 c.if-found-ne0.false e.2 w.2 w.3).0

pub returns-clause-entered : goal.returns-clause-entered
returns-clause-entered g c = let t = c.requires.outside in let e = c.compare_exchange-found.ensures in let w = c.exchange.ensures in
    (came_in g.V.Kept.history_of g.V.Kept.pass_of g.V.Kept.frame_of _ _ _ _ _ t.0 t.1 c.if-found-ne0.false e.2 w.2 w.3).1

use Rattle.std.proofs.Common.{arith, ap, ◌∙◌, refl, Some, None}
use Rattle.mely_lock.specs.Steps.{claim_with_front}
use Rattle.mely_lock.proofs.CallsLemmas.{notes_at, leaves_at, put_in, as_seen, went_out}
use Rattle.mely_lock.proofs.ticketed.Ticketed.put_back.Goals as goal
use Rattle.mely_lock.proofs.ticketed.Ticketed.put_back.Goals.{then-grown, else-grown}

pub fetch_add-requires : goal.fetch_add-requires
fetch_add-requires g c = let t = c.requires.inside in let e = c.exchange-taken.ensures in let size = c.args.self.now.sized in let one = t.3.0 c.if-grown.true in
    (e.0 ∙ c.requires.table, omega arith, notes_at g.V.Kept.history_of g.V.Kept.pass_of g.V.Kept.frame_of _ _ _ _ _ t.0 c.args.value one.0 size.1 (put_in _ _ t.0 None (Some c.args.value) t.1 e.3) one.1 one.2 c.requires.fits)

pub store-requires : goal.store-requires
store-requires g c = let t = c.requires.inside in let e = c.exchange-taken.ensures in let size = c.args.self.now.sized in let x = c.args.value in
    let back = put_in _ _ t.0 None (Some x) t.1 e.3 in
    elim c.if-grown.branch [
      | then-grown w ↦ (
        ap (λ s. s.table_id) w.place-is ∙ (w.fetch_add.ensures.0 ∙ (e.0 ∙ c.requires.table)),
        omega arith,
        leaves_at g.V.Kept.history_of g.V.Kept.pass_of g.V.Kept.frame_of _ _ _ _ _ (claim_with_front t.0 (g.V.Kept.history_of x)) x size.1 (ap (λ s. s.me) w.place-is ∙ w.fetch_add.ensures.2 t.0 x back) refl t.2,
      )
      | else-grown w ↦ (
        ap (λ s. s.table_id) w.place-is ∙ (e.0 ∙ c.requires.table),
        omega arith,
        leaves_at g.V.Kept.history_of g.V.Kept.pass_of g.V.Kept.frame_of _ _ _ _ _ (claim_with_front t.0 (g.V.Kept.history_of x)) x size.1 (ap (λ s. s.me) w.place-is ∙ (back ∙ as_seen g.V.Kept.history_of g.V.Kept.pass_of g.V.Kept.frame_of t.0 x (t.3.1 w.if-grown.false))) refl t.2,
      )
    ]

pub returns-clause-left : goal.returns-clause-left
returns-clause-left g c = let t = c.requires.inside in let e = c.exchange-taken.ensures in let x = c.args.value in
    let back = put_in _ _ t.0 None (Some x) t.1 e.3 in
    elim c.if-grown.branch [
      | then-grown w ↦ went_out g.V.Kept.history_of g.V.Kept.pass_of g.V.Kept.frame_of _ _ _ t.0 x t.1 (ap (λ s. s.me) w.place-is ∙ w.fetch_add.ensures.2 t.0 x back) c.store.ensures.2
      | else-grown w ↦ went_out g.V.Kept.history_of g.V.Kept.pass_of g.V.Kept.frame_of _ _ _ t.0 x t.1 (ap (λ s. s.me) w.place-is ∙ (back ∙ as_seen g.V.Kept.history_of g.V.Kept.pass_of g.V.Kept.frame_of t.0 x (t.3.1 w.if-grown.false))) c.store.ensures.2
    ]

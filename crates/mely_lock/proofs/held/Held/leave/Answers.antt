use Rattle.std.proofs.Common.{sym, ap, ◌∙◌, refl, length, Some}
use Rattle.mely_lock.proofs.CallsLemmas.{WentOut, may_put, go_out}
use Rattle.mely_lock.proofs.held.Held.leave.Goals as goal
use Rattle.mely_lock.proofs.held.Held.leave.Goals.{After-put_back}

pub put_back-requires-clause-inside : goal.put_back-requires-clause-inside
put_back-requires-clause-inside g c = let p = c.args.pass.now in let h = c.requires.pass in
    may_put g.V.Kept.history_of g.V.Kept.pass_of g.V.Kept.frame_of p.place.me _ _ _ c.args.self.value p.single p.numbered p.counted h.1.0 h.1.1 (h.0.1 ∙ ap (λ f. Some f) (sym c.requires.frame)) c.notes-notes.ensures c.requires.history

-- what is known of the seat once the pass is outside
went : (g : _) (c : After-put_back g) → WentOut g.V.Kept.history_of g.V.Kept.pass_of g.V.Kept.frame_of c.args.pass.now.place.me c.args.pass.now.number c.args.self.value c.put_back.new.place.me
went g c =
    let p = c.args.pass.now in
    let h = c.requires.pass in
    go_out g.V.Kept.history_of g.V.Kept.pass_of g.V.Kept.frame_of p.place.me _ _ _ p.single p.numbered h.1.0 h.1.1 c.put_back.ensures.left

pub invariant_of-pass : goal.invariant_of-pass
invariant_of-pass g c =
    let t = went g (goal.at.invariant_of-pass g c).After-put_back in
    record { single = t.single; numbered = t.number; counted = ap length t.front ∙ sym c.notes-notes.ensures }

pub returns-clause-pass : goal.returns-clause-pass
returns-clause-pass g c =
    let t = went g (goal.at.returns-clause-pass g c).After-put_back in
    ((c.put_back.ensures.table ∙ c.requires.pass.0.0, t.framed ∙ c.requires.pass.0.1), (t.off, t.hand), refl)

pub returns-clause-seen : goal.returns-clause-seen
returns-clause-seen g c = (went g (goal.at.returns-clause-seen g c).After-put_back).front

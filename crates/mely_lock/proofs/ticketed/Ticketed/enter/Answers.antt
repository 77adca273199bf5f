use Rattle.std.proofs.Common.{sym, ap, ◌∙◌, refl, length, subst}
use Rattle.mely_lock.specs.Seen.{OthersSince}
use Rattle.mely_lock.specs.Words.{initial_value, front}
use Rattle.mely_lock.proofs.CallsLemmas.{CameIn, as_waiting, come_in}
use Rattle.mely_lock.proofs.ticketed.Ticketed.enter.Goals as goal
use Rattle.mely_lock.proofs.ticketed.Ticketed.enter.Goals.{After-go_in-value}

pub go_in-value-requires-clause-outside : goal.go_in-value-requires-clause-outside
go_in-value-requires-clause-outside g c = let p = c.args.pass.now in let h = c.requires in let t = as_waiting p.place.me p.single h.1.0 h.1.1 in (t.0, t.1, sym t.2 ∙ p.numbered)

-- what is known of the seat once the pass is inside
came : (g : _) (c : After-go_in-value g) → CameIn g.V.Kept.history_of g.V.Kept.pass_of g.V.Kept.frame_of c.args.pass.now.place.me c.args.pass.now.number (g.V.Kept.frame_of (initial_value c.args.self.now)) c.go_in-value.result c.go_in-value.new.place.me
came g c =
    let p = c.args.pass.now in
    let h = c.requires in
    come_in g.V.Kept.history_of g.V.Kept.pass_of g.V.Kept.frame_of p.place.me _ _ _ _ p.single p.numbered h.1.0 h.1.1 h.0.1 c.go_in-value.ensures.entered

pub invariant_of-pass : goal.invariant_of-pass
invariant_of-pass g c =
    let t = came g (goal.at.invariant_of-pass g c).After-go_in-value in
    record { single = t.single; numbered = t.number; counted = ap length t.front ∙ sym c.notes-pass.ensures }

pub returns-clause-pass : goal.returns-clause-pass
returns-clause-pass g c =
    let t = came g (goal.at.returns-clause-pass g c).After-go_in-value in
    ((c.go_in-value.ensures.table ∙ c.requires.0.0, t.framed), (t.on, t.hand), refl)

pub returns-clause-point : goal.returns-clause-point
returns-clause-point g c =
    let t = came g (goal.at.returns-clause-point g c).After-go_in-value in
    subst (λ l. OthersSince g.V.Kept.pass_of c.args.pass.now.number (front c.args.pass.now) l) (sym t.front) t.since

pub returns-clause-seen : goal.returns-clause-seen
returns-clause-seen g c = (came g (goal.at.returns-clause-seen g c).After-go_in-value).front

pub returns-clause-held : goal.returns-clause-held
returns-clause-held g c = (refl, (came g (goal.at.returns-clause-held g c).After-go_in-value).same_frame)

use Rattle.std.proofs.Common.{arith, sym, ◌≤◌, ℕ, List, subst, get_or, eqb}
use Rattle.std.proofs.lemmas.Bool.{eqb-true}
use Rattle.mely_lock.specs.Seen.{OthersSince}
use Rattle.mely_lock.specs.Words.{front, IsPassOf, IsOutside}
use Rattle.mely_lock.specs.declared.claim.Claim.{Claim}
use Rattle.mely_lock.specs.declared.pass.Pass.{Pass}
use Rattle.mely_lock.proofs.SeenLemmas.{since_own}
use Rattle.mely_lock.proofs.ListsLemmas.{All-at, Each-at, get_or_at, some_passes}
use Rattle.mely_lock.proofs.ticketed.Ticketed.close.Goals as goal

pub gather-seat-requires-clause-each : goal.gather-seat-requires-clause-each
gather-seat-requires-clause-each g c = λ k p there. let t = All-at (λ (q : Pass g.row.V.Denot g.row.V-Note.Denot g.row.V-Frame.Denot g.V.Kept). IsPassOf g.V.Kept.frame_of c.args.self q × IsOutside q) c.args.passes.items c.requires.each k p there in (t.0.0, t.1)

pub returns-clause-frame : goal.returns-clause-frame
returns-clause-frame g c = c.take_back.ensures.framed

pub returns-clause-fronts : goal.returns-clause-fronts
returns-clause-fronts g c = λ k d l. let p = get_or c.args.passes.items k d in let (j, q, there, number, seen) = c.gather-seat.ensures.each k p (get_or_at c.args.passes.items k d l) in
    let P : ℕ × List g.row.V-Note.Denot → Type 0 = λ u. OthersSince g.V.Kept.pass_of u.0 u.1 (g.V.Kept.history_of c.take_back.result) in
    subst P (λ i. (number i, seen i)) (Each-at (λ (e : Claim g.row.V-Note.Denot g.row.V-Frame.Denot). OthersSince g.V.Kept.pass_of e.number e.front (g.V.Kept.history_of c.take_back.result)) _ j q c.take_back.ensures.fronts there)

pub returns-clause-own : goal.returns-clause-own
returns-clause-own g c = λ k d l. let p = get_or c.args.passes.items k d in since_own g.V.Kept.pass_of p.number (front p) _ (returns-clause-fronts g c k d l)

pub returns-clause-numbers : goal.returns-clause-numbers
returns-clause-numbers g c = λ n below. let same = c.args.self.counted in let some = c.take_back.ensures.each n (omega arith) in let all = c.gather-seat.ensures.shares n in
    let (k, p, l, there, is) = some_passes (λ (q : Pass g.row.V.Denot g.row.V-Note.Denot g.row.V-Frame.Denot g.V.Kept). eqb q.number n) c.args.passes.items (omega arith) in (k, p, l, there, eqb-true p.number n is)

pub returns-clause-strangers : goal.returns-clause-strangers
returns-clause-strangers g c = λ n above. c.take_back.ensures.strangers n (subst (λ (m : ℕ). m ≤ n) (sym c.args.self.counted) above)

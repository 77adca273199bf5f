use Rattle.std.proofs.Common.{get_or, ◌≡◌, ◌<◌, ℕ, sym, subst}
use Rattle.mely_lock.proofs.ListsLemmas.{get_or_at, at_place}
use Rattle.mely_lock.proofs.ticketed.Ticketed.new_or_back.Goals as goal

pub returns-clause-each : goal.returns-clause-each
returns-clause-each g c = let h = c.deal-dealt.ensures.each in λ k d l. let items = c.deal-dealt.result.items in let t = h k (get_or items k d) (get_or_at items k d l) in ((t.3, t.4), t.2, t.1)

pub returns-clause-numbers : goal.returns-clause-numbers
returns-clause-numbers g c = let h = c.deal-dealt.ensures.each in let many = c.deal-dealt.ensures.count in
    λ k d l. at_place (λ j p. p.number ≡ j) c.deal-dealt.result.items (λ j p there. (h j p there).0) k d (subst (λ (n : ℕ). k < n) (sym many) l)

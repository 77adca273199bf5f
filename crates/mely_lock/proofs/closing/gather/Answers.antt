use Rattle.std.proofs.Common.{arith, ap, ◌∙◌, sym, refl, length, ℕ, ◌++◌, [], ◌∷◌, subst, inl, inr, ⊎_elim, length-append, count_by, cond, eqb}
use lib.ListN.{get_elem?}
use Rattle.atomic_table.proofs.Lists.{at_last, at_longer, at_snoc}
use Rattle.mely_lock.specs.declared.pass.Pass.{Pass}
use Rattle.mely_lock.specs.Views.{HasClaim, shares_of}
use Rattle.mely_lock.specs.Words.{front}
use Rattle.mely_lock.proofs.CallsLemmas.{sits_at, joins_at, keeps_claim, gains_claim, shares_of-single}
use Rattle.mely_lock.proofs.ClaimsLemmas.{shares_of-append}
use Rattle.std.proofs.lemmas.List.Sums.{sum_by_push, count_by-le-length}
use Rattle.mely_lock.proofs.closing.gather.Goals as goal

pub load_new_seat-seat-requires : goal.load_new_seat-seat-requires
load_new_seat-seat-requires g c = (c.requires.size, sits_at g.V.Kept.history_of g.V.Kept.pass_of g.V.Kept.frame_of _ _ _)

pub join_seat-requires : goal.join_seat-requires
join_seat-requires g c = let l = c.loop-pass.invariant in let is = c.in-Some.ensures.items in let left = c.pop.new.self.items in let size = c.requires.size in
    let h = c.requires.each _ _ (l.left (length left) c.in-Some.pass (ap (λ m. get_elem? m (length left)) is ∙ at_last left c.in-Some.pass (length left) refl)) in
    (l.table, h.0, h.1.1, omega arith, joins_at g.V.Kept.history_of g.V.Kept.pass_of g.V.Kept.frame_of _ _ _ _ c.loop-pass.seat.me c.in-Some.pass.place.me l.out h.1.0)

pub loop-pass-preserved : goal.loop-pass-preserved
loop-pass-preserved g c = let l = c.loop-pass.invariant in let is = c.in-Some.ensures.items in let e = c.join_seat.ensures in let left = c.pop.new.self.items in let pass = c.in-Some.pass in
    let claims = ap (λ u. u.0.claims) e.2 in
    record {
      table = e.0 ∙ l.table;
      out = ap (λ u. u.0.inside) e.2 ∙ l.out;
      many = let more = ap length claims ∙ length-append c.loop-pass.seat.me.0.claims pass.place.me.0.claims in let before = ap length is ∙ length-append left (pass ∷ []) in let all = l.many in let one = pass.single in omega arith;
      shares = λ n. let more = ap (shares_of n) claims ∙ shares_of-append n c.loop-pass.seat.me.0.claims pass.place.me.0.claims in let mine = shares_of-single n pass.number pass.place.me.0.claims pass.single pass.numbered in
          let before = ap (count_by (λ p. eqb p.number n)) is ∙ sum_by_push (λ p. cond (eqb p.number n) 1 0) left pass in let all = l.shares n in omega arith;
      left = λ k p there. l.left k p (ap (λ m. get_elem? m k) is ∙ at_longer left (pass ∷ []) k p there);
      done = λ k p there. ⊎_elim
          (λ t. ⊎_elim (λ u. inl u) (λ u. inr (subst (λ (q : Pass g.row.V.Denot g.row.V-Note.Denot g.row.V-Frame.Denot g.V.Kept). HasClaim c.join_seat.new.seat.me.0.claims q.number (front q)) u
          (subst (λ cs. HasClaim cs pass.number (front pass)) (sym claims)
          (subst (λ (n : ℕ). HasClaim (c.loop-pass.seat.me.0.claims ++ pass.place.me.0.claims) n (front pass)) pass.numbered
          (gains_claim c.loop-pass.seat.me.0.claims pass.place.me.0.claims pass.single)))))
          (at_snoc left pass p k (sym (ap (λ m. get_elem? m k) is) ∙ t)))
          (λ t. inr (subst (λ cs. HasClaim cs p.number (front p)) (sym claims) (keeps_claim c.loop-pass.seat.me.0.claims pass.place.me.0.claims _ _ t)))
          (l.done k p there);
    }

pub returns-clause-shares : goal.returns-clause-shares
returns-clause-shares g c = λ n. let passes = c.loop-pass.passes in let few = count_by-le-length (λ p. eqb p.number n) passes.items in let empty = c.in_default.ensures.cases.0 in let long = passes.ok in let all = c.loop-pass.invariant.shares n in omega arith

use Rattle.std.proofs.Common.{◌≡◌, ◌+◌, false, take, refl, sym, subst, ap, ◌∙◌, arith}
use Rattle.std.specs.Prelude.{IsTrue}
use Rattle.std.proofs.lemmas.Option.{slice_get-get_or}
use Rattle.mely_history.specs.Entries.{colour_of}
use Rattle.mely_history.specs.ColourCounts.{Tells}
use Rattle.mely_history.proofs.ColourCountsLemmas.{allows_exactly}
use Rattle.mely_history.proofs.JudgeLemmas.{entry_at, first_entry, before_first, allowed_more, tells_of, tells_next, tells_past, not_allowed}
use Rattle.mely_history.proofs.judging.first_fault.Goals as goal
use Rattle.mely_history.proofs.judging.first_fault.Goals.{then-colour+else-not-allows, else-colour}

pub loop-at-init : goal.loop-at-init
loop-at-init c =
    let within = c.requires.within in
    let both = before_first c.args.setup.now c.args.history.now c.args.colour c.new-counts.result c.args.from (omega (arith, within.0, within.1)) c.requires.none c.new-counts.ensures in
    record { tells = both.0; allowed = both.1 }

pub returns-then-not-allows : goal.returns-then-not-allows
returns-then-not-allows c =
    let history = c.args.history.now in
    let low = c.loop-at-test.true in
    let within = c.requires.within in
    let there = slice_get-get_or history c.loop-at.at _ (omega (arith, low, within.1)) in
    let own = ap (λ k. k.0) (sym c.colour.ensures) ∙ c.if-colour.true in
    record {
      within = omega (arith, low);
      legal_before = c.loop-at.invariant.allowed;
      fault = λ below entry is. not_allowed c.args.setup.now history c.args.colour c.loop-at.counts c.loop-at.at _ entry there own c.loop-at.invariant.tells (λ may. let no : IsTrue false = c.if-not-allows.ensures.1 may in cc) is;
    }

pub add-requires-clause-tells : goal.add-requires-clause-tells
add-requires-clause-tells c =
    let own = ap (λ k. k.0) (sym c.colour.ensures) ∙ c.if-colour.true in
    tells_of c.args.setup.now (take c.loop-at.at c.args.history.now) c.args.colour c.loop-at.counts (entry_at c.args.history.now c.loop-at.at) own c.loop-at.invariant.tells

pub loop-at-preserved : goal.loop-at-preserved
loop-at-preserved c =
    let setup = c.args.setup.now in
    let history = c.args.history.now in
    let at = c.loop-at.at in
    let entry = entry_at history at in
    let low = c.loop-at-test.true in
    let within = c.requires.within in
    let there = slice_get-get_or history at first_entry (omega (arith, low, within.1)) in
    elim c.if-colour.branch [
      | then-colour+else-not-allows w ↦
          let own : (colour_of entry).0 ≡ c.args.colour.0 = ap (λ k. k.0) (sym c.colour.ensures) ∙ w.if-colour.true in
          let tells = tells_of setup (take at history) c.args.colour c.loop-at.counts entry own c.loop-at.invariant.tells in
          let may = (allows_exactly setup (take at history) entry c.loop-at.counts tells).0 (w.if-not-allows.ensures.0 refl) in
          record {
            tells = subst (λ t. Tells setup (take (at + 1) history) c.args.colour t) (sym w.counts-is) (tells_next setup history c.args.colour w.add.new.self at entry there own w.add.ensures);
            allowed = allowed_more setup history c.args.colour at entry c.loop-at.invariant.allowed there (λ _. may);
          }
      | else-colour w ↦
          let other : (colour_of entry).0 ≡ c.args.colour.0 → ⊥ = λ own. w.if-colour.false (ap (λ k. k.0) c.colour.ensures ∙ own) in
          record {
            tells = subst (λ t. Tells setup (take (at + 1) history) c.args.colour t) (sym w.counts-is) (tells_past setup history c.args.colour c.loop-at.counts at entry there other c.loop-at.invariant.tells);
            allowed = allowed_more setup history c.args.colour at entry c.loop-at.invariant.allowed there (λ own. absurd (other own));
          }
    ]

-- A machine has one run.
use Rattle.std.proofs.Common.{◌≡◌, ℕ, true, List, arith, sym, ap, ◌∙◌, inl, inr}
use Rattle.std.proofs.lemmas.Bool.{cases_lt, true≢false}
use Rattle.mely_event.specs.declared.colour.Colour.{Colour}
use Rattle.mely_event.specs.declared.event.Event.{Event}
use Rattle.mely_history.specs.declared.entry.Entry.{Entry}
use Rattle.mely_machine.specs.Rules.{Rules}
use Rattle.mely_machine.specs.Machine.{Acts, Machine}
use Rattle.mely_machine.specs.MachineRun.{rounds, is_quiet, DrainsTo, RunsTo}

module _ {X : Type 0} (rules : Rules) (act : Acts X) where
  -- of two counts of rounds neither is the smaller, since before each round of the
  -- other something was left
  one_drain : (before a b : Machine X) → DrainsTo rules act before a → DrainsTo rules act before b → a ≡ b
  one_drain before a b one other = one.last ∙ ap (λ (n : ℕ). rounds rules act n before) same ∙ sym other.last
    where
      quiet_at : (m : Machine X) (n : ℕ) → m ≡ rounds rules act n before → is_quiet m ≡ true → is_quiet (rounds rules act n before) ≡ true
      quiet_at m n e quiet = ap is_quiet (sym e) ∙ quiet

      same : one.count ≡ other.count
      same = elim (cases_lt one.count other.count) [
        | inl less ↦ absurd (true≢false (sym (quiet_at a one.count one.last one.quiet) ∙ other.busy one.count less))
        | inr more ↦ elim (cases_lt other.count one.count) [
          | inl less ↦ absurd (true≢false (sym (quiet_at b other.count other.last other.quiet) ∙ one.busy other.count less))
          | inr fewer ↦ omega (arith, more, fewer)
        ]
      ]

  pub one_run : (app : X) (first : Colour × Event) (schedule : List (ℕ × ℕ)) (a b : List (List Entry)) → RunsTo rules act app first schedule a → RunsTo rules act app first schedule b → a ≡ b
  one_run app first schedule a b one other =
      one.told ∙ ap (λ (m : Machine X). m.histories) (one_drain _ one.end other.end one.drains other.drains) ∙ sym other.told

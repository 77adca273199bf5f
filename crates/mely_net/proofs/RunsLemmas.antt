-- Over runs that follow one another a cell has one history.
use Rattle.std.proofs.Common.{◌≡◌, ◌<◌, ◌≤◌, ◌+◌, ◌-◌, ℕ, zero, suc, List, [], ◌∷◌, ◌++◌, None, Some, length, refl, sym, ◌∙◌, ap, subst, arith}
use Rattle.std.proofs.lemmas.Option.{same_Some, slice_get_within}
use Rattle.std.specs.Prelude.{slice_get}
use Rattle.sws_link.specs.declared.Link.{Ghosts as LinkWords}
use Rattle.mely_net.specs.declared.part.Part.{Part}
use Rattle.mely_net.specs.declared.part.Part.TheVariants as part
use Rattle.mely_net.specs.Exchanges.{Exchange, IsAt, Steps}
use Rattle.mely_net.specs.Rules.{Rules}
use Rattle.mely_net.specs.Runs.{HasOneHistory, HaveFollowed, Run, cell_in, cells_in, history_along}
use Rattle.mely_net.specs.Served.{HasServedFrom}
use Rattle.mely_net.proofs.FreshLemmas.{in_front}

module _ {Q P C : Type 0} (rules : Rules Q P C) (cell : ℕ) where
  -- steps behind steps
  steps_both : (first between last : C) (one two : List (Exchange Q P)) → Steps rules cell first one between → Steps rules cell between two last → Steps rules cell first (one ++ two) last
  steps_both first between last [] two steps more = subst (λ v. Steps rules cell v two last) steps more
  steps_both first between last (exchange ∷ one) two steps more = (steps.0, steps.1, steps_both steps.0 between last one two steps.2 more)

module _ {Q P C W L : Type 0} (rules : Rules Q P C) (l : LinkWords L) where
  no_cell : (desk : _) (one : Part C W L Q P l) (rest : List (Part C W L Q P l)) → one ≡ part.Desk desk → cells_in (one ∷ rest) ≡ cells_in rest
  no_cell desk (part.Desk other) rest is = refl
  no_cell desk (part.Cell value) rest is = absurd (let never : ⊥ = cc is in never)
  no_cell desk (part.Client client) rest is = absurd (let never : ⊥ = cc is in never)

  is_client_part : (value : _) (one : Part C W L Q P l) → one ≡ part.Client value → cell_in one ≡ None
  is_client_part value (part.Desk desk) is = refl
  is_client_part value (part.Cell other) is = absurd (let never : ⊥ = cc is in never)
  is_client_part value (part.Client client) is = refl

  -- the cells of a run that came to its end are all there are
  pub cells_are : (Begins : ℕ → C → Type 0) (clients : ℕ) (parts : List (Part C W L Q P l)) → HasServedFrom rules l Begins clients parts → (length (cells_in parts) ≡ rules.cells)
      × ((cell : ℕ) (value : C) → cell < rules.cells → slice_get parts (cell + 1) ≡ Some (part.Cell value) → slice_get (cells_in parts) cell ≡ Some value)
  cells_are Begins clients [] served = absurd (let none = served.asking in cc none)
  cells_are Begins clients (one ∷ rest) served =
      let desk_is : one ≡ part.Desk served.desk = same_Some one (part.Desk served.desk) served.asking in
      let front = in_front rest rules.cells (λ k low. let at = served.sequential k low in (at.0, subst (λ n. slice_get (one ∷ rest) n ≡ Some (part.Cell at.0)) (next k) at.1)) others in
      let all = no_cell served.desk one rest desk_is in
      (ap length all ∙ front.many, λ cell value low at. ap (λ c. slice_get c cell) all ∙ front.each cell value low (subst (λ n. slice_get (one ∷ rest) n ≡ Some (part.Cell value)) (next cell) at))
    where
      next : (k : ℕ) → k + 1 ≡ suc k
      next k = omega arith

      others : (k : ℕ) (other : Part C W L Q P l) → rules.cells ≤ k → slice_get rest k ≡ Some other → cell_in other ≡ None
      others k other high at =
          let many = served.many in
          let within = slice_get_within rest k other at in
          let client = served.answered (k - rules.cells) (omega (arith, many, within, high)) in
          let place : k - rules.cells + rules.cells + 1 ≡ suc k = omega (arith, high) in
          is_client_part client.0 other (same_Some other (part.Client client.0) (sym at ∙ sym (ap (slice_get (one ∷ rest)) place) ∙ client.1))

  pub one_history : (cell : ℕ) (cells : List C) (runs : List (Run C W L Q P l)) (last : List C) → length cells ≡ rules.cells → cell < rules.cells → (followed : HaveFollowed rules l cells runs last) → HasOneHistory rules l cell cells runs last followed
  one_history cell cells [] last many low followed =
      let at = there cells cell (omega (arith, many, low)) in
      record { first = at.0; begins = at.1; value = at.0; ends = ap (λ c. slice_get c cell) followed ∙ at.1; steps = refl }
    where
      there : {X : Type 0} (xs : List X) (n : ℕ) → n < length xs → (x : X) × (slice_get xs n ≡ Some x)
      there [] n few = absurd (omega (arith, few))
      there (x ∷ xs) zero few = (x, refl)
      there (x ∷ xs) (suc n) few = there xs n (omega (arith, few))
  one_history cell cells (run ∷ runs) last many low followed =
      let here = followed.0.sequential cell low in
      let are = cells_are (IsAt cells) run.clients run.parts followed.0 in
      let rest = one_history cell (cells_in run.parts) runs last are.0 low followed.1 in
      let same : here.0 ≡ rest.first = same_Some here.0 rest.first (sym (are.1 cell here.0 low here.1) ∙ rest.begins) in
      record {
        first = here.2.first;
        begins = here.2.begins;
        value = rest.value;
        ends = rest.ends;
        steps = steps_both rules cell here.2.first rest.first rest.value (followed.0.histories cell) (history_along rules l cell (cells_in run.parts) runs last followed.1) (subst (λ v. Steps rules cell here.2.first (followed.0.histories cell) v) same here.2.steps) rest.steps;
      }

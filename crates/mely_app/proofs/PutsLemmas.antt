-- Where what a handler puts is told by the events, the histories alone say what was registered.
use Rattle.std.proofs.Common.{◌≡◌, ℕ, zero, suc, ◌+◌, ◌<◌, ◌≤◌, ◌==◌, Bool, List, [], ◌∷◌, Option, Some, if◌then◌else◌, refl, sym, ◌∙◌, ap, arith, inl, inr, eq-eqb, ne_eqb}
use Rattle.std.proofs.lemmas.Bool.{cases_eq}
use Rattle.std.proofs.lemmas.List.Sums.{sum_by-cons}
use Rattle.std.specs.List.{AllByRecursion}
use Rattle.std.specs.Prelude.{sum_by, slice_get}
use Rattle.mely_event.specs.declared.colour.Colour.{Colour}
use Rattle.mely_event.specs.declared.event.Event.{Event}
use Rattle.mely_event.specs.declared.trail.Trail.{Ghosts as TrailWords}
use Rattle.mely_history.specs.declared.entry.Entry.{Entry}
use Rattle.mely_history.specs.declared.setup.Setup.{Setup}
use Rattle.mely_history.specs.History.{registered_of}
use Rattle.mely_history.specs.Setup.{colours_of}
use Rattle.mely_history.proofs.LegalAccountLemmas.{same_colour}
use Rattle.mely_tally.specs.Account.{HandlerRun, IsRunOf, count_put, count_puts, count_run, sum_along}
use Rattle.mely_weave.specs.Side.{shard_of}
use Rattle.mely_worker.specs.declared.app.App.{Ghosts as AppWords}
use Rattle.mely_app.specs.Puts.{PutsAre, TellsPuts, sum_colours}

pub colours_both : (n : ℕ) (f h : Colour → ℕ) → sum_colours n (λ c. f c + h c) ≡ sum_colours n f + sum_colours n h
colours_both zero f h = refl
colours_both (suc n) f h = let rest = colours_both n f h in omega (arith, rest)

pub colours_none : (n : ℕ) → sum_colours n (λ c. 0) ≡ 0
colours_none zero = refl
colours_none (suc n) = let rest = colours_none n in omega (arith, rest)

pub colours_same : (n : ℕ) (f h : Colour → ℕ) → ((c : Colour) → c.0 < n → f c ≡ h c) → sum_colours n f ≡ sum_colours n h
colours_same zero f h same = refl
colours_same (suc n) f h same =
    let rest = colours_same n f h (λ c low. same c (omega (arith, low))) in
    let last = same (record { 0 = n }) (omega arith) in
    omega (arith, rest, last)

-- a number that is of one colour alone
pub colours_past : (n : ℕ) (c : Colour) (x : ℕ) → n ≤ c.0 → sum_colours n (λ d. if c.0 == d.0 then x else 0) ≡ 0
colours_past zero c x high = refl
colours_past (suc n) c x high =
    let rest = colours_past n c x (omega (arith, high)) in
    let apart : (if c.0 == n then x else 0) ≡ 0 = ap (λ (b : Bool). if b then x else 0) (ne_eqb c.0 n (λ e. omega (arith, e, high))) in
    omega (arith, rest, apart)

pub colours_one : (n : ℕ) (c : Colour) (x : ℕ) → c.0 < n → sum_colours n (λ d. if c.0 == d.0 then x else 0) ≡ x
colours_one zero c x low = absurd (omega (arith, low))
colours_one (suc n) c x low = elim (cases_eq c.0 n) [
  | inl same ↦
      let here : (if c.0 == n then x else 0) ≡ x = ap (λ (b : Bool). if b then x else 0) (eq-eqb c.0 n same) in
      let rest = colours_past n c x (omega (arith, same)) in
      omega (arith, here, rest)
  | inr apart ↦
      let here : (if c.0 == n then x else 0) ≡ 0 = ap (λ (b : Bool). if b then x else 0) (ne_eqb c.0 n apart) in
      let rest = colours_one n c x (omega (arith, low, apart)) in
      omega (arith, here, rest)
]

module _ {R S P F : Type 0} (t : TrailWords S F) (fits : F → Colour → Event → Option P → Type 0) (y : AppWords R P S F) (app : R) (setup : Setup) (frame : F) (c : Colour) (number : Event → ℕ) (puts_at : Colour → List Event → Event → ℕ)
    (counts : (run : HandlerRun S P) → IsRunOf t fits y app setup frame run → count_puts c number run.puts ≡ puts_at run.colour (t.trail_of run.state) run.event) where
  -- what a run put counts as its event says, of the one colour on which it was
  one_run : (run : HandlerRun S P) → IsRunOf t fits y app setup frame run → count_puts c number run.puts ≡ sum_colours (colours_of setup) (λ d. count_run t d (puts_at d) run)
  one_run run is =
      let x = puts_at run.colour (t.trail_of run.state) run.event in
      let each : sum_colours (colours_of setup) (λ d. count_run t d (puts_at d) run) ≡ sum_colours (colours_of setup) (λ d. if run.colour.0 == d.0 then x else 0) = colours_same (colours_of setup) _ _ (λ d low. own d) in
      counts run is ∙ sym (colours_one (colours_of setup) run.colour x is.there) ∙ sym each
    where
      own : (d : Colour) → count_run t d (puts_at d) run ≡ (if run.colour.0 == d.0 then puts_at run.colour (t.trail_of run.state) run.event else 0)
      own d = elim (cases_eq run.colour.0 d.0) [
        | inl same ↦ ap (λ (z : Colour). if run.colour.0 == d.0 then puts_at z (t.trail_of run.state) run.event else 0) (sym (same_colour run.colour d same))
        | inr apart ↦
            ap (λ (b : Bool). if b then puts_at d (t.trail_of run.state) run.event else 0) (ne_eqb run.colour.0 d.0 apart)
            ∙ sym (ap (λ (b : Bool). if b then puts_at run.colour (t.trail_of run.state) run.event else 0) (ne_eqb run.colour.0 d.0 apart))
      ]

  all_runs : (runs : List (HandlerRun S P)) → AllByRecursion (IsRunOf t fits y app setup frame) runs → sum_by (λ run. count_puts c number run.puts) runs ≡ sum_colours (colours_of setup) (λ d. sum_by (count_run t d (puts_at d)) runs)
  all_runs [] each = sym (colours_none (colours_of setup))
  all_runs (run ∷ runs) each =
      let one = one_run run each.0 in
      let rest = all_runs runs each.1 in
      let first = sum_by-cons (λ (r : HandlerRun S P). count_puts c number r.puts) run runs in
      let both = colours_both (colours_of setup) (λ d. count_run t d (puts_at d) run) (λ d. sum_by (count_run t d (puts_at d)) runs) in
      let split : sum_colours (colours_of setup) (λ d. sum_by (count_run t d (puts_at d)) (run ∷ runs)) ≡ sum_colours (colours_of setup) (λ d. count_run t d (puts_at d) run + sum_by (count_run t d (puts_at d)) runs) =
      colours_same (colours_of setup) _ _ (λ d low. sum_by-cons (count_run t d (puts_at d)) run runs) in
      omega (arith, one, rest, first, both, split)

  -- what was registered on the colour counts as the first event and what the events registered
  -- say, of each colour
  pub put_as_counted : (begin : Colour × Event × Option P) (histories : List (List Entry)) (runs : List (HandlerRun S P)) → PutsAre t fits y app setup frame begin histories runs → (of : Colour → List Event)
      → ((d : Colour) → (history : List Entry) × (slice_get histories (shard_of setup d) ≡ Some history) × (registered_of history d ≡ of d))
      → sum_by number (of c) ≡ count_put c number begin + sum_colours (colours_of setup) (λ d. sum_along (puts_at d) [] (of d))
  put_as_counted begin histories runs are of each =
      let here = each c in
      let put = are.put c here.0 here.1 number in
      let mine = ap (λ l. sum_by number l) here.2 in
      let all = all_runs runs are.each in
      let ran : sum_colours (colours_of setup) (λ d. sum_by (count_run t d (puts_at d)) runs) ≡ sum_colours (colours_of setup) (λ d. sum_along (puts_at d) [] (of d)) =
      colours_same (colours_of setup) _ _ (λ d low. (let there = each d in are.ran d there.0 there.1 (puts_at d) ∙ ap (λ l. sum_along (puts_at d) [] l) there.2)) in
      omega (arith, put, mine, all, ran)

-- the same, where what a handler puts is told as a list
pub put_as_told : {R S P F : Type 0} (t : TrailWords S F) (fits : F → Colour → Event → Option P → Type 0) (y : AppWords R P S F) (app : R) (setup : Setup) (frame : F) (puts_of : Colour → List Event → Event → List (Colour × Event × Option P)) (tells : TellsPuts t fits y app setup frame puts_of) (c : Colour) (number : Event → ℕ)
    (begin : Colour × Event × Option P) (histories : List (List Entry)) (runs : List (HandlerRun S P)) → PutsAre t fits y app setup frame begin histories runs → (of : Colour → List Event)
    → ((d : Colour) → (history : List Entry) × (slice_get histories (shard_of setup d) ≡ Some history) × (registered_of history d ≡ of d))
    → sum_by number (of c) ≡ count_put c number begin + sum_colours (colours_of setup) (λ d. sum_along (λ before event. count_puts c number (puts_of d before event)) [] (of d))
put_as_told t fits y app setup frame puts_of tells c number begin histories runs are of each = put_as_counted t fits y app setup frame c number (λ d before event. count_puts c number (puts_of d before event)) (λ run is. ap (λ l. count_puts c number l) (tells run is)) begin histories runs are of each

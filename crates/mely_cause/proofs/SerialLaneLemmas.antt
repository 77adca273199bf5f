-- The registrations of all colours in the order in which they were made.
use Rattle.std.proofs.Common.{◌≡◌, ℕ, zero, suc, ◌+◌, ◌*◌, ◌<◌, ◌≤◌, ◌==◌, Bool, true, false, List, [], ◌∷◌, Option, Some, cond, map, filter, refl, sym, ◌∙◌, ap, subst, inl, inr, arith, mul-le-mul_right}
use Rattle.std.specs.Prelude.{flat_map}
use Rattle.std.specs.List.{AllByRecursion, slice_get}
use Rattle.std.specs.Option.{option_map}
use Rattle.std.proofs.lemmas.Bool.{cases_lt, eq-eqb, eqb-true}
use Rattle.std.proofs.lemmas.Option.{same_Some, slice_get-map}
use Rattle.mely_event.specs.declared.colour.Colour.{Colour}
use Rattle.mely_event.specs.declared.event.Event.{Event}
use Rattle.mely_history.proofs.LegalAccountLemmas.{same_colour}
use Rattle.mely_tally.specs.Account.{HandlerRun}
use Rattle.mely_chain.specs.Runs.{given_to, runs_on}
use Rattle.mely_cause.specs.Causes.{AreCaused, Registration}
use Rattle.mely_cause.proofs.AmongLemmas.{Among, all_at, all_from, among_joined, among_passes, joined_among, passes_among, place_of}
use Rattle.mely_cause.proofs.AscendLemmas.{Pairs, Ascends, pairs-filter, pairs_mapped, same_elements}
use Rattle.mely_cause.proofs.SerialSortLemmas.{among_by_key, by_key, by_key_among, by_key_ascends}
use Rattle.mely_cause.proofs.SerialPutLemmas.{AreFor, IsOn, Item, lane-regs, lane-runs, lane_from, lane_is, on, what}

-- what holds of the elements at two places holds of all pairs
pairs_from : {X : Type 0} (R : X → X → Type 0) (xs : List X) → ((i j : ℕ) (x y : X) → slice_get xs i ≡ Some x → slice_get xs j ≡ Some y → i < j → R x y) → Pairs R xs
pairs_from R [] each = tt
pairs_from R (x ∷ xs) each = (all_from (λ y. R x y) xs (λ y there. let place = place_of xs y there in each 0 (suc place.0) x y refl place.1 (omega arith)), pairs_from R xs (λ i j y z is so less. each (suc i) (suc j) y z is so (omega arith)))

pairs_to : {X : Type 0} (R Q : X → X → Type 0) (xs : List X) → ((x y : X) → Among x xs → Among y xs → R x y → Q x y) → Pairs R xs → Pairs Q xs
pairs_to R Q [] each all = tt
pairs_to R Q (x ∷ xs) each all = (all_from (λ y. Q x y) xs (λ y there. each x y (inl refl) (inr there) (all_at (λ y. R x y) xs y all.0 there)), pairs_to R Q xs (λ y z here there. each y z (inr here) (inr there)) all.1)

-- the colours below a number
abbrev every_colour : ℕ → List Colour
every_colour zero = []
every_colour (suc n) = record { 0 = n } ∷ every_colour n

in_every : (n : ℕ) (c : Colour) → c.0 < n → Among c (every_colour n)
in_every zero c less = absurd (omega (arith, less))
in_every (suc n) c less = elim (cases_lt c.0 n) [
  | inl low ↦ inr (in_every n c low)
  | inr high ↦ inl (same_colour c (record { 0 = n }) (omega (arith, high, less)))
]

-- the runs on a colour are those of its registrations
on-runs : {S P : Type 0} (c : Colour) (xs : List (Item S P)) → AllByRecursion (λ x. x.run.colour ≡ x.colour) xs → runs_on c (map (λ x. x.run) xs) ≡ map (λ x. x.run) (filter (on c) xs)
on-runs c [] all = refl
on-runs c (x ∷ xs) all = ap (λ (d : Colour). cond (d.0 == c.0) (x.run ∷ runs_on c (map (λ x. x.run) xs)) (runs_on c (map (λ x. x.run) xs))) all.0 ∙ for (x.colour.0 == c.0) (on-runs c xs all.1) where
  for : (own : Bool) → runs_on c (map (λ x. x.run) xs) ≡ map (λ x. x.run) (filter (on c) xs) → cond own (x.run ∷ runs_on c (map (λ x. x.run) xs)) (runs_on c (map (λ x. x.run) xs)) ≡ map (λ x. x.run) (cond own (x ∷ filter (on c) xs) (filter (on c) xs))
  for true rest = ap (λ l. x.run ∷ l) rest
  for false rest = rest

module _ {S P : Type 0} (begin : Colour × Event × Option P) (loaded : Colour → List (Event × Option P)) (runs : Colour → List (HandlerRun S P)) (colours : ℕ) (caused : AreCaused begin loaded runs)
    (same : (c : Colour) → map given_to (runs c) ≡ loaded c) (own : (c : Colour) → AllByRecursion (λ run. run.colour.0 ≡ c.0) (runs c)) (beyond : (c : Colour) → colours ≤ c.0 → runs c ≡ []) where
  abbrev pub came : Colour → List (Registration P)
  came c = caused.came c

  pub agree : (c : Colour) → AreFor (came c) (runs c)
  agree c = same c ∙ sym (caused.loads c)

  abbrev pub lane : Colour → List (Item S P)
  lane c = lane_from c 0 (came c) (runs c)

  abbrev pub IsItem : Item S P → Type 0
  IsItem x = Among x (lane x.colour)

  -- a number of each, by when it was made, and of what was made at once by the colour
  abbrev pub key : Item S P → ℕ
  key x = x.reg.at * colours + x.colour.0

  pub is_on : (c : Colour) (x : Item S P) → Among x (lane c) → IsOn c 0 (came c) (runs c) x
  is_on c x there = lane_is c 0 (came c) (runs c) (agree c) x there

  pub item : (c : Colour) (x : Item S P) → Among x (lane c) → IsItem x
  item c x there = subst (λ e. Among x (lane e)) (sym (is_on c x there).colour) there

  pub reg_at : (x : Item S P) → IsItem x → slice_get (came x.colour) x.place ≡ Some x.reg
  reg_at x is =
      let on = is_on x.colour x is in
      let place = on.place in
      let k : x.place ≡ on.k = omega (arith, place) in
      ap (slice_get (came x.colour)) k ∙ on.reg

  pub run_at : (x : Item S P) → IsItem x → slice_get (runs x.colour) x.place ≡ Some x.run
  run_at x is =
      let on = is_on x.colour x is in
      let place = on.place in
      let k : x.place ≡ on.k = omega (arith, place) in
      ap (slice_get (runs x.colour)) k ∙ ap (λ l. slice_get l on.k) (sym (lane-runs x.colour 0 (came x.colour) (runs x.colour) (agree x.colour))) ∙ slice_get-map (λ (x : Item S P). x.run) (lane x.colour) on.k ∙ ap (option_map (λ (x : Item S P). x.run)) on.at

  low : (c : Colour) (x : Item S P) → Among x (lane c) → c.0 < colours
  low c x there = elim (cases_lt c.0 colours) [
    | inl less ↦ less
    | inr high ↦
        let ran : Among x.run (runs c) = (is_on c x there).ran in
        elim (subst (λ l. Among x.run l) (beyond c high) ran) [ ]
  ]

  -- those of one name are one
  pub one_name : (x y : Item S P) → IsItem x → IsItem y → x.colour ≡ y.colour → x.place ≡ y.place → x ≡ y
  one_name x y is so colour place =
      let p = is_on x.colour x is in
      let q = is_on x.colour y (subst (λ e. Among y (lane e)) (sym colour) so) in
      let at = p.place in
      let there = q.place in
      let k : p.k ≡ q.k = omega (arith, at, there, place) in
      same_Some x y (sym p.at ∙ ap (slice_get (lane x.colour)) k ∙ q.at)

  numbers_less : (a b c d : ℕ) → a < b → c < colours → a * colours + c < b * colours + d
  numbers_less a b c d less low = omega (arith, low, mul-le-mul_right {m = a + 1} {n = b} colours (omega (arith, less)))

  -- what was made before has the smaller number
  pub key_less : (x y : Item S P) → IsItem x → x.reg.at < y.reg.at → key x < key y
  key_less x y is less = numbers_less x.reg.at y.reg.at x.colour.0 y.colour.0 less (low x.colour x is)

  -- on one colour none is made at one time with another
  place_less : (x y : Item S P) → IsItem x → IsItem y → x.colour ≡ y.colour → x.place < y.place → x.reg.at < y.reg.at
  place_less x y is so colour less = caused.rise x.colour x.place y.place x.reg y.reg (reg_at x is) (ap (λ c. slice_get (came c) y.place) colour ∙ reg_at y so) less

  pub one_key : (x y : Item S P) → IsItem x → IsItem y → key x ≡ key y → x ≡ y
  one_key x y is so equal = elim (cases_lt x.reg.at y.reg.at) [
    | inl less ↦ let above = key_less x y is less in absurd (omega (arith, above, equal))
    | inr high ↦ elim (cases_lt y.reg.at x.reg.at) [
      | inl more ↦ let above = key_less y x so more in absurd (omega (arith, above, equal))
      | inr few ↦
          let at : x.reg.at ≡ y.reg.at = omega (arith, high, few) in
          let part : x.reg.at * colours ≡ y.reg.at * colours = ap (λ n. n * colours) at in
          let number : x.colour.0 ≡ y.colour.0 = omega (arith, part, equal) in
          let colour = same_colour x.colour y.colour number in
          elim (cases_lt x.place y.place) [
            | inl before ↦ let less = place_less x y is so colour before in absurd (omega (arith, less, at))
            | inr after ↦ elim (cases_lt y.place x.place) [
              | inl before ↦ let less = place_less y x so is (sym colour) before in absurd (omega (arith, less, at))
              | inr here ↦ one_name x y is so colour (omega (arith, after, here))
            ]
          ]
    ]
  ]

  pub lane_ascends : (c : Colour) → Ascends key (lane c)
  lane_ascends c =
      let rise = pairs_from (λ (a b : Registration P). a.at < b.at) (came c) (λ i j one two is so less. caused.rise c i j one two is so less) in
      let along = pairs_mapped (λ (a b : Registration P). a.at < b.at) (λ (x : Item S P). x.reg) (lane c) (subst (λ l. Pairs (λ (a b : Registration P). a.at < b.at) l) (sym (lane-regs c 0 (came c) (runs c) (agree c))) rise) in
      pairs_to (λ x y. x.reg.at < y.reg.at) (λ x y. key x < key y) (lane c) (λ x y here there less. key_less x y (item c x here) less) along

  -- all of them, in their order
  pub items : List (Item S P)
  items = by_key key (flat_map lane (every_colour colours))

  pub items_ascend : Ascends key items
  unfolding items
  items_ascend = by_key_ascends key (flat_map lane (every_colour colours))

  joined_are : (x : Item S P) → Among x (flat_map lane (every_colour colours)) → IsItem x
  joined_are x there = let of = joined_among lane (every_colour colours) x there in item of.0 x of.2

  pub items_are : (x : Item S P) → Among x items → IsItem x
  unfolding items
  items_are x there = joined_are x (by_key_among key (flat_map lane (every_colour colours)) x there)

  pub among_items : (x : Item S P) → IsItem x → Among x items
  unfolding items
  among_items x is = among_by_key key (flat_map lane (every_colour colours)) (λ y z here there. one_key y z (joined_are y here) (joined_are z there)) x
      (among_joined lane (every_colour colours) x.colour x (in_every colours x.colour (low x.colour x is)) is)

  pub items_on : (c : Colour) → filter (on c) items ≡ lane c
  items_on c = same_elements key (filter (on c) items) (lane c) (pairs-filter (λ x y. key x < key y) (on c) items items_ascend) (lane_ascends c)
      (λ x there.
      let passes = passes_among (on c) items x there in
      subst (λ e. Among x (lane e)) (same_colour x.colour c (eqb-true x.colour.0 c.0 passes.1)) (items_are x passes.0))
      (λ x there. among_passes (on c) items x (among_items x (item c x there)) (eq-eqb x.colour.0 c.0 (ap (λ (e : Colour). e.0) (is_on c x there).colour)))

  pub run_colour : (x : Item S P) → IsItem x → x.run.colour ≡ x.colour
  run_colour x is = same_colour x.run.colour x.colour (all_at (λ (run : HandlerRun S P). run.colour.0 ≡ x.colour.0) (runs x.colour) x.run (own x.colour) (is_on x.colour x is).ran)

  -- it is what was under way by it that its run is of
  pub what_run : (x : Item S P) → IsItem x → what x ≡ (x.run.colour, x.run.event, x.run.load)
  what_run x is =
      let colour = run_colour x is in
      let event : (x.run.event, x.run.load) ≡ x.reg.event = (is_on x.colour x is).run in
      ap (λ (c : Colour). let p : Colour × Event × Option P = (c, x.reg.event.0, x.reg.event.1) in p) (sym colour) ∙ ap (λ (e : Event × Option P). let p : Colour × Event × Option P = (x.run.colour, e.0, e.1) in p) (sym event)

  -- the runs of each colour are its own among them
  pub each : (c : Colour) → runs_on c (map (λ x. x.run) items) ≡ runs c
  each c = on-runs c items (all_from (λ x. x.run.colour ≡ x.colour) items (λ x there. run_colour x (items_are x there))) ∙ ap (map (λ x. x.run)) (items_on c) ∙ lane-runs c 0 (came c) (runs c) (agree c)

-- What was registered on a colour with its loads, against what the runs of each colour put: a sum
-- over the one is a sum over the other, with the first event of the run.
use Rattle.std.proofs.Common.{◌≡◌, ℕ, zero, suc, ◌+◌, ◌<◌, ◌≤◌, ◌==◌, Bool, true, false, List, [], ◌∷◌, ◌++◌, Option, Some, None, if◌then◌else◌, get_or, map, refl, sym, ◌∙◌, ap, arith, eq-eqb, ne_eqb, cond, inl, inr, zero-add}
use Rattle.std.specs.List.{AllByRecursion, slice_get, sum_by, filter_map, cons_option}
use Rattle.std.proofs.lemmas.Bool.{cases_eq, cases_lt}
use Rattle.std.proofs.lemmas.List.Elements.{filter_map-append}
use Rattle.std.proofs.lemmas.List.Sums.{sum_by-cons, sum_by-append}
use Rattle.std.proofs.lemmas.Option.{slice_get-get_or}
use Rattle.mely_event.specs.declared.colour.Colour.{Colour}
use Rattle.mely_event.specs.declared.event.Event.{Event}
use Rattle.mely_event.specs.declared.trail.Trail.{Ghosts as TrailWords}
use Rattle.mely_history.specs.declared.setup.Setup.{Setup}
use Rattle.mely_history.specs.Setup.{shape_of, colours_of}
use Rattle.mely_note.specs.declared.note.Note.{Note}
use Rattle.mely_note.specs.Notes.{loaded_of, load_on, notes_by, noted_by}
use Rattle.mely_tally.specs.Account.{HandlerRun, IsRunOf}
use Rattle.mely_worker.specs.declared.app.App.{Ghosts as AppWords}
use Rattle.mely_chain.specs.Runs.{puts_of, puts_on, runs_on}
use Rattle.mely_chain.specs.InOrder.{AreInOrder, made_by}
use Rattle.mely_app.specs.Puts.{sum_colours}

-- ---- sums over numbers below a limit

abbrev pub sum_below : ℕ → (ℕ → ℕ) → ℕ
sum_below zero f = 0
sum_below (suc n) f = sum_below n f + f n

below_same : (limit : ℕ) (f g : ℕ → ℕ) → ((n : ℕ) → n < limit → f n ≡ g n) → sum_below limit f ≡ sum_below limit g
below_same zero f g same = refl
below_same (suc n) f g same =
    let rest = below_same n f g (λ m low. same m (omega (arith, low))) in
    let one = same n (omega arith) in
    omega (arith, rest, one)

below_none : (limit : ℕ) → sum_below limit (λ _. 0) ≡ 0
below_none zero = refl
below_none (suc n) = let rest = below_none n in omega (arith, rest)

below_both : (limit : ℕ) (f g : ℕ → ℕ) → sum_below limit (λ n. f n + g n) ≡ sum_below limit f + sum_below limit g
below_both zero f g = refl
below_both (suc n) f g = let rest = below_both n f g in omega (arith, rest)

-- a number that is 0 but at one place
below_past : (limit k x : ℕ) → limit ≤ k → sum_below limit (λ n. if k == n then x else 0) ≡ 0
below_past zero k x high = refl
below_past (suc n) k x high =
    let here : (if k == n then x else 0) ≡ 0 = ap (λ b. if b then x else 0) (ne_eqb k n (λ same. omega (arith, same, high))) in
    let rest = below_past n k x (omega (arith, high)) in
    omega (arith, here, rest)

below_one : (limit k x : ℕ) → k < limit → sum_below limit (λ n. if k == n then x else 0) ≡ x
below_one zero k x low = absurd (omega (arith, low))
below_one (suc n) k x low = elim (cases_eq k n) [
  | inl same ↦
      let here : (if k == n then x else 0) ≡ x = ap (λ b. if b then x else 0) (eq-eqb k n same) in
      let rest = below_past n k x (omega (arith, same)) in
      omega (arith, here, rest)
  | inr apart ↦
      let here : (if k == n then x else 0) ≡ 0 = ap (λ b. if b then x else 0) (ne_eqb k n apart) in
      let rest = below_one n k x (omega (arith, low, apart)) in
      omega (arith, here, rest)
]

-- in either order
below_turned : (limit many : ℕ) (f : ℕ → ℕ → ℕ) → sum_below limit (λ n. sum_below many (f n)) ≡ sum_below many (λ k. sum_below limit (λ n. f n k))
below_turned zero many f = sym (below_none many)
below_turned (suc n) many f =
    let rest = below_turned n many f in
    let both = below_both many (λ k. sum_below n (λ m. f m k)) (f n) in
    omega (arith, rest, both)

of_colours : (n : ℕ) (f : Colour → ℕ) → sum_below n (λ k. f (record { 0 = k })) ≡ sum_colours n f
of_colours zero f = refl
of_colours (suc n) f = ap (λ k. k + f (record { 0 = n })) (of_colours n f)

-- a sum over all is one over those of each key
module _ {X : Type 0} (key f : X → ℕ) (of : ℕ → List X → ℕ) (none : (n : ℕ) → of n [] ≡ 0) (more : (n : ℕ) (x : X) (xs : List X) → of n (x ∷ xs) ≡ (if key x == n then f x else 0) + of n xs) where
  by_key : (limit : ℕ) (xs : List X) → AllByRecursion (λ x. key x < limit) xs → sum_by f xs ≡ sum_below limit (λ n. of n xs)
  by_key limit [] low = sym (below_same limit (λ n. of n []) (λ _. 0) (λ n _. none n) ∙ below_none limit)
  by_key limit (x ∷ xs) low =
      let all = below_same limit (λ n. of n (x ∷ xs)) (λ n. (if key x == n then f x else 0) + of n xs) (λ n _. more n x xs) in
      let apart = below_both limit (λ n. if key x == n then f x else 0) (λ n. of n xs) in
      let one = below_one limit (key x) (f x) low.0 in
      let rest = by_key limit xs low.1 in
      let first = sum_by-cons f x xs in
      omega (arith, all, apart, one, rest, first)

-- ---- sums over lists

pub sum_by-map : {X Y : Type 0} (f : Y → ℕ) (g : X → Y) (xs : List X) → sum_by f (map g xs) ≡ sum_by (λ x. f (g x)) xs
sum_by-map f g [] = refl
sum_by-map f g (x ∷ xs) =
    let rest = sum_by-map f g xs in
    let one = sum_by-cons f (g x) (map g xs) in
    let other = sum_by-cons (λ z. f (g z)) x xs in
    omega (arith, rest, one, other)

-- a number of what was found
abbrev pub found : {Y : Type 0} → (Y → ℕ) → Option Y → ℕ
found f None = 0
found f (Some y) = f y

found-cons : {Y : Type 0} (f : Y → ℕ) (o : Option Y) (ys : List Y) → sum_by f (cons_option o ys) ≡ found f o + sum_by f ys
found-cons f None ys = sym (zero-add (sum_by f ys))
found-cons f (Some y) ys = sum_by-cons f y ys

pub sum_by-filter_map : {X Y : Type 0} (f : Y → ℕ) (h : X → Option Y) (xs : List X) → sum_by f (filter_map h xs) ≡ sum_by (λ x. found f (h x)) xs
sum_by-filter_map f h [] = refl
sum_by-filter_map f h (x ∷ xs) =
    let rest = sum_by-filter_map f h xs in
    let one = found-cons f (h x) (filter_map h xs) in
    let first = sum_by-cons (λ z. found f (h z)) x xs in
    omega (arith, rest, one, first)

module _ {P : Type 0} (c : Colour) where
  pub puts_append : (puts more : List (Colour × Event × Option P)) → puts_on c (puts ++ more) ≡ puts_on c puts ++ puts_on c more
  puts_append puts more = filter_map-append (λ (put : Colour × Event × Option P). if put.0.0 == c.0 then Some (put.1, put.2) else None) puts more

  -- what runs put is what each puts
  pub puts_by_runs : {S : Type 0} (f : Event × Option P → ℕ) (runs : List (HandlerRun S P)) → sum_by f (puts_on c (puts_of runs)) ≡ sum_by (λ run. sum_by f (puts_on c run.puts)) runs
  puts_by_runs f [] = refl
  puts_by_runs {S} f (run ∷ runs) =
      let rest = puts_by_runs f runs in
      let both = ap (sum_by f) (puts_append run.puts (puts_of runs)) ∙ sum_by-append f (puts_on c run.puts) (puts_on c (puts_of runs)) in
      let first = sum_by-cons (λ (r : HandlerRun S P). sum_by f (puts_on c r.puts)) run runs in
      omega (arith, rest, both, first)

module _ {S P : Type 0} (c : Colour) (f : Event × Option P → ℕ) where
  loads_more : (n : ℕ) (note : Note S P) (notes : List (Note S P)) → sum_by f (loaded_of (notes_by n (note ∷ notes)) c) ≡ (if noted_by note == n then found f (load_on c note) else 0) + sum_by f (loaded_of (notes_by n notes) c)
  loads_more n note notes = for (noted_by note == n) where
    for : (own : Bool) → sum_by f (loaded_of (cond own (note ∷ notes_by n notes) (notes_by n notes)) c) ≡ (if own then found f (load_on c note) else 0) + sum_by f (loaded_of (notes_by n notes) c)
    for true = found-cons f (load_on c note) (loaded_of (notes_by n notes) c)
    for false = sym (zero-add (sum_by f (loaded_of (notes_by n notes) c)))

  -- what was registered, pass by pass
  loads_by_pass : (limit : ℕ) (notes : List (Note S P)) → AllByRecursion (λ note. noted_by note < limit) notes → sum_by f (loaded_of notes c) ≡ sum_below limit (λ n. sum_by f (loaded_of (notes_by n notes) c))
  loads_by_pass limit notes low =
      sum_by-filter_map f (load_on c) notes
      ∙ by_key noted_by (λ note. found f (load_on c note)) (λ n all. sum_by f (loaded_of (notes_by n all) c)) (λ n. refl) (λ n note all. loads_more n note all) limit notes low

-- where no pass from a limit on made a note, each note is of one below
notes_below : {S P : Type 0} (limit : ℕ) (notes : List (Note S P)) → ((n : ℕ) → limit ≤ n → notes_by n notes ≡ []) → AllByRecursion (λ note. noted_by note < limit) notes
notes_below limit [] none = tt
notes_below {S} {P} limit (note ∷ notes) none = (first, notes_below limit notes (λ n high. later n (noted_by note == n) (none n high))) where
  later : (n : ℕ) (own : Bool) → cond own (note ∷ notes_by n notes) (notes_by n notes) ≡ [] → notes_by n notes ≡ []
  later n true is = cc
  later n false is = is

  first : noted_by note < limit
  first = elim (cases_lt (noted_by note) limit) [
    | inl low ↦ low
    | inr high ↦
        let own : (noted_by note == noted_by note) ≡ true = eq-eqb (noted_by note) (noted_by note) refl in
        let kept : cond true (note ∷ notes_by (noted_by note) notes) (notes_by (noted_by note) notes) ≡ [] = sym (ap (λ b. cond b (note ∷ notes_by (noted_by note) notes) (notes_by (noted_by note) notes)) own) ∙ none (noted_by note) high in
        cc
  ]

module _ {S P : Type 0} (f : HandlerRun S P → ℕ) where
  made_more : (n : ℕ) (run : ℕ × HandlerRun S P) (runs : List (ℕ × HandlerRun S P)) → sum_by f (made_by n (run ∷ runs)) ≡ (if run.0 == n then f run.1 else 0) + sum_by f (made_by n runs)
  made_more n run runs = for (run.0 == n) where
    for : (own : Bool) → sum_by f (cons_option (if own then Some run.1 else None) (made_by n runs)) ≡ (if own then f run.1 else 0) + sum_by f (made_by n runs)
    for true = sum_by-cons f run.1 (made_by n runs)
    for false = sym (zero-add (sum_by f (made_by n runs)))

  -- the runs of a colour, core by core
  made_by_core : (cores : ℕ) (runs : List (ℕ × HandlerRun S P)) → AllByRecursion (λ run. run.0 < cores) runs → sum_by f (map (λ run. run.1) runs) ≡ sum_below cores (λ n. sum_by f (made_by n runs))
  made_by_core cores runs low =
      sum_by-map f (λ run. run.1) runs
      ∙ by_key (λ run. run.0) (λ run. f run.1) (λ n all. sum_by f (made_by n all)) (λ n. refl) made_more cores runs low

  on_more : (n : ℕ) (run : HandlerRun S P) (runs : List (HandlerRun S P)) → sum_by f (runs_on (record { 0 = n }) (run ∷ runs)) ≡ (if run.colour.0 == n then f run else 0) + sum_by f (runs_on (record { 0 = n }) runs)
  on_more n run runs = for (run.colour.0 == n) where
    for : (own : Bool) → sum_by f (cond own (run ∷ runs_on (record { 0 = n }) runs) (runs_on (record { 0 = n }) runs)) ≡ (if own then f run else 0) + sum_by f (runs_on (record { 0 = n }) runs)
    for true = sum_by-cons f run (runs_on (record { 0 = n }) runs)
    for false = sym (zero-add (sum_by f (runs_on (record { 0 = n }) runs)))

  -- the runs of a core, colour by colour
  runs_by_colour : (colours : ℕ) (runs : List (HandlerRun S P)) → AllByRecursion (λ run. run.colour.0 < colours) runs → sum_by f runs ≡ sum_below colours (λ k. sum_by f (runs_on (record { 0 = k }) runs))
  runs_by_colour colours runs low = by_key (λ run. run.colour.0) f (λ n all. sum_by f (runs_on (record { 0 = n }) all)) (λ n. refl) on_more colours runs low

module _ {R S P F : Type 0} (t : TrailWords S F) (fits : F → Colour → Event → Option P → Type 0) (y : AppWords R P S F) (app : R) (setup : Setup) (frame : F)
    (begin : Colour × Event × Option P) (given left : Colour → Option S) (notes : Colour → List (Note S P)) (by_core : List (List (HandlerRun S P))) (by_colour : Colour → List (ℕ × HandlerRun S P)) (order : AreInOrder t fits y app setup frame begin given left notes by_core by_colour) where
  core_there : (n : ℕ) → n < (shape_of setup).cores → slice_get by_core n ≡ Some (get_or by_core n [])
  core_there n low = let many = order.cores in slice_get-get_or by_core n [] (omega (arith, low, many))

  there : (runs : List (HandlerRun S P)) → AllByRecursion (IsRunOf t fits y app setup frame) runs → AllByRecursion (λ run. run.colour.0 < colours_of setup) runs
  there [] each = tt
  there (run ∷ runs) each = (each.0.there, there runs each.1)

  -- a sum over the runs of all cores is one over those of all colours
  cores_are_colours : (f : HandlerRun S P → ℕ) → sum_below (shape_of setup).cores (λ n. sum_by f (get_or by_core n [])) ≡ sum_colours (colours_of setup) (λ d. sum_by f (map (λ run. run.1) (by_colour d)))
  cores_are_colours f =
      let cores = (shape_of setup).cores in
      let many = colours_of setup in
      let made : ℕ → ℕ → ℕ = λ n k. sum_by f (made_by n (by_colour (record { 0 = k }))) in
      below_same cores (λ n. sum_by f (get_or by_core n [])) (λ n. sum_below many (made n)) (λ n low.
      let at = core_there n low in
      runs_by_colour f many (get_or by_core n []) (there (get_or by_core n []) (order.each n (get_or by_core n []) at))
      ∙ below_same many (λ k. sum_by f (runs_on (record { 0 = k }) (get_or by_core n []))) (made n) (λ k _. ap (λ l. sum_by f l) (sym (order.of_core (record { 0 = k }) n (get_or by_core n []) at))))
      ∙ below_turned cores many made
      ∙ below_same many (λ k. sum_below cores (λ n. made n k)) (λ k. sum_by f (map (λ run. run.1) (by_colour (record { 0 = k })))) (λ k _. sym (made_by_core f cores (by_colour (record { 0 = k })) (order.by_cores (record { 0 = k }))))
      ∙ of_colours many (λ d. sum_by f (map (λ run. run.1) (by_colour d)))

  -- what was registered on a colour is the first event, and what the runs of all colours put there
  pub registered_sum : (c : Colour) (f : Event × Option P → ℕ)
      → sum_by f (loaded_of (notes c) c) ≡ sum_by f (puts_on c (begin ∷ [])) + sum_colours (colours_of setup) (λ d. sum_by (λ run. sum_by f (puts_on c run.puts)) (map (λ run. run.1) (by_colour d)))
  registered_sum c f =
      let cores = (shape_of setup).cores in
      let passes = loads_by_pass c f (suc cores) (notes c) (notes_below (suc cores) (notes c) (λ n high. order.no_other c n (omega (arith, high)))) in
      let each = below_same cores (λ n. sum_by f (loaded_of (notes_by n (notes c)) c)) (λ n. sum_by (λ run. sum_by f (puts_on c run.puts)) (get_or by_core n [])) (λ n low.
      ap (λ l. sum_by f l) (order.puts c n (get_or by_core n []) (core_there n low)) ∙ puts_by_runs c f (get_or by_core n [])) in
      let first = ap (λ l. sum_by f l) (order.begun c) in
      let all = cores_are_colours (λ run. sum_by f (puts_on c run.puts)) in
      omega (arith, passes, each, first, all)

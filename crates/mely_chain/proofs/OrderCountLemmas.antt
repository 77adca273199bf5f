-- What the runs of all cores count, where those of each colour are in their order.
use Rattle.std.proofs.Common.{◌≡◌, ◌⊎◌, ℕ, zero, suc, ◌+◌, ◌<◌, ◌≤◌, ◌==◌, Bool, true, false, List, [], ◌∷◌, ◌++◌, Option, Some, None, if◌then◌else◌, length, get_or, take, map, filter_map, refl, sym, ◌∙◌, ap, arith, eq-eqb, ne_eqb, cond, inl, inr, add-one, zero-add}
use Rattle.std.specs.List.{AllByRecursion, slice_get, sum_by, flat_map, cons_option}
use Rattle.std.proofs.lemmas.Bool.{cases_eq, cases_lt}
use Rattle.std.proofs.lemmas.List.{take_all}
use Rattle.std.proofs.lemmas.List.Sums.{sum_by-cons, sum_by-append, sum_by_more}
use Rattle.std.proofs.lemmas.Option.{slice_get-get_or}
use Rattle.mely_event.specs.declared.colour.Colour.{Colour}
use Rattle.mely_event.specs.declared.event.Event.{Event}
use Rattle.mely_event.specs.declared.trail.Trail.{Ghosts as TrailWords}
use Rattle.mely_history.specs.declared.setup.Setup.{Setup}
use Rattle.mely_history.specs.Setup.{shape_of, colours_of}
use Rattle.mely_history.specs.History.{registered_of}
use Rattle.mely_history.specs.Legal.{IsLegal}
use Rattle.mely_history.proofs.BeyondLemmas.{none_registered}
use Rattle.mely_note.specs.declared.note.Note.{Note}
use Rattle.mely_note.specs.Notes.{entries_of, loaded_of, load_on, notes_by, noted_by}
use Rattle.mely_note.proofs.NoteLemmas.{events-loaded_of}
use Rattle.mely_tally.specs.Account.{HandlerRun, IsRunOf, count_put, count_puts, count_run, sum_along}
use Rattle.mely_worker.specs.declared.app.App.{Ghosts as AppWords}
use Rattle.mely_chain.specs.Runs.{Follow, given_to, runs_on, puts_on, puts_of}
use Rattle.mely_chain.specs.InOrder.{AreInOrder, made_by}
use Rattle.mely_chain.proofs.GrowthLemmas.{first_other}
use Rattle.mely_chain.proofs.MergeChainLemmas.{without_core}
use Rattle.mely_chain.proofs.MergeMadeLemmas.{all-append}
use Rattle.mely_chain.proofs.OrderLemmas.{each_on}

-- the numbers below a limit, summed up
abbrev pub sum_to : ℕ → (ℕ → ℕ) → ℕ
sum_to zero f = 0
sum_to (suc n) f = sum_to n f + f n

to_same : (limit : ℕ) (f g : ℕ → ℕ) → ((n : ℕ) → n < limit → f n ≡ g n) → sum_to limit f ≡ sum_to limit g
to_same zero f g same = refl
to_same (suc n) f g same =
    let rest = to_same n f g (λ m low. same m (omega (arith, low))) in
    let one = same n (omega arith) in
    omega (arith, rest, one)

to_none : (limit : ℕ) → sum_to limit (λ _. 0) ≡ 0
to_none zero = refl
to_none (suc n) = let rest = to_none n in omega (arith, rest)

to_both : (limit : ℕ) (f g : ℕ → ℕ) → sum_to limit (λ n. f n + g n) ≡ sum_to limit f + sum_to limit g
to_both zero f g = refl
to_both (suc n) f g = let rest = to_both n f g in omega (arith, rest)

-- a number that is 0 but at one place
to_past : (limit k x : ℕ) → limit ≤ k → sum_to limit (λ n. if k == n then x else 0) ≡ 0
to_past zero k x high = refl
to_past (suc n) k x high =
    let here : (if k == n then x else 0) ≡ 0 = ap (λ b. if b then x else 0) (ne_eqb k n (λ same. omega (arith, same, high))) in
    let rest = to_past n k x (omega (arith, high)) in
    omega (arith, here, rest)

to_one : (limit k x : ℕ) → k < limit → sum_to limit (λ n. if k == n then x else 0) ≡ x
to_one zero k x low = absurd (omega (arith, low))
to_one (suc n) k x low = elim (cases_eq k n) [
  | inl same ↦
      let here : (if k == n then x else 0) ≡ x = ap (λ b. if b then x else 0) (eq-eqb k n same) in
      let rest = to_past n k x (omega (arith, same)) in
      omega (arith, here, rest)
  | inr apart ↦
      let here : (if k == n then x else 0) ≡ 0 = ap (λ b. if b then x else 0) (ne_eqb k n apart) in
      let rest = to_one n k x (omega (arith, low, apart)) in
      omega (arith, here, rest)
]

module _ {X : Type 0} (key f : X → ℕ) (of : ℕ → List X → ℕ) (none : (n : ℕ) → of n [] ≡ 0) (more : (n : ℕ) (x : X) (xs : List X) → of n (x ∷ xs) ≡ (if key x == n then f x else 0) + of n xs) where
  -- a sum over all is one over those of each key
  by_key : (limit : ℕ) (xs : List X) → AllByRecursion (λ x. key x < limit) xs → sum_by f xs ≡ sum_to limit (λ n. of n xs)
  by_key limit [] low = sym (to_same limit (λ n. of n []) (λ _. 0) (λ n _. none n) ∙ to_none limit)
  by_key limit (x ∷ xs) low =
      let all = to_same limit (λ n. of n (x ∷ xs)) (λ n. (if key x == n then f x else 0) + of n xs) (λ n _. more n x xs) in
      let apart = to_both limit (λ n. if key x == n then f x else 0) (λ n. of n xs) in
      let one = to_one limit (key x) (f x) low.0 in
      let rest = by_key limit xs low.1 in
      let first = sum_by-cons f x xs in
      omega (arith, all, apart, one, rest, first)

-- a sum over the elements at the first places
to_places : {X : Type 0} (h : X → ℕ) (xs : List X) (d : X) (k : ℕ) → k ≤ length xs → sum_to k (λ n. h (get_or xs n d)) ≡ sum_by h (take k xs)
to_places h xs d zero few = refl
to_places h xs d (suc k) few =
    let rest = to_places h xs d k (omega (arith, few)) in
    let one : sum_by h (take (k + 1) xs) ≡ sum_by h (take k xs) + h (get_or xs k d) = sum_by_more h xs k d (omega (arith, few)) in
    let same : sum_by h (take (suc k) xs) ≡ sum_by h (take (k + 1) xs) = ap (λ n. sum_by h (take n xs)) (sym (add-one k)) in
    omega (arith, rest, one, same)

-- a sum over what several lists give
sum_by-flat_map : {X Y : Type 0} (f : Y → ℕ) (gives : X → List Y) (xs : List X) → sum_by f (flat_map gives xs) ≡ sum_by (λ x. sum_by f (gives x)) xs
sum_by-flat_map f gives [] = refl
sum_by-flat_map f gives (x ∷ xs) =
    let rest = sum_by-flat_map f gives xs in
    let both = sum_by-append f (gives x) (flat_map gives xs) in
    let first = sum_by-cons (λ z. sum_by f (gives z)) x xs in
    omega (arith, rest, both, first)

sum_by-map : {X Y : Type 0} (f : Y → ℕ) (g : X → Y) (xs : List X) → sum_by f (map g xs) ≡ sum_by (λ x. f (g x)) xs
sum_by-map f g [] = refl
sum_by-map f g (x ∷ xs) =
    let rest = sum_by-map f g xs in
    let one = sum_by-cons f (g x) (map g xs) in
    let other = sum_by-cons (λ z. f (g z)) x xs in
    omega (arith, rest, one, other)

-- a number of what was found
abbrev found : {Y : Type 0} → (Y → ℕ) → Option Y → ℕ
found f None = 0
found f (Some y) = f y

found-cons : {Y : Type 0} (f : Y → ℕ) (o : Option Y) (ys : List Y) → sum_by f (cons_option o ys) ≡ found f o + sum_by f ys
found-cons f None ys = sym (zero-add (sum_by f ys))
found-cons f (Some y) ys = sum_by-cons f y ys

sum_by-filter_map : {X Y : Type 0} (f : Y → ℕ) (h : X → Option Y) (xs : List X) → sum_by f (filter_map h xs) ≡ sum_by (λ x. found f (h x)) xs
sum_by-filter_map f h [] = refl
sum_by-filter_map f h (x ∷ xs) =
    let rest = sum_by-filter_map f h xs in
    let one = found-cons f (h x) (filter_map h xs) in
    let first = sum_by-cons (λ z. found f (h z)) x xs in
    omega (arith, rest, one, first)

module _ {S P : Type 0} (c : Colour) (f : Event × Option P → ℕ) where
  loads_more : (n : ℕ) (note : Note S P) (notes : List (Note S P)) → sum_by f (loaded_of (notes_by n (note ∷ notes)) c) ≡ (if noted_by note == n then found f (load_on c note) else 0) + sum_by f (loaded_of (notes_by n notes) c)
  loads_more n note notes = for (noted_by note == n) where
    for : (own : Bool) → sum_by f (loaded_of (cond own (note ∷ notes_by n notes) (notes_by n notes)) c) ≡ (if own then found f (load_on c note) else 0) + sum_by f (loaded_of (notes_by n notes) c)
    for true = found-cons f (load_on c note) (loaded_of (notes_by n notes) c)
    for false = sym (zero-add (sum_by f (loaded_of (notes_by n notes) c)))

  -- what is loaded, pass by pass
  loads_by_pass : (limit : ℕ) (notes : List (Note S P)) → AllByRecursion (λ note. noted_by note < limit) notes → sum_by f (loaded_of notes c) ≡ sum_to limit (λ n. sum_by f (loaded_of (notes_by n notes) c))
  loads_by_pass limit notes low =
      sum_by-filter_map f (load_on c) notes
      ∙ by_key (λ note. noted_by note) (λ note. found f (load_on c note)) (λ n all. sum_by f (loaded_of (notes_by n all) c)) (λ n. refl) loads_more limit notes low

-- where no pass from a limit on made a note, the pass of each is below it
notes_below : {S P : Type 0} (limit : ℕ) (notes : List (Note S P)) → ((n : ℕ) → limit ≤ n → notes_by n notes ≡ []) → AllByRecursion (λ note. noted_by note < limit) notes
notes_below limit [] none = tt
notes_below limit (note ∷ notes) none = (low (cases_lt (noted_by note) limit), notes_below limit notes (λ n high. (first_other n note notes (none n high)).1)) where
  low : (noted_by note < limit) ⊎ (limit ≤ noted_by note) → noted_by note < limit
  low cases = elim cases [
    | inl less ↦ less
    | inr high ↦
        let other : (noted_by note == noted_by note) ≡ false = (first_other (noted_by note) note notes (none (noted_by note) high)).0 in
        let own : (noted_by note == noted_by note) ≡ true = eq-eqb (noted_by note) (noted_by note) refl in
        let wrong : true ≡ false = sym own ∙ other in
        cc
  ]

module _ {S P : Type 0} (f : HandlerRun S P → ℕ) where
  made_more : (n : ℕ) (run : ℕ × HandlerRun S P) (runs : List (ℕ × HandlerRun S P)) → sum_by f (made_by n (run ∷ runs)) ≡ (if run.0 == n then f run.1 else 0) + sum_by f (made_by n runs)
  made_more n run runs = for (run.0 == n) where
    for : (own : Bool) → sum_by f (cons_option (if own then Some run.1 else None) (made_by n runs)) ≡ (if own then f run.1 else 0) + sum_by f (made_by n runs)
    for true = sum_by-cons f run.1 (made_by n runs)
    for false = sym (zero-add (sum_by f (made_by n runs)))

  -- the runs of cores, core by core
  made_by_core : (cores : ℕ) (runs : List (ℕ × HandlerRun S P)) → AllByRecursion (λ run. run.0 < cores) runs → sum_by f (without_core runs) ≡ sum_to cores (λ n. sum_by f (made_by n runs))
  made_by_core cores runs low =
      sum_by-map f (λ run. run.1) runs
      ∙ by_key (λ run. run.0) (λ run. f run.1) (λ n all. sum_by f (made_by n all)) (λ n. refl) made_more cores runs low

  sum_on : (c : Colour) (runs : List (HandlerRun S P)) → sum_by f (runs_on c runs) ≡ sum_by (λ run. if run.colour.0 == c.0 then f run else 0) runs
  sum_on c [] = refl
  sum_on c (run ∷ runs) =
      let rest = sum_on c runs in
      let one = for (run.colour.0 == c.0) in
      let first = sum_by-cons (λ r. if r.colour.0 == c.0 then f r else 0) run runs in
      omega (arith, rest, one, first)
    where
      for : (own : Bool) → sum_by f (cond own (run ∷ runs_on c runs) (runs_on c runs)) ≡ (if own then f run else 0) + sum_by f (runs_on c runs)
      for true = sum_by-cons f run (runs_on c runs)
      for false = sym (zero-add (sum_by f (runs_on c runs)))

-- what is put on a colour, counted
puts_counted : {P : Type 0} (c : Colour) (number : Event → ℕ) (puts : List (Colour × Event × Option P)) → sum_by (λ put. number put.0) (puts_on c puts) ≡ count_puts c number puts
puts_counted c number [] = refl
puts_counted {P} c number (put ∷ puts) =
    let rest = puts_counted c number puts in
    let one = for (put.0.0 == c.0) in
    let first = sum_by-cons (λ p. count_put c number p) put puts in
    omega (arith, rest, one, first)
  where
    for : (own : Bool) → sum_by (λ (e : Event × Option P). number e.0) (cons_option (if own then Some (put.1, put.2) else None) (puts_on c puts)) ≡ (if own then number put.1 else 0) + sum_by (λ (e : Event × Option P). number e.0) (puts_on c puts)
    for true = sum_by-cons (λ (e : Event × Option P). number e.0) (put.1, put.2) (puts_on c puts)
    for false = sym (zero-add (sum_by (λ (e : Event × Option P). number e.0) (puts_on c puts)))

module _ {R S P F : Type 0} (t : TrailWords S F) (fits : F → Colour → Event → Option P → Type 0) (y : AppWords R P S F) (app : R) (setup : Setup) (frame : F)
    (begin : Colour × Event × Option P) (given left : Colour → Option S) (notes : Colour → List (Note S P)) (by_core : List (List (HandlerRun S P))) (by_colour : Colour → List (ℕ × HandlerRun S P)) (order : AreInOrder t fits y app setup frame begin given left notes by_core by_colour) where
  -- the runs of all cores
  abbrev pub all_runs : List (HandlerRun S P)
  all_runs = flat_map (λ runs. runs) by_core

  -- each of them is a run of one of the app's handlers
  pub each_of_all : AllByRecursion (IsRunOf t fits y app setup frame) all_runs
  each_of_all = of_lists by_core order.each where
    of_lists : (lists : List (List (HandlerRun S P))) → ((n : ℕ) (runs : List (HandlerRun S P)) → slice_get lists n ≡ Some runs → AllByRecursion (IsRunOf t fits y app setup frame) runs) → AllByRecursion (IsRunOf t fits y app setup frame) (flat_map (λ runs. runs) lists)
    of_lists [] each = tt
    of_lists (runs ∷ lists) each = all-append (IsRunOf t fits y app setup frame) runs (flat_map (λ all. all) lists) (each 0 runs refl) (of_lists lists (λ n more at. each (suc n) more at))

  -- a sum over all runs is one over the cores
  over_cores : (f : HandlerRun S P → ℕ) → sum_by f all_runs ≡ sum_to (shape_of setup).cores (λ n. sum_by f (get_or by_core n []))
  over_cores f =
      sum_by-flat_map f (λ runs. runs) by_core
      ∙ sym (ap (λ l. sum_by (λ runs. sum_by f runs) l) (take_all (length by_core) by_core (omega arith)))
      ∙ sym (to_places (λ runs. sum_by f runs) by_core [] (length by_core) (omega arith))
      ∙ ap (λ n. sum_to n (λ m. sum_by f (get_or by_core m []))) order.cores

  core_there : (n : ℕ) → n < (shape_of setup).cores → slice_get by_core n ≡ Some (get_or by_core n [])
  core_there n low = let many = order.cores in slice_get-get_or by_core n [] (omega (arith, low, many))

  -- what was registered on a colour is the first event, and what the runs put
  pub puts_are_registered : (c : Colour) (number : Event → ℕ) → sum_by number (registered_of (entries_of (notes c)) c) ≡ count_put c number begin + sum_by (λ run. count_puts c number run.puts) all_runs
  puts_are_registered c number =
      let of_load : Event × Option P → ℕ = λ load. number load.0 in
      let registered = ap (λ l. sum_by number l) (sym (events-loaded_of (notes c) c)) ∙ sum_by-map number (λ (load : Event × Option P). load.0) (loaded_of (notes c) c) in
      let below = notes_below (suc (shape_of setup).cores) (notes c) (λ n high. order.no_other c n (omega (arith, high))) in
      let passes = loads_by_pass c of_load (suc (shape_of setup).cores) (notes c) below in
      let each = to_same (shape_of setup).cores (λ n. sum_by of_load (loaded_of (notes_by n (notes c)) c)) (λ n. sum_by (λ run. count_puts c number run.puts) (get_or by_core n [])) (λ n low.
      ap (λ l. sum_by of_load l) (order.puts c n (get_or by_core n []) (core_there n low))
      ∙ puts_counted c number (puts_of (get_or by_core n []))
      ∙ sum_by-flat_map (λ put. count_put c number put) (λ run. run.puts) (get_or by_core n [])) in
      let first = ap (λ l. sum_by of_load l) (order.begun c) ∙ puts_counted c number (begin ∷ []) ∙ sum_by-cons (λ put. count_put c number put) begin [] in
      let all = over_cores (λ run. count_puts c number run.puts) in
      omega (arith, registered, passes, each, first, all)

  -- a sum over the runs on a colour is one along its order
  on_colour_sum : (c : Colour) (f : HandlerRun S P → ℕ) → sum_by (λ run. if run.colour.0 == c.0 then f run else 0) all_runs ≡ sum_by f (without_core (by_colour c))
  on_colour_sum c f =
      let on : HandlerRun S P → ℕ = λ run. if run.colour.0 == c.0 then f run else 0 in
      over_cores on
      ∙ to_same (shape_of setup).cores (λ n. sum_by on (get_or by_core n [])) (λ n. sum_by f (made_by n (by_colour c))) (λ n low.
      sym (sum_on f c (get_or by_core n [])) ∙ sym (ap (λ l. sum_by f l) (order.of_core c n (get_or by_core n []) (core_there n low))))
      ∙ sym (made_by_core f (shape_of setup).cores (by_colour c) (order.by_cores c))

  module _ (writes : (run : HandlerRun S P) → IsRunOf t fits y app setup frame run → t.trail_of run.becomes ≡ t.trail_of run.state ++ run.event ∷ []) where
    -- the runs on a colour are on what was registered, each event once, by those before it
    pub runs_are_on_registered : (c : Colour) (first last : S) → given c ≡ Some first → left c ≡ Some last → t.trail_of first ≡ [] → (number : List Event → Event → ℕ) → sum_by (count_run t c number) all_runs ≡ sum_along number [] (registered_of (entries_of (notes c)) c)
    runs_are_on_registered c first last is end fresh number =
        on_colour_sum c (λ run. number (t.trail_of run.state) run.event)
        ∙ along first (without_core (by_colour c)) (each_on t fits y app setup frame begin given left notes by_core by_colour order c) (order.on_colour c first last is end).follow
        ∙ ap (λ trail. sum_along number trail (map (λ (load : Event × Option P). load.0) (map given_to (without_core (by_colour c))))) fresh
        ∙ ap (λ l. sum_along number [] l) (ap (λ l. map (λ (load : Event × Option P). load.0) l) (order.on_colour c first last is end).given ∙ events-loaded_of (notes c) c)
      where
        along : (from : S) (later : List (HandlerRun S P)) → AllByRecursion (λ run. IsRunOf t fits y app setup frame run × (run.colour ≡ c)) later → Follow from later last → sum_by (λ run. number (t.trail_of run.state) run.event) later ≡ sum_along number (t.trail_of from) (map (λ (load : Event × Option P). load.0) (map given_to later))
        along from [] all follow = refl
        along from (run ∷ later) all follow =
            let rest = along run.becomes later all.1 follow.1 in
            let one = sum_by-cons (λ run. number (t.trail_of run.state) run.event) run later in
            let same : t.trail_of run.state ≡ t.trail_of from = ap t.trail_of follow.0 in
            let here = ap (λ trail. number trail run.event) same in
            let next = ap (λ trail. sum_along number trail (map (λ (load : Event × Option P). load.0) (map given_to later))) (writes run all.0.0 ∙ ap (λ trail. trail ++ run.event ∷ []) same) in
            omega (arith, rest, one, here, next)

    -- and of a colour beyond the setup there is nothing
    nothing_beyond : (c : Colour) → colours_of setup ≤ c.0 → IsLegal setup (entries_of (notes c)) → (number : List Event → Event → ℕ) → sum_by (count_run t c number) all_runs ≡ sum_along number [] (registered_of (entries_of (notes c)) c)
    nothing_beyond c high legal number =
        on_colour_sum c (λ run. number (t.trail_of run.state) run.event)
        ∙ none (without_core (by_colour c)) (each_on t fits y app setup frame begin given left notes by_core by_colour order c)
        ∙ ap (λ l. sum_along number [] l) (sym (none_registered setup (entries_of (notes c)) legal c high))
      where
        none : (runs : List (HandlerRun S P)) → AllByRecursion (λ run. IsRunOf t fits y app setup frame run × (run.colour ≡ c)) runs → sum_by (λ run. number (t.trail_of run.state) run.event) runs ≡ 0
        none [] all = refl
        none (run ∷ runs) all =
            let there = all.0.0.there in
            let same = ap (λ (d : Colour). d.0) all.0.1 in
            absurd (omega (arith, there, same, high))

    -- so on each colour, where each of the setup was given a state that nothing was run on yet
    pub runs_are_on_all : ((c : Colour) → c.0 < colours_of setup → (first : S) × (last : S) × (given c ≡ Some first) × (left c ≡ Some last) × (t.trail_of first ≡ [])) → ((c : Colour) → IsLegal setup (entries_of (notes c))) → (c : Colour) (number : List Event → Event → ℕ) → sum_by (count_run t c number) all_runs ≡ sum_along number [] (registered_of (entries_of (notes c)) c)
    runs_are_on_all all_given legal c number = elim (cases_lt c.0 (colours_of setup)) [
      | inl low ↦ let own = all_given c low in runs_are_on_registered c own.0 own.1 own.2 own.3 own.4 number
      | inr high ↦ nothing_beyond c high (legal c) number
    ]

-- How often each colour was greeted, by what the events registered say.
use Rattle.std.proofs.Common.{◌≡◌, ℕ, ◌+◌, ◌-◌, ◌<◌, ◌≤◌, ◌==◌, Bool, true, false, List, [], ◌∷◌, Option, None, Some, nat_lt, if◌then◌else◌, length, refl, sym, ◌∙◌, ap, arith, eq-eqb, ltb-true, ltb-false, inl, inr}
use Rattle.std.proofs.lemmas.Bool.{cases_eq}
use Rattle.std.proofs.lemmas.List.Sums.{sum_by-cons}
use Rattle.std.proofs.lemmas.Option.{slice_get_within, get_or_from_slice_get}
use Rattle.std.specs.Prelude.{Result, Ok, Err, IfOk, sum_by, slice_get, slice_index_or}
use Rattle.mely_event.specs.declared.colour.Colour.{Colour}
use Rattle.mely_event.specs.declared.event.Event.{Event}
use Rattle.mely_event.specs.declared.trail.Trail.{Ghosts as TrailWords}
use Rattle.mely_history.specs.declared.entry.Entry.{Entry}
use Rattle.mely_history.specs.declared.setup.Setup.{Setup}
use Rattle.mely_history.specs.History.{registered_of}
use Rattle.mely_history.specs.Setup.{colours_of, shape_of}
use Rattle.mely_history.proofs.LegalAccountLemmas.{same_colour}
use Rattle.mely_tally.specs.Account.{count_put, count_puts, sum_along}
use Rattle.mely_tally.proofs.AlongLemmas.{along-flat}
use Rattle.mely_weave.specs.Side.{shard_of}
use Rattle.mely_weave.proofs.Wholes.GatherLemmas.{get_there}
use Rattle.mely_worker.specs.declared.app.App.{Ghosts as AppWords}
use Rattle.mely_app.specs.declared.running.Ended.{Ended}
use Rattle.mely_app.specs.RanAll.{RanAll}
use Rattle.mely_app.specs.Puts.{HasPutAll, TellsPuts, sum_colours}
use Rattle.mely_app.proofs.PutsLemmas.{put_as_told}
use Rattle.example_hello.specs.declared.counter.Counter.{Counter}
use Rattle.example_hello.specs.Counting.{AllGreeted, histories_of}
use Rattle.example_hello.specs.Greetings.{greetings_of, greet, hear}

-- ---- sums over events

sum_none : (f : Event → ℕ) (events : List Event) → ((event : Event) → f event ≡ 0) → sum_by f events ≡ 0
sum_none f [] none = refl
sum_none f (event ∷ events) none = let here = none event in let rest = sum_none f events none in let all = sum_by-cons f event events in omega (arith, here, rest, all)

sum_same : (f h : Event → ℕ) (events : List Event) → ((event : Event) → f event ≡ h event) → sum_by f events ≡ sum_by h events
sum_same f h [] same = refl
sum_same f h (event ∷ events) same = let here = same event in let rest = sum_same f h events same in let one = sum_by-cons f event events in let other = sum_by-cons h event events in omega (arith, here, rest, one, other)

sum_two : (f g h : Event → ℕ) (events : List Event) → ((event : Event) → f event ≡ g event + h event) → sum_by f events ≡ sum_by g events + sum_by h events
sum_two f g h [] both = refl
sum_two f g h (event ∷ events) both =
    let here = both event in
    let rest = sum_two f g h events both in
    let one = sum_by-cons f event events in
    let two = sum_by-cons g event events in
    let three = sum_by-cons h event events in
    omega (arith, here, rest, one, two, three)

pub sum_ones : (events : List Event) → sum_by (λ _. 1) events ≡ length events
sum_ones [] = refl
sum_ones (event ∷ events) = let rest = sum_ones events in let one = sum_by-cons (λ (e : Event). 1) event events in omega (arith, rest, one)

-- ---- what the events count

abbrev zero_colour : Colour
zero_colour = record { 0 = 0 }

abbrev one_colour : Colour
one_colour = record { 0 = 1 }

-- the greetings, and all that is no greeting
abbrev greets : Event → ℕ
greets event = if event.handler == 0 then 1 else 0

abbrev others : Event → ℕ
others event = if event.handler == 0 then 0 else 1

-- how often a greeting is still to be made after it, and what else has an argument
abbrev to_come : Event → ℕ
to_come event = if event.handler == 0 then event.arg else 0

abbrev of_others : Event → ℕ
of_others event = if event.handler == 0 then 0 else event.arg

either_same : (b : Bool) (x : ℕ) → (if b then x else 0) + (if b then 0 else x) ≡ x
either_same true x = omega arith
either_same false x = omega arith

-- what the handler of an event puts on each colour
module _ (number : Event → ℕ) (event : Event) where
  heard : (own : Bool) (more : Bool) → count_puts one_colour number (if own then hear ∷ (if more then greet (record event { arg = event.arg - 1 }) ∷ [] else []) else []) ≡ (if own then number (record { handler = 1; arg = 0 }) else 0)
  heard true true = omega arith
  heard true false = omega arith
  heard false more = refl

  greeted : (own : Bool) (more : Bool) → count_puts zero_colour number (if own then hear ∷ (if more then greet (record event { arg = event.arg - 1 }) ∷ [] else []) else []) ≡ (if own then (if more then number (record event { arg = event.arg - 1 }) else 0) else 0)
  greeted true true = omega arith
  greeted true false = refl
  greeted false more = refl

-- a greeting with an argument over 0 puts one with an argument that is less by one
one_less : (event : Event) → count_puts zero_colour (λ e. e.arg + 1) (greetings_of event) ≡ to_come event
one_less event = greeted (λ e. e.arg + 1) event (event.handler == 0) (nat_lt 0 event.arg) ∙ ap (λ n. if event.handler == 0 then n else 0) (less (nat_lt 0 event.arg) refl)
  where
    less : (more : Bool) → nat_lt 0 event.arg ≡ more → (if more then event.arg - 1 + 1 else 0) ≡ event.arg
    less true is = let some = ltb-true 0 event.arg is in omega (arith, some)
    less false is = let none = ltb-false 0 event.arg is in omega (arith, none)

-- a number that no greeting has is put by none on colour 0
none_other : (of_greeting : ℕ → ℕ) (event : Event) → count_puts zero_colour (λ e. if e.handler == 0 then 0 else of_greeting e.arg) (greetings_of event) ≡ 0
none_other of_greeting event = greeted (λ e. if e.handler == 0 then 0 else of_greeting e.arg) event (event.handler == 0) (nat_lt 0 event.arg) ∙ none (event.handler == 0) (nat_lt 0 event.arg)
  where
    none : (own more : Bool) → (if own then (if more then (if own then 0 else of_greeting (event.arg - 1)) else 0) else 0) ≡ 0
    none true true = refl
    none true false = refl
    none false more = refl

-- each greeting is heard once
one_heard : (event : Event) → count_puts one_colour (λ _. 1) (greetings_of event) ≡ greets event
one_heard event = heard (λ _. 1) event (event.handler == 0) (nat_lt 0 event.arg)

-- and what is heard is no greeting
none_greets : (of_greeting : ℕ → ℕ) (event : Event) → count_puts one_colour (λ e. if e.handler == 0 then of_greeting e.arg else 0) (greetings_of event) ≡ 0
none_greets of_greeting event = heard (λ e. if e.handler == 0 then of_greeting e.arg else 0) event (event.handler == 0) (nat_lt 0 event.arg) ∙ none (event.handler == 0)
  where
    none : (own : Bool) → (if own then 0 else 0) ≡ (let nothing : ℕ = 0 in nothing)
    none true = refl
    none false = refl

-- ---- how often each colour was greeted

module _ {R S F : Type 0} (t : TrailWords S F) (fits : F → Colour → Event → Option (Unit {0}) → Type 0) (y : AppWords R (Unit {0}) S F) (app : R) (setup : Setup) (frame : F) (tells : TellsPuts t fits y app setup frame (λ _ _ event. greetings_of event)) (two : colours_of setup ≡ 2)
    (event : Event) (times : ℕ) (first : event.handler ≡ 0) (many : event.arg + 1 ≡ times) (histories : List (List Entry)) (all : HasPutAll t fits y app setup frame (record { 0 = 0 }, event, None) histories)
    (of : Colour → List Event) (each : (d : Colour) → (history : List Entry) × (slice_get histories (shard_of setup d) ≡ Some history) × (registered_of history d ≡ of d)) where
  -- what was registered on a colour is the first event, and what the events of both say
  told : (c : Colour) (number : Event → ℕ) → sum_by number (of c) ≡ count_put c number (zero_colour, event, (let none : Option (Unit {0}) = None in none)) + (sum_by (λ e. count_puts c number (greetings_of e)) (of zero_colour) + sum_by (λ e. count_puts c number (greetings_of e)) (of one_colour))
  told c number =
      let on : Colour → ℕ = λ d. sum_along (λ _ e. count_puts c number (greetings_of e)) [] (of d) in
      let put = put_as_told t fits y app setup frame (λ _ _ e. greetings_of e) tells c number (zero_colour, event, None) histories all.0 all.1 of each in
      let both : sum_colours (colours_of setup) on ≡ sum_colours 2 on = ap (λ n. sum_colours n on) two in
      let one = along-flat (λ e. count_puts c number (greetings_of e)) [] (of zero_colour) in
      let other = along-flat (λ e. count_puts c number (greetings_of e)) [] (of one_colour) in
      omega (arith, put, both, one, other)

  is_greeting : (x z : ℕ) → (if event.handler == 0 then x else z) ≡ x
  is_greeting x z = ap (λ (b : Bool). if b then x else z) (eq-eqb event.handler 0 first)

  -- colour 1 has no greeting, whatever number a greeting has
  no_greeting : (of_greeting : ℕ → ℕ) → sum_by (λ e. if e.handler == 0 then of_greeting e.arg else 0) (of one_colour) ≡ 0
  no_greeting of_greeting =
      let put = told one_colour (λ e. if e.handler == 0 then of_greeting e.arg else 0) in
      let one = sum_none _ (of zero_colour) (none_greets of_greeting) in
      let other = sum_none _ (of one_colour) (none_greets of_greeting) in
      omega (arith, put, one, other)

  -- and colour 0 has nothing else
  no_other : (of_greeting : ℕ → ℕ) → sum_by (λ e. if e.handler == 0 then 0 else of_greeting e.arg) (of zero_colour) ≡ 0
  no_other of_greeting =
      let put = told zero_colour (λ e. if e.handler == 0 then 0 else of_greeting e.arg) in
      let begin = is_greeting 0 (of_greeting event.arg) in
      let one = sum_none _ (of zero_colour) (none_other of_greeting) in
      let other = sum_none _ (of one_colour) (none_other of_greeting) in
      omega (arith, put, begin, one, other)

  -- colour 0 greets so often
  pub greeted_times : length (of zero_colour) ≡ times
  greeted_times =
      let put = told zero_colour (λ e. e.arg + 1) in
      let less = sum_same _ to_come (of zero_colour) one_less in
      let none = sum_same _ to_come (of one_colour) one_less ∙ no_greeting (λ n. n) in
      let apart = sum_two (λ e. e.arg + 1) (λ e. e.arg) (λ _. 1) (of zero_colour) (λ e. refl) in
      let args = sum_two (λ e. e.arg) to_come of_others (of zero_colour) (λ e. sym (either_same (e.handler == 0) e.arg)) in
      let rest = no_other (λ n. n) in
      let ones = sum_ones (of zero_colour) in
      omega (arith, put, less, none, apart, args, rest, ones, many)

  -- and colour 1 hears it as often
  pub heard_times : length (of one_colour) ≡ times
  heard_times =
      let put = told one_colour (λ _. 1) in
      let one = sum_same _ greets (of zero_colour) one_heard in
      let other = sum_same _ greets (of one_colour) one_heard ∙ no_greeting (λ _. 1) in
      let all = sum_two (λ _. 1) greets others (of zero_colour) (λ e. sym (either_same (e.handler == 0) 1)) in
      let rest = no_other (λ _. 1) in
      let ones = sum_ones (of one_colour) in
      let greetings = sum_ones (of zero_colour) in
      let times_is = greeted_times in
      omega (arith, put, one, other, all, rest, ones, greetings, times_is)

-- ---- what each state has counted

module _ {R F : Type 0} (t : TrailWords Counter F) (fits : F → Colour → Event → Option (Unit {0}) → Type 0) (y : AppWords R (Unit {0}) Counter F) (app : R) (setup : Setup) (frame : F) (logged : (s : Counter) → t.trail_of s ≡ s.log.events) (tells : TellsPuts t fits y app setup frame (λ _ _ event. greetings_of event)) (two : colours_of setup ≡ 2)
    (event : Event) (times : ℕ) (first : event.handler ≡ 0) (many : event.arg + 1 ≡ times) (few : times < 65536) (ended : Ended Counter) (ran : RanAll t setup (record { 0 = 0 }) event (histories_of ended) ended.states.items) (all : HasPutAll t fits y app setup frame (record { 0 = 0 }, event, None) (histories_of ended)) where
  registered : Colour → List Event
  registered d = registered_of (slice_index_or (histories_of ended) (shard_of setup d) []) d

  each_there : (d : Colour) → (history : List Entry) × (slice_get (histories_of ended) (shard_of setup d) ≡ Some history) × (registered_of history d ≡ registered d)
  unfolding registered
  each_there d =
      let some : 1 ≤ (shape_of setup).shards = setup.shards_in.0 in
      let shards = ran.shards in
      let there = get_there (histories_of ended) (shard_of setup d) (omega (arith, some, shards)) in
      (there.0, there.1, ap (λ h. registered_of h d) (sym (get_or_from_slice_get (histories_of ended) (shard_of setup d) there.0 [] there.1)))

  times_of : (c : Colour) → c.0 < 2 → length (registered c) ≡ times
  times_of c low = elim (cases_eq c.0 0) [
    | inl zero ↦ ap (λ (d : Colour). length (registered d)) (same_colour c (record { 0 = 0 }) zero) ∙ greeted_times t fits y app setup frame tells two event times first many (histories_of ended) all registered each_there
    | inr other ↦
        let one : c.0 ≡ 1 = omega (arith, low, other) in
        ap (λ (d : Colour). length (registered d)) (same_colour c (record { 0 = 1 }) one) ∙ heard_times t fits y app setup frame tells two event times first many (histories_of ended) all registered each_there
  ]

  pub all_greeted : AllGreeted times ended
  all_greeted = record {
    colours = ran.colours ∙ two;
    each = λ c state at.
        let within = slice_get_within ended.states.items c.0 state at in
        let colours = ran.colours in
        let there = each_there c in
        let long : length state.log.events ≡ length (registered c) = ap length (sym (logged state) ∙ ran.ran c state there.0 at there.1 ∙ there.2) in
        let count = state.counted in
        let is = times_of c (omega (arith, within, colours, two)) in
        omega (arith, long, count, is, few);
  }

-- what follows of two facts on an answer that is Ok
pub if_both : {A E : Type 0} (One Other Both : A → Type 0) (answer : Result A E) → IfOk answer One → IfOk answer Other → ((a : A) → One a → Other a → Both a) → IfOk answer Both
if_both One Other Both (Ok a) one other so = so a one other
if_both One Other Both (Err e) one other so = tt

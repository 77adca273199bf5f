-- One event is run: what must balance for a run to stand afterwards.
use Rattle.std.proofs.Common.{◌≡◌, ℕ, ◌+◌, ◌≤◌, ◌<◌, ◌⊎◌, Bool, true, false, Option, Some, None, List, [], ◌∷◌, ◌++◌, refl, ◌∙◌, ap, arith, inl, inr}
use Rattle.std.proofs.lemmas.List.Sums.{sum_by-append, sum_by-cons}
use Rattle.std.proofs.lemmas.List.{map-append}
use Rattle.std.proofs.lemmas.Bool.{ne_eqb}
use Rattle.std.specs.Prelude.{sum_by, not, ◌==◌, ◌&&◌}
use Rattle.mely_tally.specs.Tallies.{carried_by}
use Rattle.sws_log.specs.declared.line.LogLine.{LogLine}
use Rattle.sws_handlers.specs.declared.load.Load.TheVariants as load
use Rattle.sws_handlers.specs.Handling.{Put, line_puts}
use Rattle.sws_handlers.specs.declared.load.WorldLoad.{WorldLoad}
use Rattle.sws_handlers.specs.declared.place.Role.{Role}
use Rattle.sws_handlers.specs.declared.place.Role.TheVariants.{Polling, Accepting, Talking, Logging}
use Rattle.sws_steps.specs.declared.talk.Talk.{Ghosts as TalkWords}
use Rattle.sws_handlers.specs.Place.{PlaceState}
use Rattle.sws_weave.specs.RunStands.{Way, if_held, is_any, is_late, at_desk, worlds, beyond, early, unended_count, asks_for, misplaced_count, desks, seats, rests, rests_beyond, unended_rests, rests_in_vain, is_last, waits_for, strays, is_at, is_opened, RunStands}
use Rattle.sws_handlers.specs.Counting.{bit}
use Rattle.sws_handlers.specs.Loads.{world_of}

-- what vanishes with another number has the sum 0 where that has
sum_none : {X : Type 0} (one f : X → ℕ) → ((x : X) → one x ≡ 0 → f x ≡ 0) → (xs : List X) → sum_by one xs ≡ 0 → sum_by f xs ≡ 0
sum_none one f vanish [] none = omega arith
sum_none one f vanish (x ∷ xs) none =
    let a = sum_by-cons one x xs in
    let b = sum_by-cons f x xs in
    let here : one x ≡ 0 = omega (arith, a, none) in
    let rest : sum_by one xs ≡ 0 = omega (arith, a, none) in
    let e = vanish x here in
    let r = sum_none one f vanish xs rest in
    omega (arith, b, e, r)

pub sum_below : {X : Type 0} (f g : X → ℕ) → ((x : X) → f x ≤ g x) → (xs : List X) → sum_by f xs ≤ sum_by g xs
sum_below f g below [] = omega arith
sum_below f g below (x ∷ xs) = omega (arith, sum_by-cons f x xs, sum_by-cons g x xs, below x, sum_below f g below xs)

module _ {X : Type 0} (front back : List X) where
  -- the others
  abbrev pub others : (X → ℕ) → ℕ
  others f = sum_by f front + sum_by f back

  pub sum_split : (f : X → ℕ) (s : X) → sum_by f (front ++ (s ∷ []) ++ back) ≡ f s + others f
  sum_split f s = omega (arith, sum_by-append f (front ++ (s ∷ [])) back, sum_by-append f front (s ∷ []))

  pub others_none : (one f : X → ℕ) → ((x : X) → one x ≡ 0 → f x ≡ 0) → others one ≡ 0 → others f ≡ 0
  others_none one f vanish none =
      let a : sum_by one front ≡ 0 = omega (arith, none) in
      let b : sum_by one back ≡ 0 = omega (arith, none) in
      omega (arith, sum_none one f vanish front a, sum_none one f vanish back b)

-- a world in the poll after the last link
abbrev pub lates : {W L : Type 0} → Way W L → ℕ
lates e = if_held (λ held. is_late e.0) (world_of e.1)

bits_of : (b : Bool) → bit (not b) + bit b ≡ 1
bits_of true = omega arith
bits_of false = omega arith

split_held : {W : Type 0} (b : Bool) (held : Option (WorldLoad W)) → if_held (λ h. not b) held + if_held (λ h. b) held ≡ if_held is_any held
split_held b None = omega arith
split_held b (Some held) = omega (arith, bits_of b)

pub split_world : {W L : Type 0} (e : Way W L) → early e + lates e ≡ worlds e
split_world e = split_held (is_late e.0) (world_of e.1)

sum_parts : {W L : Type 0} (ways : List (Way W L)) → sum_by early ways + sum_by lates ways ≡ sum_by worlds ways
sum_parts [] = omega arith
sum_parts (e ∷ ways) = omega (arith, sum_by-cons early e ways, sum_by-cons lates e ways, sum_by-cons worlds e ways, split_world e, sum_parts ways)

last_of : {W T : Type 0} (role : Role W T) → at_desk (λ desk. 1) role ≡ 0 → at_desk (λ desk. bit desk.last) role ≡ 0
last_of (Polling desk) none = absurd (omega (arith, none))
last_of Accepting none = refl
last_of (Talking seat) none = refl
last_of Logging none = refl

module _ {W L T G H : Type 0} (y : TalkWords T L G H) (total : ℕ) where
  -- what one event and the state on which it is run owe, what it puts and the state then have
  pub record Balance (s becomes : PlaceState H W T) (e : Way W L) (puts : List (Way W L)) : Type 0 where
    pub placed : misplaced_count total becomes ≡ misplaced_count total s
    pub desk : desks becomes ≡ desks s
    pub seat : (i : ℕ) → seats i becomes ≡ seats i s
    pub world : sum_by worlds puts + rests becomes ≡ worlds e + rests s
    pub opens : (i : ℕ) → i < total → sum_by (asks_for 3 i) puts + is_opened y i becomes + beyond i e + rests_beyond i s ≡ asks_for 3 i e + is_opened y i s + sum_by (beyond i) puts + rests_beyond i becomes
    pub steps : (i number : ℕ) → i < total → 4 ≤ number → number ≤ 8 → sum_by (asks_for number i) puts + is_at y i number s ≡ asks_for number i e + is_at y i number becomes
    pub waits : (i : ℕ) → i < total → sum_by (asks_for 9 i) puts + sum_by (asks_for 1 i) puts + waits_for i becomes + is_at y i 9 s ≡ asks_for 9 i e + asks_for 1 i e + waits_for i s + is_at y i 9 becomes
    pub stray : strays becomes ≡ strays s
    pub none_unended : sum_by (unended_count total) puts ≡ 0
    pub not_unended : unended_rests total becomes ≡ 0
    pub late : (sum_by early puts + is_last becomes ≤ early e + is_last s) ⊎ ((worlds e ≡ 1) × (desks s ≡ 1) × (sum_by early puts + is_last becomes ≤ 1))
    pub not_in_vain : rests_in_vain becomes ≡ 0

  -- the states and the ways before and after, as sums
  pub record Swaps (states after : List (PlaceState H W T)) (ways later : List (Way W L)) (s becomes : PlaceState H W T) (e : Way W L) (puts : List (Way W L)) : Type 0 where
    pub front : List (PlaceState H W T)
    pub back : List (PlaceState H W T)
    pub was : states ≡ front ++ (s ∷ []) ++ back
    pub is : after ≡ front ++ (becomes ∷ []) ++ back
    pub held : (g : Way W L → ℕ) → g e ≤ sum_by g ways
    pub ways_are : (g : Way W L → ℕ) → sum_by g later + g e ≡ sum_by g ways + sum_by g puts

  module _ (states after : List (PlaceState H W T)) (ways later : List (Way W L)) (s becomes : PlaceState H W T) (e : Way W L) (puts : List (Way W L)) (swaps : Swaps states after ways later s becomes e puts) where
    -- the sum over the other states
    abbrev pub rest : (PlaceState H W T → ℕ) → ℕ
    rest f = others swaps.front swaps.back f

    pub before_is : (f : PlaceState H W T → ℕ) → sum_by f states ≡ f s + rest f
    before_is f = omega (arith, ap (sum_by f) swaps.was, sum_split swaps.front swaps.back f s)

    pub after_is : (f : PlaceState H W T → ℕ) → sum_by f after ≡ f becomes + rest f
    after_is f = omega (arith, ap (sum_by f) swaps.is, sum_split swaps.front swaps.back f becomes)

    -- what vanishes away from a seat or the desk is the state's own
    pub desk_alone : RunStands y total states ways → desks s ≡ 1 → (f : PlaceState H W T → ℕ) → ((x : PlaceState H W T) → desks x ≡ 0 → f x ≡ 0) → rest f ≡ 0
    desk_alone stands here f vanish =
        let one = stands.one_desk in
        let b = before_is desks in
        others_none swaps.front swaps.back desks f vanish (omega (arith, one, b, here))

    pub seat_alone : RunStands y total states ways → (i : ℕ) → i < total → seats i s ≡ 1 → (f : PlaceState H W T → ℕ) → ((x : PlaceState H W T) → seats i x ≡ 0 → f x ≡ 0) → rest f ≡ 0
    seat_alone stands i low here f vanish =
        let one = stands.one_seat i low in
        let b = before_is (seats i) in
        others_none swaps.front swaps.back (seats i) f vanish (omega (arith, one, b, here))

    last_at_desk : (x : PlaceState H W T) → desks x ≡ 0 → is_last x ≡ 0
    last_at_desk x none = last_of x.role none

    late_after : RunStands y total states ways → Balance s becomes e puts → sum_by early later + sum_by is_last after ≤ 1
    late_after stands balance =
        let w = swaps.ways_are early in
        let b = before_is is_last in
        let a = after_is is_last in
        let was = stands.late in
        elim balance.late [
          | inl less ↦ omega (arith, w, b, a, was, less)
          | inr at_desk ↦
              let rest_last = desk_alone stands at_desk.1 is_last last_at_desk in
              let few = at_desk.2 in
              let one = stands.one_world in
              let parts = sum_parts ways in
              let held = swaps.held lates in
              let whole = split_world e in
              let all = at_desk.0 in
              omega (arith, w, a, rest_last, few, one, parts, held, whole, all)
        ]

    -- the run stands afterwards
    pub stands_after : RunStands y total states ways → Balance s becomes e puts → RunStands y total after later
    stands_after stands balance = record {
      placed = let h = stands.placed in let c = balance.placed in omega (arith, before_is (misplaced_count total), after_is (misplaced_count total), h, c);
      one_desk = let h = stands.one_desk in let c = balance.desk in omega (arith, before_is desks, after_is desks, h, c);
      one_seat = λ i low. let h = stands.one_seat i low in let c = balance.seat i in omega (arith, before_is (seats i), after_is (seats i), h, c);
      one_world = let h = stands.one_world in let c = balance.world in omega (arith, before_is rests, after_is rests, swaps.ways_are worlds, h, c);
      opens = λ i low.
          let h = stands.opens i low in
          let c = balance.opens i low in
          omega (arith, before_is (is_opened y i), after_is (is_opened y i), before_is (rests_beyond i), after_is (rests_beyond i), swaps.ways_are (asks_for 3 i), swaps.ways_are (beyond i), h, c);
      steps = λ i number low more less.
          let h = stands.steps i number low more less in
          let c = balance.steps i number low more less in
          omega (arith, before_is (is_at y i number), after_is (is_at y i number), swaps.ways_are (asks_for number i), h, c);
      waits = λ i low.
          let h = stands.waits i low in
          let c = balance.waits i low in
          omega (arith, before_is (is_at y i 9), after_is (is_at y i 9), before_is (waits_for i), after_is (waits_for i), swaps.ways_are (asks_for 9 i), swaps.ways_are (asks_for 1 i), h, c);
      no_stray = let h = stands.no_stray in let c = balance.stray in omega (arith, before_is strays, after_is strays, h, c);
      ended =
          let h = stands.ended in
          let none = balance.none_unended in
          let not = balance.not_unended in
          omega (arith, before_is (unended_rests total), after_is (unended_rests total), swaps.ways_are (unended_count total), h, none, not);
      late = late_after stands balance;
      not_in_vain = let h = stands.not_in_vain in let c = balance.not_in_vain in omega (arith, before_is rests_in_vain, after_is rests_in_vain, h, c);
    }

-- ---- the line that a step of a connection may put behind its next step

line_none : {W L : Type 0} (f : Way W L → ℕ) (total i : ℕ) → ((line : LogLine) → f (record { handler = 10; arg = i }, Some (load.Line line)) ≡ 0) → (log : Bool) (line : Option LogLine) → sum_by f (carried_by (line_puts {W = W} {L = L} log total i line)) ≡ 0
line_none f total i none log None = omega arith
line_none f total i none false (Some line) = omega arith
line_none f total i none true (Some line) = let z = none line in omega (arith, z)

-- it changes no sum
with_line : {W L : Type 0} (f : Way W L → ℕ) (total i : ℕ) → ((line : LogLine) → f (record { handler = 10; arg = i }, Some (load.Line line)) ≡ 0) → (puts : List (Put W L)) (log : Bool) (line : Option LogLine) → sum_by f (carried_by (puts ++ line_puts log total i line)) ≡ sum_by f (carried_by puts)
with_line {W} {L} f total i none puts log line =
    let apart = ap (sum_by f) (map-append (λ (p : Put W L). (p.1, p.2)) puts (line_puts log total i line)) in
    omega (arith, apart, sum_by-append f (carried_by puts) (carried_by (line_puts {W = W} {L = L} log total i line)), line_none f total i none log line)

ask_none : (W L : Type 0) (n i j : ℕ) → n ≤ 9 → (line : LogLine) → asks_for {W = W} {L = L} n i (record { handler = 10; arg = j }, Some (load.Line line)) ≡ 0
ask_none W L n i j few line = ap (λ b. bit (b && (j == i))) (ne_eqb 10 n (λ same. absurd (omega (arith, same, few))))

pub balance_more : {W L T G H : Type 0} (y : TalkWords T L G H) (total : ℕ) (s becomes : PlaceState H W T) (e : Way W L) (puts : List (Put W L)) (log : Bool) (j : ℕ) (line : Option LogLine) → Balance y total s becomes e (carried_by puts) → Balance y total s becomes e (carried_by (puts ++ line_puts log total j line))
balance_more {W} {L} y total s becomes e puts log j line was =
    let same : (f : Way W L → ℕ) → ((line : LogLine) → f (record { handler = 10; arg = j }, Some (load.Line line)) ≡ 0) → sum_by f (carried_by (puts ++ line_puts log total j line)) ≡ sum_by f (carried_by puts) = λ f none. with_line f total j none puts log line in
    record {
      placed = was.placed;
      desk = was.desk;
      seat = was.seat;
      world = let h = was.world in omega (arith, h, same worlds (λ line. refl));
      opens = λ i low. let h = was.opens i low in omega (arith, h, same (asks_for 3 i) (ask_none W L 3 i j (omega arith)), same (beyond i) (λ line. refl));
      steps = λ i number low more less. let h = was.steps i number low more less in omega (arith, h, same (asks_for number i) (ask_none W L number i j (omega (arith, less))));
      waits = λ i low. let h = was.waits i low in omega (arith, h, same (asks_for 9 i) (ask_none W L 9 i j (omega arith)), same (asks_for 1 i) (ask_none W L 1 i j (omega arith)));
      stray = was.stray;
      none_unended = same (unended_count total) (λ line. refl) ∙ was.none_unended;
      not_unended = was.not_unended;
      late = elim was.late [ inl less ↦ inl (omega (arith, less, same early (λ line. refl))) | inr at_desk ↦ inr (at_desk.0, at_desk.1, (let few = at_desk.2 in omega (arith, few, same early (λ line. refl)))) ];
      not_in_vain = was.not_in_vain;
    }

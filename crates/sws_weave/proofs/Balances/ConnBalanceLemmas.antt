-- An event of a connection balances, where it is the due one.
use Rattle.std.proofs.Common.{◌≡◌, ℕ, ◌+◌, ◌≤◌, Bool, true, false, Option, Some, None, List, refl, sym, ◌∙◌, ap, arith, inl, inr, eq-eqb}
use Rattle.std.proofs.lemmas.Bool.{ne_eqb}
use Rattle.std.proofs.lemmas.Bool.Decides.{eqb_tells}
use Rattle.std.specs.Prelude.{sum_by, not, ◌==◌, ◌&&◌}
use Rattle.mely_event.specs.declared.colour.Colour.{Colour}
use Rattle.mely_event.specs.declared.event.Event.{Event}
use Rattle.mely_tally.specs.Tallies.{carried_by}
use Rattle.sws_steps.specs.declared.talk.Talk.{Ghosts as TalkWords}
use Rattle.sws_steps.specs.declared.Handler.{Handler}
use Rattle.sws_steps.specs.declared.Handler.TheVariants as handler
use Rattle.sws_conn.specs.Talks.{due}
use Rattle.sws_handlers.specs.declared.load.WorldLoad.{WorldLoad}
use Rattle.sws_handlers.specs.declared.place.Seat.{Seat}
use Rattle.sws_handlers.specs.declared.place.Role.{Role}
use Rattle.sws_handlers.specs.declared.place.Role.TheVariants.{Talking}
use Rattle.sws_handlers.specs.Place.{PlaceState}
use Rattle.sws_handlers.specs.Tasks.{number_of}
use Rattle.sws_handlers.specs.Handling.{next_put, next_puts, is_some}
use Rattle.sws_weave.specs.RunStands.{Way, if_held, is_any, is_beyond, is_late, is_unended, at_desk, at_seat, misplaced_at, first_number, due_number, is_stray, worlds, beyond, early, unended_count, asks_for, is_at, is_opened}
use Rattle.sws_weave.proofs.Balances.BalanceLemmas.{Balance}
use Rattle.sws_handlers.specs.Counting.{bit, times}
use Rattle.sws_handlers.specs.Loads.{world_of}

bit_swap : (a b : Bool) → bit (a && b) ≡ bit (b && a)
bit_swap true true = refl
bit_swap true false = refl
bit_swap false true = refl
bit_swap false false = refl

bit_no : (a : Bool) → bit (a && false) ≡ 0
bit_no true = refl
bit_no false = refl

bit_split : (a b : Bool) → bit (a && b) + bit (a && not b) ≡ bit a
bit_split true true = omega arith
bit_split true false = omega arith
bit_split false b = omega arith

plus_two : (a b : ℕ) → (a + 2 == b + 2) ≡ (a == b)
plus_two a b = elim (eqb_tells a b) [
  | inl same ↦ eq-eqb (a + 2) (b + 2) (ap (λ n. n + 2) same.1) ∙ sym same.0
  | inr apart ↦ ne_eqb (a + 2) (b + 2) (λ e. apart.1 (omega (arith, e))) ∙ sym apart.0
]

-- how often the next event of a connection asks for this step
module _ (W L : Type 0) where
  abbrev ways_of : ℕ → Option Handler → List (Way W L)
  ways_of i0 step = carried_by (next_puts i0 step)

  step_asks : (h : Handler) (i0 i n : ℕ) → (next_put {W = W} {L = L} i0 h).1 ≡ record { handler = number_of h; arg = i0 } → sum_by (asks_for n i) (carried_by (next_puts {W = W} {L = L} i0 (Some h))) ≡ bit ((i0 + 2 == i + 2) && (number_of h == n))
  step_asks h i0 i n is =
      let e : sum_by (asks_for n i) (carried_by (next_puts {W = W} {L = L} i0 (Some h))) ≡ bit ((number_of h == n) && (i0 == i)) = ap (λ (ev : Event). 0 + bit ((ev.handler == n) && (ev.arg == i))) is ∙ omega arith in
      e ∙ bit_swap (number_of h == n) (i0 == i) ∙ ap (λ b. bit (b && (number_of h == n))) (sym (plus_two i0 i))

  first_asks : (d : Option Handler) (i0 i n : ℕ) → 3 ≤ n → n ≤ 8 → sum_by (asks_for n i) (ways_of i0 d) ≡ bit ((i0 + 2 == i + 2) && (first_number d == n))
  first_asks None i0 i n more less = let no : (0 == n) ≡ false = ne_eqb 0 n (λ e. absurd (omega (arith, e, more))) in sym (ap (λ b. bit ((i0 + 2 == i + 2) && b)) no ∙ bit_no (i0 + 2 == i + 2))
  first_asks (Some handler.Open) i0 i n more less = step_asks handler.Open i0 i n refl
  first_asks (Some handler.Read) i0 i n more less = step_asks handler.Read i0 i n refl
  first_asks (Some handler.Parse) i0 i n more less = step_asks handler.Parse i0 i n refl
  first_asks (Some handler.Look) i0 i n more less = step_asks handler.Look i0 i n refl
  first_asks (Some handler.Write) i0 i n more less = step_asks handler.Write i0 i n refl
  first_asks (Some handler.Close) i0 i n more less = step_asks handler.Close i0 i n refl
  first_asks (Some handler.Resume) i0 i n more less =
      let no : (1 == n) ≡ false = ne_eqb 1 n (λ e. absurd (omega (arith, e, more))) in
      let nine : (9 == n) ≡ false = ne_eqb 9 n (λ e. absurd (omega (arith, e, less))) in
      ap (λ b. 0 + bit (b && (i0 == i))) no ∙ sym (ap (λ b. bit ((i0 + 2 == i + 2) && b)) nine ∙ bit_no (i0 + 2 == i + 2))

  other_waits : (h : Handler) (i0 i : ℕ) → (next_put {W = W} {L = L} i0 h).1 ≡ record { handler = number_of h; arg = i0 } → (1 == number_of h) ≡ false → (number_of h == 1) ≡ false → sum_by (asks_for 9 i) (ways_of i0 (Some h)) + sum_by (asks_for 1 i) (ways_of i0 (Some h)) ≡ bit ((i0 + 2 == i + 2) && (number_of h == 9))
  other_waits h i0 i is no1 no2 =
      let a = step_asks h i0 i 9 is in
      let b = step_asks h i0 i 1 is ∙ ap (λ b. bit ((i0 + 2 == i + 2) && b)) no2 ∙ bit_no (i0 + 2 == i + 2) in
      omega (arith, a, b)

  first_waits : (d : Option Handler) (i0 i : ℕ) → sum_by (asks_for 9 i) (ways_of i0 d) + sum_by (asks_for 1 i) (ways_of i0 d) ≡ bit ((i0 + 2 == i + 2) && (first_number d == 9))
  first_waits None i0 i = let no = bit_no (i0 + 2 == i + 2) in omega (arith, no)
  first_waits (Some handler.Open) i0 i = other_waits handler.Open i0 i refl refl refl
  first_waits (Some handler.Read) i0 i = other_waits handler.Read i0 i refl refl refl
  first_waits (Some handler.Parse) i0 i = other_waits handler.Parse i0 i refl refl refl
  first_waits (Some handler.Look) i0 i = other_waits handler.Look i0 i refl refl refl
  first_waits (Some handler.Write) i0 i = other_waits handler.Write i0 i refl refl refl
  first_waits (Some handler.Close) i0 i = other_waits handler.Close i0 i refl refl refl
  first_waits (Some handler.Resume) i0 i =
      let e : bit (i0 == i) ≡ bit ((i0 + 2 == i + 2) && true) = bit_swap true (i0 == i) ∙ ap (λ b. bit (b && true)) (sym (plus_two i0 i)) in
      omega (arith, e)

  -- no world is put
  no_world : (f : Way W L → ℕ) → ((e : Way W L) → world_of e.1 ≡ None → f e ≡ 0) → (d : Option Handler) (i0 : ℕ) → sum_by f (ways_of i0 d) ≡ 0
  no_world f vanish None i0 = omega arith
  no_world f vanish (Some handler.Open) i0 = omega (arith, vanish (record { handler = 3; arg = i0 }, None) refl)
  no_world f vanish (Some handler.Read) i0 = omega (arith, vanish (record { handler = 4; arg = i0 }, None) refl)
  no_world f vanish (Some handler.Parse) i0 = omega (arith, vanish (record { handler = 5; arg = i0 }, None) refl)
  no_world f vanish (Some handler.Look) i0 = omega (arith, vanish (record { handler = 6; arg = i0 }, None) refl)
  no_world f vanish (Some handler.Write) i0 = omega (arith, vanish (record { handler = 7; arg = i0 }, None) refl)
  no_world f vanish (Some handler.Close) i0 = omega (arith, vanish (record { handler = 8; arg = i0 }, None) refl)
  no_world f vanish (Some handler.Resume) i0 = omega (arith, vanish (record { handler = 1; arg = i0 }, None) refl)

pub held_none : {W : Type 0} (test : WorldLoad W → Bool) (held : Option (WorldLoad W)) → held ≡ None → if_held test held ≡ 0
held_none test held none = ap (λ o. if_held test o) none

-- the due step of a connection
module _ {W L T G H : Type 0} (y : TalkWords T L G H) (total : ℕ) (s becomes : PlaceState H W T) (seat after : Seat T) (e : Way W L) (i0 : ℕ)
    (was : s.role ≡ Talking seat) (is : becomes.role ≡ Talking after) (colour : becomes.colour ≡ s.colour) (own : s.colour.0 ≡ i0 + 2)
    (number : e.0.handler ≡ due_number y seat) (arg : e.0.arg ≡ i0) (no_load : world_of e.1 ≡ None) (some : 3 ≤ due_number y seat) (moved : (due_number y after == 3) ≡ false) (kept : after.stray ≡ seat.stray) where
  abbrev puts : List (Way W L)
  puts = carried_by (next_puts i0 (due (y.view_of after.talk)))

  abbrev colour_is : ℕ → Bool
  colour_is i = s.colour.0 == i + 2

  own_is : (i : ℕ) → (i0 + 2 == i + 2) ≡ colour_is i
  own_is i = ap (λ n. n == i + 2) (sym own)

  at_was : (i n : ℕ) → is_at y i n s ≡ bit (colour_is i && (due_number y seat == n))
  at_was i n = ap (at_seat (λ k. bit (colour_is i && (due_number y k == n)))) was

  at_is : (i n : ℕ) → is_at y i n becomes ≡ bit (colour_is i && (due_number y after == n))
  at_is i n = ap (at_seat (λ k. bit ((becomes.colour.0 == i + 2) && (due_number y k == n)))) is ∙ ap (λ (c : Colour). bit ((c.0 == i + 2) && (due_number y after == n))) colour

  opened_was : (i : ℕ) → is_opened y i s ≡ bit (colour_is i && not (due_number y seat == 3))
  opened_was i = ap (at_seat (λ k. bit (colour_is i && not (due_number y k == 3)))) was

  opened_is : (i : ℕ) → is_opened y i becomes ≡ bit (colour_is i && not (due_number y after == 3))
  opened_is i = ap (at_seat (λ k. bit ((becomes.colour.0 == i + 2) && not (due_number y k == 3)))) is ∙ ap (λ (c : Colour). bit ((c.0 == i + 2) && not (due_number y after == 3))) colour

  -- the event asks for the due step
  asks : (i n : ℕ) → asks_for n i e ≡ bit (colour_is i && (due_number y seat == n))
  asks i n =
      bit_swap (e.0.handler == n) (e.0.arg == i)
      ∙ ap (λ a. bit ((a == i) && (e.0.handler == n))) arg
      ∙ ap (λ h. bit ((i0 == i) && (h == n))) number
      ∙ ap (λ b. bit (b && (due_number y seat == n))) (sym (plus_two i0 i) ∙ own_is i)

  next : (i n : ℕ) → 3 ≤ n → n ≤ 8 → sum_by (asks_for n i) puts ≡ bit (colour_is i && (due_number y after == n))
  next i n more less = first_asks W L (due (y.view_of after.talk)) i0 i n more less ∙ ap (λ b. bit (b && (due_number y after == n))) (own_is i)

  next_waits : (i : ℕ) → sum_by (asks_for 9 i) puts + sum_by (asks_for 1 i) puts ≡ bit (colour_is i && (due_number y after == 9))
  next_waits i = first_waits W L (due (y.view_of after.talk)) i0 i ∙ ap (λ b. bit (b && (due_number y after == 9))) (own_is i)

  not_asked : (i : ℕ) → asks_for 1 i e ≡ 0
  not_asked i = let no : (due_number y seat == 1) ≡ false = ne_eqb (due_number y seat) 1 (λ e. absurd (omega (arith, e, some))) in asks i 1 ∙ ap (λ b. bit (colour_is i && b)) no ∙ bit_no (colour_is i)

  same_at : (f : Role W T → ℕ) → ((k : Seat T) → f (Talking k) ≡ 0) → (f s.role ≡ 0) × (f becomes.role ≡ 0)
  same_at f none = (ap f was ∙ none seat, ap f is ∙ none after)

  pub conn_balance : Balance y total s becomes e puts
  conn_balance = record {
    placed = ap (λ r. misplaced_at total becomes.colour.0 r) is ∙ ap (λ (c : Colour). misplaced_at {W = W} {T = T} total c.0 (Talking after)) colour ∙ sym (ap (λ r. misplaced_at total s.colour.0 r) was);
    desk = let z = same_at (λ r. at_desk (λ d. 1) r) (λ k. refl) in z.1 ∙ sym z.0;
    seat = λ i. ap (λ r. at_seat (λ k. bit (becomes.colour.0 == i + 2)) r) is ∙ ap (λ (c : Colour). bit (c.0 == i + 2)) colour ∙ sym (ap (λ r. at_seat (λ k. bit (s.colour.0 == i + 2)) r) was);
    world =
        let z = same_at (λ r. at_desk (λ d. if_held is_any d.resting) r) (λ k. refl) in
        omega (arith, no_world W L worlds (λ e none. held_none is_any (world_of e.1) none) (due (y.view_of after.talk)) i0, z.0, z.1, held_none is_any (world_of e.1) no_load);
    opens = λ i low.
        let z = same_at (λ r. at_desk (λ d. if_held (is_beyond i) d.resting) r) (λ k. refl) in
        let none = ap (λ b. bit (colour_is i && b)) moved ∙ bit_no (colour_is i) in
        let parts = bit_split (colour_is i) (due_number y after == 3) in
        let before = bit_split (colour_is i) (due_number y seat == 3) in
        omega (arith, next i 3 (omega arith) (omega arith), opened_is i, opened_was i, asks i 3, none, parts, before, no_world W L (beyond i) (λ e none. held_none (is_beyond i) (world_of e.1) none) (due (y.view_of after.talk)) i0, z.0, z.1, held_none (is_beyond i) (world_of e.1) no_load);
    steps = λ i n low more less. omega (arith, next i n (omega (arith, more)) less, at_was i n, at_is i n, asks i n);
    waits = λ i low.
        omega (arith, next_waits i, at_was i 9, at_is i 9, asks i 9, not_asked i, (same_at (λ r. at_desk (λ d. times i d.waiting.items) r) (λ k. refl)).0, (same_at (λ r. at_desk (λ d. times i d.waiting.items) r) (λ k. refl)).1);
    stray = ap (at_seat (λ k. is_stray k.stray)) is ∙ ap is_stray kept ∙ sym (ap (at_seat (λ k. is_stray k.stray)) was);
    none_unended = no_world W L (unended_count total) (λ e none. held_none (λ held. is_late e.0 && is_unended total held) (world_of e.1) none) (due (y.view_of after.talk)) i0;
    not_unended = (same_at (λ r. at_desk (λ d. if_held (is_unended total) d.resting) r) (λ k. refl)).1;
    late =
        let z = same_at (λ r. at_desk (λ d. bit d.last) r) (λ k. refl) in
        inl (omega (arith, no_world W L early (λ e none. held_none (λ held. not (is_late e.0)) (world_of e.1) none) (due (y.view_of after.talk)) i0, z.0, z.1));
    not_in_vain = (same_at (λ r. at_desk (λ d. if_held (λ held. is_some d.waiting.items) d.resting) r) (λ k. refl)).1;
  }

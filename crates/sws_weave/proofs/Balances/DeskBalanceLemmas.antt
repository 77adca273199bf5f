-- The events of colour 0 balance.
use Rattle.std.proofs.Common.{◌≡◌, ℕ, ◌+◌, ◌≤◌, Bool, false, if◌then◌else◌, Option, Some, None, List, [], ◌∷◌, ◌++◌, refl, sym, ◌∙◌, ap, arith, inl, inr}
use Rattle.std.proofs.lemmas.Bool.{ne_eqb}
use Rattle.std.proofs.lemmas.Bool.Decides.{eqb_tells}
use Rattle.std.proofs.lemmas.List.Sums.{sum_by_push}
use Rattle.std.specs.Prelude.{sum_by, not, ◌==◌, ◌&&◌, ◌||◌}
use Rattle.std.specs.List.{list_any}
use Rattle.mely_event.specs.declared.colour.Colour.{Colour}
use Rattle.mely_tally.specs.Tallies.{carried_by}
use Rattle.sws_link.specs.declared.Link.{Ghosts as LinkWords}
use Rattle.sws_link.specs.declared.world.World.{Ghosts as WorldWords}
use Rattle.sws_steps.specs.declared.talk.Talk.{Ghosts as TalkWords}
use Rattle.sws_handlers.specs.declared.load.WorldLoad.{WorldLoad}
use Rattle.sws_handlers.specs.declared.place.Desk.{Desk}
use Rattle.sws_handlers.specs.declared.place.Role.TheVariants.{Polling}
use Rattle.sws_handlers.specs.Place.{PlaceState}
use Rattle.sws_handlers.specs.Handling.{Put, poll_put, is_some, woken_by, RunsWait}
use Rattle.sws_weave.specs.RunStands.{Way, if_held, is_any, is_beyond, is_unended, at_desk, at_seat, misplaced_at, due_number, is_stray, worlds, beyond, early, unended_count, asks_for}
use Rattle.sws_weave.proofs.Balances.BalanceLemmas.{Balance}
use Rattle.sws_weave.proofs.Balances.ConnBalanceLemmas.{held_none}
use Rattle.sws_handlers.proofs.Events.WaitingListsLemmas.{times_cons}
use Rattle.sws_handlers.specs.Counting.{bit, times}
use Rattle.sws_handlers.specs.Loads.{world_of}

any_none : (i : ℕ) (waiting : List ℕ) → times i waiting ≡ 0 → list_any (λ w. w == i) waiting ≡ false
any_none i [] none = refl
any_none i (w ∷ ws) none =
    let c = times_cons i w ws in
    elim (eqb_tells w i) [
      | inl same ↦ let one = ap bit same.0 in absurd (omega (arith, none, c, one))
      | inr apart ↦ ap (λ b. b || list_any (λ k. k == i) ws) apart.0 ∙ any_none i ws (omega (arith, none, c))
    ]

pub held_some : {W : Type 0} (held : Option (WorldLoad W)) → if_held is_any held ≡ 0 → held ≡ None
held_some None none = refl
held_some (Some held) none = absurd (omega (arith, none))

-- ---- Wait

module _ {W L T G H : Type 0} (y : TalkWords T L G H) (x : WorldWords W L) (l : LinkWords L) (total : ℕ) (s becomes : PlaceState H W T) (desk after : Desk W) (e : Way W L) (i0 : ℕ) (puts0 : List (Put W L))
    (was : s.role ≡ Polling desk) (is : becomes.role ≡ Polling after) (colour : becomes.colour ≡ s.colour)
    (number : e.0.handler ≡ 1) (arg : e.0.arg ≡ i0) (no_load : world_of e.1 ≡ None) (not_there : times i0 desk.waiting.items ≡ 0) (not_early : if_held (is_unended total) desk.resting ≡ 0)
    (does : RunsWait desk i0 after puts0) where
  wait_asks : (i n : ℕ) → asks_for n i e ≡ bit ((1 == n) && (i0 == i))
  wait_asks i n = ap (λ h. bit ((h == n) && (e.0.arg == i))) number ∙ ap (λ a. bit ((1 == n) && (a == i))) arg

  wait_no : (i n : ℕ) → 3 ≤ n → asks_for n i e ≡ 0
  wait_no i n more = wait_asks i n ∙ ap (λ b. bit (b && (i0 == i))) (ne_eqb 1 n (λ same. absurd (omega (arith, same, more))))

  woken_no : (held : Option (WorldLoad W)) (i n : ℕ) → 1 ≤ n → sum_by (asks_for {W = W} {L = L} n i) (carried_by (woken_by held)) ≡ 0
  woken_no None i n more = omega arith
  woken_no (Some held) i n more = let no = ap (λ b. bit (b && (1 == i))) (ne_eqb 0 n (λ same. absurd (omega (arith, same, more)))) in omega (arith, no)

  puts_no : (i n : ℕ) → 1 ≤ n → sum_by (asks_for n i) (carried_by puts0) ≡ 0
  puts_no i n more = ap (λ ps. sum_by (asks_for n i) (carried_by ps)) does.puts_are ∙ woken_no desk.resting i n more

  woken_sum : (f : Way W L → ℕ) (test : WorldLoad W → Bool) → ((h : WorldLoad W) → f ((poll_put {W = W} {L = L} 1 h).1, (poll_put {W = W} {L = L} 1 h).2) ≡ bit (test h)) → (held : Option (WorldLoad W)) → sum_by f (carried_by (woken_by held)) ≡ if_held test held
  woken_sum f test at None = omega arith
  woken_sum f test at (Some held) = let v = at held in omega (arith, v)

  puts_sum : (f : Way W L → ℕ) (test : WorldLoad W → Bool) → ((h : WorldLoad W) → f ((poll_put {W = W} {L = L} 1 h).1, (poll_put {W = W} {L = L} 1 h).2) ≡ bit (test h)) → sum_by f (carried_by puts0) ≡ if_held test desk.resting
  puts_sum f test at = ap (λ ps. sum_by f (carried_by ps)) does.puts_are ∙ woken_sum f test at desk.resting

  held_never : (held : Option (WorldLoad W)) → if_held (λ h. false) held ≡ 0
  held_never None = refl
  held_never (Some h) = refl

  desk_was : (f : Desk W → ℕ) → at_desk f s.role ≡ f desk
  desk_was f = ap (at_desk f) was

  desk_is : (f : Desk W → ℕ) → at_desk f becomes.role ≡ f after
  desk_is f = ap (at_desk f) is

  resting_none : (test : WorldLoad W → Bool) → at_desk (λ d. if_held test d.resting) becomes.role ≡ 0
  resting_none test = desk_is (λ d. if_held test d.resting) ∙ held_none test after.resting does.resting

  waits_more : (i : ℕ) → times i after.waiting.items ≡ times i desk.waiting.items + bit (i0 == i)
  waits_more i =
      let new : after.waiting.items ≡ desk.waiting.items ++ i0 ∷ [] = does.waiting ∙ ap (λ b. if b then desk.waiting.items else desk.waiting.items ++ i0 ∷ []) (any_none i0 desk.waiting.items not_there) in
      ap (λ ws. times i ws) new ∙ sum_by_push (λ k. bit (k == i)) desk.waiting.items i0

  pub wait_balance : Balance y total s becomes e (carried_by puts0)
  wait_balance = record {
    placed = ap (λ r. misplaced_at total becomes.colour.0 r) is ∙ ap (λ (c : Colour). misplaced_at {W = W} {T = T} total c.0 (Polling after)) colour ∙ sym (ap (λ r. misplaced_at total s.colour.0 r) was);
    desk = desk_is (λ d. 1) ∙ sym (desk_was (λ d. 1));
    seat = λ i. ap (λ r. at_seat (λ k. bit (becomes.colour.0 == i + 2)) r) is ∙ sym (ap (λ r. at_seat (λ k. bit (s.colour.0 == i + 2)) r) was);
    world = omega (arith, puts_sum worlds is_any (λ h. refl), resting_none is_any, desk_was (λ d. if_held is_any d.resting), held_none is_any (world_of e.1) no_load);
    opens = λ i low.
        omega (
          arith,
          puts_no i 3 (omega arith),
          wait_no i 3 (omega arith),
          puts_sum (beyond i) (is_beyond i) (λ h. refl),
          resting_none (is_beyond i),
          desk_was (λ d. if_held (is_beyond i) d.resting),
          held_none (is_beyond i) (world_of e.1) no_load,
          ap (at_seat (λ k. bit ((s.colour.0 == i + 2) && not (due_number y k == 3)))) was,
          ap (at_seat (λ k. bit ((becomes.colour.0 == i + 2) && not (due_number y k == 3)))) is,
        );
    steps = λ i n low more less.
        omega (arith, puts_no i n (omega (arith, more)), wait_no i n (omega (arith, more)), ap (at_seat (λ k. bit ((s.colour.0 == i + 2) && (due_number y k == n)))) was, ap (at_seat (λ k. bit ((becomes.colour.0 == i + 2) && (due_number y k == n)))) is);
    waits = λ i low.
        omega (
          arith,
          puts_no i 9 (omega arith),
          puts_no i 1 (omega arith),
          wait_no i 9 (omega arith),
          wait_asks i 1,
          waits_more i,
          desk_was (λ d. times i d.waiting.items),
          desk_is (λ d. times i d.waiting.items),
          ap (at_seat (λ k. bit ((s.colour.0 == i + 2) && (due_number y k == 9)))) was,
          ap (at_seat (λ k. bit ((becomes.colour.0 == i + 2) && (due_number y k == 9)))) is,
        );
    stray = ap (at_seat (λ k. is_stray k.stray)) is ∙ sym (ap (at_seat (λ k. is_stray k.stray)) was);
    none_unended = puts_sum (unended_count total) (is_unended total) (λ h. refl) ∙ not_early;
    not_unended = resting_none (is_unended total);
    late = inl (omega (arith, puts_sum early (λ h. false) (λ h. refl), held_never desk.resting, desk_was (λ d. bit d.last), desk_is (λ d. bit d.last), ap bit does.last));
    not_in_vain = desk_is (λ d. if_held (λ held. is_some d.waiting.items) d.resting) ∙ held_none (λ held. is_some after.waiting.items) after.resting does.resting;
  }

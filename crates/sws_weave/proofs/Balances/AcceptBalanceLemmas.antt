-- An accept balances.
use Rattle.std.proofs.Common.{◌≡◌, ℕ, ◌+◌, ◌≤◌, ◌⊎◌, Bool, true, false, true≢false, Some, List, refl, sym, ◌∙◌, ap, subst, arith, inl, inr}
use Rattle.std.proofs.lemmas.Bool.{ne_eqb}
use Rattle.std.proofs.lemmas.Bool.Decides.{eqb_tells, nat_tests}
use Rattle.std.specs.Prelude.{sum_by, not, nat_lt, ◌==◌, ◌&&◌}
use Rattle.mely_event.specs.declared.colour.Colour.{Colour}
use Rattle.mely_tally.specs.Tallies.{carried_by}
use Rattle.sws_link.specs.declared.Link.{Ghosts as LinkWords}
use Rattle.sws_link.specs.declared.world.World.{Ghosts as WorldWords}
use Rattle.sws_link.specs.declared.Accepted.{Accepted}
use Rattle.sws_link.specs.declared.Accepted.TheVariants as accepted
use Rattle.sws_steps.specs.declared.talk.Talk.{Ghosts as TalkWords}
use Rattle.sws_handlers.specs.declared.load.WorldLoad.{WorldLoad}
use Rattle.sws_handlers.specs.declared.place.Role.{Role}
use Rattle.sws_handlers.specs.declared.place.Role.TheVariants.{Accepting}
use Rattle.sws_handlers.specs.Place.{PlaceState}
use Rattle.sws_handlers.specs.Handling.{Put, poll_after, accept_puts, RunsAccept, is_some}
use Rattle.sws_weave.specs.RunStands.{Way, if_held, is_any, is_beyond, is_late, is_unended, at_desk, at_seat, misplaced_at, due_number, is_stray, worlds, beyond, early, unended_count, asks_for}
use Rattle.sws_weave.proofs.Balances.BalanceLemmas.{Balance}
use Rattle.sws_handlers.specs.Counting.{bit, times}
use Rattle.sws_handlers.specs.Loads.{world_of}

one_beyond : (i n : ℕ) → bit (n == i) + bit (nat_lt i n) ≡ bit (nat_lt i (n + 1))
one_beyond i n = grind (arith, nat_tests)

at_total : (n total : ℕ) (failed : Bool) → n ≡ total → bit (not failed && nat_lt n total) ≡ 0
at_total n total true same = refl
at_total n total false same = grind (arith, nat_tests)

-- what an accept puts, of a world of which so many links had been accepted
record AcceptSums {W L : Type 0} (total accepted : ℕ) (puts : List (Put W L)) : Type 0 where
  pub one : sum_by worlds (carried_by puts) ≡ 1
  pub opens : (i : ℕ) → sum_by (asks_for 3 i) (carried_by puts) + bit (nat_lt i accepted) ≡ sum_by (beyond i) (carried_by puts)
  pub none : (i n : ℕ) → ((n ≡ 1) ⊎ (4 ≤ n)) → sum_by (asks_for n i) (carried_by puts) ≡ 0
  pub unended_none : sum_by (unended_count total) (carried_by puts) ≡ 0
  pub few : sum_by early (carried_by puts) ≤ 1

apart_number : (k n i a : ℕ) → (k ≡ n → ⊥) → bit ((k == n) && (a == i)) ≡ 0
apart_number k n i a apart = ap (λ b. bit (b && (a == i))) (ne_eqb k n apart)

isnt_zero : (n : ℕ) → ((n ≡ 1) ⊎ (4 ≤ n)) → 0 ≡ n → ⊥
isnt_zero n which is = elim which [ inl one ↦ omega (arith, one, is) | inr more ↦ omega (arith, more, is) ]

isnt_three : (n : ℕ) → ((n ≡ 1) ⊎ (4 ≤ n)) → 3 ≡ n → ⊥
isnt_three n which is = elim which [ inl one ↦ omega (arith, one, is) | inr more ↦ omega (arith, more, is) ]

late_at : {W : Type 0} (total : ℕ) (held : WorldLoad W) (b : Bool) → (held.accepted == total) ≡ b → bit (is_late (record { handler = 0; arg = poll_after b }) && is_unended total held) ≡ 0
late_at total held true is = elim (eqb_tells held.accepted total) [ inl same ↦ at_total held.accepted total held.failed same.1 | inr apart ↦ absurd (true≢false (sym is ∙ apart.0)) ]
late_at total held false is = refl

bit_few : (b : Bool) → bit b ≤ 1
bit_few true = omega arith
bit_few false = omega arith

accept_sums : {W L : Type 0} (total : ℕ) (held : WorldLoad W) (now : W) (answer : Accepted L) → AcceptSums total held.accepted (accept_puts total held now answer)
accept_sums {W} {L} total held now (accepted.Link link) = record {
  one = omega arith;
  opens = λ i. let e = one_beyond i held.accepted in omega (arith, e);
  none = λ i n which. let a = apart_number 0 n i (poll_after (held.accepted + 1 == total)) (isnt_zero n which) in let b = apart_number 3 n i held.accepted (isnt_three n which) in omega (arith, a, b);
  unended_none = let h : WorldLoad W = record { world = now; accepted = held.accepted + 1; failed = held.failed } in let e = late_at total h (held.accepted + 1 == total) refl in omega (arith, e);
  few = let b = bit_few (not (is_late (record { handler = 0; arg = poll_after (held.accepted + 1 == total) }))) in omega (arith, b);
}
accept_sums total held now accepted.NotYet = record {
  one = omega arith;
  opens = λ i. omega arith;
  none = λ i n which. let a = apart_number 0 n i 0 (isnt_zero n which) in omega (arith, a);
  unended_none = omega arith;
  few = omega arith;
}
accept_sums total held now accepted.Failed = record {
  one = omega arith;
  opens = λ i. omega arith;
  none = λ i n which. let a = apart_number 0 n i 2 (isnt_zero n which) in omega (arith, a);
  unended_none = omega arith;
  few = omega arith;
}

module _ {W L T G H : Type 0} (y : TalkWords T L G H) (x : WorldWords W L) (l : LinkWords L) (total : ℕ) (s becomes : PlaceState H W T) (e : Way W L) (held : WorldLoad W) (puts0 : List (Put W L))
    (was : s.role ≡ Accepting) (is : becomes.role ≡ Accepting) (colour : becomes.colour ≡ s.colour) (number : e.0.handler ≡ 2) (carries : world_of e.1 ≡ Some held) (does : RunsAccept x l total held puts0) where
  sums : AcceptSums total held.accepted puts0
  sums = subst (λ ps. AcceptSums total held.accepted ps) (sym does.puts_are) (accept_sums total held does.now does.answer)

  both : (f : Role W T → ℕ) → f Accepting ≡ 0 → (f s.role ≡ 0) × (f becomes.role ≡ 0)
  both f none = (ap f was ∙ none, ap f is ∙ none)

  event_has : (test : WorldLoad W → Bool) → if_held test (world_of e.1) ≡ bit (test held)
  event_has test = ap (if_held test) carries

  accept_no : (i n : ℕ) → (2 ≡ n → ⊥) → asks_for n i e ≡ 0
  accept_no i n apart = ap (λ h. bit ((h == n) && (e.0.arg == i))) number ∙ ap (λ b. bit (b && (e.0.arg == i))) (ne_eqb 2 n apart)

  accept_early : early e ≡ 1
  accept_early = event_has (λ h. not (is_late e.0)) ∙ ap (λ h. bit (not ((h == 0) && (e.0.arg == 1)))) number

  pub accept_balance : Balance y total s becomes e (carried_by puts0)
  accept_balance = record {
    placed = ap (λ r. misplaced_at total becomes.colour.0 r) is ∙ ap (λ (c : Colour). misplaced_at {W = W} {T = T} total c.0 Accepting) colour ∙ sym (ap (λ r. misplaced_at total s.colour.0 r) was);
    desk = let z = both (λ r. at_desk (λ d. 1) r) refl in z.1 ∙ sym z.0;
    seat = λ i. ap (λ r. at_seat (λ k. bit (becomes.colour.0 == i + 2)) r) is ∙ sym (ap (λ r. at_seat (λ k. bit (s.colour.0 == i + 2)) r) was);
    world = let one = sums.one in let z = both (λ r. at_desk (λ d. if_held is_any d.resting) r) refl in omega (arith, one, z.0, z.1, event_has is_any);
    opens = λ i low.
        let one = sums.opens i in
        let z = both (λ r. at_desk (λ d. if_held (is_beyond i) d.resting) r) refl in
        omega (
          arith,
          one,
          z.0,
          z.1,
          event_has (is_beyond i),
          accept_no i 3 (λ same. omega (arith, same)),
          ap (at_seat (λ k. bit ((s.colour.0 == i + 2) && not (due_number y k == 3)))) was,
          ap (at_seat (λ k. bit ((becomes.colour.0 == i + 2) && not (due_number y k == 3)))) is,
        );
    steps = λ i n low more less.
        let none = sums.none i n (inr more) in
        omega (
          arith,
          none,
          accept_no i n (λ same. omega (arith, same, more)),
          ap (at_seat (λ k. bit ((s.colour.0 == i + 2) && (due_number y k == n)))) was,
          ap (at_seat (λ k. bit ((becomes.colour.0 == i + 2) && (due_number y k == n)))) is,
        );
    waits = λ i low.
        let none9 = sums.none i 9 (inr (omega arith)) in
        let none1 = sums.none i 1 (inl refl) in
        let z = both (λ r. at_desk (λ d. times i d.waiting.items) r) refl in
        omega (
          arith,
          none9,
          none1,
          z.0,
          z.1,
          accept_no i 9 (λ same. omega (arith, same)),
          accept_no i 1 (λ same. omega (arith, same)),
          ap (at_seat (λ k. bit ((s.colour.0 == i + 2) && (due_number y k == 9)))) was,
          ap (at_seat (λ k. bit ((becomes.colour.0 == i + 2) && (due_number y k == 9)))) is,
        );
    stray = ap (at_seat (λ k. is_stray k.stray)) is ∙ sym (ap (at_seat (λ k. is_stray k.stray)) was);
    none_unended = sums.unended_none;
    not_unended = (both (λ r. at_desk (λ d. if_held (is_unended total) d.resting) r) refl).1;
    late = let few = sums.few in let z = both (λ r. at_desk (λ d. bit d.last) r) refl in inl (omega (arith, few, z.0, z.1, accept_early));
    not_in_vain = (both (λ r. at_desk (λ d. if_held (λ h. is_some d.waiting.items) d.resting) r) refl).1;
  }

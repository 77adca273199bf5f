-- An event of the log balances: it owes nothing, and puts nothing.
use Rattle.std.proofs.Common.{◌≡◌, ℕ, ◌+◌, ◌≤◌, Bool, None, [], refl, sym, ◌∙◌, ap, arith, inl}
use Rattle.std.proofs.lemmas.Bool.{ne_eqb}
use Rattle.std.specs.Prelude.{not, ◌==◌, ◌&&◌}
use Rattle.mely_event.specs.declared.colour.Colour.{Colour}
use Rattle.sws_steps.specs.declared.talk.Talk.{Ghosts as TalkWords}
use Rattle.sws_handlers.specs.declared.load.WorldLoad.{WorldLoad}
use Rattle.sws_handlers.specs.declared.place.Role.{Role}
use Rattle.sws_handlers.specs.declared.place.Role.TheVariants.{Logging}
use Rattle.sws_handlers.specs.Place.{PlaceState}
use Rattle.sws_handlers.specs.Handling.{is_some}
use Rattle.sws_weave.specs.RunStands.{Way, if_held, is_any, is_beyond, is_unended, at_desk, at_seat, misplaced_at, due_number, is_stray, asks_for}
use Rattle.sws_handlers.specs.Counting.{bit, times}
use Rattle.sws_handlers.specs.Loads.{world_of}
use Rattle.sws_weave.proofs.Balances.BalanceLemmas.{Balance}

module _ {W L T G H : Type 0} (y : TalkWords T L G H) (total : ℕ) (s becomes : PlaceState H W T) (e : Way W L) (was : s.role ≡ Logging) (is : becomes.role ≡ Logging) (colour : becomes.colour ≡ s.colour) (number : e.0.handler ≡ 10) (no_world : world_of e.1 ≡ None) where
  both : (f : Role W T → ℕ) → f Logging ≡ 0 → (f s.role ≡ 0) × (f becomes.role ≡ 0)
  both f none = (ap f was ∙ none, ap f is ∙ none)

  none_held : (test : WorldLoad W → Bool) → if_held test (world_of e.1) ≡ 0
  none_held test = ap (λ o. if_held test o) no_world

  not_asked : (i n : ℕ) → n ≤ 9 → asks_for n i e ≡ 0
  not_asked i n few = ap (λ h. bit ((h == n) && (e.0.arg == i))) number ∙ ap (λ b. bit (b && (e.0.arg == i))) (ne_eqb 10 n (λ same. absurd (omega (arith, same, few))))

  pub log_balance : Balance y total s becomes e []
  log_balance = record {
    placed = ap (λ r. misplaced_at total becomes.colour.0 r) is ∙ ap (λ (c : Colour). misplaced_at {W = W} {T = T} total c.0 Logging) colour ∙ sym (ap (λ r. misplaced_at total s.colour.0 r) was);
    desk = let z = both (λ r. at_desk (λ d. 1) r) refl in z.1 ∙ sym z.0;
    seat = λ i. ap (λ r. at_seat (λ k. bit (becomes.colour.0 == i + 2)) r) is ∙ sym (ap (λ r. at_seat (λ k. bit (s.colour.0 == i + 2)) r) was);
    world = let z = both (λ r. at_desk (λ d. if_held is_any d.resting) r) refl in omega (arith, z.0, z.1, none_held is_any);
    opens = λ i low.
        let z = both (λ r. at_desk (λ d. if_held (is_beyond i) d.resting) r) refl in
        omega (
          arith,
          z.0,
          z.1,
          none_held (is_beyond i),
          not_asked i 3 (omega arith),
          ap (at_seat (λ k. bit ((s.colour.0 == i + 2) && not (due_number y k == 3)))) was,
          ap (at_seat (λ k. bit ((becomes.colour.0 == i + 2) && not (due_number y k == 3)))) is,
        );
    steps = λ i n low more less.
        omega (
          arith,
          not_asked i n (omega (arith, less)),
          ap (at_seat (λ k. bit ((s.colour.0 == i + 2) && (due_number y k == n)))) was,
          ap (at_seat (λ k. bit ((becomes.colour.0 == i + 2) && (due_number y k == n)))) is,
        );
    waits = λ i low.
        let z = both (λ r. at_desk (λ d. times i d.waiting.items) r) refl in
        omega (
          arith,
          z.0,
          z.1,
          not_asked i 9 (omega arith),
          not_asked i 1 (omega arith),
          ap (at_seat (λ k. bit ((s.colour.0 == i + 2) && (due_number y k == 9)))) was,
          ap (at_seat (λ k. bit ((becomes.colour.0 == i + 2) && (due_number y k == 9)))) is,
        );
    stray = ap (at_seat (λ k. is_stray k.stray)) is ∙ sym (ap (at_seat (λ k. is_stray k.stray)) was);
    none_unended = omega arith;
    not_unended = (both (λ r. at_desk (λ d. if_held (is_unended total) d.resting) r) refl).1;
    late = let z = both (λ r. at_desk (λ d. bit d.last) r) refl in inl (omega (arith, z.0, z.1));
    not_in_vain = (both (λ r. at_desk (λ d. if_held (λ h. is_some d.waiting.items) d.resting) r) refl).1;
  }

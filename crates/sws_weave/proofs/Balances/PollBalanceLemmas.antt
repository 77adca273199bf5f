-- A poll balances, and so does an accept.
use Rattle.std.proofs.Common.{◌≡◌, ℕ, ◌+◌, ◌≤◌, ◌⊎◌, Bool, true, false, true≢false, Some, None, List, [], ◌∷◌, map, refl, sym, ◌∙◌, ap, arith, inl, inr, eq-eqb}
use Rattle.std.proofs.lemmas.Bool.{ne_eqb}
use Rattle.std.proofs.lemmas.Bool.Decides.{eqb_tells}
use Rattle.std.proofs.lemmas.List.{map-append}
use Rattle.std.proofs.lemmas.List.Sums.{sum_by-append, sum_by-cons}
use Rattle.std.specs.Prelude.{sum_by, not, nat_lt, ◌==◌, ◌&&◌, ◌||◌}
use Rattle.mely_event.specs.declared.colour.Colour.{Colour}
use Rattle.mely_tally.specs.Tallies.{carried_by}
use Rattle.sws_link.specs.declared.Link.{Ghosts as LinkWords}
use Rattle.sws_link.specs.declared.world.World.{Ghosts as WorldWords}
use Rattle.sws_link.specs.declared.Polled.{Polled}
use Rattle.sws_link.specs.declared.Polled.TheVariants as polled
use Rattle.sws_steps.specs.declared.talk.Talk.{Ghosts as TalkWords}
use Rattle.sws_steps.specs.declared.Handler.TheVariants as handler
use Rattle.sws_handlers.specs.declared.load.WorldLoad.{WorldLoad}
use Rattle.sws_handlers.specs.declared.place.Desk.{Desk}
use Rattle.sws_handlers.specs.declared.place.Role.TheVariants.{Polling}
use Rattle.sws_handlers.specs.Place.{PlaceState}
use Rattle.sws_handlers.specs.Handling.{Put, step_put, Asked, Answered, is_some, is_to_ask, resumed_one, onward, rest_of, Asks, RunsPoll}
use Rattle.sws_weave.specs.RunStands.{Way, if_held, is_any, is_beyond, is_unended, at_desk, at_seat, misplaced_at, due_number, is_stray, worlds, beyond, early, unended_count, asks_for}
use Rattle.sws_weave.proofs.Balances.BalanceLemmas.{Balance}
use Rattle.sws_weave.proofs.Balances.DeskBalanceLemmas.{held_some}
use Rattle.sws_handlers.proofs.Events.WaitingListsLemmas.{times_cons, count_answered, count_resuming}
use Rattle.sws_handlers.specs.Counting.{bit, times}
use Rattle.sws_handlers.specs.Loads.{world_of}

-- ---- who waits and who is resumed

-- the world after a poll: where no more links come, it has failed, or all were accepted
not_ended_by : (total accepted : ℕ) (failed : Bool) → not failed && nat_lt accepted total ≡ false → failed ≡ false → nat_lt accepted total ≡ false
not_ended_by total accepted true isnt is = absurd (true≢false is)
not_ended_by total accepted false isnt is = isnt

pub or_false : (a b : Bool) → (a || b) ≡ false → (a ≡ false) × (b ≡ false)
or_false true b is = absurd (true≢false is)
or_false false b is = (refl, is)

and_not : (a b : Bool) → not a && b ≡ true → a ≡ false
and_not true b is = absurd (true≢false (sym is))
and_not false b is = refl

-- ---- the sums of what is put

module _ (W L : Type 0) where
  abbrev resumes : List ℕ → List (Way W L)
  resumes rs = carried_by (map (λ i. step_put {W = W} {L = L} i handler.Resume) rs)

  resumes_none : (f : Way W L → ℕ) → ((i : ℕ) → f (record { handler = 9; arg = i }, None) ≡ 0) → (rs : List ℕ) → sum_by f (resumes rs) ≡ 0
  resumes_none f none [] = omega arith
  resumes_none f none (r ∷ rs) = omega (arith, sum_by-cons f (record { handler = 9; arg = r }, None) (resumes rs), none r, resumes_none f none rs)

  resumes_times : (i : ℕ) (rs : List ℕ) → sum_by (asks_for 9 i) (resumes rs) ≡ times i rs
  resumes_times i [] = refl
  resumes_times i (r ∷ rs) = omega (arith, sum_by-cons (asks_for {W = W} {L = L} 9 i) (record { handler = 9; arg = r }, None) (resumes rs), times_cons i r rs, resumes_times i rs)

  -- how the world goes on, from a desk where none rested
  pub record Goes (total : ℕ) (last : Bool) (waiting : List ℕ) (held : WorldLoad W) : Type 0 where
    pub one : sum_by worlds (carried_by (onward {W = W} {L = L} last waiting held)) + if_held is_any (rest_of last waiting held None) ≡ 1
    pub beyond_is : (i : ℕ) → sum_by (beyond i) (carried_by (onward {W = W} {L = L} last waiting held)) + if_held (is_beyond i) (rest_of last waiting held None) ≡ bit (is_beyond i held)
    pub no_asks : (i n : ℕ) → ((n ≡ 1) ⊎ (3 ≤ n)) → sum_by (asks_for n i) (carried_by (onward {W = W} {L = L} last waiting held)) ≡ 0
    pub none_early : (last ≡ true → is_unended total held ≡ false) → (sum_by (unended_count total) (carried_by (onward {W = W} {L = L} last waiting held)) ≡ 0) × (if_held (is_unended total) (rest_of last waiting held None) ≡ 0)
    pub few : sum_by early (carried_by (onward {W = W} {L = L} last waiting held)) + bit last ≤ 1
    pub not_in_vain : if_held (λ h. is_some waiting) (rest_of last waiting held None) ≡ 0

  not_number : (k n i a : ℕ) → (k ≡ n → ⊥) → bit ((k == n) && (a == i)) ≡ 0
  not_number k n i a isnt = ap (λ b. bit (b && (a == i))) (ne_eqb k n isnt)

  not_two : (n : ℕ) → ((n ≡ 1) ⊎ (3 ≤ n)) → 2 ≡ n → ⊥
  not_two n which is = elim which [ inl one ↦ omega (arith, one, is) | inr more ↦ omega (arith, more, is) ]

  not_zero : (n : ℕ) → ((n ≡ 1) ⊎ (3 ≤ n)) → 0 ≡ n → ⊥
  not_zero n which is = elim which [ inl one ↦ omega (arith, one, is) | inr more ↦ omega (arith, more, is) ]

  pub goes : (total : ℕ) (last : Bool) (waiting : List ℕ) (held : WorldLoad W) → Goes total last waiting held
  goes total false waiting held = record {
    one = omega arith;
    beyond_is = λ i. omega arith;
    no_asks = λ i n which. let isnt = not_number 2 n i 0 (not_two n which) in omega (arith, isnt);
    none_early = λ is. (omega arith, refl);
    few = omega arith;
    not_in_vain = refl;
  }
  goes total true [] held = record {
    one = omega arith;
    beyond_is = λ i. omega arith;
    no_asks = λ i n which. refl;
    none_early = λ is. (refl, ap bit (is refl));
    few = omega arith;
    not_in_vain = refl;
  }
  goes total true (w ∷ ws) held = record {
    one = omega arith;
    beyond_is = λ i. omega arith;
    no_asks = λ i n which. let isnt = not_number 0 n i 1 (not_zero n which) in omega (arith, isnt);
    none_early = λ is. (let e = ap bit (is refl) in omega (arith, e), refl);
    few = omega arith;
    not_in_vain = refl;
  }

-- ---- Poll

module _ {W L T G H : Type 0} (y : TalkWords T L G H) (x : WorldWords W L) (l : LinkWords L) (total : ℕ) (s becomes : PlaceState H W T) (desk after : Desk W) (e : Way W L) (held : WorldLoad W) (puts0 : List (Put W L))
    (was : s.role ≡ Polling desk) (is : becomes.role ≡ Polling after) (colour : becomes.colour ≡ s.colour)
    (number : e.0.handler ≡ 0) (carries : world_of e.1 ≡ Some held) (none_rests : if_held is_any desk.resting ≡ 0)
    (known : e.0.arg ≤ 2) (arg0 : e.0.arg ≡ 0 → desk.last ≡ false) (arg1 : e.0.arg ≡ 1 → is_unended total held ≡ false)
    (does : RunsPoll x desk e.0.arg held after puts0) where
  abbrev asked : Asked
  asked = does.asked

  abbrev done : Asked
  done = resumed_one asked

  abbrev goes_with : WorldLoad W
  goes_with = record { world = does.now; accepted = held.accepted; failed = asked.failed }

  count_asked : (b : Bool) (last failed : Bool) (i : ℕ) → Asks x b held.world desk.waiting.items last failed does.now asked → times i asked.waiting + times i asked.resumed ≡ times i desk.waiting.items
  count_asked true last failed i asks = count_answered i desk.waiting.items last asks.0 asked asks.2
  count_asked false last failed i asks = omega (arith, ap (λ (a : Asked). times i a.waiting) asks.1, ap (λ (a : Asked). times i a.resumed) asks.1)

  count_done : (i : ℕ) → times i done.waiting + times i done.resumed ≡ times i desk.waiting.items
  count_done i = count_resuming i asked.failed asked.waiting asked refl ∙ count_asked _ _ _ i does.asks

  -- where no more links come
  ended_answered : (last : Bool) (answer : Polled) → (last ≡ true → nat_lt held.accepted total ≡ false) → Answered desk.waiting.items last answer asked → asked.last ≡ true → is_unended total goes_with ≡ false
  ended_answered last (polled.Ready conn) all told ended_is = ap (λ b. not b && nat_lt held.accepted total) told.2 ∙ all (sym told.1 ∙ ended_is)
  ended_answered last polled.Quiet all told ended_is = ap (λ (a : Asked). not a.failed && nat_lt held.accepted total) told ∙ all (sym (ap (λ (a : Asked). a.last) told) ∙ ended_is)
  ended_answered last polled.Failed all told ended_is = ap (λ (a : Asked). not a.failed && nat_lt held.accepted total) told

  abbrev last_now : Bool
  last_now = desk.last || not (e.0.arg == 0)

  abbrev failed_now : Bool
  failed_now = held.failed || (e.0.arg == 2)

  -- the argument where no more links come
  arg_last : last_now ≡ true → failed_now ≡ false → is_unended total held ≡ false
  arg_last ended_is sound =
      let not_two : e.0.arg ≡ 2 → ⊥ = λ two. true≢false (sym (eq-eqb e.0.arg 2 two) ∙ (or_false held.failed (e.0.arg == 2) sound).1) in
      elim (eqb_tells e.0.arg 0) [
        | inl first ↦ absurd (true≢false (sym ended_is ∙ ap (λ b. b || not (e.0.arg == 0)) (arg0 first.1) ∙ ap not first.0))
        | inr later ↦ arg1 (let isnt = later.1 in omega (arith, known, isnt, not_two))
      ]

  ended_not : (failed : Bool) → failed_now ≡ failed → last_now ≡ true → not failed && nat_lt held.accepted total ≡ false
  ended_not true is ended_is = refl
  ended_not false is ended_is = not_ended_by total held.accepted held.failed (arg_last ended_is is) (or_false held.failed (e.0.arg == 2) is).0

  ended_asked : (b : Bool) → is_to_ask desk.waiting.items last_now failed_now ≡ b → Asks x b held.world desk.waiting.items last_now failed_now does.now asked → asked.last ≡ true → is_unended total goes_with ≡ false
  ended_asked true asking asks ended_is =
      let sound : failed_now ≡ false = and_not failed_now (not last_now || is_some desk.waiting.items) asking in
      ended_answered last_now asks.0 (λ late. not_ended_by total held.accepted held.failed (arg_last late sound) (or_false held.failed (e.0.arg == 2) sound).0) asks.2 ended_is
  ended_asked false asking asks ended_is =
      let failed_is : asked.failed ≡ failed_now = ap (λ (a : Asked). a.failed) asks.1 in
      let last_is : asked.last ≡ last_now = ap (λ (a : Asked). a.last) asks.1 in
      ap (λ b. not b && nat_lt held.accepted total) failed_is ∙ ended_not failed_now refl (sym last_is ∙ ended_is)

  ended : asked.last ≡ true → is_unended total goes_with ≡ false
  ended ended_is = ended_asked (is_to_ask desk.waiting.items last_now failed_now) refl does.asks ended_is

  g : Goes W L total asked.last done.waiting goes_with
  g = goes W L total asked.last done.waiting goes_with

  puts_split : (f : Way W L → ℕ) → sum_by f (carried_by puts0) ≡ sum_by f (resumes W L done.resumed) + sum_by f (carried_by (onward {W = W} {L = L} asked.last done.waiting goes_with))
  puts_split f =
      ap (λ ps. sum_by f (carried_by ps)) does.puts_are
      ∙ ap (sum_by f) (map-append (λ (q : Put W L). (q.1, q.2)) (map (λ i. step_put {W = W} {L = L} i handler.Resume) done.resumed) (onward asked.last done.waiting goes_with))
      ∙ sum_by-append f (resumes W L done.resumed) (carried_by (onward {W = W} {L = L} asked.last done.waiting goes_with))

  rest_is : after.resting ≡ rest_of asked.last done.waiting goes_with None
  rest_is = does.resting ∙ ap (λ r. rest_of asked.last done.waiting goes_with r) (held_some desk.resting none_rests)

  desk_was : (f : Desk W → ℕ) → at_desk f s.role ≡ f desk
  desk_was f = ap (at_desk f) was

  desk_is : (f : Desk W → ℕ) → at_desk f becomes.role ≡ f after
  desk_is f = ap (at_desk f) is

  rests_are : (test : WorldLoad W → Bool) → at_desk (λ d. if_held test d.resting) becomes.role ≡ if_held test (rest_of asked.last done.waiting goes_with None)
  rests_are test = desk_is (λ d. if_held test d.resting) ∙ ap (if_held test) rest_is

  rested : (test : WorldLoad W → Bool) → at_desk (λ d. if_held test d.resting) s.role ≡ 0
  rested test = desk_was (λ d. if_held test d.resting) ∙ ap (if_held test) (held_some desk.resting none_rests)

  event_has : (test : WorldLoad W → Bool) → if_held test (world_of e.1) ≡ bit (test held)
  event_has test = ap (if_held test) carries

  poll_no : (i n : ℕ) → 1 ≤ n → asks_for n i e ≡ 0
  poll_no i n more = ap (λ h. bit ((h == n) && (e.0.arg == i))) number ∙ ap (λ b. bit (b && (e.0.arg == i))) (ne_eqb 0 n (λ same. absurd (omega (arith, same, more))))

  resumed_no : (i n : ℕ) → (9 ≡ n → ⊥) → sum_by (asks_for n i) (resumes W L done.resumed) ≡ 0
  resumed_no i n isnt = resumes_none W L (asks_for n i) (λ j. ap (λ b. bit (b && (j == i))) (ne_eqb 9 n isnt)) done.resumed

  pub poll_balance : Balance y total s becomes e (carried_by puts0)
  poll_balance = record {
    placed = ap (λ r. misplaced_at total becomes.colour.0 r) is ∙ ap (λ (c : Colour). misplaced_at {W = W} {T = T} total c.0 (Polling after)) colour ∙ sym (ap (λ r. misplaced_at total s.colour.0 r) was);
    desk = desk_is (λ d. 1) ∙ sym (desk_was (λ d. 1));
    seat = λ i. ap (λ r. at_seat (λ k. bit (becomes.colour.0 == i + 2)) r) is ∙ sym (ap (λ r. at_seat (λ k. bit (s.colour.0 == i + 2)) r) was);
    world = let one = g.one in omega (arith, puts_split worlds, resumes_none W L worlds (λ i. refl) done.resumed, one, rests_are is_any, rested is_any, event_has is_any);
    opens = λ i low.
        let more = g.beyond_is i in
        let none = g.no_asks i 3 (inr (omega arith)) in
        omega (
          arith,
          puts_split (asks_for 3 i),
          resumed_no i 3 (λ same. omega (arith, same)),
          none,
          poll_no i 3 (omega arith),
          puts_split (beyond i),
          resumes_none W L (beyond i) (λ j. refl) done.resumed,
          more,
          rests_are (is_beyond i),
          rested (is_beyond i),
          event_has (is_beyond i),
          ap (at_seat (λ k. bit ((s.colour.0 == i + 2) && not (due_number y k == 3)))) was,
          ap (at_seat (λ k. bit ((becomes.colour.0 == i + 2) && not (due_number y k == 3)))) is,
        );
    steps = λ i n low more less.
        let none = g.no_asks i n (inr (omega (arith, more))) in
        omega (
          arith,
          puts_split (asks_for n i),
          resumed_no i n (λ same. omega (arith, same, less)),
          none,
          poll_no i n (omega (arith, more)),
          ap (at_seat (λ k. bit ((s.colour.0 == i + 2) && (due_number y k == n)))) was,
          ap (at_seat (λ k. bit ((becomes.colour.0 == i + 2) && (due_number y k == n)))) is,
        );
    waits = λ i low.
        let none9 = g.no_asks i 9 (inr (omega arith)) in
        let none1 = g.no_asks i 1 (inl refl) in
        omega (
          arith,
          puts_split (asks_for 9 i),
          resumes_times W L i done.resumed,
          none9,
          puts_split (asks_for 1 i),
          resumed_no i 1 (λ same. omega (arith, same)),
          none1,
          poll_no i 9 (omega arith),
          poll_no i 1 (omega arith),
          count_done i,
          ap (times i) does.waiting,
          desk_was (λ d. times i d.waiting.items),
          desk_is (λ d. times i d.waiting.items),
          ap (at_seat (λ k. bit ((s.colour.0 == i + 2) && (due_number y k == 9)))) was,
          ap (at_seat (λ k. bit ((becomes.colour.0 == i + 2) && (due_number y k == 9)))) is,
        );
    stray = ap (at_seat (λ k. is_stray k.stray)) is ∙ sym (ap (at_seat (λ k. is_stray k.stray)) was);
    none_unended = let none = (g.none_early ended).0 in omega (arith, puts_split (unended_count total), resumes_none W L (unended_count total) (λ j. refl) done.resumed, none);
    not_unended = rests_are (is_unended total) ∙ (g.none_early ended).1;
    late = inr (event_has is_any, desk_was (λ d. 1), let few = g.few in omega (arith, puts_split early, resumes_none W L early (λ j. refl) done.resumed, few, desk_is (λ d. bit d.last), ap bit does.last));
    not_in_vain = desk_is (λ d. if_held (λ h. is_some d.waiting.items) d.resting) ∙ ap (λ ws. if_held (λ h. is_some ws) after.resting) does.waiting ∙ ap (if_held (λ h. is_some done.waiting)) rest_is ∙ g.not_in_vain;
  }

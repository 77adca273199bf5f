-- A run stands of the initial states with the first event under way.
use Rattle.std.proofs.Common.{◌≡◌, ℕ, ◌+◌, ◌≤◌, ◌<◌, Bool, true, false, true≢false, if◌then◌else◌, Option, None, Some, List, [], ◌∷◌, length, refl, sym, ◌∙◌, ap, arith, inl, inr, eq-eqb}
use Rattle.std.proofs.lemmas.Bool.{ne_eqb}
use Rattle.std.proofs.lemmas.Bool.Decides.{eqb_tells, nat_tests}
use Rattle.std.specs.Prelude.{sum_by, slice_get, not, nat_lt, ◌==◌, ◌&&◌, ◌||◌}
use Rattle.mely_weave.proofs.Wholes.GatherLemmas.{get_there}
use Rattle.mely_tally.proofs.SumsLemmas.{sum_nowhere, sum_at_one}
use Rattle.sws_steps.specs.declared.talk.Talk.{Ghosts as TalkWords}
use Rattle.sws_conn.specs.Talks.{unopened_view, TalkView, due}
use Rattle.sws_handlers.specs.declared.load.WorldLoad.{WorldLoad}
use Rattle.sws_handlers.specs.declared.load.Load.TheVariants as load
use Rattle.sws_handlers.specs.declared.place.Desk.{Desk}
use Rattle.sws_handlers.specs.declared.place.Seat.{Seat}
use Rattle.sws_handlers.specs.declared.place.Role.{Role}
use Rattle.sws_handlers.specs.declared.place.Role.TheVariants.{Polling, Accepting, Talking, Logging}
use Rattle.sws_handlers.specs.Place.{PlaceState}
use Rattle.sws_handlers.specs.Handling.{is_some}
use Rattle.sws_handlers.specs.Initial.{IsInitialRole, IsInitialPlace, AreInitialPlacesOver, first_poll, initial_load}
use Rattle.sws_weave.specs.RunStands.{Way, if_held, is_any, is_beyond, is_unended, is_late, at_desk, at_seat, misplaced_at, first_number, due_number, is_stray, asks_for, misplaced_count, desks, seats, strays, is_at, is_opened, RunStands}
use Rattle.sws_handlers.specs.Counting.{bit, times, colours_over}

held_not : {W : Type 0} (test : WorldLoad W → Bool) (held : Option (WorldLoad W)) → held ≡ None → if_held test held ≡ 0
held_not test held none = ap (λ o. if_held test o) none

bit_right : (a b : Bool) → b ≡ false → bit (a && b) ≡ 0
bit_right true b is = ap bit is
bit_right false b is = refl

zero_beyond : (i : ℕ) → bit (nat_lt i 0) ≡ 0
zero_beyond i = grind (arith, nat_tests)

pub not_under : (a b : ℕ) → b ≤ a → nat_lt a b ≡ false
not_under a b high = grind (arith, nat_tests)

pub is_under : (a b : ℕ) → a < b → nat_lt a b ≡ true
is_under a b low = grind (arith, nat_tests)

misplaced_none : (c n : ℕ) → 2 ≤ c → c < n → bit (nat_lt c 2 || not (nat_lt c n)) ≡ 0
misplaced_none c n more less =
    let a : nat_lt c 2 ≡ false = not_under c 2 more in
    let b : nat_lt c n ≡ true = is_under c n less in
    ap (λ t. bit (t || not (nat_lt c n))) a ∙ ap (λ t. bit (not t)) b

module _ {W L T G H : Type 0} (y : TalkWords T L G H) (first : W) where
  -- a state for colours 0 and 1, and one for each connection, and with the log one more
  pub record AreInitialPlaces (total : ℕ) (log : Bool)
      (states : List (PlaceState H W T)) : Type 0 where
    pub many : length states ≡ colours_over total log
    pub each : (i : ℕ) (s : PlaceState H W T) → slice_get states i ≡ Some s
        → IsInitialPlace y first total i s

  -- what each number is of an initial state
  pub initial_misplaced : (total c k : ℕ) (role : Role W T) → c ≡ k → IsInitialRole y first total k role → misplaced_at total c role ≡ 0
  initial_misplaced total c k (Polling desk) is initial = ap (λ b. bit (not b)) (eq-eqb c 0 (is ∙ initial.0))
  initial_misplaced total c k Accepting is initial = ap (λ b. bit (not b)) (eq-eqb c 1 (is ∙ initial))
  initial_misplaced total c k (Talking seat) is initial = misplaced_none c (total + 2) (let more = initial.0.0 in omega (arith, is, more)) (let less = initial.0.1 in omega (arith, is, less))
  initial_misplaced total c k Logging is initial = ap (λ b. bit (not b)) (eq-eqb c (total + 2) (is ∙ initial))

  initial_desk : (total k : ℕ) (role : Role W T) (f : Desk W → ℕ) → IsInitialRole y first total k role → ((desk : Desk W) → desk.waiting.items ≡ [] → desk.last ≡ false → desk.resting ≡ None → f desk ≡ 0) → at_desk f role ≡ 0
  initial_desk total k (Polling desk) f initial none = none desk initial.1 initial.2 initial.3
  initial_desk total k Accepting f initial none = refl
  initial_desk total k (Talking seat) f initial none = refl
  initial_desk total k Logging f initial none = refl

  initial_seat : (total k : ℕ) (role : Role W T) (f : Seat T → ℕ) → IsInitialRole y first total k role → ((seat : Seat T) → y.view_of seat.talk ≡ unopened_view → seat.stray ≡ None → f seat ≡ 0) → at_seat f role ≡ 0
  initial_seat total k (Polling desk) f initial none = refl
  initial_seat total k Accepting f initial none = refl
  initial_seat total k (Talking seat) f initial none = none seat initial.1 initial.2
  initial_seat total k Logging f initial none = refl

  initial_desks : (total k : ℕ) (role : Role W T) → IsInitialRole y first total k role → (k ≡ 0 → at_desk {W = W} {T = T} (λ d. 1) role ≡ 1) × ((k ≡ 0 → ⊥) → at_desk {W = W} {T = T} (λ d. 1) role ≡ 0)
  initial_desks total k (Polling desk) initial = (λ is. refl, λ apart. absurd (apart initial.0))
  initial_desks total k Accepting initial = (λ is. absurd (omega (arith, is, initial)), λ apart. refl)
  initial_desks total k (Talking seat) initial = (λ is. (let more = initial.0.0 in absurd (omega (arith, is, more))), λ apart. refl)
  initial_desks total k Logging initial = (λ is. absurd (omega (arith, is, initial)), λ apart. refl)

  initial_seats : (total i k c : ℕ) (role : Role W T) → c ≡ k → i < total → IsInitialRole y first total k role → (k ≡ i + 2 → at_seat {W = W} {T = T} (λ s. bit (c == i + 2)) role ≡ 1) × ((k ≡ i + 2 → ⊥) → at_seat {W = W} {T = T} (λ s. bit (c == i + 2)) role ≡ 0)
  initial_seats total i k c (Polling desk) same low_i initial = (λ is. (let low = initial.0 in absurd (omega (arith, is, low))), λ apart. refl)
  initial_seats total i k c Accepting same low_i initial = (λ is. absurd (omega (arith, is, initial)), λ apart. refl)
  initial_seats total i k c (Talking seat) same low_i initial = (λ is. ap bit (eq-eqb c (i + 2) (same ∙ is)), λ apart. ap bit (ne_eqb c (i + 2) (λ e. apart (sym same ∙ e))))
  initial_seats total i k c Logging same low_i initial = (λ is. absurd (omega (arith, is, initial, low_i)), λ apart. refl)

  due_three : (seat : Seat T) → y.view_of seat.talk ≡ unopened_view → due_number y seat ≡ 3
  due_three seat initial = ap (λ (v : TalkView). first_number (due v)) initial

  module _ (total : ℕ) (log : Bool) (states : List (PlaceState H W T)) (initial : AreInitialPlaces total log states) where
    none : (f : PlaceState H W T → ℕ) → ((k : ℕ) (s : PlaceState H W T) → IsInitialPlace y first total k s → f s ≡ 0) → sum_by f states ≡ 0
    none f each = sum_nowhere f states (λ k s at. each k s (initial.each k s at))

    one : (f : PlaceState H W T → ℕ) (k : ℕ) → k < total + 2 → ((j : ℕ) (s : PlaceState H W T) → IsInitialPlace y first total j s → (j ≡ k → f s ≡ 1) × ((j ≡ k → ⊥) → f s ≡ 0)) → sum_by f states ≡ 1
    one f k low each =
        let many = initial.many in
        let s = get_there states k (omega (arith, low, many)) in
        sum_at_one f states k s.0 s.1 (λ j p apart at. (each j p (initial.each j p at)).1 apart) ∙ (each k s.0 (initial.each k s.0 s.1)).0 refl

    none_at_desk : (f : Desk W → ℕ) → ((desk : Desk W) → desk.waiting.items ≡ [] → desk.last ≡ false → desk.resting ≡ None → f desk ≡ 0) → sum_by (λ (s : PlaceState H W T). at_desk f s.role) states ≡ 0
    none_at_desk f each = none (λ s. at_desk f s.role) (λ k s is_initial. initial_desk total k s.role f is_initial.role each)

    none_at : (i n : ℕ) → (n ≡ 3 → ⊥) → sum_by (is_at y i n) states ≡ 0
    none_at i n apart = none (is_at y i n) (λ k s is_initial. initial_seat total k s.role (λ seat. bit ((s.colour.0 == i + 2) && (due_number y seat == n))) is_initial.role (λ seat unopened stray. bit_right (s.colour.0 == i + 2) (due_number y seat == n) (ne_eqb (due_number y seat) n (λ same. apart (sym same ∙ due_three seat unopened)))))

    none_opened : (i : ℕ) → sum_by (is_opened y i) states ≡ 0
    none_opened i = none (is_opened y i) (λ k s is_initial. initial_seat total k s.role (λ seat. bit ((s.colour.0 == i + 2) && not (due_number y seat == 3))) is_initial.role (λ seat unopened stray. bit_right (s.colour.0 == i + 2) (not (due_number y seat == 3)) (ap not (eq-eqb (due_number y seat) 3 (due_three seat unopened)))))

    -- with the first event alone under way
    module _ (world : W) where
      abbrev e0 : Way W L
      e0 = (first_poll total, Some (load.World (initial_load world)))

      no_ask : (n i : ℕ) → (n ≡ 0 → ⊥) → asks_for n i e0 ≡ 0
      no_ask n i apart = ap (λ b. bit (b && ((first_poll total).arg == i))) (ne_eqb 0 n (λ same. apart (sym same)))

      late_when : (b : Bool) → (total == 0) ≡ b → bit (is_late (record { handler = 0; arg = if b then 1 else 0 }) && is_unended total (initial_load world)) ≡ 0
      late_when true zero_is = elim (eqb_tells total 0) [ inl same ↦ ap (λ n. bit (nat_lt 0 n)) same.1 | inr apart ↦ absurd (true≢false (sym zero_is ∙ apart.0)) ]
      late_when false zero_is = refl

      few_when : (b : Bool) → bit (not (is_late (record { handler = 0; arg = if b then 1 else 0 }))) ≤ 1
      few_when true = omega arith
      few_when false = omega arith

      pub starts : RunStands {W = W} y total states (e0 ∷ [])
      starts = record {
        placed = none (misplaced_count total) (λ k s is_initial. initial_misplaced total s.colour.0 k s.role is_initial.colour is_initial.role);
        one_desk = one desks 0 (omega arith) (λ k s is_initial. initial_desks total k s.role is_initial.role);
        one_seat = λ i low. one (seats i) (i + 2) (omega (arith, low)) (λ k s is_initial. initial_seats total i k s.colour.0 s.role is_initial.colour low is_initial.role);
        one_world = omega (arith, none_at_desk (λ d. if_held is_any d.resting) (λ d a b c. held_not is_any d.resting c));
        opens = λ i low. omega (arith, no_ask 3 i (λ same. omega (arith, same)), none_opened i, none_at_desk (λ d. if_held (is_beyond i) d.resting) (λ d a b c. held_not (is_beyond i) d.resting c), zero_beyond i);
        steps = λ i n low more less. omega (arith, no_ask n i (λ same. omega (arith, same, more)), none_at i n (λ same. omega (arith, same, more)));
        waits = λ i low. omega (arith, no_ask 9 i (λ same. omega (arith, same)), no_ask 1 i (λ same. omega (arith, same)), none_at i 9 (λ same. omega (arith, same)), none_at_desk (λ d. times i d.waiting.items) (λ d a b c. ap (times i) a));
        no_stray = none strays (λ k s is_initial. initial_seat total k s.role (λ seat. is_stray seat.stray) is_initial.role (λ seat unopened stray. ap is_stray stray));
        ended = omega (arith, late_when (total == 0) refl, none_at_desk (λ d. if_held (is_unended total) d.resting) (λ d a b c. held_not (is_unended total) d.resting c));
        late = omega (arith, few_when (total == 0), none_at_desk (λ d. bit d.last) (λ d a b c. ap bit b));
        not_in_vain = none_at_desk (λ d. if_held (λ held. is_some d.waiting.items) d.resting) (λ d a b c. held_not (λ held. is_some d.waiting.items) d.resting c);
      }

-- so they are initial, and a weave may be made of them
pub places_initial : {W L T G H : Type 0} (y : TalkWords T L G H) (first : W) (hall : H) (total : ℕ) (log : Bool) (xs : List (PlaceState H W T)) → AreInitialPlacesOver y first hall total (colours_over total log) xs → AreInitialPlaces y first total log xs
places_initial y first hall total log xs are = record { many = are.many; each = λ i s at. (are.each i s at).initial }

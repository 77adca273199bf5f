-- Where nothing is under way any more, all that was owed was done.
use Rattle.std.proofs.Common.{◌≡◌, ℕ, zero, suc, ◌+◌, ◌≤◌, ◌<◌, Bool, true, false, true≢false, Option, Some, None, List, [], ◌∷◌, ◌++◌, refl, sym, ◌∙◌, ap, arith, inl, inr, eq-eqb}
use Rattle.std.proofs.lemmas.Bool.Decides.{eqb_tells, nat_tests}
use Rattle.std.specs.Prelude.{sum_by, not, nat_lt, ◌==◌, ◌&&◌, ◌||◌, slice_get}
use Rattle.mely_event.specs.declared.event.Event.{Event}
use Rattle.sws_steps.specs.declared.talk.Talk.{Ghosts as TalkWords}
use Rattle.sws_steps.specs.declared.Handler.{Handler}
use Rattle.sws_steps.specs.declared.Handler.TheVariants as handler
use Rattle.sws_conn.specs.Talks.{due}
use Rattle.sws_handlers.specs.declared.load.WorldLoad.{WorldLoad}
use Rattle.sws_handlers.specs.declared.place.Desk.{Desk}
use Rattle.sws_handlers.specs.declared.place.Seat.{Seat}
use Rattle.sws_handlers.specs.declared.place.Role.{Role}
use Rattle.sws_handlers.specs.declared.place.Role.TheVariants.{Polling, Accepting, Talking, Logging}
use Rattle.sws_handlers.specs.Place.{PlaceState}
use Rattle.sws_handlers.specs.Handling.{is_some}
use Rattle.sws_weave.specs.RunStands.{if_held, is_any, is_beyond, is_unended, at_desk, at_seat, first_number, due_number, is_stray, misplaced_at, misplaced_count, desks, seats, strays, RunStands}
use Rattle.sws_weave.specs.PartsKept.{IsPlacedAs}
use Rattle.mely_tally.proofs.SumsLemmas.{sum_member}
use Rattle.sws_weave.proofs.Balances.BalanceLemmas.{others, others_none, sum_split}
use Rattle.sws_handlers.specs.Counting.{bit, times}

-- no event of the connection was stray; where its link was accepted it was served to its close, and
-- else it was never opened
pub record ConnEnds {T L G H : Type 0} (y : TalkWords T L G H) (accepted i : ℕ)
    (seat : Seat T) : Type 0 where
  pub no_stray : seat.stray ≡ None
  pub closed : i < accepted → due (y.view_of seat.talk) ≡ None
  pub unopened : accepted ≤ i → due_number y seat ≡ 3

-- the world rests at colour 0: all links were accepted or it has failed, nobody waits, and
-- each connection has ended
pub record RunEnds {W L T G H : Type 0} (y : TalkWords T L G H) (total : ℕ)
    (states : List (PlaceState H W T)) (desk : Desk W) : Type 0 where
  pub held : WorldLoad W
  pub rests : desk.resting ≡ Some held
  pub nobody : desk.waiting.items ≡ []
  pub ended : is_unended total held ≡ false
  pub conn : (i : ℕ) (place : PlaceState H W T) (seat : Seat T) → i < total
      → slice_get states (i + 2) ≡ Some place → place.role ≡ Talking seat
      → ConnEnds y held.accepted i seat

-- a state among all
pub record Among {X : Type 0} (xs : List X) (s : X) : Type 0 where
  pub front : List X
  pub back : List X
  pub is : xs ≡ front ++ (s ∷ []) ++ back

pub among : {X : Type 0} (xs : List X) (k : ℕ) (s : X) → slice_get xs k ≡ Some s → Among xs s
among [] k s at = cc
among (x ∷ xs) zero s at = let same : x ≡ s = cc in record { front = []; back = xs; is = ap (λ v. (v ∷ []) ++ xs) same }
among (x ∷ xs) (suc k) s at = let r = among xs k s at in record { front = x ∷ r.front; back = r.back; is = ap (λ l. x ∷ l) r.is }

bit_not : (b : Bool) → bit b ≡ 0 → b ≡ false
bit_not true none = absurd (omega (arith, none))
bit_not false none = refl

held_there : {W : Type 0} (held : Option (WorldLoad W)) → if_held is_any held ≡ 1 → (h : WorldLoad W) × (held ≡ Some h)
held_there None one = absurd (omega (arith, one))
held_there (Some h) one = (h, refl)

nobody : (waiting : List ℕ) → is_some waiting ≡ false → waiting ≡ []
nobody [] is = refl
nobody (w ∷ ws) is = absurd (true≢false is)

at_desk_where : {W T : Type 0} (f : Desk W → ℕ) (role : Role W T) → at_desk (λ d. 1) role ≡ 0 → at_desk f role ≡ 0
at_desk_where f (Polling desk) none = absurd (omega (arith, none))
at_desk_where f Accepting none = refl
at_desk_where f (Talking seat) none = refl
at_desk_where f Logging none = refl

at_seat_where : {W T : Type 0} (own : Bool) (f : Seat T → Bool) (role : Role W T) → at_seat (λ k. bit own) role ≡ 0 → at_seat (λ k. bit (own && f k)) role ≡ 0
at_seat_where own f (Polling desk) none = refl
at_seat_where own f Accepting none = refl
at_seat_where own f (Talking seat) none = ap (λ b. bit (b && f seat)) (bit_not own none)
at_seat_where own f Logging none = refl

none_due : (d : Option Handler) → (3 ≤ first_number d → first_number d ≤ 9 → ⊥) → d ≡ None
none_due None never = refl
none_due (Some handler.Open) never = absurd (never (omega arith) (omega arith))
none_due (Some handler.Read) never = absurd (never (omega arith) (omega arith))
none_due (Some handler.Parse) never = absurd (never (omega arith) (omega arith))
none_due (Some handler.Look) never = absurd (never (omega arith) (omega arith))
none_due (Some handler.Write) never = absurd (never (omega arith) (omega arith))
none_due (Some handler.Resume) never = absurd (never (omega arith) (omega arith))
none_due (Some handler.Close) never = absurd (never (omega arith) (omega arith))

-- a number that isn't another is it
is_number : (i n : ℕ) → bit (not (i == n)) ≡ 0 → i ≡ n
is_number i n none = elim (eqb_tells i n) [ inl same ↦ same.1 | inr apart ↦ let one = ap (λ b. bit (not b)) apart.0 in absurd (omega (arith, none, one)) ]

not_less : (a b : ℕ) → nat_lt a b ≡ false → b ≤ a
not_less a b is = grind (arith, nat_tests)

unstrayed : (stray : Option Event) → is_stray stray ≡ 0 → stray ≡ None
unstrayed None is = refl
unstrayed (Some event) is = absurd (omega (arith, is))

lower : (i n : ℕ) → i < n → bit (nat_lt i n) ≡ 1
lower i n less = grind (arith, nat_tests)

upper : (i n : ℕ) → n ≤ i → bit (nat_lt i n) ≡ 0
upper i n less = grind (arith, nat_tests)

by_number : (n : ℕ) → 3 ≤ n → n ≤ 9 → (n ≡ 3 → ⊥) → ((k : ℕ) → 4 ≤ k → k ≤ 8 → n ≡ k → ⊥) → (n ≡ 9 → ⊥) → ⊥
by_number n more few three steps nine = elim (eqb_tells n 3) [
  | inl same ↦ three same.1
  | inr apart ↦ elim (eqb_tells n 9) [
    | inl same ↦ nine same.1
    | inr other ↦ (let a = apart.1 in let b = other.1 in steps n (omega (arith, more, a)) (omega (arith, few, b)) refl)
  ]
]

module _ {W L T G H : Type 0} (y : TalkWords T L G H) (total : ℕ) (states : List (PlaceState H W T)) (stands : RunStands {W = W} y total states []) where
  sum_is : (s : PlaceState H W T) (at : Among states s) (f : PlaceState H W T → ℕ) → sum_by f states ≡ f s + others at.front at.back f
  sum_is s at f = ap (sum_by f) at.is ∙ sum_split at.front at.back f s

  -- the state that polls
  module _ (s : PlaceState H W T) (at : Among states s) (desk : Desk W) (role : s.role ≡ Polling desk) where
    mine : (f : Desk W → ℕ) → at_desk f s.role ≡ f desk
    mine f = ap (at_desk f) role

    desk_others : (f : Desk W → ℕ) → others at.front at.back (λ p. at_desk f p.role) ≡ 0
    desk_others f =
        let one = stands.one_desk in
        others_none at.front at.back desks (λ p. at_desk f p.role) (λ p none. at_desk_where f p.role none) (omega (arith, one, sum_is s at desks, mine (λ d. 1)))

    desk_sum : (f : Desk W → ℕ) → sum_by (λ (p : PlaceState H W T). at_desk f p.role) states ≡ f desk
    desk_sum f = omega (arith, sum_is s at (λ p. at_desk f p.role), desk_others f, mine f)

    -- the world rests, and nobody waits
    record DeskEnds : Type 0 where
      pub held : WorldLoad W
      pub rests_is : desk.resting ≡ Some held
      pub nobody_waits : desk.waiting.items ≡ []
      pub ended : is_unended total held ≡ false

    desk_ends : DeskEnds
    desk_ends =
        let one = stands.one_world in
        let there = held_there desk.resting (omega (arith, one, desk_sum (λ d. if_held is_any d.resting))) in
        let vain = stands.not_in_vain in
        let none : if_held (λ h. is_some desk.waiting.items) desk.resting ≡ 0 = omega (arith, vain, desk_sum (λ d. if_held (λ h. is_some d.waiting.items) d.resting)) in
        let last = stands.ended in
        let late : if_held (is_unended total) desk.resting ≡ 0 = omega (arith, last, desk_sum (λ d. if_held (is_unended total) d.resting)) in
        record {
          held = there.0;
          rests_is = there.1;
          nobody_waits = nobody desk.waiting.items (bit_not (is_some desk.waiting.items) (sym (ap (if_held (λ h. is_some desk.waiting.items)) there.1) ∙ none));
          ended = bit_not (is_unended total there.0) (sym (ap (if_held (is_unended total)) there.1) ∙ late);
        }

    -- a connection
    module _ (i : ℕ) (low : i < total) (p : PlaceState H W T) (here : Among states p) (seat : Seat T) (talks : p.role ≡ Talking seat) (colour : p.colour.0 ≡ i + 2) where
      own : (p.colour.0 == i + 2) ≡ true
      own = eq-eqb p.colour.0 (i + 2) colour

      seat_sum : (f : Seat T → Bool) → sum_by (λ (q : PlaceState H W T). at_seat (λ k. bit ((q.colour.0 == i + 2) && f k)) q.role) states ≡ bit (f seat)
      seat_sum f =
          let one = stands.one_seat i low in
          let me : seats i p ≡ 1 = ap (at_seat (λ k. bit (p.colour.0 == i + 2))) talks ∙ ap bit own in
          let rest = others_none here.front here.back (seats i) (λ q. at_seat (λ k. bit ((q.colour.0 == i + 2) && f k)) q.role) (λ q none. at_seat_where (q.colour.0 == i + 2) f q.role none) (omega (arith, one, sum_is p here (seats i), me)) in
          let mine_is = ap (at_seat (λ k. bit ((p.colour.0 == i + 2) && f k))) talks ∙ ap (λ b. bit (b && f seat)) own in
          omega (arith, sum_is p here (λ q. at_seat (λ k. bit ((q.colour.0 == i + 2) && f k)) q.role), rest, mine_is)

      record SeatEnds (held : WorldLoad W) : Type 0 where
        pub no_stray : seat.stray ≡ None
        -- a link that was accepted was served to its end, and no other was opened
        pub closed : i < held.accepted → due (y.view_of seat.talk) ≡ None
        pub unopened : held.accepted ≤ i → due_number y seat ≡ 3

      not_step : (n : ℕ) → 4 ≤ n → n ≤ 8 → due_number y seat ≡ n → ⊥
      not_step n more less same =
          let law = stands.steps i n low more less in
          let one = ap bit (eq-eqb (due_number y seat) n same) in
          omega (arith, law, seat_sum (λ k. due_number y k == n), one)

      not_resumed : due_number y seat ≡ 9 → ⊥
      not_resumed same =
          let law = stands.waits i low in
          let none : times i desk.waiting.items ≡ 0 = ap (times i) desk_ends.nobody_waits in
          let one = ap bit (eq-eqb (due_number y seat) 9 same) in
          omega (arith, law, seat_sum (λ k. due_number y k == 9), one, desk_sum (λ d. times i d.waiting.items), none)

      opened_is : bit (not (due_number y seat == 3)) ≡ bit (nat_lt i desk_ends.held.accepted)
      opened_is =
          let law = stands.opens i low in
          let beyond_is = desk_sum (λ d. if_held (is_beyond i) d.resting) in
          let held_is = ap (if_held (is_beyond i)) desk_ends.rests_is in
          omega (arith, law, seat_sum (λ k. not (due_number y k == 3)), beyond_is, held_is)

      not_opening : i < desk_ends.held.accepted → due_number y seat ≡ 3 → ⊥
      not_opening less same =
          let zero_is = ap (λ b. bit (not b)) (eq-eqb (due_number y seat) 3 same) in
          let one_is = lower i desk_ends.held.accepted less in
          omega (arith, opened_is, zero_is, one_is)

      seat_ends : SeatEnds desk_ends.held
      seat_ends = record {
        no_stray = unstrayed seat.stray (let law = stands.no_stray in let me = ap (at_seat (λ k. is_stray k.stray)) talks in omega (arith, law, sum_is p here strays, me));
        closed = λ less. none_due (due (y.view_of seat.talk)) (λ more few. by_number (due_number y seat) more few (not_opening less) not_step not_resumed);
        unopened = λ beyond.
            let none = upper i desk_ends.held.accepted beyond in
            elim (eqb_tells (due_number y seat) 3) [ inl same ↦ same.1 | inr apart ↦ let one = ap (λ b. bit (not b)) apart.0 in absurd (omega (arith, opened_is, none, one)) ];
      }

-- ---- of the states by colour

both_bounds : (a b : Bool) → bit (a || not b) ≡ 0 → (a ≡ false) × (b ≡ true)
both_bounds true b none = absurd (omega (arith, none))
both_bounds false true none = (refl, refl)
both_bounds false false none = absurd (omega (arith, none))

is_less : (a b : ℕ) → nat_lt a b ≡ true → a < b
is_less a b is = grind (arith, nat_tests)

pub talking_within : (i n : ℕ) → bit (nat_lt i 2 || not (nat_lt i n)) ≡ 0 → (2 ≤ i) × (i < n)
talking_within i n none = let both = both_bounds (nat_lt i 2) (nat_lt i n) none in (not_less i 2 both.0, is_less i n both.1)

place_role : {W T : Type 0} (total i : ℕ) (role : Role W T) → misplaced_at total i role ≡ 0 → (i ≡ 0 → (desk : Desk W) × (role ≡ Polling desk)) × (i ≡ 1 → role ≡ Accepting) × (2 ≤ i → i < total + 2 → (seat : Seat T) × (role ≡ Talking seat)) × (i ≡ total + 2 → role ≡ Logging)
place_role total i (Polling desk) none =
    let first : i ≡ 0 = is_number i 0 none in
    (λ is. (desk, refl), λ is. absurd (omega (arith, first, is)), λ more less. absurd (omega (arith, first, more)), λ last. absurd (omega (arith, first, last)))
place_role total i Accepting none =
    let second : i ≡ 1 = is_number i 1 none in
    (λ is. absurd (omega (arith, second, is)), λ is. refl, λ more less. absurd (omega (arith, second, more)), λ last. absurd (omega (arith, second, last)))
place_role total i (Talking seat) none =
    let within = talking_within i (total + 2) none in
    let later : 2 ≤ i = within.0 in
    let under : i < total + 2 = within.1 in
    (λ is. absurd (omega (arith, later, is)), λ is. absurd (omega (arith, later, is)), λ more less. (seat, refl), λ last. absurd (omega (arith, under, last)))
place_role total i Logging none =
    let own : i ≡ total + 2 = is_number i (total + 2) none in
    (λ is. absurd (omega (arith, own, is)), λ is. absurd (omega (arith, own, is)), λ more less. absurd (omega (arith, own, less)), λ last. refl)

module _ {W L T G H : Type 0} (y : TalkWords T L G H) (total : ℕ) (states : List (PlaceState H W T)) (coloured : (i : ℕ) (place : PlaceState H W T) → slice_get states i ≡ Some place → place.colour.0 ≡ i) where
  -- each state has the role of its colour
  pub placed_as : sum_by (λ (s : PlaceState H W T). misplaced_count total s) states ≡ 0 → (i : ℕ) (place : PlaceState H W T) → slice_get states i ≡ Some place → IsPlacedAs total i place
  placed_as none i place at =
      let few = sum_member (λ (s : PlaceState H W T). misplaced_count total s) states i place at in
      let colour = coloured i place at in
      let mine : misplaced_at total i place.role ≡ 0 = ap (λ n. misplaced_at total n place.role) (sym colour) ∙ (let zero_is : misplaced_count total place ≡ 0 = omega (arith, few, none) in zero_is) in
      let role = place_role total i place.role mine in
      record { colour = colour; polls = role.0; accepts = role.1; talks = role.2; logs = role.3 }

  -- where nothing is under way, the run has ended
  pub run_ends : RunStands {W = W} {L = L} y total states [] → (place : PlaceState H W T) (desk : Desk W) → slice_get states 0 ≡ Some place → place.role ≡ Polling desk → RunEnds y total states desk
  run_ends stands place desk at role =
      let here = among states 0 place at in
      let ends = desk_ends y total states stands place here desk role in
      record {
        held = ends.held;
        rests = ends.rests_is;
        nobody = ends.nobody_waits;
        ended = ends.ended;
        conn = λ i p seat low there talks.
            let s = seat_ends y total states stands place here desk role i low p (among states (i + 2) p there) seat talks (coloured (i + 2) p there) in
            record { no_stray = s.no_stray; closed = s.closed; unopened = s.unopened };
      }

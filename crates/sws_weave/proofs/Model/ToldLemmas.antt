-- The server in a weave is told by the function.
use Rattle.std.proofs.Common.{◌≡◌, ◌≢◌, ◌≤◌, ◌+◌, ◌-◌, ℕ, Bool, zero, suc, cond, eqb, List, [], ◌∷◌, ◌++◌, Option, None, Some, length, map, arith, refl, sym, subst, ◌∙◌, inl, inr, ◌⊎◌}
use Rattle.std.specs.Prelude.{sum_by}
use Rattle.std.specs.List.{AllByRecursion}
use Rattle.std.proofs.lemmas.Bool.{cond-true, eq-eqb}
use Rattle.std.proofs.lemmas.List.Sums.{sum_by-append, sum_by-cons}
use Rattle.std.proofs.lemmas.List.Sorted.{All-permutation, sum_by-IsPermutation}
use Rattle.std.proofs.lemmas.List.Elements.{recursion_from_All, All-from_recursion}
use Rattle.mely_event.specs.declared.colour.Colour.{Colour}
use Rattle.mely_event.specs.declared.event.Event.{Event}
use Rattle.mely_event.specs.declared.trail.Trail.{Ghosts as TrailWords}
use Rattle.mely_worker.specs.declared.app.App.{Ghosts as AppWords}
use Rattle.sws_steps.specs.Logs.{Step}
use Rattle.mely_machine.specs.Machine.{Acted}
use Rattle.mely_run.specs.Corresponds.{without_loads}
use Rattle.mely_run.specs.Pieces.{Piece, state_piece, event_piece, of_put, IsTold}
use Rattle.sws_weave.specs.Server.{Server, serve}
use Rattle.sws_handlers.specs.PathPlaces.{World, Load, world, link, line, Place, polling, accepting, talking, logging, Put, Ran, runs_place, worlds_of_rest, worlds_of_place, worlds_of_load}
use Rattle.sws_weave.specs.Openings.{AreOpened}
use Rattle.sws_weave.proofs.Model.Agrees.{WorldAgrees, RestAgrees, PlaceAgrees, ComingAgrees, is_state_of, worlds_in_load, worlds_of, PieceAgrees, Agrees}
use Rattle.sws_handlers.specs.PathStates.{AreLoads, ArePuts}
use Rattle.sws_weave.proofs.Model.Placed.{IsPlaced}
use Rattle.sws_weave.proofs.Model.HandlesLemmas.{bare, Handled, append_all, handle_is}

all_zero : {A : Type 0} (f : A → ℕ) (xs : List A) → sum_by f xs ≡ 0 → AllByRecursion (λ x. f x ≡ 0) xs
all_zero f [] h = tt
all_zero f (x ∷ xs) h = let split = sum_by-cons f x xs in (omega (arith, h, split), all_zero f xs (omega (arith, h, split)))

map_two : {A : Type 0} (Q : A → Type 0) (R : A → Type 0) (T : A → Type 0) (xs : List A) → ((x : A) → Q x → R x → T x) → AllByRecursion Q xs → AllByRecursion R xs → AllByRecursion T xs
map_two Q R T [] f q r = tt
map_two Q R T (x ∷ xs) f q r = (f x q.0 r.0, map_two Q R T xs f q.1 r.1)

module _ {S P : Type 0} (IsPlace : S → Place → Type 0) (IsLoad : P → Load → Type 0) (holds : S → ℕ) (carries : P → ℕ) (whole : List (List Step))
    (held : (state : S) (place : Place) → IsPlace state place → holds state ≡ worlds_of_place place) (carriage : (load : P) (l : Load) → IsLoad load l → carries load ≡ worlds_of_load (Some l)) where
  abbrev worlds : Piece S P → ℕ
  worlds = worlds_of holds carries

  carried_is : (load : Option P) (l : Option Load) → AreLoads IsLoad load l → worlds_in_load carries load ≡ worlds_of_load l
  carried_is None None is = refl
  carried_is (Some load) (Some l) is = carriage load l is
  carried_is None (Some l) is = elim is [ ]
  carried_is (Some load) None is = elim is [ ]

  bares : (puts : List (Colour × Event × Option P)) (qs : List Put) → ArePuts IsLoad puts qs → without_loads puts ≡ map bare qs
  bares [] [] are = refl
  bares (p ∷ puts) (q ∷ qs) are = λ i. (are.0.0 i, are.0.1 i) ∷ bares puts qs are.1 i
  bares [] (q ∷ qs) are = elim are [ ]
  bares (p ∷ puts) [] are = elim are [ ]

  shown_stand : (s : Server) (puts : List (Colour × Event × Option P)) (qs : List Put) → ArePuts IsLoad puts qs → AllByRecursion (λ p. ComingAgrees whole s p.0 p.1.handler p.1.arg p.2) qs → AllByRecursion (PieceAgrees IsPlace IsLoad holds carries whole s) (map of_put puts)
  shown_stand s [] [] are all = tt
  shown_stand s (p ∷ puts) (q ∷ qs) are all = (
    (q.2, are.0.2, subst (λ (e : Event). ComingAgrees whole s p.0 e.handler e.arg q.2) (sym are.0.1) (subst (λ (c : Colour). ComingAgrees whole s c q.1.handler q.1.arg q.2) (sym are.0.0) all.0)),
    shown_stand s puts qs are.1 all.1,
  )
  shown_stand s [] (q ∷ qs) are all = elim are [ ]
  shown_stand s (p ∷ puts) [] are all = elim are [ ]

  shown_worlds : (puts : List (Colour × Event × Option P)) (qs : List Put) → ArePuts IsLoad puts qs → sum_by worlds (map of_put puts) ≡ sum_by (λ p. worlds_of_load p.2) qs
  shown_worlds [] [] are = refl
  shown_worlds (p ∷ puts) (q ∷ qs) are =
      let one = sum_by-cons worlds (of_put p) (map of_put puts) in
      let other = sum_by-cons (λ (r : Put). worlds_of_load r.2) q qs in
      let same = carried_is p.2 q.2 are.0.2 in
      omega (arith, one, other, same, shown_worlds puts qs are.1)
  shown_worlds [] (q ∷ qs) are = elim are [ ]
  shown_worlds (p ∷ puts) [] are = elim are [ ]

  abbrev states : ℕ → Piece S P → ℕ
  states c piece = cond (is_state_of c piece) 1 0

  no_states : (c : ℕ) (puts : List (Colour × Event × Option P)) → sum_by (states c) (map of_put puts) ≡ 0
  no_states c [] = refl
  no_states c (p ∷ puts) = let one = sum_by-cons (states c) (of_put p) (map of_put puts) in omega (arith, one, no_states c puts)

  -- what another colour has, or another load, isn't changed
  module _ (s : Server) (c : Colour) (before : ℕ) (load : Option Load) (ran : Ran) (acted : Acted Server) (h : Handled whole s c before load ran acted) where
    world_on : (w : World) → worlds_of_load load ≡ 0 → WorldAgrees whole s w → WorldAgrees whole acted.becomes w
    world_on w none stands = record { accepted = stands.accepted ∙ sym (h.accepted none); coming = stands.coming }

    place_on : (d : Colour) (place : Place) → d.0 ≢ c.0 → (worlds_of_load load ≡ 0) ⊎ (worlds_of_place place ≡ 0) → PlaceAgrees whole s d place → PlaceAgrees whole acted.becomes d place
    place_on d (polling desk) apart few stands =
        let same = h.desk (λ e. apart (stands.0 ∙ sym e)) in (
          stands.0,
          record {
            waiting = stands.1.waiting ∙ sym same.0;
            last = stands.1.last ∙ sym same.1;
            rests = stands.1.rests ∙ sym same.2;
            world = rest_on desk.resting few stands.1.world;
          },
        )
      where
        rest_on : (resting : Option World) → (worlds_of_load load ≡ 0) ⊎ (worlds_of_rest resting ≡ 0) → RestAgrees whole s resting → RestAgrees whole acted.becomes resting
        rest_on None few stands = tt
        rest_on (Some w) few stands = elim few [ inl none ↦ world_on w none stands | inr never ↦ absurd (omega (arith, never)) ]
    place_on d accepting apart few stands = stands
    place_on d logging apart few stands = stands
    place_on d (talking None) apart few stands = (stands.0, h.others (d.0 - 2) (λ e. apart (let low = stands.0.0 in omega (arith, e, low))) ∙ stands.1)
    place_on d (talking (Some path)) apart few stands = (stands.0, (h.others (d.0 - 2) (λ e. apart (let low = stands.0.0 in omega (arith, e, low))) ∙ stands.1.0, stands.1.1))

    coming_on : (d : Colour) (handler arg : ℕ) (l : Option Load) → (worlds_of_load load ≡ 0) ⊎ (worlds_of_load l ≡ 0) → ComingAgrees whole s d handler arg l → ComingAgrees whole acted.becomes d handler arg l
    coming_on d zero arg (Some (world w)) few stands = elim few [ inl none ↦ (stands.0, world_on w none stands.1, stands.2) | inr never ↦ absurd (omega (arith, never)) ]
    coming_on d (suc zero) arg None few stands = stands
    coming_on d (suc (suc zero)) arg (Some (world w)) few stands = elim few [ inl none ↦ (stands.0, world_on w none stands.1, stands.2) | inr never ↦ absurd (omega (arith, never)) ]
    coming_on d (suc (suc (suc zero))) arg (Some (link path)) few stands = stands
    coming_on d (suc (suc (suc (suc more)))) arg None few stands = stands
    coming_on d (suc (suc (suc (suc more)))) arg (Some line) few stands = stands
    coming_on d zero arg (Some line) few stands = elim stands [ ]
    coming_on d (suc (suc zero)) arg (Some line) few stands = elim stands [ ]
    coming_on d (suc (suc (suc zero))) arg (Some line) few stands = elim stands [ ]
    coming_on d zero arg None few stands = elim stands [ ]
    coming_on d zero arg (Some (link path)) few stands = elim stands [ ]
    coming_on d (suc zero) arg (Some l) few stands = elim stands [ ]
    coming_on d (suc (suc zero)) arg None few stands = elim stands [ ]
    coming_on d (suc (suc zero)) arg (Some (link path)) few stands = elim stands [ ]
    coming_on d (suc (suc (suc zero))) arg None few stands = elim stands [ ]
    coming_on d (suc (suc (suc zero))) arg (Some (world w)) few stands = elim stands [ ]
    coming_on d (suc (suc (suc (suc more)))) arg (Some (world w)) few stands = elim stands [ ]
    coming_on d (suc (suc (suc (suc more)))) arg (Some (link path)) few stands = elim stands [ ]

    piece_on : (piece : Piece S P) → (states c.0 piece ≡ 0) × ((worlds_of_load load ≡ 0) ⊎ (worlds piece ≡ 0)) → PieceAgrees IsPlace IsLoad holds carries whole s piece → PieceAgrees IsPlace IsLoad holds carries whole acted.becomes piece
    piece_on (d, inl state) few stands = (
      stands.0,
      stands.1,
      place_on d stands.0 (λ e. let on = cond-true {A = ℕ} (eqb d.0 c.0) 1 0 (eq-eqb d.0 c.0 e) in let none = few.0 in omega (arith, on, none))
          (elim few.1 [ inl none ↦ inl none | inr none ↦ inr (sym (held state stands.0 stands.1) ∙ none) ]) stands.2,
    )
    piece_on (d, inr (event, l)) few stands = (
      stands.0,
      stands.1,
      coming_on d event.handler event.arg stands.0 (elim few.1 [ inl none ↦ inl none | inr none ↦ inr (sym (carried_is l stands.0 stands.1) ∙ none) ]) stands.2,
    )

  worlds_few : (load : Option Load) → (worlds_of_load load ≡ 0) ⊎ (worlds_of_load load ≡ 1)
  worlds_few None = inl refl
  worlds_few (Some (world w)) = inr refl
  worlds_few (Some (link path)) = inl refl
  worlds_few (Some line) = inl refl

  -- what is left stands after an event was run
  module _ (opened : AreOpened whole) (log : Bool) (s : Server) (c : Colour) (event : Event) (load : Option P) (state after : S) (puts : List (Colour × Event × Option P)) (rest : List (Piece S P))
      (agrees : Agrees IsPlace IsLoad holds carries whole log s (state_piece c state ∷ event_piece c event load ∷ rest)) where
    pub each : AllByRecursion (PieceAgrees IsPlace IsLoad holds carries whole s) (state_piece c state ∷ event_piece c event load ∷ rest)
    each = recursion_from_All (PieceAgrees IsPlace IsLoad holds carries whole s) (state_piece c state ∷ event_piece c event load ∷ rest) agrees.each

    module _ (place : Place) (is_place : IsPlace state place) (l : Option Load) (is_load : AreLoads IsLoad load l) where
      parts : sum_by worlds (state_piece c state ∷ event_piece c event load ∷ rest) ≡ worlds_of_place place + (worlds_of_load l + sum_by worlds rest)
      parts =
          let one = sum_by-cons worlds (state_piece c state) (event_piece c event load ∷ rest) in
          let two = sum_by-cons worlds (event_piece c event load) rest in
          let three = held state place is_place in
          let four = carried_is load l is_load in
          omega (arith, one, two, three, four)

      pub few : worlds_of_place place + (worlds_of_load l + sum_by worlds rest) ≤ 1
      few = let one = agrees.one_world in omega (arith, one, parts)

    module _ (place : Place) (is_place : IsPlace state place) (place_stands : PlaceAgrees whole s c place) (l : Option Load) (is_load : AreLoads IsLoad load l) (load_stands : ComingAgrees whole s c event.handler event.arg l)
        (place_is : IsPlace after (runs_place s.log (length whole) c place event l).place) (puts_are : ArePuts IsLoad puts (runs_place s.log (length whole) c place event l).puts) where
      abbrev ran : Ran
      ran = runs_place s.log (length whole) c place event l

      abbrev acted : Acted Server
      acted = serve s c event

      handled : Handled whole s c (worlds_of_place place) l ran acted
      handled = handle_is whole opened s agrees.many c place event.handler event.arg l place_stands load_stands (omega (arith, few place is_place l is_load))

      puts_told : without_loads puts ≡ acted.puts
      puts_told = bares puts ran.puts puts_are ∙ handled.puts

      states_parts : (d : ℕ) → sum_by (states d) (state_piece c state ∷ event_piece c event load ∷ rest) ≡ cond {A = ℕ} (eqb c.0 d) 1 0 + sum_by (states d) rest
      states_parts d = let one = sum_by-cons (states d) (state_piece c state) (event_piece c event load ∷ rest) in let two = sum_by-cons (states d) (event_piece c event load) rest in omega (arith, one, two)

      none_there : sum_by (states c.0) rest ≡ 0
      none_there =
          let on = cond-true {A = ℕ} (eqb c.0 c.0) 1 0 (eq-eqb c.0 c.0 refl) in
          let one = agrees.one_state c.0 in
          let split = states_parts c.0 in
          omega (arith, on, one, split)

      left_few : AllByRecursion (λ piece. (worlds_of_load l ≡ 0) ⊎ (worlds piece ≡ 0)) rest
      left_few = elim (worlds_few l) [
        | inl none ↦ each_of (λ piece. inl none) rest
        | inr one ↦ weaker rest (all_zero worlds rest (omega (arith, few place is_place l is_load, one)))
      ]
        where
          each_of : ((piece : Piece S P) → (worlds_of_load l ≡ 0) ⊎ (worlds piece ≡ 0)) → (xs : List (Piece S P)) → AllByRecursion (λ piece. (worlds_of_load l ≡ 0) ⊎ (worlds piece ≡ 0)) xs
          each_of f [] = tt
          each_of f (x ∷ xs) = (f x, each_of f xs)

          weaker : (xs : List (Piece S P)) → AllByRecursion (λ piece. worlds piece ≡ 0) xs → AllByRecursion (λ piece. (worlds_of_load l ≡ 0) ⊎ (worlds piece ≡ 0)) xs
          weaker [] all = tt
          weaker (x ∷ xs) all = (inr all.0, weaker xs all.1)

      rest_stands : AllByRecursion (PieceAgrees IsPlace IsLoad holds carries whole acted.becomes) rest
      rest_stands = map_two (λ piece. (states c.0 piece ≡ 0) × ((worlds_of_load l ≡ 0) ⊎ (worlds piece ≡ 0))) (PieceAgrees IsPlace IsLoad holds carries whole s) (PieceAgrees IsPlace IsLoad holds carries whole acted.becomes) rest
          (piece_on s c (worlds_of_place place) l ran acted handled)
          (map_two (λ piece. states c.0 piece ≡ 0) (λ piece. (worlds_of_load l ≡ 0) ⊎ (worlds piece ≡ 0)) (λ piece. (states c.0 piece ≡ 0) × ((worlds_of_load l ≡ 0) ⊎ (worlds piece ≡ 0))) rest
          (λ piece a b. (a, b)) (all_zero (states c.0) rest none_there) left_few)
          each.1.1

      agrees_after : Agrees IsPlace IsLoad holds carries whole log acted.becomes (state_piece c after ∷ (map of_put puts ++ rest))
      agrees_after = record {
        many = handled.many ∙ agrees.many;
        logs = handled.log ∙ agrees.logs;
        each = All-from_recursion (PieceAgrees IsPlace IsLoad holds carries whole acted.becomes) (state_piece c after ∷ (map of_put puts ++ rest)) (
          (ran.place, place_is, handled.place),
          append_all (PieceAgrees IsPlace IsLoad holds carries whole acted.becomes) (map of_put puts) rest (shown_stand acted.becomes puts ran.puts puts_are handled.coming) rest_stands,
        );
        one_world =
            let one = sum_by-cons worlds (state_piece c after) (map of_put puts ++ rest) in
            let two = sum_by-append worlds (map of_put puts) rest in
            let three = shown_worlds puts ran.puts puts_are in
            let four = held after ran.place place_is in
            let five = handled.worlds in
            omega (arith, one, two, three, four, five, few place is_place l is_load);
        one_state = λ d.
            let one = sum_by-cons (states d) (state_piece c after) (map of_put puts ++ rest) in
            let two = sum_by-append (states d) (map of_put puts) rest in
            let three = agrees.one_state d in
            omega (arith, one, two, no_states d puts, three, states_parts d);
      }

pub server_told : {S P F R : Type 0} (t : TrailWords S F) (fits : F → Colour → Event → Option P → Type 0) (y : AppWords R P S F) (app : R) (frame : F) (IsPlace : S → Place → Type 0) (IsLoad : P → Load → Type 0) (holds : S → ℕ) (carries : P → ℕ) (spoilt : S → Bool) (log : Bool) (whole : List (List Step)) → AreOpened whole
    → IsPlaced t fits y app frame IsPlace IsLoad holds carries spoilt log whole → IsTold t fits y app frame serve (Agrees IsPlace IsLoad holds carries whole log) spoilt
server_told {S} {P} t fits y app frame IsPlace IsLoad holds carries spoilt log whole opened placed = record {
  moved = λ s some others order agrees. record {
    many = agrees.many;
    logs = agrees.logs;
    each = All-permutation (PieceAgrees IsPlace IsLoad holds carries whole s) some others order agrees.each;
    one_world = let same = sum_by-IsPermutation (worlds_of holds carries) some others order in let one = agrees.one_world in omega (arith, same, one);
    one_state = λ c. let same = sum_by-IsPermutation (λ (piece : Piece S P). cond {A = ℕ} (is_state_of c piece) 1 0) some others order in let one = agrees.one_state c in omega (arith, same, one);
  };
  runs = λ s c event load state after puts rest coloured framed fit agrees ran fine.
      let all = recursion_from_All (PieceAgrees IsPlace IsLoad holds carries whole s) (state_piece c state ∷ event_piece c event load ∷ rest) agrees.each in
      let is = all.0 in
      let comes = all.1.0 in
      let does = placed.runs s state after event load puts is.0 comes.0 framed (subst (λ (d : Colour). fits frame d event load) (sym coloured) fit) is.1
      (subst (λ (d : Colour). PlaceAgrees whole s d is.0) (sym coloured) is.2) comes.1 (subst (λ (d : Colour). ComingAgrees whole s d event.handler event.arg comes.0) (sym coloured) comes.2)
      (let both = few IsPlace IsLoad holds carries whole placed.held placed.carriage opened log s c event load state after puts rest agrees is.0 is.1 comes.0 comes.1 in omega (arith, both)) ran fine in
      let place_there = subst (λ (d : Colour). IsPlace after (runs_place log (length whole) d is.0 event comes.0).place) coloured does.0 in
      let puts_there = subst (λ (d : Colour). ArePuts IsLoad puts (runs_place log (length whole) d is.0 event comes.0).puts) coloured does.1 in
      let same : log ≡ s.log = sym agrees.logs in
      let place_is = subst (λ (b : Bool). IsPlace after (runs_place b (length whole) c is.0 event comes.0).place) same place_there in
      let puts_are = subst (λ (b : Bool). ArePuts IsLoad puts (runs_place b (length whole) c is.0 event comes.0).puts) same puts_there in (
        puts_told IsPlace IsLoad holds carries whole placed.held placed.carriage opened log s c event load state after puts rest agrees is.0 is.1 is.2 comes.0 comes.1 comes.2 place_is puts_are,
        agrees_after IsPlace IsLoad holds carries whole placed.held placed.carriage opened log s c event load state after puts rest agrees is.0 is.1 is.2 comes.0 comes.1 comes.2 place_is puts_are,
      );
  spoilt_after = placed.spoilt_after;
}

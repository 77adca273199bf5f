-- The server agrees with the function at first, and so a whole run of it is the function's.
use Rattle.std.proofs.Common.{◌≡◌, ◌<◌, ◌≤◌, ◌+◌, ℕ, zero, suc, Bool, All, true, false, cond, eqb, List, [], ◌∷◌, Option, None, Some, length, arith, refl, sym, subst, ◌∙◌, inl, inr}
use Rattle.std.specs.Prelude.{sum_by, if◌then◌else◌}
use Rattle.std.specs.List.{AllByRecursion}
use Rattle.std.proofs.lemmas.Bool.{cases_eq, cond-true, cond-false, eq-eqb, ne_eqb}
use Rattle.std.proofs.lemmas.List.Sums.{sum_by-cons}
use Rattle.std.proofs.lemmas.List.Elements.{All-from_recursion}
use Rattle.mely_event.specs.declared.colour.Colour.{Colour}
use Rattle.mely_event.specs.declared.event.Event.{Event}
use Rattle.mely_event.specs.declared.trail.Trail.{Ghosts as TrailWords}
use Rattle.mely_history.specs.declared.setup.Setup.{Setup}
use Rattle.mely_history.specs.declared.shape.Shape.{Shape}
use Rattle.mely_history.specs.declared.entry.Entry.{Entry}
use Rattle.mely_worker.specs.declared.app.App.{Ghosts as AppWords}
use Rattle.sws_steps.specs.Logs.{Step}
use Rattle.mely_machine.specs.Rules.{Rules, rules_of}
use Rattle.mely_machine.specs.MachineRun.{RunsTo}
use Rattle.mely_run.specs.Pieces.{Piece, state_piece, event_piece}
use Rattle.mely_run.specs.Pieces.{kept_from}
use Rattle.mely_run.specs.WholeRuns.{IsWholeRun}
use Rattle.mely_run.proofs.Runs.WholeLemmas.{told_whole}
use Rattle.sws_weave.specs.Server.{initial_server, first_event, serve}
use Rattle.sws_weave.specs.ServerRun.{server_rules, IsRunOfPaths}
use Rattle.sws_handlers.specs.PathPlaces.{Load, world, Place, talking, logging, worlds_of_place, worlds_of_load}
use Rattle.sws_weave.specs.Openings.{AreOpened}
use Rattle.sws_weave.proofs.Model.Agrees.{PlaceAgrees, ComingAgrees, worlds_of, is_state_of, PieceAgrees, Agrees}
use Rattle.sws_weave.proofs.Model.Placed.{IsPlaced, initial_place, AreInitialPlacesBy}
use Rattle.sws_weave.proofs.Model.ToldLemmas.{server_told}

module _ {S P : Type 0} (IsPlace : S → Place → Type 0) (IsLoad : P → Load → Type 0) (holds : S → ℕ) (carries : P → ℕ) (log : Bool) (whole : List (List Step))
    (held : (state : S) (place : Place) → IsPlace state place → holds state ≡ worlds_of_place place) (carriage : (load : P) (l : Load) → IsLoad load l → carries load ≡ worlds_of_load (Some l)) where
  abbrev initial : ℕ → Place
  initial n = initial_place (length whole) n

  place_stands : (n : ℕ) → n < length whole + 3 → PlaceAgrees whole (initial_server log whole) (record { 0 = n }) (initial n)
  place_stands zero under = (refl, record { waiting = refl; last = refl; rests = refl; world = tt })
  place_stands (suc zero) under = refl
  place_stands (suc (suc i)) under = elim (cases_eq i (length whole)) [
    | inl last ↦
        subst (λ (b : Bool). PlaceAgrees whole (initial_server log whole) (record { 0 = suc (suc i) }) (if b then logging else talking None)) (sym (eq-eqb i (length whole) last))
        (let e : suc (suc i) ≡ length whole + 2 = omega (arith, last) in e)
    | inr apart ↦
        subst (λ (b : Bool). PlaceAgrees whole (initial_server log whole) (record { 0 = suc (suc i) }) (if b then logging else talking None)) (sym (ne_eqb i (length whole) apart))
        ((omega arith, let ne = apart in omega (arith, ne, under)), refl)
  ]

  no_world : (n : ℕ) → worlds_of_place (initial n) ≡ 0
  no_world zero = refl
  no_world (suc zero) = refl
  no_world (suc (suc i)) = by (eqb i (length whole))
    where
      by : (b : Bool) → worlds_of_place (if b then logging else talking None) ≡ 0
      by true = refl
      by false = refl

  abbrev states_of : ℕ → Piece S P → ℕ
  states_of c piece = cond (is_state_of c piece) 1 0

  head_place : (n : ℕ) (state : S) (states : List S) → AreInitialPlacesBy IsPlace (length whole) n (state ∷ states) → IsPlace state (initial n)
  head_place n state states first = subst (λ (k : ℕ). IsPlace state (initial k)) (let e : n + 0 ≡ n = omega arith in e) (first 0 state refl)

  tail_places : (n : ℕ) (state : S) (states : List S) → AreInitialPlacesBy IsPlace (length whole) n (state ∷ states) → AreInitialPlacesBy IsPlace (length whole) (n + 1) states
  tail_places n state states first i s at = subst (λ (k : ℕ). IsPlace s (initial k)) (let e : n + suc i ≡ (n + 1) + i = omega arith in e) (first (suc i) s at)

  kept_stand : (n : ℕ) (states : List S) → n + length states ≤ length whole + 3 → AreInitialPlacesBy IsPlace (length whole) n states → AllByRecursion (PieceAgrees IsPlace IsLoad holds carries whole (initial_server log whole)) (kept_from n states)
  kept_stand n [] few first = tt
  kept_stand n (state ∷ states) few first = ((initial n, head_place n state states first, place_stands n (omega (arith, few))), kept_stand (n + 1) states (omega (arith, few)) (tail_places n state states first))

  kept_worlds : (n : ℕ) (states : List S) → AreInitialPlacesBy IsPlace (length whole) n states → sum_by (worlds_of holds carries) (kept_from {S = S} {P = P} n states) ≡ 0
  kept_worlds n [] first = refl
  kept_worlds n (state ∷ states) first =
      let cut = sum_by-cons (worlds_of holds carries) (state_piece {S = S} {P = P} (record { 0 = n }) state) (kept_from (n + 1) states) in
      let none = held state (initial n) (head_place n state states first) ∙ no_world n in
      omega (arith, cut, none, kept_worlds (n + 1) states (tail_places n state states first))

  -- a colour below the first has no state, and each has one at most
  kept_below : (c n : ℕ) (states : List S) → c < n → sum_by (states_of c) (kept_from n states) ≡ 0
  kept_below c n [] low = refl
  kept_below c n (state ∷ states) low =
      let cut = sum_by-cons (states_of c) (state_piece (record { 0 = n }) state) (kept_from (n + 1) states) in
      let off = cond-false {A = ℕ} (eqb n c) 1 0 (ne_eqb n c (λ e. omega (arith, e, low))) in
      omega (arith, cut, off, kept_below c (n + 1) states (omega (arith, low)))

  kept_once : (c n : ℕ) (states : List S) → sum_by (states_of c) (kept_from n states) ≤ 1
  kept_once c n [] = omega arith
  kept_once c n (state ∷ states) =
      let cut = sum_by-cons (states_of c) (state_piece (record { 0 = n }) state) (kept_from (n + 1) states) in
      elim (cases_eq n c) [
        | inl e ↦
            let on = cond-true {A = ℕ} (eqb n c) 1 0 (eq-eqb n c e) in
            omega (arith, cut, on, kept_below c (n + 1) states (omega (arith, e)))
        | inr apart ↦
            let off = cond-false {A = ℕ} (eqb n c) 1 0 (ne_eqb n c apart) in
            omega (arith, cut, off, kept_once c (n + 1) states)
      ]

  -- what is posted first has the world, of which no link was accepted
  first_agrees : (states : List S) (load : P) → length states ≤ length whole + 3 → AreInitialPlacesBy IsPlace (length whole) 0 states → IsLoad load (world (record { accepted = 0; coming = whole }))
      → Agrees IsPlace IsLoad holds carries whole log (initial_server log whole) (event_piece (first_event (length whole)).0 (first_event (length whole)).1 (Some load) ∷ kept_from 0 states)
  first_agrees states load few first load_is = record {
    many = refl;
    logs = refl;
    each = All-from_recursion (PieceAgrees IsPlace IsLoad holds carries whole (initial_server log whole)) (event_piece (first_event (length whole)).0 (first_event (length whole)).1 (Some load) ∷ kept_from 0 states) (
      (Some (world (record { accepted = 0; coming = whole })), load_is, poll_stands (length whole) refl),
      kept_stand 0 states (omega (arith, few)) first,
    );
    one_world =
        let cut = sum_by-cons (worlds_of holds carries) (event_piece {S = S} (first_event (length whole)).0 (first_event (length whole)).1 (Some load)) (kept_from 0 states) in
        let one = carriage load (world (record { accepted = 0; coming = whole })) load_is in
        omega (arith, cut, one, kept_worlds 0 states first);
    one_state = λ c.
        let cut = sum_by-cons (states_of c) (event_piece (first_event (length whole)).0 (first_event (length whole)).1 (Some load)) (kept_from 0 states) in
        omega (arith, cut, kept_once c 0 states);
  }
    where
      poll_stands : (total : ℕ) → total ≡ length whole → ComingAgrees whole (initial_server log whole) (first_event total).0 (first_event total).1.handler (first_event total).1.arg (Some (world (record { accepted = 0; coming = whole })))
      poll_stands zero e = (refl, record { accepted = refl; coming = refl }, λ none. absurd (omega (arith, none)))
      poll_stands (suc more) e = (refl, record { accepted = refl; coming = refl }, λ none. omega (arith, e))

-- a whole run of the server on a scripted world is the function's, with its rules, where no
-- state is spoilt that is left
pub server_run : {S P F R : Type 0} {t : TrailWords S F} {fits : F → Colour → Event → Option P → Type 0} {y : AppWords R P S F} {app : R} {setup : Setup} {states : List S} {load : P} {schedule : List (ℕ × ℕ)} {histories : List (List Entry)} {left : List S}
    → (frame : F) (IsPlace : S → Place → Type 0) (IsLoad : P → Load → Type 0) (holds : S → ℕ) (carries : P → ℕ) (spoilt : S → Bool) (log : Bool) (whole : List (List Step)) → AreOpened whole
    → (placed : IsPlaced t fits y app frame IsPlace IsLoad holds carries spoilt log whole)
    → length states ≤ length whole + 3 → AreInitialPlacesBy IsPlace (length whole) 0 states → IsLoad load (world (record { accepted = 0; coming = whole }))
    → (run : IsWholeRun t fits y app setup states (first_event (length whole)).0 (first_event (length whole)).1 (Some load) schedule histories left) → t.frame_of run.posted.given ≡ frame → All (λ state. spoilt state ≡ false) left
    → (shape : Shape) → rules_of setup ≡ server_rules shape → IsRunOfPaths shape log whole schedule histories
server_run {t = t} {fits} {y} {app} {states = states} {load} {schedule} {histories} frame IsPlace IsLoad holds carries spoilt log whole opened placed few places load_is run framed fine shape ruled =
    subst (λ (rules : Rules). RunsTo rules serve (initial_server log whole) (first_event (length whole)) schedule histories) ruled
    (told_whole frame serve (Agrees IsPlace IsLoad holds carries whole log) spoilt (server_told t fits y app frame IsPlace IsLoad holds carries spoilt log whole opened placed) (initial_server log whole) run framed
    (first_agrees IsPlace IsLoad holds carries log whole placed.held placed.carriage states load few places load_is) fine)

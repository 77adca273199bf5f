-- A run on threads stands in the end: by the one order of all its runs, each of them keeps what stands.
use Rattle.std.proofs.Common.{◌≡◌, ℕ, zero, suc, Bool, List, [], ◌∷◌, ◌++◌, Option, Some, if◌then◌else◌, refl, sym, ◌∙◌, ap, subst, arith, inl, inr, eq-eqb}
use Rattle.std.proofs.lemmas.Bool.{cases_eq, ne_eqb}
use Rattle.std.proofs.lemmas.List.{map-append}
use Rattle.std.proofs.lemmas.List.Sums.{sum_by-append, sum_by-cons}
use Rattle.std.proofs.lemmas.Option.{same_Some}
use Rattle.std.specs.Prelude.{sum_by, slice_get, slice_set, ◌+◌, ◌≤◌}
use Rattle.std.specs.List.{AllByRecursion}
use Rattle.mely_event.specs.declared.colour.Colour.{Colour}
use Rattle.mely_event.specs.declared.event.Event.{Event}
use Rattle.mely_event.specs.declared.trail.Trail.{Ghosts as TrailWords}
use Rattle.mely_history.specs.declared.setup.Setup.{Setup}
use Rattle.mely_tally.specs.Account.{HandlerRun, IsRunOf}
use Rattle.mely_tally.specs.Tallies.{carried_by}
use Rattle.mely_weave.proofs.Entries.SideLemmas.{each_set, get_set_same, get_set_other}
use Rattle.mely_worker.specs.declared.app.App.{Ghosts as AppWords}
use Rattle.mely_cause.specs.Serial.{RanAsByOne, states_after}
use Rattle.mely_cause.proofs.SerialLawLemmas.{by_one}
use Rattle.sws_link.specs.declared.Link.{Ghosts as LinkWords}
use Rattle.sws_link.specs.declared.world.World.{Ghosts as WorldWords}
use Rattle.sws_steps.specs.declared.talk.Talk.{Ghosts as TalkWords}
use Rattle.sws_handlers.specs.declared.load.Load.{Load}
use Rattle.sws_handlers.specs.declared.place.Frame.{Frame}
use Rattle.sws_handlers.specs.Place.{PlaceState}
use Rattle.sws_handlers.specs.Loads.{Fit, at_first}
use Rattle.sws_handlers.specs.Handling.{Put, Runs}
use Rattle.sws_weave.specs.RunStands.{RunStands}
use Rattle.sws_weave.proofs.Runs.RunKeepsLemmas.{run_keeps}

-- ---- lists

-- an element's place in a list, where another may stand
record Cut {X : Type 0} (xs : List X) (k : ℕ) (was becomes : X) : Type 0 where
  pub front : List X
  pub back : List X
  pub before : xs ≡ front ++ (was ∷ []) ++ back
  pub after : slice_set xs k becomes ≡ front ++ (becomes ∷ []) ++ back

cut : {X : Type 0} (xs : List X) (k : ℕ) (was becomes : X) → slice_get xs k ≡ Some was → Cut xs k was becomes
cut [] k was becomes at = cc
cut (x ∷ xs) zero was becomes at = record { front = []; back = xs; before = ap (λ z. z ∷ xs) (same_Some x was at); after = refl }
cut (x ∷ xs) (suc k) was becomes at =
    let rest = cut xs k was becomes at in
    record { front = x ∷ rest.front; back = rest.back; before = ap (λ l. x ∷ l) rest.before; after = ap (λ l. x ∷ l) rest.after }

-- lists with the same elements are the same
same_by_get : {X : Type 0} (xs ys : List X) → ((k : ℕ) → slice_get xs k ≡ slice_get ys k) → xs ≡ ys
same_by_get [] [] same = refl
same_by_get [] (y ∷ ys) same = absurd (let none = same 0 in cc)
same_by_get (x ∷ xs) [] same = absurd (let none = same 0 in cc)
same_by_get (x ∷ xs) (y ∷ ys) same = ap (λ z. z ∷ xs) (same_Some x y (same 0)) ∙ ap (λ l. y ∷ l) (same_by_get xs ys (λ k. same (suc k)))

-- ---- what is under way

module _ {P : Type 0} (g : Event × Option P → ℕ) (front back puts : List (Colour × Event × Option P)) (one : Colour × Event × Option P) where
  sum_before : sum_by g (carried_by (front ++ one ∷ back)) ≡ sum_by g (carried_by front) + g (one.1, one.2) + sum_by g (carried_by back)
  sum_before =
      let joined = ap (sum_by g) (map-append (λ (put : Colour × Event × Option P). (put.1, put.2)) front (one ∷ back)) in
      let parts = sum_by-append g (carried_by front) (carried_by (one ∷ back)) in
      let first = sum_by-cons g (one.1, one.2) (carried_by back) in
      omega (arith, joined, parts, first)

  sum_after : sum_by g (carried_by (front ++ back ++ puts)) ≡ sum_by g (carried_by front) + sum_by g (carried_by back) + sum_by g (carried_by puts)
  sum_after =
      let joined = ap (sum_by g) (map-append (λ (put : Colour × Event × Option P). (put.1, put.2)) (front ++ back) puts) in
      let parts = sum_by-append g (carried_by (front ++ back)) (carried_by puts) in
      let first = ap (sum_by g) (map-append (λ (put : Colour × Event × Option P). (put.1, put.2)) front back) in
      let rest = sum_by-append g (carried_by front) (carried_by back) in
      omega (arith, joined, parts, first, rest)

  held : g (one.1, one.2) ≤ sum_by g (carried_by (front ++ one ∷ back))
  held = omega (arith, sum_before)

  ways : sum_by g (carried_by (front ++ back ++ puts)) + g (one.1, one.2) ≡ sum_by g (carried_by (front ++ one ∷ back)) + sum_by g (carried_by puts)
  ways = omega (arith, sum_before, sum_after)

-- ---- the runs

module _ {W L T G H R : Type 0} (x : WorldWords W L) (l : LinkWords L) (y : TalkWords T L G H) (t : TrailWords (PlaceState H W T) (Frame H W)) (fits : Frame H W → Colour → Event → Option (Load W L) → Type 0) (z : AppWords R (Load W L) (PlaceState H W T) (Frame H W)) (app : R)
    (frame_is : (s : PlaceState H W T) → t.frame_of s ≡ record { hall = s.hall; first = s.first })
    (colour_is : (s : PlaceState H W T) → t.colour_of s ≡ s.colour)
    (fits_is : (frame : Frame H W) (c : Colour) (event : Event) (carried : Option (Load W L)) → fits frame c event carried → Fit x l frame.first c event carried)
    (first : W) (log : Bool)
    (runs_is : (s : PlaceState H W T) (event : Event) (carried : Option (Load W L)) (becomes : PlaceState H W T) (puts : List (Put W L)) → z.runs app s event carried becomes puts → Runs x l y log (at_first x l first).total s event carried becomes puts)
    (setup : Setup) (frame : Frame H W) where
  abbrev Run : Type 0
  Run = HandlerRun (PlaceState H W T) (Load W L)

  abbrev total : ℕ
  total = (at_first x l first).total

  abbrev IsOurs : Run → Type 0
  IsOurs run = IsRunOf t fits z app setup frame run

  -- the states are those of a list, over the world that was given at first, of which the run stands
  -- with what is under way
  record Stands (states : Colour → Option (PlaceState H W T)) (under_way : List (Put W L)) : Type 0 where
    pub list : List (PlaceState H W T)
    pub is : (c : Colour) → states c ≡ slice_get list c.0
    pub over : (k : ℕ) (s : PlaceState H W T) → slice_get list k ≡ Some s → s.first ≡ first
    pub stands : RunStands y total list (carried_by under_way)

  -- the list has what the run leaves
  set_by : (states : Colour → Option (PlaceState H W T)) (list : List (PlaceState H W T)) (run : Run) → ((c : Colour) → states c ≡ slice_get list c.0) → states run.colour ≡ Some run.state → (c : Colour) → states_after states run c ≡ slice_get (slice_set list run.colour.0 run.becomes) c.0
  set_by states list run is at c = elim (cases_eq c.0 run.colour.0) [
    | inl same ↦ ap (λ own. if own then Some run.becomes else states c) (eq-eqb c.0 run.colour.0 same) ∙ sym (get_set_same list run.colour.0 run.state run.becomes (sym (is run.colour) ∙ at)) ∙ ap (slice_get (slice_set list run.colour.0 run.becomes)) (sym same)
    | inr apart ↦ ap (λ own. if own then Some run.becomes else states c) (ne_eqb c.0 run.colour.0 apart) ∙ is c ∙ sym (get_set_other list run.colour.0 c.0 run.becomes apart)
  ]

  keeps : (states : Colour → Option (PlaceState H W T)) (front back : List (Put W L)) (run : Run) → IsOurs run → states run.colour ≡ Some run.state → Stands states (front ++ (run.colour, run.event, run.load) ∷ back) → Stands (states_after states run) (front ++ back ++ run.puts)
  keeps states front back run ours at was =
      let there : slice_get was.list run.colour.0 ≡ Some run.state = sym (was.is run.colour) ∙ at in
      let place = cut was.list run.colour.0 run.state run.becomes there in
      let fit0 : Fit x l frame.first run.colour run.event run.load = fits_is frame run.colour run.event run.load ours.fit in
      let of_first = was.over run.colour.0 run.state there in
      let framed : frame.first ≡ first = ap (λ (f : Frame H W). f.first) (sym ours.framed ∙ frame_is run.state) ∙ of_first in
      let fit1 = subst (λ (w : W). Fit x l w run.colour run.event run.load) framed fit0 in
      let fit2 = subst (λ (c : Colour). Fit x l first c run.event run.load) (sym ours.coloured ∙ colour_is run.state) fit1 in
      let does = runs_is run.state run.event run.load run.becomes run.puts ours.ran in
      record {
        list = slice_set was.list run.colour.0 run.becomes;
        over = each_set (λ k (s : PlaceState H W T). s.first ≡ first) was.list run.colour.0 run.state run.becomes there was.over (does.first ∙ of_first);
        is = set_by states was.list run was.is at;
        stands = run_keeps x l y first was.list (slice_set was.list run.colour.0 run.becomes) (carried_by (front ++ (run.colour, run.event, run.load) ∷ back)) (carried_by (front ++ back ++ run.puts)) run.state run.becomes (run.event, run.load) run.puts
            (record { front = place.front; back = place.back; was = place.before; is = place.after; held = λ g. held g front back run.puts (run.colour, run.event, run.load); ways_are = λ g. ways g front back run.puts (run.colour, run.event, run.load) })
            was.stands fit2 log does;
      }

  -- where one thread might have made the runs, from states of which the run stands with what is under
  -- way at first, it stands of those that are left, with nothing under way
  pub crew_stands : (begin : Put W L) (firsts states : List (PlaceState H W T)) (runs : Colour → List Run) → RanAsByOne begin (λ c. slice_get firsts c.0) (λ c. slice_get states c.0) runs → ((c : Colour) → AllByRecursion IsOurs (runs c))
      → ((k : ℕ) (s : PlaceState H W T) → slice_get firsts k ≡ Some s → s.first ≡ first) → RunStands y total firsts (carried_by (begin ∷ [])) → RunStands y total states []
  crew_stands begin firsts states runs one are over first_stands =
      let last : Stands (λ c. slice_get states c.0) [] = by_one IsOurs Stands keeps begin (λ c. slice_get firsts c.0) (λ c. slice_get states c.0) runs one are (record { list = firsts; is = λ c. refl; over = over; stands = first_stands }) in
      subst (λ list. RunStands y total list []) (sym (same_by_get states last.list (λ k. last.is (record { 0 = k })))) last.stands

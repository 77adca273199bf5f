-- Where all workers have come to their end, one thread might have made the runs of all colours.
use Rattle.std.proofs.Common.{◌≡◌, ◌<◌, ◌≤◌, List, [], ◌∷◌, ◌++◌, Option, Some, None, if◌then◌else◌, refl, ◌∙◌, ap, ap₂, arith}
use Rattle.std.specs.List.{AllByRecursion, cons_option}
use Rattle.std.proofs.lemmas.Bool.{ne_eqb}
use Rattle.std.proofs.lemmas.List.Elements.{filter_map-append}
use Rattle.mely_event.specs.declared.colour.Colour.{Colour}
use Rattle.mely_event.specs.declared.event.Event.{Event}
use Rattle.mely_event.specs.declared.trail.Trail.{Ghosts as TrailWords}
use Rattle.mely_history.specs.declared.setup.Setup.{Setup}
use Rattle.mely_history.specs.Legal.{IsAllowed, IsLegal}
use Rattle.mely_history.specs.Setup.{colours_of}
use Rattle.mely_note.specs.declared.note.Note.{Note}
use Rattle.mely_note.specs.declared.note.Note.TheVariants.{Reg, Take, Fin, Steal}
use Rattle.mely_note.specs.Notes.{entries_of, entry_of, load_on, loaded_of}
use Rattle.mely_tally.specs.Account.{HandlerRun}
use Rattle.mely_worker.specs.declared.app.App.{Ghosts as AppWords}
use Rattle.mely_chain.proofs.MergeChainLemmas.{without_core}
use Rattle.mely_chain.proofs.MergeNotesLemmas.{legal_there, over_notes}
use Rattle.mely_chain.proofs.MergeOrderLemmas.{AllCome, colour_runs, in_order}
use Rattle.mely_chain.proofs.OrderLemmas.{IsRunOn, each_on}
use Rattle.mely_cause.specs.Causes.{AreCaused}
use Rattle.mely_cause.specs.Serial.{RanAsByOne}
use Rattle.mely_cause.proofs.SerialLemmas.{ran_as_by_one}

-- on a colour that there isn't, nothing is registered
module _ {S P : Type 0} (setup : Setup) (c : Colour) (beyond : colours_of setup ≤ c.0) where
  none_put : (note : Note S P) (before : List (Note S P)) → IsAllowed setup (entries_of before) (entry_of note) → load_on c note ≡ None
  none_put (Reg d event load by at) before may =
      let low = may.colour in
      ap (λ own. if own then Some (event, load.value) else None) (ne_eqb d.0 c.0 (λ same. absurd (omega (arith, low, same, beyond))))
  none_put (Take d core count at) before may = refl
  none_put (Fin d core count state at) before may = refl
  none_put (Steal d from to at) before may = refl

  pub none_loaded : (notes : List (Note S P)) → IsLegal setup (entries_of notes) → loaded_of notes c ≡ []
  none_loaded notes legal = over_notes notes (λ done. loaded_of done c ≡ []) refl
      (λ done after note is so. filter_map-append (load_on c) done (note ∷ []) ∙ ap₂ (λ l o. l ++ cons_option o []) so (none_put note done (legal_there setup notes done after note is legal).1))

none_of_all : {X : Type 0} (Holds : X → Type 0) (xs : List X) → ((x : X) → Holds x → ⊥) → AllByRecursion Holds xs → xs ≡ []
none_of_all Holds [] none all = refl
none_of_all Holds (x ∷ xs) none all = absurd (none x all.0)

all_of : {X : Type 0} (Holds Also : X → Type 0) (xs : List X) → ((x : X) → Holds x → Also x) → AllByRecursion Holds xs → AllByRecursion Also xs
all_of Holds Also [] each all = tt
all_of Holds Also (x ∷ xs) each all = (each x all.0, all_of Holds Also xs each all.1)

module _ {R S P F : Type 0} (t : TrailWords S F) (fits : F → Colour → Event → Option P → Type 0) (y : AppWords R P S F) (app : R) (setup : Setup) (frame : F) (given : Colour → Option S) (notes : Colour → List (Note S P))
    (begin : Colour × Event × Option P) (left : Colour → Option S) (by_core : List (List (HandlerRun S P))) (come : AllCome t fits y app setup frame given notes begin left by_core) where
  abbrev runs_of : Colour → List (HandlerRun S P)
  runs_of c = without_core (colour_runs t fits y app setup frame given notes begin left by_core come c)

  abbrev IsOn : Colour → HandlerRun S P → Type 0
  IsOn c run = IsRunOn t fits y app setup frame begin given left notes by_core (colour_runs t fits y app setup frame given notes begin left by_core come) (in_order t fits y app setup frame given notes begin left by_core come) c run

  on_each : (c : Colour) → AllByRecursion (IsOn c) (runs_of c)
  on_each c = each_on t fits y app setup frame begin given left notes by_core (colour_runs t fits y app setup frame given notes begin left by_core come) (in_order t fits y app setup frame given notes begin left by_core come) c

  -- the runs that all cores made might have been made by one thread, where their events have their
  -- causes, and each colour's state is left
  pub one_by_core : AreCaused begin (λ c. loaded_of (notes c) c) (λ c. without_core (colour_runs t fits y app setup frame given notes begin left by_core come c))
      → ((c : Colour) → c.0 < colours_of setup → (last : S) × (left c ≡ Some last))
      → ((c : Colour) → colours_of setup ≤ c.0 → left c ≡ given c)
      → RanAsByOne begin given left (λ c. without_core (colour_runs t fits y app setup frame given notes begin left by_core come c))
  one_by_core caused all_left beyond = ran_as_by_one begin given left (λ c. loaded_of (notes c) c) runs_of (colours_of setup) caused
      (in_order t fits y app setup frame given notes begin left by_core come).on_colour
      (λ c. all_of (IsOn c) (λ run. run.colour.0 ≡ c.0) (runs_of c) (λ run is. ap (λ (d : Colour). d.0) is.1) (on_each c))
      (λ c low. let first = come.all_given c low in let last = all_left c low in (first.0, last.0, first.1, last.1))
      (λ c high. (none_of_all (IsOn c) (runs_of c) (λ run is. let low = is.0.there in let same = ap (λ (d : Colour). d.0) is.1 in absurd (omega (arith, low, same, high))) (on_each c), none_loaded setup c high (notes c) (come.legal c), beyond c high))

-- What of the runs of a colour each core made.
use Rattle.std.proofs.Common.{◌≡◌, ℕ, ◌<◌, ◌==◌, Bool, true, false, List, [], ◌∷◌, ◌++◌, Option, Some, None, if◌then◌else◌, take, drop, refl, sym, ◌∙◌, ap, ap₂, subst, take-add, arith}
use Rattle.std.specs.Option.{option_or}
use Rattle.std.specs.List.{AllByRecursion}
use Rattle.std.proofs.lemmas.Bool.{eqb-true}
use Rattle.std.proofs.lemmas.List.{append-nil, take-append-drop}
use Rattle.std.proofs.lemmas.List.Elements.{filter_map-append}
use Rattle.std.proofs.lemmas.List.Sums.{fold-append}
use Rattle.mely_event.specs.declared.colour.Colour.{Colour}
use Rattle.mely_history.specs.declared.setup.Setup.{Setup}
use Rattle.mely_history.specs.Setup.{shape_of}
use Rattle.mely_history.specs.declared.entry.Entry.{Entry}
use Rattle.mely_history.specs.declared.entry.Entry.TheVariants as entries
use Rattle.mely_history.specs.Entries.{take_on}
use Rattle.mely_history.specs.History.{last_take}
use Rattle.mely_history.specs.Legal.{IsAllowed, IsLegal}
use Rattle.mely_history.proofs.LegalLemmas.{over_legal}
use Rattle.mely_history.proofs.LegalAccountLemmas.{owner_within}
use Rattle.mely_note.specs.declared.note.Note.{Note}
use Rattle.mely_note.specs.declared.note.Note.TheVariants.{Reg, Take, Fin, Steal}
use Rattle.mely_note.specs.Notes.{entries_of}
use Rattle.mely_tally.specs.Account.{HandlerRun}
use Rattle.mely_chain.specs.Told.{finished_by}
use Rattle.mely_chain.specs.InOrder.{made_by}
use Rattle.mely_chain.proofs.MergeNotesLemmas.{own_finish, finished-more, over_notes, legal_there}
use Rattle.mely_chain.proofs.MergeChainLemmas.{with_core, made-with, made-other, piece, chain_of, chain-push}

-- what holds of all of two lists
pub all-append : {X : Type 0} (Holds : X → Type 0) (xs ys : List X) → AllByRecursion Holds xs → AllByRecursion Holds ys → AllByRecursion Holds (xs ++ ys)
all-append Holds [] ys first second = second
all-append Holds (x ∷ xs) ys first second = (first.0, all-append Holds xs ys first.1 second)

module _ {S P : Type 0} (c : Colour) (runs : ℕ → List (HandlerRun S P)) where
  nothing_taken : {X : Type 0} (own : Bool) (xs : List X) → [] ≡ take (if own then 0 else 0) xs
  nothing_taken true xs = refl
  nothing_taken false xs = refl

  -- the next runs of a core are those of the turn that its note finished
  made_piece : (n : ℕ) (done : List (Note S P)) (note : Note S P) → made_by n (piece c runs done note) ≡ take (own_finish n c note) (drop (finished_by n done c) (runs n))
  made_piece n done (Reg colour event load by stamp) = nothing_taken (by == n) (drop (finished_by n done c) (runs n))
  made_piece n done (Take colour core count stamp) = nothing_taken (core == n) (drop (finished_by n done c) (runs n))
  made_piece n done (Steal colour from to stamp) = nothing_taken (to == n) (drop (finished_by n done c) (runs n))
  made_piece n done (Fin colour core count state stamp) = for (colour.0 == c.0) (core == n) refl where
    for : (own by : Bool) → (core == n) ≡ by → made_by n (if own then with_core core (take count (drop (finished_by core done c) (runs core))) else []) ≡ take (if by then (if own then count else 0) else 0) (drop (finished_by n done c) (runs n))
    for true true is = made-with core n (take count (drop (finished_by core done c) (runs core))) is ∙ ap (λ k. take count (drop (finished_by k done c) (runs k))) (eqb-true core n is)
    for true false is = made-other core n (take count (drop (finished_by core done c) (runs core))) is
    for false by is = nothing_taken by (drop (finished_by n done c) (runs n))

  -- a core's are the first of its runs, as many as it finished events
  pub made : (n : ℕ) (notes : List (Note S P)) → made_by n (chain_of c runs notes) ≡ take (finished_by n notes c) (runs n)
  made n notes = over_notes notes (λ done. made_by n (chain_of c runs done) ≡ take (finished_by n done c) (runs n)) refl
      (λ done after note is so.
      ap (λ l. made_by n l) (chain-push c runs done note)
      ∙ filter_map-append (λ run. if run.0 == n then Some run.1 else None) (chain_of c runs done) (piece c runs done note)
      ∙ ap₂ (λ xs ys. xs ++ ys) so (made_piece n done note)
      ∙ sym (take-add (finished_by n done c) (own_finish n c note) (runs n))
      ∙ ap (λ k. take k (runs n)) (sym (finished-more n done note c)))

  -- where none of them is of a turn that isn't finished, they are all of its runs
  pub made_all : (n : ℕ) (notes : List (Note S P)) → drop (finished_by n notes c) (runs n) ≡ [] → made_by n (chain_of c runs notes) ≡ runs n
  made_all n notes none =
      made n notes
      ∙ sym (append-nil (take (finished_by n notes c) (runs n)))
      ∙ ap (λ l. take (finished_by n notes c) (runs n) ++ l) (sym none)
      ∙ take-append-drop (finished_by n notes c) (runs n)

-- each take of a legal history is by a core
module _ (setup : Setup) (c : Colour) where
  abbrev TakersAreCores : Option (ℕ × ℕ) → Type 0
  TakersAreCores last = (core count : ℕ) → last ≡ Some (core, count) → core < (shape_of setup).cores

  taker_here : (core count : ℕ) (own : Bool) (last : Option (ℕ × ℕ)) → core < (shape_of setup).cores → TakersAreCores last → TakersAreCores (option_or (if own then Some (core, count) else None) last)
  taker_here core count true last low old = λ core' count' is.
      let same : core ≡ core' = ap (λ o. unwrapped o) is in
      omega (arith, low, same)
    where
      unwrapped : Option (ℕ × ℕ) → ℕ
      unwrapped None = core
      unwrapped (Some taken) = taken.0
  taker_here core count false last low old = old

  taker_next : (history : List Entry) (entry : Entry) → IsLegal setup history → IsAllowed setup history entry → TakersAreCores (last_take history c) → TakersAreCores (option_or (take_on c entry) (last_take history c))
  taker_next history (entries.Reg d event by) legal may old = old
  taker_next history (entries.Fin d core count) legal may old = old
  taker_next history (entries.Steal d from to) legal may old = old
  taker_next history (entries.Take d core count) legal may old =
      let owner = owner_within setup history d legal in
      let is = may.by_owner in
      taker_here core count (d.0 == c.0) (last_take history c) (omega (arith, owner, is)) old

  pub takers_below : (history : List Entry) → IsLegal setup history → TakersAreCores (last_take history c)
  takers_below = over_legal setup (λ history. TakersAreCores (last_take history c))
      (λ core count is. cc)
      (λ history entry legal may old. subst TakersAreCores (sym (fold-append (λ found each. option_or (take_on c each) found) None history (entry ∷ []))) (taker_next history entry legal may old))

module _ {S P : Type 0} (setup : Setup) (c : Colour) (runs : ℕ → List (HandlerRun S P)) (notes : List (Note S P)) (legal : IsLegal setup (entries_of notes)) where
  -- each finish of legal notes is by a core
  pub finishers_below : (done after : List (Note S P)) (d : Colour) (n count : ℕ) (state : _) (stamp : _) → notes ≡ done ++ Fin d n count state stamp ∷ after → n < (shape_of setup).cores
  finishers_below done after d n count state stamp is =
      let here = legal_there setup notes done after (Fin d n count state stamp) is legal in
      takers_below setup d (entries_of done) here.0 n count here.1.last

  abbrev AllByCores : List (ℕ × HandlerRun S P) → Type 0
  AllByCores all = AllByRecursion (λ run. run.0 < (shape_of setup).cores) all

  all_with : (n : ℕ) (part : List (HandlerRun S P)) → n < (shape_of setup).cores → AllByCores (with_core n part)
  all_with n [] low = tt
  all_with n (run ∷ part) low = (low, all_with n part low)

  piece_by_cores : (done after : List (Note S P)) (note : Note S P) → notes ≡ done ++ note ∷ after → AllByCores (piece c runs done note)
  piece_by_cores done after (Reg d event load by stamp) is = tt
  piece_by_cores done after (Take d core count stamp) is = tt
  piece_by_cores done after (Steal d from to stamp) is = tt
  piece_by_cores done after (Fin d core count state stamp) is = for (d.0 == c.0) where
    for : (own : Bool) → AllByCores (if own then with_core core (take count (drop (finished_by core done c) (runs core))) else [])
    for true = all_with core (take count (drop (finished_by core done c) (runs core))) (finishers_below done after d core count state stamp is)
    for false = tt

  pub by_cores : AllByCores (chain_of c runs notes)
  by_cores = over_notes notes (λ done. AllByCores (chain_of c runs done)) tt
      (λ done after note is so. subst AllByCores (sym (chain-push c runs done note)) (all-append (λ run. run.0 < (shape_of setup).cores) (chain_of c runs done) (piece c runs done note) so (piece_by_cores done after note is)))

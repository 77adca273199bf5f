-- What each core's runs are told to be gives the order of each colour's.
use Rattle.std.proofs.Common.{◌≡◌, ℕ, ◌<◌, ◌≤◌, ◌==◌, ◌∷◌, ◌++◌, false, List, [], Option, Some, length, take, drop, get_or, refl, sym, ◌∙◌, ap, subst, arith, inl, inr, cond, length-drop}
use Rattle.std.specs.List.{AllByRecursion, slice_get}
use Rattle.std.specs.declared.snapshot.Snapshot.{Snapshot}
use Rattle.std.proofs.lemmas.Bool.{cases_lt, ne_eqb}
use Rattle.std.proofs.lemmas.List.{append-nil, take_all, drop_all}
use Rattle.std.proofs.lemmas.Option.{slice_get-get_or, get_or_from_slice_get}
use Rattle.mely_event.specs.declared.colour.Colour.{Colour}
use Rattle.mely_event.specs.declared.event.Event.{Event}
use Rattle.mely_event.specs.declared.trail.Trail.{Ghosts as TrailWords}
use Rattle.mely_history.specs.declared.setup.Setup.{Setup}
use Rattle.mely_history.specs.Setup.{shape_of, colours_of}
use Rattle.mely_history.specs.History.{ended_of, begun_of, registered_of}
use Rattle.mely_history.specs.Legal.{IsLegal, IsDrainedOf}
use Rattle.mely_note.specs.declared.note.Note.{Note}
use Rattle.mely_note.specs.declared.note.Note.TheVariants.{Fin}
use Rattle.mely_note.specs.declared.stamp.Stamp.{Stamp}
use Rattle.mely_note.specs.Notes.{entries_of, loaded_of, home_of, notes_by}
use Rattle.mely_tally.specs.Account.{HandlerRun, IsRunOf, puts_left}
use Rattle.mely_worker.specs.declared.app.App.{Ghosts as AppWords}
use Rattle.mely_worker.specs.declared.phase.Phase.TheVariants.{Free}
use Rattle.mely_worker.specs.Worker.{WorkerState}
use Rattle.mely_chain.specs.Runs.{RunThrough, runs_on, puts_on, puts_of}
use Rattle.mely_chain.specs.Told.{CoreTold, TellOut, finished_by, turn_of}
use Rattle.mely_chain.specs.InOrder.{AreInOrder, made_by}
use Rattle.mely_chain.proofs.GrowthLemmas.{loaded-length}
use Rattle.mely_chain.proofs.MergeChainLemmas.{chain_of, without_core}
use Rattle.mely_chain.proofs.MergeThroughLemmas.{through, ended_loads}
use Rattle.mely_chain.proofs.MergeMadeLemmas.{made_all, finishers_below, by_cores}

-- where a colour is drained, all that was loaded of it was finished
pub drained_loads : {S P : Type 0} (notes : List (Note S P)) (c : Colour) → IsDrainedOf (entries_of notes) c → take (ended_of (entries_of notes) c) (loaded_of notes c) ≡ loaded_of notes c
drained_loads notes c drained =
    let many = loaded-length notes c in
    let rest = drained.at_rest in
    let left : length (registered_of (entries_of notes) c) ≤ begun_of (entries_of notes) c = none_behind (begun_of (entries_of notes) c) (registered_of (entries_of notes) c) drained.none_queued in
    take_all (ended_of (entries_of notes) c) (loaded_of notes c) (omega (arith, many, rest, left)) where
      none_behind : {X : Type 0} (n : ℕ) (xs : List X) → drop n xs ≡ [] → length xs ≤ n
      none_behind n xs none = let less = length-drop n xs in let zero = ap length none in omega (arith, less, zero)

-- no run of an app is on a colour beyond those of the setup
pub none_beyond : {R S P F : Type 0} (t : TrailWords S F) (fits : F → Colour → Event → Option P → Type 0) (y : AppWords R P S F) (app : R) (setup : Setup) (frame : F) (c : Colour) (runs : List (HandlerRun S P)) → colours_of setup ≤ c.0 → AllByRecursion (IsRunOf t fits y app setup frame) runs → runs_on c runs ≡ []
none_beyond t fits y app setup frame c [] high all = refl
none_beyond t fits y app setup frame c (run ∷ runs) high all =
    let there = all.0.there in
    let other : (run.colour.0 == c.0) ≡ false = ne_eqb run.colour.0 c.0 (λ same. omega (arith, same, there, high)) in
    ap (λ b. cond b (run ∷ runs_on c runs) (runs_on c runs)) other ∙ none_beyond t fits y app setup frame c runs high all.1

module _ {R S P F : Type 0} (t : TrailWords S F) (fits : F → Colour → Event → Option P → Type 0) (y : AppWords R P S F) (app : R) (setup : Setup) (frame : F) (given : Colour → Option S) (notes : Colour → List (Note S P)) where
  -- a worker that has come to its end is told these runs of, and was refused nothing
  pub record HasCome (n : ℕ) (runs : List (HandlerRun S P)) : Type 0 where
    pub worker : WorkerState S P
    pub told : CoreTold t fits y app setup frame given n notes worker runs
    pub place : ℕ
    pub free : worker.phase ≡ Free place
    pub none_lost : worker.lost ≡ []

  -- what is known of the whole, where all have come to their end
  pub record AllCome (begin : Colour × Event × Option P) (left : Colour → Option S) (by_core : List (List (HandlerRun S P))) : Type 0 where
    pub cores : length by_core ≡ (shape_of setup).cores
    pub each : (n : ℕ) (runs : List (HandlerRun S P)) → slice_get by_core n ≡ Some runs → HasCome n runs
    pub all_given : (c : Colour) → c.0 < colours_of setup → (first : S) × (given c ≡ Some first)
    pub legal : (c : Colour) → IsLegal setup (entries_of (notes c))
    pub drained : (c : Colour) → IsDrainedOf (entries_of (notes c)) c
    pub home : (c : Colour) (first last : S) → given c ≡ Some first → left c ≡ Some last → last ≡ home_of first (notes c) c
    pub begun : (c : Colour) → loaded_of (notes_by (shape_of setup).cores (notes c)) c ≡ puts_on c (begin ∷ [])
    pub no_other : (c : Colour) (n : ℕ) → (shape_of setup).cores < n → notes_by n (notes c) ≡ []

  module _ (begin : Colour × Event × Option P) (left : Colour → Option S) (by_core : List (List (HandlerRun S P))) (come : AllCome begin left by_core) where
    -- the runs of a core on a colour
    abbrev pub core_runs : Colour → ℕ → List (HandlerRun S P)
    core_runs c n = runs_on c (get_or by_core n [])

    -- the runs of a colour, with their cores
    abbrev pub colour_runs : Colour → List (ℕ × HandlerRun S P)
    colour_runs c = chain_of c (core_runs c) (notes c)

    there : (n : ℕ) → n < (shape_of setup).cores → slice_get by_core n ≡ Some (get_or by_core n [])
    there n low = let many = come.cores in slice_get-get_or by_core n [] (omega (arith, low, many))

    turn_told : (c : Colour) (first : S) → given c ≡ Some first → (done after : List (Note S P)) (n count : ℕ) (state : Snapshot S) (stamp : Snapshot Stamp) → notes c ≡ done ++ Fin c n count state stamp ∷ after → RunThrough (home_of first done c) (turn_of done c count) state.value (take count (drop (finished_by n done c) (core_runs c n)))
    turn_told c first is done after n count state stamp at =
        let low = finishers_below setup c (core_runs c) (notes c) (come.legal c) done after c n count state stamp at in
        (come.each n (get_or by_core n []) (there n low)).told.turns c first is done after count state stamp at

    on_colour : (c : Colour) (first last : S) → given c ≡ Some first → left c ≡ Some last → RunThrough first (loaded_of (notes c) c) last (without_core (colour_runs c))
    on_colour c first last is end =
        let all = through first c (core_runs c) setup (notes c) (come.legal c) (turn_told c first is) in
        subst (λ l. RunThrough first l last (without_core (colour_runs c))) (drained_loads (notes c) c (come.drained c))
        (subst (λ s. RunThrough first (ended_loads first c (core_runs c) (notes c)) s (without_core (colour_runs c))) (sym (come.home c first last is end)) all)

    -- no run of a core is of a turn that isn't finished
    none_out : (c : Colour) (n : ℕ) (runs : List (HandlerRun S P)) → HasCome n runs → drop (finished_by n (notes c) c) (runs_on c runs) ≡ []
    none_out c n runs here = elim (cases_lt c.0 (colours_of setup)) [
      | inl low ↦
          let first = come.all_given c low in
          subst (λ phase. TellOut first.0 n c (notes c) (runs_on c runs) phase) here.free (here.told.out c first.0 first.1)
      | inr high ↦
          let none = none_beyond t fits y app setup frame c runs high here.told.each in
          ap (drop (finished_by n (notes c) c)) none ∙ drop_all (finished_by n (notes c) c) [] (omega arith)
    ]

    of_core : (c : Colour) (n : ℕ) (runs : List (HandlerRun S P)) → slice_get by_core n ≡ Some runs → made_by n (colour_runs c) ≡ runs_on c runs
    of_core c n runs at =
        let same : core_runs c n ≡ runs_on c runs = ap (runs_on c) (get_or_from_slice_get by_core n runs [] at) in
        made_all c (core_runs c) n (notes c) (ap (drop (finished_by n (notes c) c)) same ∙ none_out c n runs (come.each n runs at)) ∙ same

    puts : (c : Colour) (n : ℕ) (runs : List (HandlerRun S P)) → slice_get by_core n ≡ Some runs → loaded_of (notes_by n (notes c)) c ≡ puts_on c (puts_of runs)
    puts c n runs at =
        let here = come.each n runs at in
        let none : puts_left here.worker.phase ≡ [] = ap (λ phase. puts_left phase) here.free in
        sym (append-nil (loaded_of (notes_by n (notes c)) c)) ∙ ap (λ l. loaded_of (notes_by n (notes c)) c ++ puts_on c l) (sym none) ∙ here.told.puts c here.none_lost

    -- the runs of each colour are in their order
    pub in_order : AreInOrder t fits y app setup frame begin given left notes by_core colour_runs
    in_order = record {
      cores = come.cores;
      each = λ n runs at. (come.each n runs at).told.each;
      on_colour = on_colour;
      of_core = of_core;
      by_cores = λ c. by_cores setup c (core_runs c) (notes c) (come.legal c);
      puts = puts;
      begun = come.begun;
      no_other = come.no_other;
    }

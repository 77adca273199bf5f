-- What a shard has in which nothing was noted: the states that it was given.
use Rattle.std.proofs.Common.{◌≡◌, ℕ, suc, List, [], ◌∷◌, Option, Some, None, map, refl, sym, ◌∙◌, ap, subst, arith, IfSome}
use Rattle.std.proofs.lemmas.Nat.{div-mul-add, mod-mul-add}
use Rattle.std.proofs.lemmas.Option.{slice_get_within}
use Rattle.std.specs.Prelude.{slice_get}
use Rattle.mely_event.specs.declared.colour.Colour.{Colour}
use Rattle.mely_event.specs.declared.event.Event.{Event}
use Rattle.mely_event.specs.declared.trail.Trail.{Ghosts as TrailWords}
use Rattle.mely_history.specs.declared.entry.Entry.{Entry}
use Rattle.mely_history.specs.History.{IsRunning}
use Rattle.mely_history.specs.Setup.{shape_of}
use Rattle.mely_note.specs.declared.note.Note.{Note}
use Rattle.mely_note.specs.Notes.{entries_of}
use Rattle.mely_note.specs.ShowsNotes.{ShowsNotes}
use Rattle.mely_shard.specs.Shard.{ShardState, ColourState, IsConsistent, IsOwn, HomeStands, colour_at, givens, lane_at}

none_runs : (c : Colour) → IsRunning [] c → ⊥
none_runs c runs = omega (arith, runs)

home_given : {S F : Type 0} (t : TrailWords S F) (history : List Entry) (c : Colour) (given : S) (state : Option S) → (IsRunning history c → ⊥) → HomeStands t history c given state → IfSome state (λ s. s ≡ given) → state ≡ Some given
home_given t history c given None rests stands shows = absurd (rests stands)
home_given t history c given (Some s) rests stands shows = ap (λ x. Some x) shows

-- the elements that are there
abbrev somes : {A : Type 0} → List (Option A) → List A
somes [] = []
somes (None ∷ xs) = somes xs
somes (Some x ∷ xs) = x ∷ somes xs

somes_all : {A : Type 0} (xs : List A) → somes (map (λ x. Some x) xs) ≡ xs
somes_all [] = refl
somes_all (x ∷ xs) = ap (λ rest. x ∷ rest) (somes_all xs)

module _ {S P : Type 0} where
  at_home : (lanes : List (ColourState S P)) → ((i : ℕ) (lane : ColourState S P) → slice_get lanes i ≡ Some lane → lane.state ≡ Some lane.given) → somes (map (λ lane. lane.state) lanes) ≡ map (λ lane. lane.given) lanes
  at_home [] each = refl
  at_home (lane ∷ lanes) each = ap (λ state. somes (state ∷ map (λ (l : ColourState S P). l.state) lanes)) (each 0 lane refl) ∙ ap (λ rest. lane.given ∷ rest) (at_home lanes (λ i l at. each (suc i) l at))

  module _ {F : Type 0} (t : TrailWords S F) (fits : F → Colour → Event → Option P → Type 0) (has : ShardState S P) (notes : List (Note S P)) (none : notes ≡ []) (kept : IsConsistent t fits has) (shows : ShowsNotes has notes) where
    no_entry : has.history ≡ []
    no_entry = shows.entries ∙ ap entries_of none

    -- no colour of it runs
    pub all_rest : (c : Colour) → IsOwn has c → IsRunning has.history c → ⊥
    all_rest c own runs = none_runs c (subst (λ h. IsRunning h c) no_entry runs)

    lane_given : (i : ℕ) (lane : ColourState S P) → slice_get has.lanes i ≡ Some lane → lane.state ≡ Some lane.given
    lane_given i lane at =
        let shards = (shape_of has.setup).shards in
        let c : Colour = colour_at has.setup has.shard i in
        let own : IsOwn has c = record { there = kept.only i (slice_get_within has.lanes i lane at); here = mod-mul-add i shards has.shard kept.numbered } in
        let there : lane_at has c ≡ Some lane = ap (slice_get has.lanes) (div-mul-add i shards has.shard kept.numbered) ∙ at in
        let shown : ShowsNotes has [] = subst (λ ns. ShowsNotes has ns) none shows in
        home_given t has.history c lane.given lane.state (all_rest c own) (kept.each c lane own there).state (shown.each c lane own there).home

    -- the states of its colours are those that it was given
    pub states_are_given : (states : List S) → map (λ state. Some state) states ≡ map (λ lane. lane.state) has.lanes → states ≡ givens has
    states_are_given states are = sym (somes_all states) ∙ ap somes are ∙ at_home has.lanes lane_given

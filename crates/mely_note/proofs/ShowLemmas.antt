-- The notes go on showing a shard over each of its calls.
use Rattle.std.proofs.Common.{◌≡◌, ℕ, zero, suc, ◌+◌, ◌*◌, ◌/◌, ◌%◌, ◌<◌, ◌≤◌, List, [], ◌∷◌, ◌++◌, Option, Some, None, length, drop, refl, sym, ◌∙◌, ap, subst, ⊎_elim, div-add-mod', IfSome}
use Rattle.std.specs.List.{slice_get}
use Rattle.std.specs.Prelude.{slice_set}
use Rattle.std.proofs.lemmas.Bool.{cases_eq}
use Rattle.mely_event.specs.declared.colour.Colour.{Colour}
use Rattle.mely_event.specs.declared.event.Event.{Event}
use Rattle.mely_history.specs.Setup.{shape_of, colours_of, place}
use Rattle.mely_history.specs.declared.setup.Setup.{Setup}
use Rattle.mely_history.specs.Entries.{colour_of}
use Rattle.mely_history.specs.declared.entry.Entry.TheVariants as entry
use Rattle.mely_history.specs.History.{registered_of, begun_of}
use Rattle.mely_history.specs.Legal.{IsLegal}
use Rattle.mely_history.proofs.LegalLemmas.{legal_front}
use Rattle.mely_history.proofs.LegalAccountLemmas.{begun_within}
use Rattle.mely_note.specs.declared.note.Note.{Note}
use Rattle.mely_note.specs.declared.note.Note.TheVariants.{Reg, Take, Fin, Steal}
use Rattle.mely_note.specs.Notes.{entry_of, entries_of}
use Rattle.mely_note.proofs.NoteLemmas.{entries_of-append, waiting_of-reg, waiting_of-take, waiting_of-fin, waiting_of-steal, waiting_of-other, home_of-reg, home_of-fin, home_of-steal, home_of-other}
use Rattle.mely_queue.specs.Turn.{TurnState}
use Rattle.mely_shard.specs.Shard.{ShardState, ColourState, IsOwn, lane_at, Registers, Takes, Finishes, KeepsAllButSpare}
use Rattle.mely_note.specs.Notes.{snapshot_of}
use Rattle.mely_note.specs.ShowsNotes.{IsUntouched, ShowsLane, ShowsNotes}

get_set_own : {A : Type 0} (xs : List A) (i : ℕ) (old new : A) → slice_get xs i ≡ Some old → slice_get (slice_set xs i new) i ≡ Some new
get_set_own [] i old new there = cc
get_set_own (x ∷ xs) zero old new there = refl
get_set_own (x ∷ xs) (suc i) old new there = get_set_own xs i old new there

get_set_other : {A : Type 0} (xs : List A) (i k : ℕ) (new : A) → (k ≡ i → ⊥) → slice_get (slice_set xs i new) k ≡ slice_get xs k
get_set_other [] i k new ne = refl
get_set_other (x ∷ xs) zero zero new ne = absurd (ne refl)
get_set_other (x ∷ xs) zero (suc k) new ne = refl
get_set_other (x ∷ xs) (suc i) zero new ne = refl
get_set_other (x ∷ xs) (suc i) (suc k) new ne = get_set_other xs i k new (λ same. ne (ap suc same))

-- two colours of a shard with one place are one
one_place : (setup : Setup) (shard : ℕ) (c d : Colour) → c.0 % (shape_of setup).shards ≡ shard → d.0 % (shape_of setup).shards ≡ shard → place setup d ≡ place setup c → d.0 ≡ c.0
one_place setup shard c d c_here d_here same =
    let n = (shape_of setup).shards in
    sym (div-add-mod' d.0 n) ∙ ap (λ k. k * n + d.0 % n) same ∙ ap (λ k. (c.0 / n) * n + k) (d_here ∙ sym c_here) ∙ div-add-mod' c.0 n

-- what a state at home is, and where it is not at home nothing is said
pub if_home : {S : Type 0} (state : Option S) (home : S) (Is : S → Type 0) → state ≡ Some home → IfSome state Is → Is home
if_home state home Is is says = let P : Option _ → Type 0 = λ o. IfSome o Is in subst P is says

if_along : {S : Type 0} (state : Option S) (a b : S) → a ≡ b → IfSome state (λ s. s ≡ a) → IfSome state (λ s. s ≡ b)
if_along (Some s) a b same is = is ∙ same
if_along None a b same is = is

module _ {S P : Type 0} where
  -- of a shard that nobody has touched there are no notes
  pub shows_first : (has : ShardState S P) → IsUntouched has → ShowsNotes has []
  shows_first has first = record {
    entries = first.no_entry;
    each = λ c lane own at.
        let is = first.each (place has.setup c) lane at in
        record {
          waits = ap (λ (l : ColourState S P). l.events) is;
          home = let AtHome : Option S → Type 0 = λ o. IfSome o (λ state. state ≡ lane.given) in subst AtHome (sym (ap (λ (l : ColourState S P). l.state) is)) refl;
        };
  }

  -- the lane of a colour has the same to show after a note of another colour
  shows_other : (notes : List (Note S P)) (note : Note S P) (c : Colour) (lane : ColourState S P) → ((colour_of (entry_of note)).0 ≡ c.0 → ⊥) → ShowsLane notes c lane → ShowsLane (notes ++ note ∷ []) c lane
  shows_other notes note c lane ne shows = record {
    waits = shows.waits ∙ sym (waiting_of-other notes note c ne);
    home = if_along lane.state _ _ (sym (home_of-other lane.given notes note c ne)) shows.home;
  }

  module _ (old new : ShardState S P) (notes : List (Note S P)) (shows : ShowsNotes old notes) where
    -- one note more, of a colour of the shard, and the lanes of the others are the same
    shows_grown : (note : Note S P) (c : Colour) → colour_of (entry_of note) ≡ c → IsOwn old c → new.setup ≡ old.setup → new.shard ≡ old.shard → new.history ≡ old.history ++ entry_of note ∷ []
        → ((i : ℕ) → (i ≡ place old.setup c → ⊥) → slice_get new.lanes i ≡ slice_get old.lanes i)
        → ((lane : ColourState S P) → slice_get new.lanes (place old.setup c) ≡ Some lane → ShowsLane (notes ++ note ∷ []) c lane)
        → ShowsNotes new (notes ++ note ∷ [])
    shows_grown note c of own same_setup same_shard grown others this = record {
      entries = grown ∙ ap (λ h. h ++ entry_of note ∷ []) shows.entries ∙ sym (entries_of-append notes (note ∷ []));
      each = λ d lane there at.
          let there_d : IsOwn old d = record { there = subst (λ s. d.0 < colours_of s) same_setup there.there; here = ap (λ s. d.0 % (shape_of s).shards) (sym same_setup) ∙ there.here ∙ same_shard } in
          let at_old : slice_get new.lanes (place old.setup d) ≡ Some lane = ap (λ s. slice_get new.lanes (place s d)) (sym same_setup) ∙ at in
          ⊎_elim
          (λ (same : d.0 ≡ c.0).
          let is : c ≡ d = ap (λ k. record { 0 = k }) (sym same) in
          subst (λ k. ShowsLane (notes ++ note ∷ []) k lane) is (this lane (ap (λ k. slice_get new.lanes (place old.setup k)) is ∙ at_old)))
          (λ (ne : d.0 ≡ c.0 → ⊥).
          let apart : place old.setup d ≡ place old.setup c → ⊥ = λ same. ne (one_place old.setup old.shard c d own.here there_d.here same) in
          shows_other notes note d lane (λ same. ne (sym same ∙ ap (λ k. k.0) of)) (shows.each d lane there_d (sym (others (place old.setup d) apart) ∙ at_old)))
          (cases_eq d.0 c.0);
    }

    -- nothing but the spare has changed
    pub shows_same : KeepsAllButSpare old new → ShowsNotes new notes
    shows_same keeps = record {
      entries = keeps.history ∙ shows.entries;
      each = λ d lane there at.
          shows.each d lane
          (record { there = subst (λ s. d.0 < colours_of s) keeps.same_setup there.there; here = ap (λ s. d.0 % (shape_of s).shards) (sym keeps.same_setup) ∙ there.here ∙ keeps.same_shard })
          (ap (λ ls. slice_get ls (place old.setup d)) (sym keeps.lanes) ∙ ap (λ s. slice_get new.lanes (place s d)) (sym keeps.same_setup) ∙ at);
    }

    -- the lane that was set is shown
    shows_set : (note : Note S P) (c : Colour) (before after : ColourState S P) → colour_of (entry_of note) ≡ c → IsOwn old c → lane_at old c ≡ Some before → new.setup ≡ old.setup → new.shard ≡ old.shard → new.history ≡ old.history ++ entry_of note ∷ []
        → new.lanes ≡ slice_set old.lanes (place old.setup c) after → ShowsLane (notes ++ note ∷ []) c after → ShowsNotes new (notes ++ note ∷ [])
    shows_set note c before after of own was same_setup same_shard grown set_is shown =
        shows_grown note c of own same_setup same_shard grown
        (λ i ne. ap (λ ls. slice_get ls i) set_is ∙ get_set_other old.lanes (place old.setup c) i after ne)
        (λ lane at.
        let now : Some after ≡ Some lane = sym (get_set_own old.lanes (place old.setup c) before after was) ∙ sym (ap (λ ls. slice_get ls (place old.setup c)) set_is) ∙ at in
        let is : after ≡ lane = cc in
        subst (ShowsLane (notes ++ note ∷ []) c) is shown)

    -- after a registration
    pub shows_registered : (c : Colour) (event : Event) (load : Option P) (by : ℕ) (at : _) → IsOwn old c → IsLegal new.setup new.history → Registers old new c event load by
        → ShowsNotes new (notes ++ Reg c event (snapshot_of load) by at ∷ [])
    shows_registered c event load by at own legal does =
        let legal_old : IsLegal new.setup old.history = legal_front new.setup old.history (entry.Reg c event by ∷ []) (subst (IsLegal new.setup) does.after.history legal) in
        let within = begun_within new.setup old.history c legal_old in
        let lane = shows.each c does.before own does.was in
        let fits : begun_of (entries_of notes) c ≤ length (registered_of (entries_of notes) c) = subst (λ h. begun_of h c ≤ length (registered_of h c)) shows.entries within in
        shows_set (Reg c event (snapshot_of load) by at) c does.before _ refl own does.was does.after.same_setup does.after.same_shard does.after.history does.after.lanes
        (record {
          waits = ap (λ es. es ++ (event, load) ∷ []) lane.waits ∙ sym (waiting_of-reg notes c event (snapshot_of load) by at fits);
          home = if_along does.before.state _ _ (sym (home_of-reg does.before.given notes c c event (snapshot_of load) by at)) lane.home;
        })

    -- after a take
    pub shows_taken : (c : Colour) (core : ℕ) (turn : TurnState S P) (at : _) → IsOwn old c → Takes old new c core turn → ShowsNotes new (notes ++ Take c core turn.count at ∷ [])
    shows_taken c core turn at own does =
        let lane = shows.each c does.before own does.was in
        shows_set (Take c core turn.count at) c does.before _ refl own does.was does.after.same_setup does.after.same_shard does.after.history does.after.lanes
        (record {
          waits = ap (drop turn.count) lane.waits ∙ sym (waiting_of-take notes c core turn.count at);
          home = tt;
        })

    -- after a finish
    pub shows_finished : (turn : TurnState S P) (at : _) → IsOwn old turn.colour → Finishes old new turn → ShowsNotes new (notes ++ Fin turn.colour turn.core turn.count (snapshot_of turn.state) at ∷ [])
    shows_finished turn at own does =
        let lane = shows.each turn.colour does.before own does.was in
        shows_set (Fin turn.colour turn.core turn.count (snapshot_of turn.state) at) turn.colour does.before _ refl own does.was does.after.same_setup does.after.same_shard does.after.history does.after.lanes
        (record {
          waits = lane.waits ∙ sym (waiting_of-fin notes turn.colour turn.colour turn.core turn.count (snapshot_of turn.state) at);
          home = sym (home_of-fin does.before.given notes turn.colour turn.core turn.count (snapshot_of turn.state) at);
        })

    -- after a steal
    pub shows_stolen : (c : Colour) (from to : ℕ) (at : _) → IsOwn old c → new.setup ≡ old.setup → new.shard ≡ old.shard → new.history ≡ old.history ++ entry_of (let note : Note S P = Steal c from to at in note) ∷ [] → new.lanes ≡ old.lanes → ShowsNotes new (notes ++ Steal c from to at ∷ [])
    shows_stolen c from to at own same_setup same_shard grown lanes =
        let note : Note S P = Steal c from to at in
        shows_grown note c refl own same_setup same_shard grown
        (λ i ne. ap (λ ls. slice_get ls i) lanes)
        (λ lane there.
        let shown = shows.each c lane own (sym (ap (λ ls. slice_get ls (place old.setup c)) lanes) ∙ there) in
        record {
          waits = shown.waits ∙ sym (waiting_of-steal notes c c from to at);
          home = if_along lane.state _ _ (sym (home_of-steal lane.given notes c c from to at)) shown.home;
        })

-- What the side of a core keeps over its calls.
use Rattle.std.proofs.Common.{◌≡◌, ℕ, ◌<◌, ◌≤◌, ◌⊎◌, List, [], ◌∷◌, ◌++◌, Option, Result, Ok, Err, length, take, min, sym, ◌∙◌, ap, subst, arith, inl, inr, ⊎_elim, MatchResult, IfOk, length-take}
use Rattle.std.proofs.lemmas.List.{length-map, take-map}
use Rattle.std.proofs.lemmas.Bool.{cases_eq}
use Rattle.mely_event.specs.declared.colour.Colour.{Colour}
use Rattle.mely_event.specs.declared.event.Event.{Event}
use Rattle.mely_event.specs.declared.unregistered.Unregistered.{Unregistered}
use Rattle.mely_event.specs.declared.trail.Trail.{Ghosts as TrailWords}
use Rattle.mely_history.specs.declared.setup.Setup.{Setup}
use Rattle.mely_history.specs.Setup.{shape_of}
use Rattle.mely_history.specs.declared.entry.Entry.TheVariants as entries
use Rattle.mely_history.specs.declared.registered.Registered.{Registered}
use Rattle.mely_history.specs.declared.registered.Registered.TheVariants.{Woke, Told, Running}
use Rattle.mely_history.specs.declared.no_take.NoTake.{NoTake}
use Rattle.mely_history.specs.declared.no_steal.NoSteal.{NoSteal}
use Rattle.mely_history.specs.declared.stolen.Stolen.{Stolen}
use Rattle.mely_history.specs.History.{queued_of, ran_of}
use Rattle.mely_history.specs.Legal.{IsLegal}
use Rattle.mely_history.specs.Owing.{IsOwed, IsOwnFinish}
use Rattle.mely_history.proofs.LegalLemmas.{legal_before}
use Rattle.mely_history.proofs.LegalAccountLemmas.{owner_within}
use Rattle.mely_history.proofs.OwingLemmas.{owed_more, owed_at_point, owed_taken, no_finish_reg, no_finish_take, no_finish_steal}
use Rattle.mely_queue.specs.Turn.{TurnState}
use Rattle.mely_lock.specs.Seen.{OthersSince}
use Rattle.mely_worker.specs.Access.{NamesCore, GivesBack, IsTaken, events_of}
use Rattle.mely_weave.specs.Side.{shard_of}
use Rattle.mely_note.specs.declared.note.Note.{Note}
use Rattle.mely_note.specs.declared.note.Note.TheVariants.{Reg, Take, Steal}
use Rattle.mely_note.specs.Notes.{entry_of, entries_of, noted_by, waiting_of}
use Rattle.mely_note.proofs.NoteLemmas.{events-waiting_of}
use Rattle.mely_kept.specs.Calls.{Notes, RegistersAt, TakesAt, IsGiven, StealsAt, IsSeen}
use Rattle.mely_note.specs.Notes.{snapshot_of}
use Rattle.mely_fleet.specs.Calls.{SeesAt, front_in, front_for}
use Rattle.mely_fleet.proofs.FrontLemmas.{others_of_entries, entries_more}

-- a core that the reply names is there
pub names_core : {S P : Type 0} (setup : Setup) (n : ℕ) (c : Colour) (event : Event) (load : Option P) (answer : Result Registered (Unregistered P)) (point after : List (Note S P)) → IsLegal setup (entries_of after) → RegistersAt setup n c event load answer point after → MatchResult answer (NamesCore setup) (GivesBack event load)
names_core setup n c event load (Err back) point after legal does = (does.1, does.2)
names_core setup n c event load (Ok (Running core)) point after legal does = tt
names_core setup n c event load (Ok (Woke core started worth)) point after legal does = subst (λ k. k < (shape_of setup).cores) (sym does.1.2) (owner_within setup (entries_of after) c legal)
names_core setup n c event load (Ok (Told core started worth)) point after legal does = subst (λ k. k < (shape_of setup).cores) (sym does.1.2) (owner_within setup (entries_of after) c legal)

-- a call of the pass n adds no note, or one that is no finish of the colour
abbrev pub AddsNoFinish : {S P : Type 0} → ℕ → Colour → List (Note S P) → List (Note S P) → Type 0
AddsNoFinish {S} {P} n c point after = (after ≡ point) ⊎ ((note : Note S P) × (after ≡ point ++ note ∷ []) × (IsOwnFinish n c (entry_of note) → ⊥))

module _ {S P : Type 0} where
  -- what is owed by what was seen is owed after the call
  owed_seen : (n : ℕ) (c : Colour) (setup : Setup) (front point after : List (Note S P)) (core count : ℕ) (trail : List Event) → OthersSince noted_by n front point → IsLegal setup (entries_of after) → AddsNoFinish n c point after → IsOwed n (entries_of front) c core count trail → IsOwed n (entries_of after) c core count trail
  owed_seen n c setup front point after core count trail others legal adds owed =
      let since = others_of_entries n front point others in
      let here : IsLegal setup (entries_of point) → IsOwed n (entries_of point) c core count trail = λ ok. subst (λ h. IsOwed n h c core count trail) (sym since.1) (owed_at_point n c setup (entries_of front) since.0 core count trail since.2 (subst (IsLegal setup) since.1 ok) owed) in
      ⊎_elim
      (λ (same : after ≡ point). subst (λ h. IsOwed n (entries_of h) c core count trail) (sym same) (here (subst (λ h. IsLegal setup (entries_of h)) same legal)))
      (λ (more : (note : Note S P) × (after ≡ point ++ note ∷ []) × (IsOwnFinish n c (entry_of note) → ⊥)).
      let one = entries_more point after more.0 more.1 in
      let last = legal_before setup (entries_of point) (entry_of more.0) (subst (IsLegal setup) one legal) in
      subst (λ h. IsOwed n h c core count trail) (sym one) (owed_more n c setup (entries_of point) (entry_of more.0) core count trail last.0 last.1 more.2 (here last.0)))
      adds

  -- what is owed stays owed
  pub owes_kept : (setup : Setup) (n g : ℕ) (before after : List (List (Note S P))) (Does : List (Note S P) → List (Note S P) → Type 0) → SeesAt setup n g before after Does → (c : Colour) → ((point : List (Note S P)) → Does point (front_in after g) → AddsNoFinish n c point (front_in after g)) → (core count : ℕ) (trail : List Event) → IsOwed n (entries_of (front_for setup before c)) c core count trail → IsOwed n (entries_of (front_for setup after c)) c core count trail
  owes_kept setup n g before after Does sees c adds core count trail owed =
      ⊎_elim
      (λ (same : shard_of setup c ≡ g). subst (λ k. IsOwed n (entries_of (front_in after k)) c core count trail) (sym same) (owed_seen n c setup (front_in before g) sees.seen.point (front_in after g) core count trail sees.seen.others sees.seen.legal (adds sees.seen.point sees.seen.does) (subst (λ k. IsOwed n (entries_of (front_in before k)) c core count trail) same owed)))
      (λ (other : shard_of setup c ≡ g → ⊥). subst (λ h. IsOwed n (entries_of h) c core count trail) (sym (sees.others (shard_of setup c) other)) owed)
      (cases_eq (shard_of setup c) g)

  pub registers_no_finish : (setup : Setup) (n : ℕ) (colour : Colour) (event : Event) (load : Option P) (answer : Result Registered (Unregistered P)) (c : Colour) (point after : List (Note S P)) → RegistersAt setup n colour event load answer point after → AddsNoFinish n c point after
  registers_no_finish setup n colour event load (Ok reply) c point after does = inr (Reg colour event (snapshot_of load) n does.0.0, does.0.1, no_finish_reg n c colour event n)
  registers_no_finish setup n colour event load (Err back) c point after does = inl does.0

  pub steals_no_finish : (setup : Setup) (n : ℕ) (colour : Colour) (answer : Result Stolen NoSteal) (c : Colour) (point after : List (Note S P)) → StealsAt setup n colour answer point after → AddsNoFinish n c point after
  steals_no_finish setup n colour (Ok stolen) c point after does = inr (Steal colour stolen.from n does.0.0, does.0.1, no_finish_steal n c colour stolen.from n)
  steals_no_finish setup n colour (Err why) c point after does = inl does.0

module _ {S P F : Type 0} (t : TrailWords S F) (fits : F → Colour → Event → Option P → Type 0) (setup : Setup) (f : F) (first : Option S) where
  pub takes_no_finish : (n : ℕ) (d : Colour) (answer : Result (TurnState S P) NoTake) (c : Colour) (point after : List (Note S P)) → TakesAt t fits setup f first n d answer point after → AddsNoFinish n c point after
  takes_no_finish n d (Ok turn) c point after does = inr (Take d n turn.count does.0.0, does.0.1, no_finish_take n c d n turn.count)
  takes_no_finish n d (Err why) c point after does = inl does.0

  -- as many events as the turn counts
  counted : (n : ℕ) (c : Colour) (turn : TurnState S P) (point : List (Note S P)) → IsGiven t fits setup f first point c n turn → (turn.count ≡ length turn.events) × (turn.count ≤ (shape_of setup).batch)
  counted n c turn point given =
      let many : turn.count ≡ min (shape_of setup).batch (length (queued_of (entries_of point) c)) = given.allowed.whole_batch in
      let events : length turn.events ≡ length (take turn.count (waiting_of point c)) = ap length given.events in
      let waits : length (waiting_of point c) ≡ length (queued_of (entries_of point) c) = sym (length-map (waiting_of point c) (λ (e : Event × Option P). e.0)) ∙ ap length (events-waiting_of point c) in
      (omega (arith, many, events, waits, length-take turn.count (waiting_of point c)), omega (arith, many))

  -- they are the first that are queued
  pub first_queued : (n : ℕ) (c : Colour) (turn : TurnState S P) (point : List (Note S P)) → IsGiven t fits setup f first point c n turn → events_of turn.events ≡ take turn.count (queued_of (entries_of point) c)
  first_queued n c turn point given = ap (λ es. events_of es) given.events ∙ sym (take-map (λ (e : Event × Option P). e.0) turn.count (waiting_of point c)) ∙ ap (take turn.count) (events-waiting_of point c)

  -- its finish is owed
  owed_given : (n : ℕ) (c : Colour) (turn : TurnState S P) (point after : List (Note S P)) → Notes (Take c n turn.count) point after → IsGiven t fits setup f first point c n turn → IsOwed n (entries_of after) c turn.core turn.count (t.trail_of turn.state ++ events_of turn.events)
  owed_given n c turn point after noted given =
      let history = entries_of point ++ entries.Take c n turn.count ∷ [] in
      subst (λ h. IsOwed n h c turn.core turn.count (t.trail_of turn.state ++ events_of turn.events)) (sym (entries_more point after (Take c n turn.count noted.0) noted.1))
      (subst (λ k. IsOwed n history c k turn.count (t.trail_of turn.state ++ events_of turn.events)) (sym given.of_core)
      (subst (λ es. IsOwed n history c n turn.count es) (sym (ap (λ es. es ++ events_of turn.events) given.trailed ∙ ap (λ es. ran_of (entries_of point) c ++ es) (first_queued n c turn point given))) (owed_taken n c setup (entries_of point) turn.count given.allowed)))

-- the turn that a take gives meets what the worker asks
pub is_taken : {A S P F : Type 0} (t : TrailWords S F) (fits : F → Colour → Event → Option P → Type 0) (setup_of : A → Setup) (core_of : A → ℕ) (frame_of : A → F) (first : Option S) (owes : A → Colour → ℕ → ℕ → List Event → Type 0) (a b : A) (c : Colour) (known : ℕ) (front after : List (Note S P)) (answer : Result (TurnState S P) NoTake)
    → IsSeen (setup_of a) (core_of a) known front after (TakesAt t fits (setup_of a) (frame_of a) first (core_of a) c answer) → ((core count : ℕ) (trail : List Event) → IsOwed (core_of a) (entries_of after) c core count trail → owes b c core count trail) → IfOk answer (IsTaken t fits setup_of core_of frame_of owes a b c)
is_taken t fits setup_of core_of frame_of first owes a b c known front after (Err why) seen owed = tt
is_taken t fits setup_of core_of frame_of first owes a b c known front after (Ok turn) seen owed =
    let given = seen.does.1 in
    let size = counted t fits (setup_of a) (frame_of a) first (core_of a) c turn seen.point given in
    let count_is : turn.count ≡ length turn.events = size.0 in
    record {
      colour = given.of_colour;
      core = given.of_core;
      count = size.0;
      few = omega (arith, count_is, size.1);
      of_colour = given.coloured;
      of_frame = given.framed;
      events_fit = given.fit;
      owed = owed turn.core turn.count _ (owed_given t fits (setup_of a) (frame_of a) first (core_of a) c turn seen.point after seen.does.0 given);
    }

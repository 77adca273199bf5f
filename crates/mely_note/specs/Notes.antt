-- What a list of notes says of a colour beside what its entries say: loads and states.
use Rattle.std.specs.Prelude.{◌==◌, ℕ, List, Option, None, Some, ◌≡◌, ◌<◌, [], ◌∷◌, ◌++◌, if◌then◌else◌, map, filter, filter_map, drop, fold, max, unwrap_or}
use Rattle.std.specs.declared.snapshot.Snapshot.{Snapshot}
use Rattle.mely_event.specs.declared.colour.Colour.{Colour}
use Rattle.mely_event.specs.declared.event.Event.{Event}
use Rattle.mely_history.specs.declared.entry.Entry.{Entry}
use Rattle.mely_history.specs.declared.entry.Entry.TheVariants as entries
use Rattle.mely_history.specs.Entries.{pass_of}
use Rattle.mely_history.specs.History.{begun_of}
use Rattle.mely_note.specs.declared.note.Note.{Note}
use Rattle.mely_note.specs.declared.note.Note.TheVariants.{Reg, Take, Fin, Steal}

-- a value as a note shows it
abbrev pub snapshot_of : {X : Type 0} → X → Snapshot X
snapshot_of x = record { marker = record {}; value = x }

-- the entry of a note: what is left without load and state
abbrev pub entry_of : {S P : Type 0} → Note S P → Entry
entry_of (Reg colour event load by at) = entries.Reg colour event by
entry_of (Take colour core count at) = entries.Take colour core count
entry_of (Fin colour core count state at) = entries.Fin colour core count
entry_of (Steal colour from to at) = entries.Steal colour from to

-- the entries of notes
abbrev pub entries_of : {S P : Type 0} → List (Note S P) → List Entry
entries_of notes = map entry_of notes

-- the number of the pass that made a note
abbrev pub noted_by : {S P : Type 0} → Note S P → ℕ
noted_by note = pass_of (entry_of note)

-- the stamp of a note
abbrev pub stamp_of : {S P : Type 0} → Note S P → ℕ
stamp_of (Reg colour event load by at) = at.value.number
stamp_of (Take colour core count at) = at.value.number
stamp_of (Fin colour core count state at) = at.value.number
stamp_of (Steal colour from to at) = at.value.number

-- the latest stamp of notes, and 0 where there are none
abbrev pub latest : {S P : Type 0} → List (Note S P) → ℕ
latest [] = 0
latest (note ∷ more) = max (stamp_of note) (latest more)

-- the latest stamp of what was seen of several histories
abbrev pub latest_in : {S P : Type 0} → List (List (Note S P)) → ℕ
latest_in [] = 0
latest_in (front ∷ more) = max (latest front) (latest_in more)

-- the stamps rise: that of each note is above those of all notes before it
abbrev pub Rise : {S P : Type 0} → List (Note S P) → Type 0
Rise {S} {P} notes = (before after : List (Note S P)) (note : Note S P)
    → notes ≡ before ++ note ∷ after → latest before < stamp_of note

-- the event that a note registers on a colour, with its load
abbrev pub load_on : {S P : Type 0} → Colour → Note S P → Option (Event × Option P)
load_on c (Reg colour event load by at) =
    if colour.0 == c.0 then Some (event, load.value) else None
load_on c (Take colour core count at) = None
load_on c (Fin colour core count state at) = None
load_on c (Steal colour from to at) = None

-- the state that a note brings home to a colour
abbrev pub state_on : {S P : Type 0} → Colour → Note S P → Option S
state_on c (Reg colour event load by at) = None
state_on c (Take colour core count at) = None
state_on c (Fin colour core count state at) = if colour.0 == c.0 then Some state.value else None
state_on c (Steal colour from to at) = None

-- the events that were registered on it with their loads, in order
abbrev pub loaded_of : {S P : Type 0} → List (Note S P) → Colour → List (Event × Option P)
loaded_of notes c = filter_map (load_on c) notes

-- its events that wait with their loads: those registered, without the first ones, which were taken
abbrev pub waiting_of : {S P : Type 0} → List (Note S P) → Colour → List (Event × Option P)
waiting_of notes c = drop (begun_of (entries_of notes) c) (loaded_of notes c)

-- its state while it rests, and while it runs its state before: what its last finish brought home,
-- and what was given where none did
abbrev pub home_of : {S P : Type 0} → S → List (Note S P) → Colour → S
home_of given notes c = fold (λ found note. unwrap_or (state_on c note) found) given notes

-- the notes of a pass
abbrev pub notes_by : {S P : Type 0} → ℕ → List (Note S P) → List (Note S P)
notes_by pass notes = filter (λ note. noted_by note == pass) notes

-- The runs of a core with their times: what the proofs on one core say to those that bring cores together.
use Rattle.std.proofs.Common.{◌≡◌, ℕ, ◌+◌, ◌<◌, ◌≤◌, ◌==◌, Bool, false, List, [], ◌∷◌, ◌++◌, Option, length, map, filter, take, drop}
use Rattle.std.specs.Prelude.{flat_map}
use Rattle.std.specs.List.{AllByRecursion}
use Rattle.std.specs.declared.snapshot.Snapshot.{Snapshot}
use Rattle.mely_event.specs.declared.colour.Colour.{Colour}
use Rattle.mely_event.specs.declared.event.Event.{Event}
use Rattle.mely_history.specs.History.{ended_of}
use Rattle.mely_note.specs.declared.note.Note.{Note}
use Rattle.mely_note.specs.declared.note.Note.TheVariants.{Reg, Take, Fin, Steal}
use Rattle.mely_note.specs.declared.stamp.Stamp.{Stamp}
use Rattle.mely_note.specs.Notes.{Rise, entries_of, loaded_of, notes_by, stamp_of}
use Rattle.mely_tally.specs.Account.{HandlerRun}
use Rattle.mely_chain.specs.Deeds.{Deed, noted, ran}
use Rattle.mely_chain.specs.Told.{finished_by}

-- a run, the stamp of the last note that its core had made before it, and the notes of what it put
pub record TimedRun (S P : Type 0) : Type 0 where
  pub run : HandlerRun S P
  pub at : ℕ
  pub regs : List (Note S P)

module _ {S P : Type 0} where
  -- the registrations with which deeds begin
  abbrev pub regs_first : List (Deed S P) → List (Note S P)
  regs_first [] = []
  regs_first (ran run ∷ more) = []
  regs_first (noted (Reg d event load by at) ∷ more) = Reg d event load by at ∷ regs_first more
  regs_first (noted (Take d core count at) ∷ more) = []
  regs_first (noted (Fin d core count state at) ∷ more) = []
  regs_first (noted (Steal d from to at) ∷ more) = []

  -- the runs among deeds with their times, where the last note before them had this stamp
  abbrev pub timed_of : ℕ → List (Deed S P) → List (TimedRun S P)
  timed_of last [] = []
  timed_of last (noted note ∷ more) = timed_of (stamp_of note) more
  timed_of last (ran run ∷ more) = record { run = run; at = last; regs = regs_first more } ∷ timed_of last more

  -- whether a note registers an event on the colour
  abbrev pub is_reg_on : Colour → Note S P → Bool
  is_reg_on c (Reg d event load by at) = d.0 == c.0
  is_reg_on c (Take d core count at) = false
  is_reg_on c (Fin d core count state at) = false
  is_reg_on c (Steal d from to at) = false

  -- the registrations on a colour among notes
  abbrev pub regs_on : Colour → List (Note S P) → List (Note S P)
  regs_on c notes = filter (is_reg_on c) notes

  -- of these runs those on a colour
  abbrev pub timed_on : Colour → List (TimedRun S P) → List (TimedRun S P)
  timed_on c timed = filter (λ r. r.run.colour.0 == c.0) timed

  -- the notes of what a run put are of that, in order
  abbrev pub AreOf : List (Note S P) → List (Colour × Event × Option P) → Type 0
  AreOf [] [] = Unit {0}
  AreOf [] (put ∷ puts) = ⊥
  AreOf (Reg d event load by at ∷ notes) [] = ⊥
  AreOf (Reg d event load by at ∷ notes) (put ∷ puts) = (d ≡ put.0) × (event ≡ put.1) × (load.value ≡ put.2) × AreOf notes puts
  AreOf (Take d core count at ∷ notes) puts = ⊥
  AreOf (Fin d core count state at ∷ notes) puts = ⊥
  AreOf (Steal d from to at ∷ notes) puts = ⊥

  -- a turn of the colour by core n, of so many events, that is finished by the next note, began so, and
  -- its runs, which are these, came behind its take and before its finish
  pub record TurnWas (n : ℕ) (c : Colour) (done : List (Note S P)) (count finish : ℕ) (runs : List (TimedRun S P)) : Type 0 where
    pub before : List (Note S P)
    pub since : List (Note S P)
    pub taken : Snapshot Stamp
    pub is : done ≡ before ++ Take c n count taken ∷ since
    pub quiet : (a b : List (Note S P)) (core many : ℕ) (state : Snapshot S) (at : Snapshot Stamp) → since ≡ a ++ Fin c core many state at ∷ b → ⊥
    pub registered : ended_of (entries_of done) c + count ≤ length (loaded_of before c)
    pub behind : AllByRecursion (λ r. taken.value.number ≤ r.at) runs
    pub ahead : AllByRecursion (λ r. AllByRecursion (λ m. stamp_of m < finish) r.regs) runs

  -- the runs of core n that has come to its end, with their times, by the notes of each colour's shard
  pub record CoreTimed (n : ℕ) (notes : Colour → List (Note S P)) (runs : List (HandlerRun S P)) (timed : List (TimedRun S P)) : Type 0 where
    pub are : map (λ r. r.run) timed ≡ runs
    pub regs : (c : Colour) → regs_on c (notes_by n (notes c)) ≡ flat_map (λ r. regs_on c r.regs) timed
    pub of_puts : AllByRecursion (λ r. AreOf r.regs r.run.puts) timed
    pub later : AllByRecursion (λ r. AllByRecursion (λ m. r.at < stamp_of m) r.regs) timed
    pub rise : Rise (flat_map (λ r. r.regs) timed)
    pub turns : (c : Colour) (done after : List (Note S P)) (count : ℕ) (state : Snapshot S) (at : Snapshot Stamp) → notes c ≡ done ++ Fin c n count state at ∷ after
        → TurnWas n c done count at.value.number (take count (drop (finished_by n done c) (timed_on c timed)))

-- What the notes of a shard say of a colour since a take, while the pass that took it made nothing but registrations.
use Rattle.std.proofs.Common.{◌≡◌, ℕ, ◌+◌, ◌≤◌, ◌==◌, List, [], ◌∷◌, ◌++◌, Option, Some, None, Bool, true, false, cond, length, if◌then◌else◌, refl, sym, ◌∙◌, ap, subst, arith, eq-eqb, append_assoc}
use Rattle.std.specs.List.{AllByRecursion, fold}
use Rattle.std.specs.Option.{option_or}
use Rattle.std.specs.declared.snapshot.Snapshot.{Snapshot}
use Rattle.std.proofs.lemmas.Bool.{eqb-true}
use Rattle.std.proofs.lemmas.List.{map-append}
use Rattle.std.proofs.lemmas.List.Sums.{sum_by-append, sum_by-cons, fold-append}
use Rattle.mely_event.specs.declared.colour.Colour.{Colour}
use Rattle.mely_history.specs.declared.setup.Setup.{Setup}
use Rattle.mely_history.specs.declared.entry.Entry.{Entry}
use Rattle.mely_history.specs.declared.entry.Entry.TheVariants as entries
use Rattle.mely_history.specs.Entries.{change_on, finished_on}
use Rattle.mely_history.specs.History.{ended_of}
use Rattle.mely_history.specs.Legal.{IsAllowed, IsLegal}
use Rattle.mely_history.specs.Owing.{last_change}
use Rattle.mely_history.proofs.LegalLemmas.{legal_before, legal_front}
use Rattle.mely_history.proofs.LegalAccountLemmas.{same_colour, taken_within}
use Rattle.mely_history.proofs.OwingLemmas.{running_on, owed_taken}
use Rattle.mely_note.specs.declared.note.Note.{Note}
use Rattle.mely_note.specs.declared.note.Note.TheVariants.{Reg, Take, Fin, Steal}
use Rattle.mely_note.specs.declared.stamp.Stamp.{Stamp}
use Rattle.mely_note.specs.Notes.{entry_of, entries_of, loaded_of, noted_by, notes_by}
use Rattle.mely_note.proofs.NoteLemmas.{entries_of-append, length-loaded_of}

same_first : (a b : ℕ × ℕ) → Some a ≡ Some b → a.0 ≡ b.0
same_first a b is = let same : a ≡ b = cc in ap (λ p. p.0) same

module _ {S P : Type 0} where
  -- a legal history of notes, cut at a note: the front is legal, and the note may follow it
  legal_at : (setup : Setup) (before : List (Note S P)) (note : Note S P) (after : List (Note S P)) → IsLegal setup (entries_of (before ++ note ∷ after)) → IsLegal setup (entries_of before) × IsAllowed setup (entries_of before) (entry_of note)
  legal_at setup before note after legal =
      let cut : entries_of (before ++ note ∷ after) ≡ (entries_of before ++ entry_of note ∷ []) ++ entries_of after = map-append entry_of before (note ∷ after) ∙ sym (append_assoc (entries_of before) (entry_of note ∷ []) (entries_of after)) in
      legal_before setup (entries_of before) (entry_of note) (legal_front setup (entries_of before ++ entry_of note ∷ []) (entries_of after) (subst (IsLegal setup) cut legal))

  -- a registration
  abbrev pub IsReg : Note S P → Type 0
  IsReg (Reg d event load by at) = Unit {0}
  IsReg (Take d core count at) = ⊥
  IsReg (Fin d core count state at) = ⊥
  IsReg (Steal d from to at) = ⊥

  module _ (n : ℕ) (c : Colour) where
    -- the note is no take, finish or steal of the colour by the pass
    abbrev pub IsQuiet : Note S P → Type 0
    IsQuiet note = change_on n c (entry_of note) ≡ None

    quiet_reg : (note : Note S P) → IsReg note → IsQuiet note
    quiet_reg (Reg d event load by at) reg = refl
    quiet_reg (Take d core count at) reg = absurd reg
    quiet_reg (Fin d core count state at) reg = absurd reg
    quiet_reg (Steal d from to at) reg = absurd reg

    quiet_other : (note : Note S P) → (noted_by note == n) ≡ false → IsQuiet note
    quiet_other (Reg d event load by at) not = refl
    quiet_other (Take d core count at) not = rw not refl
    quiet_other (Fin d core count state at) not = rw not refl
    quiet_other (Steal d from to at) not = rw not refl

    -- so are all, where those of the pass are registrations
    pub all_quiet : (notes : List (Note S P)) → AllByRecursion IsReg (notes_by n notes) → AllByRecursion IsQuiet notes
    all_quiet [] all = tt
    all_quiet (note ∷ notes) all = for (noted_by note == n) refl (all_quiet notes) all where
      for : (own : Bool) → (noted_by note == n) ≡ own → (AllByRecursion IsReg (notes_by n notes) → AllByRecursion IsQuiet notes) → AllByRecursion IsReg (cond own (note ∷ notes_by n notes) (notes_by n notes)) → IsQuiet note × AllByRecursion IsQuiet notes
      for true is rest all = (quiet_reg note all.0, rest all.1)
      for false not rest all = (quiet_other note not, rest all)

    quiet_front : (a b : List (Note S P)) → AllByRecursion IsQuiet (a ++ b) → AllByRecursion IsQuiet a
    quiet_front [] b all = tt
    quiet_front (note ∷ a) b all = (all.0, quiet_front a b all.1)

    quiet_there : (a : List (Note S P)) (note : Note S P) (b : List (Note S P)) → AllByRecursion IsQuiet (a ++ note ∷ b) → IsQuiet note
    quiet_there [] note b all = all.0
    quiet_there (x ∷ a) note b all = quiet_there a note b all.1

    -- the last change of the colour by the pass stays the same
    change_kept : (notes since : List (Note S P)) → AllByRecursion IsQuiet since → last_change n c (entries_of (notes ++ since)) ≡ last_change n c (entries_of notes)
    change_kept notes since all = ap (last_change n c) (entries_of-append notes since) ∙ fold-append (λ found e. option_or (change_on n c e) found) None (entries_of notes) (entries_of since) ∙ over (last_change n c (entries_of notes)) since all where
      over : (found : Option Entry) (since : List (Note S P)) → AllByRecursion IsQuiet since → fold (λ found e. option_or (change_on n c e) found) found (entries_of since) ≡ found
      over found [] all = refl
      over found (note ∷ since) all = ap (λ o. fold (λ found e. option_or (change_on n c e) found) (option_or o found) (entries_of since)) all.0 ∙ over found since all.1

    -- nobody finishes the colour
    pub none_finishes : (setup : Setup) (before since : List (Note S P)) (count : ℕ) (taken : Snapshot Stamp) → IsLegal setup (entries_of (before ++ Take c n count taken ∷ since)) → AllByRecursion IsQuiet since
        → (a b : List (Note S P)) (core many : ℕ) (state : Snapshot S) (at : Snapshot Stamp) → since ≡ a ++ Fin c core many state at ∷ b → ⊥
    none_finishes setup before since count taken legal quiet a b core many state at is =
        let take : Note S P = Take c n count taken in
        let fin : Note S P = Fin c core many state at in
        let here : List (Note S P) = (before ++ take ∷ []) ++ a in
        let cut : before ++ take ∷ since ≡ here ++ fin ∷ b = ap (λ l. before ++ take ∷ l) is ∙ sym (append_assoc before (take ∷ []) (a ++ fin ∷ b)) ∙ sym (append_assoc (before ++ take ∷ []) a (fin ∷ b)) in
        let first = legal_at setup before take since legal in
        let last = legal_at setup here fin b (subst (λ l. IsLegal setup (entries_of l)) cut legal) in
        let all = subst (AllByRecursion IsQuiet) is quiet in
        let took : last_change n c (entries_of here) ≡ Some (entries.Take c n count) = change_kept (before ++ take ∷ []) a (quiet_front a (fin ∷ b) all) ∙ ap (last_change n c) (entries_of-append before (take ∷ [])) ∙ (owed_taken n c setup (entries_of before) count first.1).taken in
        let runs = running_on n c setup (entries_of here) last.0 n count took in
        let same : core ≡ n = same_first (core, many) (n, count) (sym last.1.last ∙ runs.1) in
        let none : change_on n c (entry_of fin) ≡ None = quiet_there a fin b all in
        let some : change_on n c (entry_of fin) ≡ Some (entries.Fin c core many) = rw (eq-eqb core n same, eq-eqb c.0 c.0 refl) refl in
        let wrong : None ≡ Some (entries.Fin c core many) = sym none ∙ some in
        cc

    -- so nothing of it is finished
    ended_none : (notes : List (Note S P)) → ((a b : List (Note S P)) (core many : ℕ) (state : Snapshot S) (at : Snapshot Stamp) → notes ≡ a ++ Fin c core many state at ∷ b → ⊥) → ended_of (entries_of notes) c ≡ 0
    ended_none [] none = refl
    ended_none (note ∷ notes) none =
        let first = one note (λ core many state at is. none [] notes core many state at (ap (λ x. x ∷ notes) is)) in
        let rest = ended_none notes (λ a b core many state at is. none (note ∷ a) b core many state at (ap (λ l. note ∷ l) is)) in
        let both = sum_by-cons (finished_on c) (entry_of note) (entries_of notes) in
        omega (arith, first, rest, both)
      where
        one : (note : Note S P) → ((core many : ℕ) (state : Snapshot S) (at : Snapshot Stamp) → note ≡ Fin c core many state at → ⊥) → finished_on c (entry_of note) ≡ 0
        one (Reg d event load by at) none = refl
        one (Take d core count at) none = refl
        one (Steal d from to at) none = refl
        one (Fin d core count state at) none = for (d.0 == c.0) refl where
          for : (own : Bool) → (d.0 == c.0) ≡ own → (if own then count else 0) ≡ 0
          for true is = absurd (none core count state at (ap (λ e. Fin e core count state at) (same_colour d c (eqb-true d.0 c.0 is))))
          for false is = refl

    -- all events of the turn had been registered before the take
    pub turn_registered : (setup : Setup) (before since : List (Note S P)) (count : ℕ) (taken : Snapshot Stamp) → IsLegal setup (entries_of (before ++ Take c n count taken ∷ since)) → AllByRecursion IsQuiet since → ended_of (entries_of (before ++ Take c n count taken ∷ since)) c + count ≤ length (loaded_of before c)
    turn_registered setup before since count taken legal quiet =
        let take : Note S P = Take c n count taken in
        let may = (legal_at setup before take since legal).1 in
        let within = (taken_within setup (entries_of before) c count may.ready.waiting may.whole_batch).1 in
        let rest = may.ready.at_rest in
        let loads = length-loaded_of before c in
        let none = ended_none since (none_finishes setup before since count taken legal quiet) in
        let all : ended_of (entries_of (before ++ take ∷ since)) c ≡ ended_of (entries_of before) c + ended_of (entries_of (take ∷ since)) c = ap (λ h. ended_of h c) (entries_of-append before (take ∷ since)) ∙ sum_by-append (finished_on c) (entries_of before) (entries_of (take ∷ since)) in
        let more = sum_by-cons (finished_on c) (entry_of take) (entries_of since) in
        omega (arith, within, rest, loads, none, all, more)

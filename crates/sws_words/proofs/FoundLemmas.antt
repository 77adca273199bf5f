-- What is read of the rows once the defaults are there, and a command's words read through them.
use Rattle.std.proofs.Common.{◌≡◌, ◌∙◌, ◌⊎◌, ◌&&◌, Bool, true, false, List, [], ◌∷◌, ◌++◌, Option, Some, None, refl, sym, ap, subst, inl, inr, true≢false, codes}
use Rattle.std.specs.Prelude.{◌||◌, if◌then◌else◌, option_and_then, is_some, fold, find, IfSome, ⊤}
use Rattle.std.specs.Str.{bytes_eq}
use Rattle.std.proofs.lemmas.Slice.Eq.{bytes_eq-Decides}
use Rattle.clap.specs.Walk.{Row, Rule, Text, has_row, with_default, more_values, nothing_held, walk, finished, row_text, reading_by}
use Rattle.clap.specs.Simple.{Shape}
use Rattle.clap.specs.Faults.{built_fault, check_fault}
use Rattle.clap.specs.declared.builder.value_parser.Reading.TheVariants.{AsWritten}
use Rattle.clap.specs.declared.error.kind.ErrorKind.TheVariants as kind
use Rattle.clap.specs.declared.parser.matches.ValueSource.TheVariants.{DefaultValue}
use Rattle.sws_words.specs.Grammar.{Given, Known, place, option, flag, is_among, given_by, given_of, each_once, places, has_flag}
use Rattle.sws_words.proofs.Clap.ClapStepLemmas.{idle_at}
use Rattle.sws_words.proofs.Clap.ClapWalkLemmas.{unless, clap_rows, add_all}
use Rattle.sws_words.proofs.GivenRows.{AllKnown, AreOthers, at_end, fits, given_row, other_name, rows_of, same_name}
use Rattle.sws_words.proofs.TakenLemmas.{TakeDefaults, all_known, alone, checked, taken}

-- ---- names of a list

abbrev pub EachOf : (Text → Type 0) → List Text → Type 0
EachOf P [] = ⊤
EachOf P (name ∷ names) = P name × EachOf P names

pub each_named : (P : Text → Type 0) (names : List Text) → EachOf P names → (name : Text) → is_among name names ≡ true → P name
each_named P [] all name e = absurd (true≢false (sym e))
each_named P (n ∷ names) all name e = by_name (each_named P names all.1 name) (bytes_eq n name) refl e
  where
    by_name : (is_among name names ≡ true → P name) → (b : Bool) → bytes_eq n name ≡ b → (b || is_among name names) ≡ true → P name
    by_name later true h t = subst P ((bytes_eq-Decides n name).0 h) all.0
    by_name later false h t = later t

pub none_named : (names : List Text) (name : Text) → is_among name names ≡ false → EachOf (λ n. bytes_eq n name ≡ false) names
none_named [] name e = tt
none_named (n ∷ names) name e = by_name (none_named names name) (bytes_eq n name) refl e
  where
    by_name : (is_among name names ≡ false → EachOf (λ m. bytes_eq m name ≡ false) names) → (b : Bool) → bytes_eq n name ≡ b → (b || is_among name names) ≡ false
        → EachOf (λ m. bytes_eq m name ≡ false) (n ∷ names)
    by_name later true h t = absurd (true≢false t)
    by_name later false h t = (h, later t)

-- ---- rows with defaults

-- the row of a name
abbrev pub row_at : Text → List Row → Option Row
row_at name rows = find (λ r. bytes_eq r.id name) rows

row_kept : (name : Text) (r : Row) → bytes_eq r.id name ≡ false → (rows : List Row) → row_at name (rows ++ r ∷ []) ≡ row_at name rows
row_kept name r e [] = rw e refl
row_kept name r e (x ∷ rows) = by_name (bytes_eq x.id name) refl (row_kept name r e rows)
  where
    by_name : (b : Bool) → bytes_eq x.id name ≡ b → row_at name (rows ++ r ∷ []) ≡ row_at name rows → row_at name (x ∷ (rows ++ r ∷ [])) ≡ row_at name (x ∷ rows)
    by_name true h later = rw h refl
    by_name false h later = rw h later

row_last : (name : Text) (r : Row) → bytes_eq r.id name ≡ true → (rows : List Row) → row_at name rows ≡ None → row_at name (rows ++ r ∷ []) ≡ Some r
row_last name r e [] none = rw e refl
row_last name r e (x ∷ rows) none = by_name (bytes_eq x.id name) refl (row_last name r e rows) none
  where
    by_name : (b : Bool) → bytes_eq x.id name ≡ b → (row_at name rows ≡ None → row_at name (rows ++ r ∷ []) ≡ Some r)
        → (if b then Some x else row_at name rows) ≡ None → row_at name (x ∷ (rows ++ r ∷ [])) ≡ Some r
    by_name true h later n = absurd (true≢false (ap is_some n))
    by_name false h later n = rw h (later n)

has_row_at : (name : Text) (rows : List Row) → has_row name rows ≡ is_some (row_at name rows)
has_row_at name [] = refl
has_row_at name (x ∷ rows) = by_name (bytes_eq x.id name) refl (has_row_at name rows)
  where
    by_name : (b : Bool) → bytes_eq x.id name ≡ b → has_row name rows ≡ is_some (row_at name rows) → has_row name (x ∷ rows) ≡ is_some (row_at name (x ∷ rows))
    by_name true h later = rw h refl
    by_name false h later = rw h later

-- a rule without default, or of another name
abbrev pub Leaves : Text → Rule → Type 0
Leaves name a = (a.defaults ≡ []) ⊎ (bytes_eq a.id name ≡ false)

abbrev pub has_any : List Text → Bool
has_any [] = false
has_any (x ∷ xs) = true

default_leaves : (name : Text) (rows : List Row) (a : Rule) → Leaves name a → row_at name (with_default rows a) ≡ row_at name rows
default_leaves name rows a leaves = by_row (has_row a.id rows) a.defaults refl refl leaves
  where
    by_row : (b : Bool) (defaults : List Text) → has_row a.id rows ≡ b → a.defaults ≡ defaults → (a.defaults ≡ []) ⊎ (bytes_eq a.id name ≡ false)
        → row_at name (with_default rows a) ≡ row_at name rows
    by_row true defaults h d l = rw h refl
    by_row false [] h d l = rw (h, d) refl
    by_row false (v ∷ vs) h d (inl e) = absurd (true≢false (ap has_any (sym d ∙ e)))
    by_row false (v ∷ vs) h d (inr n) =
        let last : Row = record { id = a.id; values = v ∷ vs; count = None; source = Some DefaultValue; reading = reading_by a } in
        rw (h, d) (ap (row_at name) (at_end a.id (more_values DefaultValue (v ∷ vs)) (last ∷ []) rows h) ∙ row_kept name last n rows)

abbrev pub AllLeave : Text → List Rule → Type 0
AllLeave name [] = ⊤
AllLeave name (a ∷ rules) = Leaves name a × AllLeave name rules

pub defaults_leave : (name : Text) (rules : List Rule) (rows : List Row) → AllLeave name rules → row_at name (fold with_default rows rules) ≡ row_at name rows
defaults_leave name [] rows all = refl
defaults_leave name (a ∷ rules) rows all = defaults_leave name rules (with_default rows a) all.1 ∙ default_leaves name rows a all.0

-- ---- flags

abbrev flag_row : Text → Bool → Option Row
flag_row name t = if t then Some (given_row name (codes "true")) else None

pub first_flag : (known : Known) (names : List Text) (name : Text) → AreOthers name names → is_among name known.options ≡ false
    → (given : List Given) → AllKnown known given → row_at name (rows_of names given) ≡ flag_row name (has_flag name given)
first_flag known names name others isnt [] is = refl
first_flag known [] name others isnt (place word ∷ rest) is = first_flag known [] name others isnt rest is.1
first_flag known (n ∷ names) name others isnt (place word ∷ rest) is =
    rw (same_name n name ∙ others.0) (first_flag known names name others.1 isnt rest is.1)
first_flag known names name others isnt (option n v ∷ rest) is =
    rw (other_name known.options n name is.0 isnt) (first_flag known names name others isnt rest is.1)
first_flag known names name others isnt (flag n ∷ rest) is = by_name (bytes_eq n name) refl (first_flag known names name others isnt rest is.1)
  where
    by_name : (b : Bool) → bytes_eq n name ≡ b → row_at name (rows_of names rest) ≡ flag_row name (has_flag name rest)
        → row_at name (rows_of names (flag n ∷ rest)) ≡ flag_row name (has_flag name (flag n ∷ rest))
    by_name true h later = rw h (ap (λ m. Some (given_row m (codes "true"))) ((bytes_eq-Decides n name).0 h))
    by_name false h later = rw h later

-- what a flag's row says, with its default
abbrev pub flag_text : Bool → Text
flag_text t = if t then codes "true" else codes "false"

pub flag_default : (name : Text) (a : Rule) (rows : List Row) (t : Bool) → a.id ≡ name → a.defaults ≡ codes "false" ∷ [] → reading_by a ≡ AsWritten
    → row_at name rows ≡ flag_row name t → option_and_then row_text (row_at name (with_default rows a)) ≡ Some (flag_text t)
flag_default name a rows t id defaults reading at = by_flag t at
  where
    by_flag : (t : Bool) → row_at name rows ≡ flag_row name t → option_and_then row_text (row_at name (with_default rows a)) ≡ Some (flag_text t)
    by_flag true e =
        let there : has_row a.id rows ≡ true = ap (λ n. has_row n rows) id ∙ has_row_at name rows ∙ ap is_some e in
        rw there (ap (option_and_then row_text) e)
    by_flag false e =
        let none : has_row a.id rows ≡ false = ap (λ n. has_row n rows) id ∙ has_row_at name rows ∙ ap is_some e in
        let last : Row = record { id = a.id; values = codes "false" ∷ []; count = None; source = Some DefaultValue; reading = reading_by a } in
        let same : bytes_eq a.id name ≡ true = (bytes_eq-Decides a.id name).1 id in
        rw (none, defaults) (
        ap (λ rs. option_and_then row_text (row_at name rs)) (at_end a.id (more_values DefaultValue (codes "false" ∷ [])) (last ∷ []) rows none)
        ∙ ap (option_and_then row_text) (row_last name last same rows e)
        ∙ ap (λ how. Some (Rattle.clap.specs.Values.read_as how (codes "false"))) reading)

-- ---- a whole command

pub checked_by : (s : Shape) (rows : List Row) (w : Bool)
    → check_fault s (fold with_default rows s.rules) false ≡ (if w then kind.MissingRequiredArgument ∷ [] else [])
    → checked s rows ≡ (if w then None else Some (fold with_default rows s.rules))
checked_by s rows true e = ap (λ k. unless k (Some (fold with_default rows s.rules))) e
checked_by s rows false e = ap (λ k. unless k (Some (fold with_default rows s.rules))) e

-- the rows of all that is given, where each is given once and there are no more words than places
abbrev pub rows_once : List Text → List Given → Option (List Row)
rows_once names given = if fits names (places given) && each_once given then Some (rows_of names given) else None

-- the words, as the grammar reads them, are read of the rows that `clap` finds
pub command_reads : {X : Type 0} (s : Shape) (known : Known) (names : List Text) (by : List Given → Option X) (at : List Row → Option X) (words : List Text)
    → clap_rows s (idle_at nothing_held 1) words ≡ option_and_then (add_all s (Some []) 1) (given_by known None words)
    → TakeDefaults s.rules
    → ((given : List Given) → AllKnown known given → add_all s (Some []) 1 given ≡ rows_once names given)
    → ((given : List Given) → AllKnown known given → (if each_once given then by given else None) ≡ option_and_then at (option_and_then (checked s) (rows_once names given)))
    → option_and_then by (given_of known words)
    ≡ option_and_then at (unless (built_fault (alone s) nothing_held words) (Some (finished s.rules (walk s.rules [] nothing_held words).held)))
command_reads s known names by at words reads defaults adds alike =
    by_given (given_by known None words) (all_known known words)
    ∙ sym (ap (option_and_then at) (taken s defaults words ∙ ap (option_and_then (checked s)) reads))
  where
    once : (given : List Given) (b : Bool) → option_and_then by (if b then Some given else None) ≡ (if b then by given else None)
    once given true = refl
    once given false = refl

    by_given : (o : Option (List Given)) → IfSome o (AllKnown known)
        → option_and_then by (option_and_then (λ given. if each_once given then Some given else None) o)
        ≡ option_and_then at (option_and_then (checked s) (option_and_then (add_all s (Some []) 1) o))
    by_given None is = refl
    by_given (Some given) is =
        once given (each_once given) ∙ alike given is ∙ ap (λ rows. option_and_then at (option_and_then (checked s) rows)) (sym (adds given is))

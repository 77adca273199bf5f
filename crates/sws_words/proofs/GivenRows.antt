-- The rows that things given one by one make: each of its own name, and no more
-- places than the command has.
use Rattle.std.proofs.Common.{◌≡◌, ◌∙◌, ◌&&◌, ◌+◌, ℕ, Bool, true, false, not, List, [], ◌∷◌, ◌++◌, Option, Some, None, refl, sym, ap, ap₂, min, true≢false, append-nil, append_assoc, codes}
use Rattle.std.specs.Prelude.{◌||◌, if◌then◌else◌, option_and_then, is_some, ⊤}
use Rattle.std.specs.List.{list_any}
use Rattle.std.specs.Str.{bytes_eq}
use Rattle.std.proofs.lemmas.Slice.Eq.{bytes_eq-Decides}
use Rattle.std.proofs.lemmas.List.Folds.{list_any-append}
use Rattle.clap.specs.Lexer.{usize_max}
use Rattle.clap.specs.Walk.{Row, Rule, Text, at_row, more_values, with_values, without, has_row, first_of, arg_by_index, arg_by_long}
use Rattle.clap.specs.Simple.{Shape}
use Rattle.clap.specs.Takes.{is_given}
use Rattle.clap.specs.Kinds.{or_else}
use Rattle.clap.specs.Faults.{repeat_fault}
use Rattle.clap.specs.declared.builder.value_parser.Reading.TheVariants.{AsWritten}
use Rattle.clap.specs.declared.parser.matches.ValueSource.TheVariants.{CommandLine}
use Rattle.sws_words.specs.Grammar.{Given, Known, place, option, flag, is_among, is_named, each_once, places, value_of}
use Rattle.sws_words.proofs.Clap.ClapWalkLemmas.{unless, add, add_all, none_added, no_rule}

-- ---- one more row

-- the row of a value in the words
abbrev pub given_row : Text → Text → Row
given_row name value = record { id = name; values = value ∷ []; count = None; source = Some CommandLine; reading = AsWritten }

-- the rows with one more, where none has its name
abbrev pub with_new : Text → Text → List Row → Option (List Row)
with_new name value rows = if has_row name rows then None else Some (rows ++ given_row name value ∷ [])

pub at_end : (id : Text) (change : Row → List Row) (missing rows : List Row) → has_row id rows ≡ false → at_row id change missing rows ≡ rows ++ missing
at_end id change missing [] e = refl
at_end id change missing (r ∷ rs) e = by_row (at_end id change missing rs) (bytes_eq r.id id) refl e
  where
    by_row : (has_row id rs ≡ false → at_row id change missing rs ≡ rs ++ missing)
        → (b : Bool) → bytes_eq r.id id ≡ b → (b || has_row id rs) ≡ false → at_row id change missing (r ∷ rs) ≡ r ∷ (rs ++ missing)
    by_row later true h n = absurd (true≢false n)
    by_row later false h n = rw h (ap (λ xs. r ∷ xs) (later n))

pub one_more : (id value : Text) (rows : List Row)
    → unless (or_else (repeat_fault false id rows) []) (Some (with_values id AsWritten CommandLine (value ∷ []) (without id rows))) ≡ with_new id value rows
one_more id value rows = by_row (has_row id rows) refl
  where
    by_row : (b : Bool) → has_row id rows ≡ b
        → unless (or_else (repeat_fault false id rows) []) (Some (with_values id AsWritten CommandLine (value ∷ []) (without id rows))) ≡ with_new id value rows
    by_row true h = rw h refl
    by_row false h =
        let kept : without id rows ≡ rows = at_end id (λ _. []) [] rows h ∙ append-nil rows in
        let grown : with_values id AsWritten CommandLine (value ∷ []) (without id rows) ≡ rows ++ given_row id value ∷ [] =
        ap (with_values id AsWritten CommandLine (value ∷ [])) kept ∙ at_end id (more_values CommandLine (value ∷ [])) (given_row id value ∷ []) rows h in
        rw h (ap (λ r. Some r) grown)

-- ---- all that is given

abbrev pub AddsValue : Shape → Option Rule → Text → Type 0
AddsValue s a name = (value : Text) (rows : List Row) → add s a (value ∷ []) (Some rows) ≡ with_new name value rows

abbrev pub AddsFlag : Shape → Option Rule → Text → Type 0
AddsFlag s a name = (rows : List Row) → add s a [] (Some rows) ≡ with_new name (codes "true") rows

-- the names of the places from this one on
abbrev pub HasPlaces : Shape → ℕ → List Text → Type 0
HasPlaces s p [] = arg_by_index s.rules p ≡ None
HasPlaces s p (name ∷ names) = AddsValue s (arg_by_index s.rules p) name × HasPlaces s (min (p + 1) usize_max) names

abbrev pub IsKnown : Known → Given → Type 0
IsKnown known (place word) = ⊤
IsKnown known (option name value) = is_among name known.options ≡ true
IsKnown known (flag name) = is_among name known.flags ≡ true

abbrev pub AllKnown : Known → List Given → Type 0
AllKnown known [] = ⊤
AllKnown known (g ∷ rest) = IsKnown known g × AllKnown known rest

abbrev at_place : List Text → (Text → List Text → Option (List Row)) → Option (List Row)
at_place [] then_ = None
at_place (name ∷ names) then_ = then_ name names

abbrev rows_with : List Row → List Text → List Given → Option (List Row)
rows_with rows names [] = Some rows
rows_with rows names (place word ∷ rest) = at_place names (λ name others. option_and_then (λ more. rows_with more others rest) (with_new name word rows))
rows_with rows names (option name value ∷ rest) = option_and_then (λ more. rows_with more names rest) (with_new name value rows)
rows_with rows names (flag name ∷ rest) = option_and_then (λ more. rows_with more names rest) (with_new name (codes "true") rows)

module _ (s : Shape) (known : Known)
    (options : (name : Text) → is_among name known.options ≡ true → AddsValue s (arg_by_long s.rules name) name)
    (flags : (name : Text) → is_among name known.flags ≡ true → AddsFlag s (arg_by_long s.rules name) name) where
  then_all : (rest : List Given) (names : List Text) (p : ℕ) → ((more : List Row) → add_all s (Some more) p rest ≡ rows_with more names rest)
      → (o : Option (List Row)) → add_all s o p rest ≡ option_and_then (λ more. rows_with more names rest) o
  then_all rest names p later None = none_added s p rest
  then_all rest names p later (Some more) = later more

  adds_all : (given : List Given) → AllKnown known given → (rows : List Row) (names : List Text) (p : ℕ) → HasPlaces s p names
      → add_all s (Some rows) p given ≡ rows_with rows names given
  adds_all [] is rows names p at = refl
  adds_all (place word ∷ rest) is rows [] p at =
      ap (λ o. add_all s (add s o (word ∷ []) (Some rows)) (min (p + 1) usize_max) rest) at ∙ no_rule s (word ∷ []) (Some rows) (min (p + 1) usize_max) rest
  adds_all (place word ∷ rest) is rows (name ∷ names) p at =
      let next = min (p + 1) usize_max in
      ap (λ o. add_all s o next rest) (at.0 word rows)
      ∙ then_all rest names next (λ more. adds_all rest is.1 more names next at.1) (with_new name word rows)
  adds_all (option name value ∷ rest) is rows names p at =
      ap (λ o. add_all s o p rest) (options name is.0 value rows)
      ∙ then_all rest names p (λ more. adds_all rest is.1 more names p at) (with_new name value rows)
  adds_all (flag name ∷ rest) is rows names p at =
      ap (λ o. add_all s o p rest) (flags name is.0 rows)
      ∙ then_all rest names p (λ more. adds_all rest is.1 more names p at) (with_new name (codes "true") rows)

-- ---- when each is new

-- no more words than places
abbrev pub fits : List Text → List Text → Bool
fits names [] = true
fits [] (word ∷ words) = false
fits (name ∷ names) (word ∷ words) = fits names words

abbrev initial : List Row → List Given → Bool
initial rows [] = true
initial rows (place word ∷ rest) = initial rows rest
initial rows (option name value ∷ rest) = not (has_row name rows) && initial rows rest
initial rows (flag name ∷ rest) = not (has_row name rows) && initial rows rest

abbrev place_row : List Text → Text → (List Text → List Row) → List Row
place_row [] word rest = rest []
place_row (name ∷ names) word rest = given_row name word ∷ rest names

abbrev pub rows_of : List Text → List Given → List Row
rows_of names [] = []
rows_of names (place word ∷ rest) = place_row names word (λ others. rows_of others rest)
rows_of names (option name value ∷ rest) = given_row name value ∷ rows_of names rest
rows_of names (flag name ∷ rest) = given_row name (codes "true") ∷ rows_of names rest

pub same_name : (a b : Text) → bytes_eq a b ≡ bytes_eq b a
same_name a b = by_test (bytes_eq a b) (bytes_eq b a) refl refl
  where
    by_test : (x y : Bool) → bytes_eq a b ≡ x → bytes_eq b a ≡ y → x ≡ y
    by_test true true e f = refl
    by_test false false e f = refl
    by_test true false e f = absurd (true≢false (sym ((bytes_eq-Decides b a).1 (sym ((bytes_eq-Decides a b).0 e))) ∙ f))
    by_test false true e f = absurd (true≢false (sym ((bytes_eq-Decides a b).1 (sym ((bytes_eq-Decides b a).0 f))) ∙ e))

-- a name that the list has is not one that it hasn't
pub other_name : (names : List Text) (a b : Text) → is_among a names ≡ true → is_among b names ≡ false → bytes_eq a b ≡ false
other_name names a b is isnt = by_test (bytes_eq a b) refl
  where
    by_test : (t : Bool) → bytes_eq a b ≡ t → t ≡ false
    by_test false e = refl
    by_test true e = absurd (true≢false (sym is ∙ ap (λ n. is_among n names) ((bytes_eq-Decides a b).0 e) ∙ isnt))

grown_row : (o name value : Text) (rows : List Row) → has_row o (rows ++ given_row name value ∷ []) ≡ (has_row o rows || (bytes_eq name o || false))
grown_row o name value rows = list_any-append (λ r. bytes_eq r.id o) rows (given_row name value ∷ [])

none_of_both : (h b f l : Bool) → (not (h || (b || false)) && (f && not l)) ≡ ((not h && f) && not (b || l))
none_of_both true b f l = refl
none_of_both false true true l = refl
none_of_both false true false l = refl
none_of_both false false f l = refl

initial_more : (name value : Text) (rows : List Row) (rest : List Given)
    → initial (rows ++ given_row name value ∷ []) rest ≡ (initial rows rest && not (list_any (is_named name) rest))
initial_more name value rows [] = refl
initial_more name value rows (place word ∷ rest) = initial_more name value rows rest
initial_more name value rows (option o v ∷ rest) =
    ap₂ (λ h f. not h && f) (grown_row o name value rows ∙ ap (λ b. has_row o rows || (b || false)) (same_name name o)) (initial_more name value rows rest)
    ∙ none_of_both (has_row o rows) (bytes_eq o name) (initial rows rest) (list_any (is_named name) rest)
initial_more name value rows (flag o ∷ rest) =
    ap₂ (λ h f. not h && f) (grown_row o name value rows ∙ ap (λ b. has_row o rows || (b || false)) (same_name name o)) (initial_more name value rows rest)
    ∙ none_of_both (has_row o rows) (bytes_eq o name) (initial rows rest) (list_any (is_named name) rest)

not_named : (known : Known) (name : Text) → is_among name known.options ≡ false → is_among name known.flags ≡ false
    → (given : List Given) → AllKnown known given → list_any (is_named name) given ≡ false
not_named known name o f [] is = refl
not_named known name o f (place word ∷ rest) is = not_named known name o f rest is.1
not_named known name o f (option n v ∷ rest) is =
    ap₂ (λ a b. a || b) (other_name known.options n name is.0 o) (not_named known name o f rest is.1)
not_named known name o f (flag n ∷ rest) is =
    ap₂ (λ a b. a || b) (other_name known.flags n name is.0 f) (not_named known name o f rest is.1)

-- the names of the places are no others' names, and differ
abbrev pub AreOthers : Text → List Text → Type 0
AreOthers name [] = ⊤
AreOthers name (other ∷ names) = (bytes_eq name other ≡ false) × AreOthers name names

abbrev pub Apart : Known → List Text → Type 0
Apart known [] = ⊤
Apart known (name ∷ names) = (is_among name known.options ≡ false) × ((is_among name known.flags ≡ false) × (AreOthers name names × Apart known names))

abbrev NoRows : List Row → List Text → Type 0
NoRows rows [] = ⊤
NoRows rows (name ∷ names) = (has_row name rows ≡ false) × NoRows rows names

still_none : (rows : List Row) (name value : Text) (names : List Text) → AreOthers name names → NoRows rows names → NoRows (rows ++ given_row name value ∷ []) names
still_none rows name value [] others none = tt
still_none rows name value (other ∷ names) others none =
    (grown_row other name value rows ∙ ap₂ (λ a b. a || (b || false)) none.0 others.0, still_none rows name value names others.1 none.1)

option_others : (known : Known) (name : Text) → is_among name known.options ≡ true → (names : List Text) → Apart known names → AreOthers name names
option_others known name is [] apart = tt
option_others known name is (other ∷ names) apart = (other_name known.options name other is apart.0, option_others known name is names apart.1.1.1)

flag_others : (known : Known) (name : Text) → is_among name known.flags ≡ true → (names : List Text) → Apart known names → AreOthers name names
flag_others known name is [] apart = tt
flag_others known name is (other ∷ names) apart = (other_name known.flags name other is apart.1.0, flag_others known name is names apart.1.1.1)

-- the rows, where a test passes
abbrev rows_if : Bool → List Row → Option (List Row)
rows_if t rows = if t then Some rows else None

never : (a b : Bool) → (a && (false && b)) ≡ false
never true b = refl
never false b = refl

regroup : (f n l e : Bool) → (f && ((n && not l) && e)) ≡ (f && ((true && n) && (not l && e)))
regroup true true l e = refl
regroup true false l e = refl
regroup false n l e = refl

with_all : (known : Known) (given : List Given) → AllKnown known given → (rows : List Row) (names : List Text) → Apart known names → NoRows rows names
    → rows_with rows names given ≡ rows_if (fits names (places given) && (initial rows given && each_once given)) (rows ++ rows_of names given)
with_all known [] is rows names apart none = ap (λ r. Some r) (sym (append-nil rows))
with_all known (place word ∷ rest) is rows [] apart none = refl
with_all known (place word ∷ rest) is rows (name ∷ names) apart none =
    let more = rows ++ given_row name word ∷ [] in
    let later = with_all known rest is.1 more names apart.1.1.1 (still_none rows name word names apart.1.1.0 none.1) in
    let kept : initial more rest ≡ initial rows rest =
    initial_more name word rows rest ∙ ap (λ b. initial rows rest && not b) (not_named known name apart.0 apart.1.0 rest is.1) ∙ and_true (initial rows rest) in
    ap (λ (b : Bool). option_and_then (λ m. rows_with m names rest) (if b then None else Some more)) none.0
    ∙ later
    ∙ ap₂ (λ t r. rows_if (fits names (places rest) && (t && each_once rest)) r) kept (append_assoc rows (given_row name word ∷ []) (rows_of names rest))
  where
    and_true : (b : Bool) → (b && true) ≡ b
    and_true true = refl
    and_true false = refl
with_all known (option name value ∷ rest) is rows names apart none =
    by_row (has_row name rows) refl
    (with_all known rest is.1 (rows ++ given_row name value ∷ []) names apart (still_none rows name value names (option_others known name is.0 names apart) none))
  where
    more : List Row
    more = rows ++ given_row name value ∷ []

    by_row : (b : Bool) → has_row name rows ≡ b
        → rows_with more names rest ≡ rows_if (fits names (places rest) && (initial more rest && each_once rest)) (more ++ rows_of names rest)
        → rows_with rows names (option name value ∷ rest)
        ≡ rows_if (fits names (places rest) && (initial rows (option name value ∷ rest) && each_once (option name value ∷ rest))) (rows ++ given_row name value ∷ rows_of names rest)
    by_row true h later = rw h (sym (ap (λ t. rows_if t (rows ++ given_row name value ∷ rows_of names rest)) (never (fits names (places rest)) (each_once (option name value ∷ rest)))))
    by_row false h later = rw h (
        later
        ∙ ap₂ (λ t r. rows_if (fits names (places rest) && (t && each_once rest)) r) (initial_more name value rows rest) (append_assoc rows (given_row name value ∷ []) (rows_of names rest))
        ∙ ap (λ t. rows_if t (rows ++ given_row name value ∷ rows_of names rest)) (regroup (fits names (places rest)) (initial rows rest) (list_any (is_named name) rest) (each_once rest)))
with_all known (flag name ∷ rest) is rows names apart none =
    by_row (has_row name rows) refl
    (with_all known rest is.1 (rows ++ given_row name (codes "true") ∷ []) names apart (still_none rows name (codes "true") names (flag_others known name is.0 names apart) none))
  where
    more : List Row
    more = rows ++ given_row name (codes "true") ∷ []

    by_row : (b : Bool) → has_row name rows ≡ b
        → rows_with more names rest ≡ rows_if (fits names (places rest) && (initial more rest && each_once rest)) (more ++ rows_of names rest)
        → rows_with rows names (flag name ∷ rest)
        ≡ rows_if (fits names (places rest) && (initial rows (flag name ∷ rest) && each_once (flag name ∷ rest))) (rows ++ given_row name (codes "true") ∷ rows_of names rest)
    by_row true h later = rw h (sym (ap (λ t. rows_if t (rows ++ given_row name (codes "true") ∷ rows_of names rest)) (never (fits names (places rest)) (each_once (flag name ∷ rest)))))
    by_row false h later = rw h (
        later
        ∙ ap₂ (λ t r. rows_if (fits names (places rest) && (t && each_once rest)) r) (initial_more name (codes "true") rows rest) (append_assoc rows (given_row name (codes "true") ∷ []) (rows_of names rest))
        ∙ ap (λ t. rows_if t (rows ++ given_row name (codes "true") ∷ rows_of names rest)) (regroup (fits names (places rest)) (initial rows rest) (list_any (is_named name) rest) (each_once rest)))

all_initial : (given : List Given) → initial [] given ≡ true
all_initial [] = refl
all_initial (place word ∷ rest) = all_initial rest
all_initial (option name value ∷ rest) = all_initial rest
all_initial (flag name ∷ rest) = all_initial rest

no_rows : (names : List Text) → NoRows [] names
no_rows [] = tt
no_rows (name ∷ names) = (refl, no_rows names)

-- all that is given, added to no rows
pub rows_given : (s : Shape) (known : Known)
    → ((name : Text) → is_among name known.options ≡ true → AddsValue s (arg_by_long s.rules name) name)
    → ((name : Text) → is_among name known.flags ≡ true → AddsFlag s (arg_by_long s.rules name) name)
    → (names : List Text) (p : ℕ) → HasPlaces s p names → Apart known names
    → (given : List Given) → AllKnown known given
    → add_all s (Some []) p given ≡ (if fits names (places given) && each_once given then Some (rows_of names given) else None)
rows_given s known options flags names p at apart given is =
    adds_all s known options flags given is [] names p at
    ∙ with_all known given is [] names apart (no_rows names)
    ∙ ap (λ t. rows_if (fits names (places given) && (t && each_once given)) (rows_of names given)) (all_initial given)

-- ---- what is read of the rows

-- the word at the place of this name
abbrev pub place_value : List Text → List Text → Text → Option Text
place_value names [] name = None
place_value [] (word ∷ words) name = None
place_value (n ∷ names) (word ∷ words) name = if bytes_eq n name then Some word else place_value names words name

-- an option's value
pub first_option : (known : Known) (names : List Text) (name : Text) → AreOthers name names → is_among name known.flags ≡ false
    → (given : List Given) → AllKnown known given → first_of name (rows_of names given) ≡ value_of name given
first_option known names name others isnt [] is = refl
first_option known [] name others isnt (place word ∷ rest) is = first_option known [] name others isnt rest is.1
first_option known (n ∷ names) name others isnt (place word ∷ rest) is =
    rw (same_name n name ∙ others.0) (first_option known names name others.1 isnt rest is.1)
first_option known names name others isnt (option n v ∷ rest) is = by_name (bytes_eq n name) refl (first_option known names name others isnt rest is.1)
  where
    by_name : (b : Bool) → bytes_eq n name ≡ b → first_of name (rows_of names rest) ≡ value_of name rest
        → first_of name (given_row n v ∷ rows_of names rest) ≡ value_of name (option n v ∷ rest)
    by_name true h later = rw h refl
    by_name false h later = rw h later
first_option known names name others isnt (flag n ∷ rest) is =
    rw (other_name known.flags n name is.0 isnt) (first_option known names name others isnt rest is.1)

-- a place's word
pub first_place : (known : Known) (name : Text) → is_among name known.options ≡ false → is_among name known.flags ≡ false
    → (names : List Text) (given : List Given) → AllKnown known given → first_of name (rows_of names given) ≡ place_value names (places given) name
first_place known name o f names [] is = refl
first_place known name o f [] (place word ∷ rest) is = first_place known name o f [] rest is.1 ∙ no_place (places rest)
  where
    no_place : (words : List Text) → place_value [] words name ≡ None
    no_place [] = refl
    no_place (w ∷ ws) = refl
first_place known name o f (n ∷ names) (place word ∷ rest) is = by_name (bytes_eq n name) refl (first_place known name o f names rest is.1)
  where
    by_name : (b : Bool) → bytes_eq n name ≡ b → first_of name (rows_of names rest) ≡ place_value names (places rest) name
        → first_of name (given_row n word ∷ rows_of names rest) ≡ place_value (n ∷ names) (word ∷ places rest) name
    by_name true h later = rw h refl
    by_name false h later = rw h later
first_place known name o f names (option n v ∷ rest) is =
    rw (other_name known.options n name is.0 o) (first_place known name o f names rest is.1)
first_place known name o f names (flag n ∷ rest) is =
    rw (other_name known.flags n name is.0 f) (first_place known name o f names rest is.1)

-- what is there is given by the words
pub given_first : (names : List Text) (name : Text) (given : List Given) → is_given name (rows_of names given) ≡ is_some (first_of name (rows_of names given))
given_first names name [] = refl
given_first [] name (place word ∷ rest) = given_first [] name rest
given_first (n ∷ names) name (place word ∷ rest) = by_name (bytes_eq n name) refl (given_first names name rest)
  where
    by_name : (b : Bool) → bytes_eq n name ≡ b → is_given name (rows_of names rest) ≡ is_some (first_of name (rows_of names rest))
        → is_given name (given_row n word ∷ rows_of names rest) ≡ is_some (first_of name (given_row n word ∷ rows_of names rest))
    by_name true h later = rw h refl
    by_name false h later = rw h later
given_first names name (option n v ∷ rest) = by_name (bytes_eq n name) refl (given_first names name rest)
  where
    by_name : (b : Bool) → bytes_eq n name ≡ b → is_given name (rows_of names rest) ≡ is_some (first_of name (rows_of names rest))
        → is_given name (given_row n v ∷ rows_of names rest) ≡ is_some (first_of name (given_row n v ∷ rows_of names rest))
    by_name true h later = rw h refl
    by_name false h later = rw h later
given_first names name (flag n ∷ rest) = by_name (bytes_eq n name) refl (given_first names name rest)
  where
    by_name : (b : Bool) → bytes_eq n name ≡ b → is_given name (rows_of names rest) ≡ is_some (first_of name (rows_of names rest))
        → is_given name (given_row n (codes "true") ∷ rows_of names rest) ≡ is_some (first_of name (given_row n (codes "true") ∷ rows_of names rest))
    by_name true h later = rw h refl
    by_name false h later = rw h later

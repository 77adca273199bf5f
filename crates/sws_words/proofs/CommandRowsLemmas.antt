-- What is read of the rows that `clap` finds for a command, whichever of the commands it is.
use Rattle.std.proofs.Common.{◌≡◌, ◌∙◌, ◌⊎◌, ◌==◌, ◌&&◌, subst, ℕ, Bool, true, false, not, List, [], ◌∷◌, Option, Some, None, refl, sym, ap, inl, inr, true≢false, codes}
use Rattle.std.specs.Prelude.{◌||◌, if◌then◌else◌, option_and_then, is_some, fold, slice_get}
use Rattle.std.specs.Option.{option_map_or}
use Rattle.std.specs.Str.{bytes_eq}
use Rattle.std.proofs.lemmas.Slice.Eq.{bytes_eq-Decides}
use Rattle.clap.specs.Walk.{Rule, Row, Text, arg_by_id, arg_by_index, arg_by_long, first_of, with_default}
use Rattle.clap.specs.Simple.{Shape, filled}
use Rattle.clap.specs.Takes.{is_given}
use Rattle.clap.specs.Facts.{explicit_source}
use Rattle.clap.specs.Faults.{check_fault}
use Rattle.clap.specs.declared.error.kind.ErrorKind.TheVariants as kind
use Rattle.sws_words.specs.Commands.{option_rule}
use Rattle.sws_words.specs.Grammar.{Given, Known, is_among, given_of, each_once, has_bundle, places, value_of}
use Rattle.sws_words.specs.Orders.{only_place, shape_in, shape_of}
use Rattle.sws_words.specs.Orders as orders
use Rattle.sws_words.proofs.Clap.ClapWalkLemmas.{IsPlace, and_false}
use Rattle.sws_words.proofs.Clap.ClapGrammarLemmas.{IsOption}
use Rattle.sws_words.proofs.GivenRows.{AddsValue, AllKnown, AreOthers, first_option, first_place, fits, given_first, one_more, place_value, rows_of}
use Rattle.sws_words.proofs.SameLemmas.{ap₅}
use Rattle.sws_words.proofs.TakenLemmas.{bundle_gives_none, checked}
use Rattle.sws_words.proofs.FoundLemmas.{AllLeave, checked_by, defaults_leave, has_any, rows_once}

both : (a b : Bool) → (a && b) ≡ true → (a ≡ true) × (b ≡ true)
both true b e = (refl, e)
both false b e = absurd (true≢false (sym e))

is_false : (a : Bool) → not a ≡ true → a ≡ false
is_false true e = absurd (true≢false (sym e))
is_false false e = refl

-- ---- the rules of places

pub some_is : {X : Type 0} {x y : X} → Some x ≡ Some y → x ≡ y
some_is {X} {x} e = ap (λ (o : Option X). Rattle.std.specs.Option.unwrap_or o x) e

-- a command with one place
pub one_place_is : (s : Shape) (rule : Rule) → IsPlace s.rules rule → ((p : ℕ) → arg_by_index s.rules p ≡ (if 1 == p then Some rule else None))
    → (p : ℕ) (a : Rule) → arg_by_index s.rules p ≡ Some a → IsPlace s.rules a
one_place_is s rule is at p a e = by_place (1 == p) (sym (at p) ∙ e)
  where
    by_place : (b : Bool) → (if b then Some rule else None) ≡ Some a → IsPlace s.rules a
    by_place true h = subst (IsPlace s.rules) (some_is h) is
    by_place false h = absurd (true≢false (sym (ap is_some h)))

-- ---- the rules of options

-- the rules have the option's
abbrev pub HasRule : List Rule → Text → Type 0
HasRule rules name = (arg_by_long rules name ≡ Some (filled (option_rule name))) × (arg_by_id rules name ≡ Some (filled (option_rule name)))

pub option_is : (rules : List Rule) (name : Text) → HasRule rules name → IsOption rules name
option_is rules name has =
    record { rule = filled (option_rule name); by_long = has.0; by_id = has.1; takes = refl; wants = λ again rows. refl; same = (bytes_eq-Decides name name).1 refl; full = refl }

pub option_adds : (s : Shape) → s.args_override_self ≡ false → (name : Text) → HasRule s.rules name → AddsValue s (arg_by_long s.rules name) name
option_adds s once name has value rows = rw (has.0, once) (one_more name value rows)

-- ---- the rows with the defaults

abbrev pub rows_found : Shape → List Text → List Given → List Row
rows_found s names given = fold with_default (rows_of names given) s.rules

-- no rule has a default for the name
abbrev pub all_leave : Text → List Rule → Bool
all_leave name [] = true
all_leave name (a ∷ rules) = (not (has_any a.defaults) || not (bytes_eq a.id name)) && all_leave name rules

pub leave_all : (name : Text) (rules : List Rule) → all_leave name rules ≡ true → AllLeave name rules
leave_all name [] e = tt
leave_all name (a ∷ rules) e =
    let parts = both (not (has_any a.defaults) || not (bytes_eq a.id name)) (all_leave name rules) e in
    (by_default a.defaults refl parts.0, leave_all name rules parts.1)
  where
    by_default : (defaults : List Text) → a.defaults ≡ defaults → (not (has_any defaults) || not (bytes_eq a.id name)) ≡ true → (a.defaults ≡ []) ⊎ (bytes_eq a.id name ≡ false)
    by_default [] d t = inl d
    by_default (v ∷ vs) d t = inr (is_false (bytes_eq a.id name) t)

abbrev pub are_others : Text → List Text → Bool
are_others name [] = true
are_others name (other ∷ names) = not (bytes_eq name other) && are_others name names

others_all : (name : Text) (names : List Text) → are_others name names ≡ true → AreOthers name names
others_all name [] e = tt
others_all name (other ∷ names) e =
    let parts = both (not (bytes_eq name other)) (are_others name names) e in
    (is_false (bytes_eq name other) parts.0, others_all name names parts.1)

-- the name is an option's alone
abbrev pub is_option : Shape → Known → List Text → Text → Bool
is_option s known names name = all_leave name s.rules && (are_others name names && not (is_among name known.flags))

-- an option's value
pub option_found : (s : Shape) (known : Known) (names : List Text) (name : Text) → is_option s known names name ≡ true
    → (given : List Given) → AllKnown known given → first_of name (rows_found s names given) ≡ value_of name given
option_found s known names name e given is =
    let parts = both (all_leave name s.rules) (are_others name names && not (is_among name known.flags)) e in
    let others = both (are_others name names) (not (is_among name known.flags)) parts.1 in
    ap (option_and_then (λ (r : Row). slice_get r.values 0)) (defaults_leave name s.rules (rows_of names given) (leave_all name s.rules parts.0))
    ∙ first_option known names name (others_all name names others.0) (is_false (is_among name known.flags) others.1) given is

-- the name is a place's alone
abbrev pub is_place : Shape → Known → Text → Bool
is_place s known name = all_leave name s.rules && (not (is_among name known.options) && not (is_among name known.flags))

-- the word at a place
pub place_found : (s : Shape) (known : Known) (names : List Text) (name : Text) → is_place s known name ≡ true
    → (given : List Given) → AllKnown known given → (words : List Text) → places given ≡ words
    → first_of name (rows_found s names given) ≡ place_value names words name
place_found s known names name e given is words at =
    let parts = both (all_leave name s.rules) (not (is_among name known.options) && not (is_among name known.flags)) e in
    let others = both (not (is_among name known.options)) (not (is_among name known.flags)) parts.1 in
    ap (option_and_then (λ (r : Row). slice_get r.values 0)) (defaults_leave name s.rules (rows_of names given) (leave_all name s.rules parts.0))
    ∙ first_place known name (is_false (is_among name known.options) others.0) (is_false (is_among name known.flags) others.1) names given is
    ∙ ap (λ ws. place_value names ws name) at

-- whether there is one
pub there_found : (s : Shape) (known : Known) (names : List Text) (name : Text) → is_place s known name ≡ true
    → (given : List Given) → AllKnown known given → (words : List Text) → places given ≡ words
    → is_given name (rows_found s names given) ≡ is_some (place_value names words name)
there_found s known names name e given is words at =
    let parts = both (all_leave name s.rules) (not (is_among name known.options) && not (is_among name known.flags)) e in
    let others = both (not (is_among name known.options)) (not (is_among name known.flags)) parts.1 in
    ap (λ (o : Option Row). option_map_or (λ (r : Row). explicit_source r.source) o false) (defaults_leave name s.rules (rows_of names given) (leave_all name s.rules parts.0))
    ∙ given_first names name given
    ∙ ap is_some (first_place known name (is_false (is_among name known.options) others.0) (is_false (is_among name known.flags) others.1) names given is)
    ∙ ap (λ ws. is_some (place_value names ws name)) at

-- ---- the shape of a run

-- the shape, of the rows
abbrev pub shape_at : List Row → Option orders.Shape
shape_at rows = shape_in (first_of (codes "workers") rows) (first_of (codes "shards") rows) (first_of (codes "batch") rows) (first_of (codes "group") rows) (first_of (codes "cost") rows)

-- the shape that the options give is that of the rows
pub shape_found : (s : Shape) (known : Known) (names : List Text)
    → ((is_option s known names (codes "workers") ≡ true) × ((is_option s known names (codes "shards") ≡ true) × ((is_option s known names (codes "batch") ≡ true)
    × ((is_option s known names (codes "group") ≡ true) × (is_option s known names (codes "cost") ≡ true)))))
    → (given : List Given) → AllKnown known given → shape_at (rows_found s names given) ≡ shape_of given
shape_found s known names all given is =
    ap₅ shape_in (option_found s known names (codes "workers") all.0 given is) (option_found s known names (codes "shards") all.1.0 given is)
    (option_found s known names (codes "batch") all.1.1.0 given is) (option_found s known names (codes "group") all.1.1.1.0 given is)
    (option_found s known names (codes "cost") all.1.1.1.1 given is)

-- ---- a whole command

-- where an option or a flag is given twice, no rows are found
pub never_twice : {X : Type 0} (s : Shape) (names : List Text) (at : List Row → Option X) (given : List Given) → each_once given ≡ false
    → option_and_then at (option_and_then (checked s) (rows_once names given)) ≡ None
never_twice s names at given e =
    ap (λ t. option_and_then at (option_and_then (checked s) (if t then Some (rows_of names given) else None))) (and_false (fits names (places given)) (each_once given) e)

-- what a command lacks that wants a word at one place
abbrev pub lacks : Bool → Rattle.clap.specs.Kinds.Kinds
lacks there = if not there || false then kind.MissingRequiredArgument ∷ [] else []

-- a command that wants a word at one place
module _ (s : Shape) (known : Known) (name : Text) (is_alone : is_place s known name ≡ true)
    (wants : (rows : List Row) → check_fault s rows false ≡ lacks (is_given name rows)) where
  pub checked_at : (given : List Given) (there : Bool) → is_given name (rows_found s (name ∷ []) given) ≡ there
      → checked s (rows_of (name ∷ []) given) ≡ (if there then Some (rows_found s (name ∷ []) given) else None)
  checked_at given true h = checked_by s (rows_of (name ∷ []) given) false (wants (rows_found s (name ∷ []) given) ∙ ap lacks h)
  checked_at given false h = checked_by s (rows_of (name ∷ []) given) true (wants (rows_found s (name ∷ []) given) ∙ ap lacks h)

  own_place : (word : Text) (words : List Text) → place_value (name ∷ []) (word ∷ words) name ≡ Some word
  own_place word words = rw ((bytes_eq-Decides name name).1 refl) refl

  pub word_found : (given : List Given) → AllKnown known given → (word : Text) → places given ≡ word ∷ [] → first_of name (rows_found s (name ∷ []) given) ≡ Some word
  word_found given is word e = place_found s known (name ∷ []) name is_alone given is (word ∷ []) e ∙ own_place word []

  -- what the word and the options order is read of the rows
  pub one_place_alike : {X : Type 0} (order : Text → List Given → Option X) (at : List Row → Option X)
      → ((given : List Given) → AllKnown known given → (word : Text) → places given ≡ word ∷ [] → at (rows_found s (name ∷ []) given) ≡ order word given)
      → (given : List Given) → AllKnown known given
      → (if each_once given then option_and_then (λ word. order word given) (only_place (places given)) else None)
      ≡ option_and_then at (option_and_then (checked s) (rows_once (name ∷ []) given))
  one_place_alike {X} order at at_found given is = by_case (each_once given) (places given) refl refl
    where
      by_case : (b : Bool) (ws : List Text) → each_once given ≡ b → places given ≡ ws
          → (if each_once given then option_and_then (λ word. order word given) (only_place (places given)) else None)
          ≡ option_and_then at (option_and_then (checked s) (rows_once (name ∷ []) given))
      by_case false ws eb ew = ap (λ t. if t then option_and_then (λ word. order word given) (only_place (places given)) else None) eb ∙ sym (never_twice s (name ∷ []) at given eb)
      by_case true [] eb ew =
          rw (eb, ew) (sym (ap (option_and_then at) (checked_at given false (there_found s known (name ∷ []) name is_alone given is [] ew))))
      by_case true (word ∷ []) eb ew =
          rw (eb, ew) (sym (ap (option_and_then at) (checked_at given true (there_found s known (name ∷ []) name is_alone given is (word ∷ []) ew ∙ ap is_some (own_place word [])))
          ∙ at_found given is word ew))
      by_case true (word ∷ other ∷ words) eb ew = rw (eb, ew) refl

-- words with a bundle order nothing
pub bundle_orders_nothing : {X : Type 0} (by : List Given → Option X) (known : Known) (words : List Text) → has_bundle words ≡ true → option_and_then by (given_of known words) ≡ None
bundle_orders_nothing by known words e = ap (λ o. option_and_then by (option_and_then (λ given. if each_once given then Some given else None) o)) (bundle_gives_none known words e None)

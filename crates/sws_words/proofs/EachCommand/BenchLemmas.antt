-- `bench`: the words as `clap` finds them, and as the grammar reads them.
use Rattle.std.proofs.Common.{◌≡◌, ◌∙◌, ◌==◌, ◌&&◌, subst, ℕ, Bool, true, false, not, List, [], ◌∷◌, Option, Some, None, refl, sym, ap, ap₂, true≢false, codes}
use Rattle.std.specs.Prelude.{◌||◌, if◌then◌else◌, option_and_then, option_map, is_some}
use Rattle.clap.specs.Walk.{Rule, Row, Text, arg_by_long, arg_by_index, first_of, nothing_held}
use Rattle.clap.specs.Simple.{Shape, built, filled, with_index, matches_of}
use Rattle.clap.specs.Takes.{is_given}
use Rattle.clap.specs.Faults.{fault_of, check_fault}
use Rattle.clap.specs.declared.error.kind.ErrorKind.TheVariants as kind
use Rattle.sws_words.specs.Commands.{bench_app, place_rule}
use Rattle.sws_words.specs.Grammar.{Given, is_among, given_by, given_of, each_once, places, has_bundle}
use Rattle.sws_words.specs.Orders.{Order, bench, bench_by, bench_known, shape_of, within}
use Rattle.sws_words.specs.Orders as orders
use Rattle.sws_words.proofs.Clap.ClapWalkLemmas.{IsPlace, unless, clap_rows, add_all}
use Rattle.sws_words.proofs.Clap.ClapStepLemmas.{idle_at}
use Rattle.sws_words.proofs.Clap.ClapGrammarLemmas.{IsFlag, reads_alike}
use Rattle.sws_words.proofs.Clap.ClapEndLemmas.{clear}
use Rattle.sws_words.proofs.GivenRows.{AddsFlag, AllKnown, HasPlaces, one_more, rows_given, rows_of}
use Rattle.sws_words.proofs.TakenLemmas.{TakeDefaults, checked}
use Rattle.sws_words.proofs.FoundLemmas.{checked_by, command_reads, each_named, none_named, rows_once}
use Rattle.sws_words.proofs.SameLemmas.{ap₃}
use Rattle.sws_words.proofs.CommandRowsLemmas.{HasRule, option_is, option_adds, never_twice, some_is, rows_found, place_found, there_found, shape_at, shape_found, bundle_orders_nothing}

-- the command as `clap` builds it
abbrev pub bench_shape : Shape
bench_shape = (built bench_app).top

connections_rule : Rule
connections_rule = with_index 1 (filled (place_rule (codes "connections")))

number_rule : Rule
number_rule = with_index 2 (filled (place_rule (codes "number")))

one_place : (p : ℕ) (a : Rule) → arg_by_index bench_shape.rules p ≡ Some a → IsPlace bench_shape.rules a
unfolding connections_rule number_rule
one_place p a e = by_place (1 == p) (2 == p) refl refl
  where
    by_place : (b c : Bool) → (1 == p) ≡ b → (2 == p) ≡ c → IsPlace bench_shape.rules a
    by_place true c h i =
        let is : Some connections_rule ≡ Some a = sym (rw h refl) ∙ e in
        subst (IsPlace bench_shape.rules) (some_is is) (record { by_id = refl; one = refl; once = refl; goes_on = refl })
    by_place false true h i =
        let is : Some number_rule ≡ Some a = sym (rw (h, i) refl) ∙ e in
        subst (IsPlace bench_shape.rules) (some_is is) (record { by_id = refl; one = refl; once = refl; goes_on = refl })
    by_place false false h i =
        let is : None ≡ Some a = sym (rw (h, i) refl) ∙ e in
        absurd (true≢false (sym (ap is_some is)))

has_rule : (name : Text) → is_among name bench_known.options ≡ true → HasRule bench_shape.rules name
has_rule = each_named (HasRule bench_shape.rules) bench_known.options ((refl, refl), ((refl, refl), ((refl, refl), ((refl, refl), ((refl, refl), tt)))))

one_flag : (name : Text) → is_among name bench_known.options ≡ false → is_among name bench_known.flags ≡ true → IsFlag bench_shape.rules name
one_flag name e = each_named (IsFlag bench_shape.rules) bench_known.flags tt name

no_other : (name : Text) → is_among name bench_known.options ≡ false → is_among name bench_known.flags ≡ false → arg_by_long bench_shape.rules name ≡ None
no_other name e f =
    let os = none_named bench_known.options name e in
    let fs = none_named bench_known.flags name f in
    rw (os.0, os.1.0, os.1.1.0, os.1.1.1.0, os.1.1.1.1.0) refl

reads : (words : List Text) → has_bundle words ≡ false
    → clap_rows bench_shape (idle_at nothing_held 1) words ≡ option_and_then (add_all bench_shape (Some []) 1) (given_by bench_known None words)
reads words e = reads_alike bench_shape refl one_place bench_known (λ name is. option_is bench_shape.rules name (has_rule name is)) one_flag no_other words (clear words e) nothing_held 1

adds_flag : (name : Text) → is_among name bench_known.flags ≡ true → AddsFlag bench_shape (arg_by_long bench_shape.rules name) name
adds_flag = each_named (λ name. AddsFlag bench_shape (arg_by_long bench_shape.rules name) name) bench_known.flags
    tt

abbrev place_names : List Text
place_names = codes "connections" ∷ codes "number" ∷ []

has_places : HasPlaces bench_shape 1 place_names
has_places = (λ v rows. one_more (codes "connections") v rows, (λ v rows. one_more (codes "number") v rows, refl))

adds : (given : List Given) → AllKnown bench_known given → add_all bench_shape (Some []) 1 given ≡ rows_once place_names given
adds given is = rows_given bench_shape bench_known (λ name is. option_adds bench_shape refl name (has_rule name is)) adds_flag place_names 1 has_places (refl, (refl, ((refl, tt), (refl, (refl, (tt, tt)))))) given is

defaults : TakeDefaults bench_shape.rules
defaults = (refl, (refl, (refl, (refl, (refl, (refl, (refl, tt)))))))

-- the rows with the defaults
abbrev found : List Given → List Row
found given = rows_found bench_shape place_names given

abbrev missing : Bool → Bool → Rattle.clap.specs.Kinds.Kinds
missing a b = if not a || (not b || false) then kind.MissingRequiredArgument ∷ [] else []

checked_at : (given : List Given) (first second : Bool) → is_given (codes "connections") (found given) ≡ first → is_given (codes "number") (found given) ≡ second
    → checked bench_shape (rows_of place_names given) ≡ (if first && second then Some (found given) else None)
checked_at given first second e f = by_there first second e f
  where
    wants : (rows : List Row) → check_fault bench_shape rows false ≡ missing (is_given (codes "connections") rows) (is_given (codes "number") rows)
    wants rows = refl

    by_there : (a b : Bool) → is_given (codes "connections") (found given) ≡ a → is_given (codes "number") (found given) ≡ b
        → checked bench_shape (rows_of place_names given) ≡ (if a && b then Some (found given) else None)
    by_there true true h i = checked_by bench_shape (rows_of place_names given) false (wants (found given) ∙ ap₂ missing h i)
    by_there true false h i = checked_by bench_shape (rows_of place_names given) true (wants (found given) ∙ ap₂ missing h i)
    by_there false b h i = checked_by bench_shape (rows_of place_names given) true (wants (found given) ∙ ap₂ missing h i)

abbrev pub bench_with : Option Text → Option Text → Option orders.Shape → Option Order
bench_with connections number shape =
    option_and_then (λ c. option_and_then (λ n. option_map (λ s. bench c n s) shape) (option_and_then (within 0 4294967295) number)) (option_and_then (within 1 1024) connections)

abbrev pub bench_at : List Row → Option Order
bench_at rows = bench_with (first_of (codes "connections") rows) (first_of (codes "number") rows) (shape_at rows)

at_found : (given : List Given) → AllKnown bench_known given → (word other : Text) → places given ≡ word ∷ other ∷ []
    → bench_at (found given) ≡ bench_with (Some word) (Some other) (shape_of given)
at_found given is word other e =
    ap₃ bench_with (place_found bench_shape bench_known place_names (codes "connections") refl given is (word ∷ other ∷ []) e) (place_found bench_shape bench_known place_names (codes "number") refl given is (word ∷ other ∷ []) e) (shape_found bench_shape bench_known place_names (refl, (refl, (refl, (refl, refl)))) given is)

alike : (given : List Given) → AllKnown bench_known given
    → (if each_once given then bench_by given else None) ≡ option_and_then bench_at (option_and_then (checked bench_shape) (rows_once place_names given))
alike given is = by_case (each_once given) (places given) refl refl
  where
    by_case : (b : Bool) (ws : List Text) → each_once given ≡ b → places given ≡ ws
        → (if each_once given then bench_by given else None) ≡ option_and_then bench_at (option_and_then (checked bench_shape) (rows_once place_names given))
    by_case false ws eb ew = ap (λ t. if t then bench_by given else None) eb ∙ sym (never_twice bench_shape place_names bench_at given eb)
    by_case true [] eb ew =
        rw (eb, ew) (sym (ap (option_and_then bench_at) (checked_at given false false (there_found bench_shape bench_known place_names (codes "connections") refl given is [] ew) (there_found bench_shape bench_known place_names (codes "number") refl given is [] ew))))
    by_case true (word ∷ []) eb ew =
        rw (eb, ew) (sym (ap (option_and_then bench_at) (checked_at given true false (there_found bench_shape bench_known place_names (codes "connections") refl given is (word ∷ []) ew) (there_found bench_shape bench_known place_names (codes "number") refl given is (word ∷ []) ew))))
    by_case true (word ∷ other ∷ []) eb ew =
        rw (eb, ew) (sym (ap (option_and_then bench_at) (checked_at given true true (there_found bench_shape bench_known place_names (codes "connections") refl given is (word ∷ other ∷ []) ew) (there_found bench_shape bench_known place_names (codes "number") refl given is (word ∷ other ∷ []) ew))
        ∙ at_found given is word other ew))
    by_case true (word ∷ other ∷ another ∷ words) eb ew = rw (eb, ew) refl

-- the order of the words behind `bench`, of what `clap` makes of them
pub bench_order : (words : List Text) → has_bundle words ≡ false
    → option_and_then bench_by (given_of bench_known words) ≡ option_and_then bench_at (unless (fault_of bench_app words) (Some (matches_of bench_app words)))
bench_order words e = command_reads bench_shape bench_known place_names bench_by bench_at words (reads words e) defaults adds alike

pub bench_bundle : (words : List Text) → has_bundle words ≡ true → option_and_then bench_by (given_of bench_known words) ≡ None
bench_bundle = bundle_orders_nothing bench_by bench_known

-- `check`: the words as `clap` finds them, and as the grammar reads them.
use Rattle.std.proofs.Common.{◌≡◌, ◌∙◌, ℕ, Bool, true, false, List, [], ◌∷◌, Option, Some, None, refl, sym, ap, true≢false, codes}
use Rattle.std.specs.Prelude.{if◌then◌else◌, option_and_then, is_some}
use Rattle.clap.specs.Walk.{Rule, Row, Text, arg_by_long, arg_by_index, first_of, one_of, nothing_held}
use Rattle.clap.specs.Simple.{Shape, built, filled, matches_of}
use Rattle.clap.specs.Faults.{fault_of}
use Rattle.sws_words.specs.Commands.{check_app, option_rule, flag_rule}
use Rattle.sws_words.specs.Grammar.{Given, is_among, given_by, given_of, each_once, places, value_of, has_flag, has_bundle}
use Rattle.sws_words.specs.Orders.{Order, check_by, check_known, shape_of, within}
use Rattle.sws_words.specs.Orders as orders
use Rattle.sws_words.proofs.Clap.ClapWalkLemmas.{IsPlace, unless, clap_rows, add_all}
use Rattle.sws_words.proofs.Clap.ClapStepLemmas.{idle_at}
use Rattle.sws_words.proofs.Clap.ClapGrammarLemmas.{IsFlag, reads_alike}
use Rattle.sws_words.proofs.Clap.ClapEndLemmas.{clear}
use Rattle.sws_words.proofs.GivenRows.{AddsFlag, AllKnown, HasPlaces, one_more, rows_given, rows_of}
use Rattle.sws_words.proofs.TakenLemmas.{TakeDefaults, checked}
use Rattle.sws_words.proofs.FoundLemmas.{checked_by, command_reads, each_named, flag_text, none_named, rows_once}
use Rattle.sws_words.proofs.FlagLemmas.{flag_found, flag_of, flag_of_text, flag_told, is_flag_text}
use Rattle.sws_words.proofs.SameLemmas.{ap₃}
use Rattle.sws_words.proofs.CommandRowsLemmas.{HasRule, option_is, option_adds, never_twice, rows_found, option_found, shape_at, shape_found, bundle_orders_nothing}

-- the command as `clap` builds it
abbrev check_shape : Shape
check_shape = (built check_app).top

one_place : (p : ℕ) (a : Rule) → arg_by_index check_shape.rules p ≡ Some a → IsPlace check_shape.rules a
one_place p a e = absurd (true≢false (sym (ap is_some e)))

has_rule : (name : Text) → is_among name check_known.options ≡ true → HasRule check_shape.rules name
has_rule = each_named (HasRule check_shape.rules) check_known.options ((refl, refl), ((refl, refl), ((refl, refl), ((refl, refl), ((refl, refl), ((refl, refl), tt))))))

one_flag : (name : Text) → is_among name check_known.options ≡ false → is_among name check_known.flags ≡ true → IsFlag check_shape.rules name
one_flag name e = each_named (IsFlag check_shape.rules) check_known.flags (record { rule = filled (flag_rule (codes "log")); by_long = refl; takes = refl }, tt) name

no_other : (name : Text) → is_among name check_known.options ≡ false → is_among name check_known.flags ≡ false → arg_by_long check_shape.rules name ≡ None
no_other name e f =
    let os = none_named check_known.options name e in
    let fs = none_named check_known.flags name f in
    rw (os.0, os.1.0, os.1.1.0, os.1.1.1.0, os.1.1.1.1.0, os.1.1.1.1.1.0, fs.0) refl

reads : (words : List Text) → has_bundle words ≡ false
    → clap_rows check_shape (idle_at nothing_held 1) words ≡ option_and_then (add_all check_shape (Some []) 1) (given_by check_known None words)
reads words e = reads_alike check_shape refl one_place check_known (λ name is. option_is check_shape.rules name (has_rule name is)) one_flag no_other words (clear words e) nothing_held 1

adds_flag : (name : Text) → is_among name check_known.flags ≡ true → AddsFlag check_shape (arg_by_long check_shape.rules name) name
adds_flag = each_named (λ name. AddsFlag check_shape (arg_by_long check_shape.rules name) name) check_known.flags
    (λ rows. one_more (codes "log") (codes "true") rows, tt)

abbrev place_names : List Text
place_names = []

has_places : HasPlaces check_shape 1 place_names
has_places = refl

adds : (given : List Given) → AllKnown check_known given → add_all check_shape (Some []) 1 given ≡ rows_once place_names given
adds given is = rows_given check_shape check_known (λ name is. option_adds check_shape refl name (has_rule name is)) adds_flag place_names 1 has_places tt given is

defaults : TakeDefaults check_shape.rules
defaults = (refl, (refl, (refl, (refl, (refl, (refl, (refl, tt)))))))

-- the rows with the defaults
abbrev found : List Given → List Row
found given = rows_found check_shape place_names given

checked_at : (given : List Given) → checked check_shape (rows_of place_names given) ≡ Some (found given)
checked_at given = checked_by check_shape (rows_of place_names given) false refl

abbrev front_rules : List Rule
front_rules = filled (option_rule (codes "connections")) ∷ filled (option_rule (codes "workers")) ∷ filled (option_rule (codes "shards"))
    ∷ filled (option_rule (codes "batch")) ∷ filled (option_rule (codes "group")) ∷ filled (option_rule (codes "cost")) ∷ []

flag_log : (given : List Given) → AllKnown check_known given → one_of (codes "log") (found given) ≡ Some (flag_text (has_flag (codes "log") given))
flag_log given is = flag_found check_known place_names (codes "log") front_rules [] (filled (flag_rule (codes "log"))) refl refl refl refl refl tt refl given is

abbrev pub check_with : Option Text → Option orders.Shape → Bool → Option Order
check_with connections shape log = orders.check_in [] (option_and_then (within 0 1024) connections) shape log

abbrev pub check_at : List Row → Option Order
check_at rows = check_with (first_of (codes "connections") rows) (shape_at rows) (flag_of (one_of (codes "log") rows))

at_found : (given : List Given) → AllKnown check_known given → check_at (found given) ≡ check_with (value_of (codes "connections") given) (shape_of given) (has_flag (codes "log") given)
at_found given is =
    ap₃ check_with (option_found check_shape check_known place_names (codes "connections") refl given is) (shape_found check_shape check_known place_names (refl, (refl, (refl, (refl, refl)))) given is)
    (ap flag_of (flag_log given is) ∙ flag_of_text (has_flag (codes "log") given))

alike : (given : List Given) → AllKnown check_known given
    → (if each_once given then check_by given else None) ≡ option_and_then check_at (option_and_then (checked check_shape) (rows_once place_names given))
alike given is = by_case (each_once given) (places given) refl refl
  where
    by_case : (b : Bool) (ws : List Text) → each_once given ≡ b → places given ≡ ws
        → (if each_once given then check_by given else None) ≡ option_and_then check_at (option_and_then (checked check_shape) (rows_once place_names given))
    by_case false ws eb ew = ap (λ t. if t then check_by given else None) eb ∙ sym (never_twice check_shape place_names check_at given eb)
    by_case true [] eb ew = rw (eb, ew) (sym (ap (option_and_then check_at) (checked_at given) ∙ at_found given is))
    by_case true (word ∷ words) eb ew = rw (eb, ew) refl

-- the order of the words behind `check`, of what `clap` makes of them
pub check_order : (words : List Text) → has_bundle words ≡ false
    → option_and_then check_by (given_of check_known words) ≡ option_and_then check_at (unless (fault_of check_app words) (Some (matches_of check_app words)))
check_order words e = command_reads check_shape check_known place_names check_by check_at words (reads words e) defaults adds alike

pub check_bundle : (words : List Text) → has_bundle words ≡ true → option_and_then check_by (given_of check_known words) ≡ None
check_bundle = bundle_orders_nothing check_by check_known

-- the text of the flag in the rows that `clap` finds
pub check_log_told : (words : List Text) → has_bundle words ≡ false → fault_of check_app words ≡ [] → is_flag_text (one_of (codes "log") (matches_of check_app words)) ≡ true
check_log_told words e taken =
    flag_told check_shape check_known place_names (codes "log") words (reads words e) defaults adds flag_log (λ given. (true, checked_at given)) taken

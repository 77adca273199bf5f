-- `serve`: the words as `clap` finds them, and as the grammar reads them.
use Rattle.std.proofs.Common.{◌≡◌, ◌∙◌, ℕ, Bool, true, false, List, [], ◌∷◌, Option, Some, None, refl, ap, codes}
use Rattle.std.specs.Prelude.{if◌then◌else◌, option_and_then, option_map}
use Rattle.clap.specs.Walk.{Rule, Row, Text, arg_by_long, arg_by_index, first_of, one_of, nothing_held}
use Rattle.clap.specs.Simple.{Shape, built, filled, with_index, matches_of}
use Rattle.clap.specs.Takes.{is_given}
use Rattle.clap.specs.Faults.{fault_of}
use Rattle.sws_words.specs.Commands.{serve_app, place_rule, option_rule, flag_rule}
use Rattle.sws_words.specs.Grammar.{Given, is_among, given_by, given_of, each_once, places, value_of, has_flag, has_bundle}
use Rattle.sws_words.specs.Orders.{Order, serve, serve_by, serve_known, date_in, shape_of, within}
use Rattle.sws_words.specs.Orders as orders
use Rattle.sws_words.proofs.Clap.ClapWalkLemmas.{IsPlace, unless, clap_rows, add_all}
use Rattle.sws_words.proofs.Clap.ClapStepLemmas.{idle_at}
use Rattle.sws_words.proofs.Clap.ClapGrammarLemmas.{IsFlag, reads_alike}
use Rattle.sws_words.proofs.Clap.ClapEndLemmas.{clear}
use Rattle.sws_words.proofs.GivenRows.{AddsFlag, AllKnown, HasPlaces, one_more, rows_given}
use Rattle.sws_words.proofs.TakenLemmas.{TakeDefaults, checked}
use Rattle.sws_words.proofs.FoundLemmas.{command_reads, each_named, flag_text, none_named, rows_once}
use Rattle.sws_words.proofs.FlagLemmas.{flag_found, flag_of, flag_of_text, flag_told, is_flag_text}
use Rattle.sws_words.proofs.SameLemmas.{ap₅}
use Rattle.sws_words.proofs.CommandRowsLemmas.{HasRule, option_is, option_adds, one_place_is, rows_found, option_found, shape_at, shape_found, checked_at, word_found, one_place_alike, bundle_orders_nothing}

-- the command as `clap` builds it
abbrev serve_shape : Shape
serve_shape = (built serve_app).top

one_place : (p : ℕ) (a : Rule) → arg_by_index serve_shape.rules p ≡ Some a → IsPlace serve_shape.rules a
one_place = one_place_is serve_shape (with_index 1 (filled (place_rule (codes "folder")))) (record { by_id = refl; one = refl; once = refl; goes_on = refl }) (λ p. refl)

has_rule : (name : Text) → is_among name serve_known.options ≡ true → HasRule serve_shape.rules name
has_rule = each_named (HasRule serve_shape.rules) serve_known.options ((refl, refl), ((refl, refl), ((refl, refl), ((refl, refl), ((refl, refl), ((refl, refl), ((refl, refl), ((refl, refl), tt))))))))

one_flag : (name : Text) → is_among name serve_known.options ≡ false → is_among name serve_known.flags ≡ true → IsFlag serve_shape.rules name
one_flag name e = each_named (IsFlag serve_shape.rules) serve_known.flags (record { rule = filled (flag_rule (codes "log")); by_long = refl; takes = refl }, tt) name

no_other : (name : Text) → is_among name serve_known.options ≡ false → is_among name serve_known.flags ≡ false → arg_by_long serve_shape.rules name ≡ None
no_other name e f =
    let os = none_named serve_known.options name e in
    let fs = none_named serve_known.flags name f in
    rw (os.0, os.1.0, os.1.1.0, os.1.1.1.0, os.1.1.1.1.0, os.1.1.1.1.1.0, os.1.1.1.1.1.1.0, os.1.1.1.1.1.1.1.0, fs.0) refl

reads : (words : List Text) → has_bundle words ≡ false
    → clap_rows serve_shape (idle_at nothing_held 1) words ≡ option_and_then (add_all serve_shape (Some []) 1) (given_by serve_known None words)
reads words e = reads_alike serve_shape refl one_place serve_known (λ name is. option_is serve_shape.rules name (has_rule name is)) one_flag no_other words (clear words e) nothing_held 1

adds_flag : (name : Text) → is_among name serve_known.flags ≡ true → AddsFlag serve_shape (arg_by_long serve_shape.rules name) name
adds_flag = each_named (λ name. AddsFlag serve_shape (arg_by_long serve_shape.rules name) name) serve_known.flags
    (λ rows. one_more (codes "log") (codes "true") rows, tt)

abbrev place_names : List Text
place_names = codes "folder" ∷ []

has_places : HasPlaces serve_shape 1 place_names
has_places = (λ v rows. one_more (codes "folder") v rows, refl)

adds : (given : List Given) → AllKnown serve_known given → add_all serve_shape (Some []) 1 given ≡ rows_once place_names given
adds given is = rows_given serve_shape serve_known (λ name is. option_adds serve_shape refl name (has_rule name is)) adds_flag place_names 1 has_places (refl, (refl, (tt, tt))) given is

defaults : TakeDefaults serve_shape.rules
defaults = (refl, (refl, (refl, (refl, (refl, (refl, (refl, (refl, (refl, (refl, tt))))))))))

-- the rows with the defaults
abbrev found : List Given → List Row
found given = rows_found serve_shape place_names given

abbrev front_rules : List Rule
front_rules = with_index 1 (filled (place_rule (codes "folder"))) ∷ filled (option_rule (codes "port")) ∷ filled (option_rule (codes "connections")) ∷ filled (option_rule (codes "date"))
    ∷ filled (option_rule (codes "workers")) ∷ filled (option_rule (codes "shards"))
    ∷ filled (option_rule (codes "batch")) ∷ filled (option_rule (codes "group")) ∷ filled (option_rule (codes "cost")) ∷ []

flag_log : (given : List Given) → AllKnown serve_known given → one_of (codes "log") (found given) ≡ Some (flag_text (has_flag (codes "log") given))
flag_log given is = flag_found serve_known place_names (codes "log") front_rules [] (filled (flag_rule (codes "log"))) refl refl refl refl refl (refl, tt) refl given is

abbrev pub serve_with : Option Text → Option Text → Option Text → Option orders.Shape → Option Text → Bool → Option Order
serve_with folder port connections shape date log =
    option_and_then (λ f. option_and_then (λ p. option_and_then (λ c. option_and_then (λ s. option_map (λ d. serve f p c s d log) (date_in date)) shape)
    (option_and_then (within 1 1024) connections)) (option_and_then (within 1 65535) port)) folder

abbrev pub serve_at : List Row → Option Order
serve_at rows = serve_with (first_of (codes "folder") rows) (first_of (codes "port") rows) (first_of (codes "connections") rows) (shape_at rows) (first_of (codes "date") rows) (flag_of (one_of (codes "log") rows))

-- what the words give, of the command's word at its place
abbrev given_order : Text → List Given → Option Order
given_order word given = serve_with (Some word) (value_of (codes "port") given) (value_of (codes "connections") given) (shape_of given) (value_of (codes "date") given) (has_flag (codes "log") given)

at_found : (given : List Given) → AllKnown serve_known given → (word : Text) → places given ≡ word ∷ [] → serve_at (found given) ≡ given_order word given
at_found given is word e =
    ap (serve_with (first_of (codes "folder") (found given)) (first_of (codes "port") (found given)) (first_of (codes "connections") (found given)) (shape_at (found given)) (first_of (codes "date") (found given)))
    (ap flag_of (flag_log given is) ∙ flag_of_text (has_flag (codes "log") given))
    ∙ ap₅ (λ f p c s d. serve_with f p c s d (has_flag (codes "log") given)) (word_found serve_shape serve_known (codes "folder") refl (λ rows. refl) given is word e) (option_found serve_shape serve_known place_names (codes "port") refl given is) (option_found serve_shape serve_known place_names (codes "connections") refl given is) (shape_found serve_shape serve_known place_names (refl, (refl, (refl, (refl, refl)))) given is) (option_found serve_shape serve_known place_names (codes "date") refl given is)

alike : (given : List Given) → AllKnown serve_known given
    → (if each_once given then serve_by given else None) ≡ option_and_then serve_at (option_and_then (checked serve_shape) (rows_once place_names given))
alike = one_place_alike serve_shape serve_known (codes "folder") refl (λ rows. refl) given_order serve_at at_found

-- the order of the words behind `serve`, of what `clap` makes of them
pub serve_order : (words : List Text) → has_bundle words ≡ false
    → option_and_then serve_by (given_of serve_known words) ≡ option_and_then serve_at (unless (fault_of serve_app words) (Some (matches_of serve_app words)))
serve_order words e = command_reads serve_shape serve_known place_names serve_by serve_at words (reads words e) defaults adds alike

pub serve_bundle : (words : List Text) → has_bundle words ≡ true → option_and_then serve_by (given_of serve_known words) ≡ None
serve_bundle = bundle_orders_nothing serve_by serve_known

-- the text of the flag in the rows that `clap` finds
pub serve_log_told : (words : List Text) → has_bundle words ≡ false → fault_of serve_app words ≡ [] → is_flag_text (one_of (codes "log") (matches_of serve_app words)) ≡ true
serve_log_told words e taken =
    flag_told serve_shape serve_known place_names (codes "log") words (reads words e) defaults adds flag_log
    (λ given. (is_given (codes "folder") (found given), checked_at serve_shape serve_known (codes "folder") refl (λ rows. refl) given (is_given (codes "folder") (found given)) refl)) taken

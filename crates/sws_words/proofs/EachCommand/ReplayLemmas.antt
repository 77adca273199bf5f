-- `replay`: the words as `clap` finds them, and as the grammar reads them.
use Rattle.std.proofs.Common.{◌≡◌, ◌∙◌, ℕ, Bool, true, false, List, [], ◌∷◌, ◌++◌, Option, Some, None, refl, ap, codes}
use Rattle.std.specs.Prelude.{if◌then◌else◌, option_and_then, option_map}
use Rattle.clap.specs.Walk.{Rule, Row, Text, arg_by_long, arg_by_index, first_of, one_of, nothing_held}
use Rattle.clap.specs.Simple.{Shape, built, filled, with_index, matches_of}
use Rattle.clap.specs.Takes.{is_given}
use Rattle.clap.specs.Faults.{fault_of}
use Rattle.sws_words.specs.Commands.{replay_app, place_rule, option_rule, flag_rule}
use Rattle.sws_words.specs.Grammar.{Given, is_among, given_by, given_of, each_once, places, value_of, has_flag, has_bundle}
use Rattle.sws_words.specs.Orders.{Order, replay, replay_by, replay_known, date_in, shape_of}
use Rattle.sws_words.specs.Orders as orders
use Rattle.sws_words.proofs.Clap.ClapWalkLemmas.{IsPlace, unless, clap_rows, add_all}
use Rattle.sws_words.proofs.Clap.ClapStepLemmas.{idle_at}
use Rattle.sws_words.proofs.Clap.ClapGrammarLemmas.{IsFlag, reads_alike}
use Rattle.sws_words.proofs.Clap.ClapEndLemmas.{clear}
use Rattle.sws_words.proofs.GivenRows.{AddsFlag, AllKnown, HasPlaces, one_more, rows_given}
use Rattle.sws_words.proofs.TakenLemmas.{TakeDefaults, checked}
use Rattle.sws_words.proofs.FoundLemmas.{command_reads, each_named, flag_text, none_named, rows_once}
use Rattle.sws_words.proofs.FlagLemmas.{flag_found, flag_of, flag_of_text, flag_told, is_flag_text}
use Rattle.sws_words.proofs.SameLemmas.{ap₃}
use Rattle.sws_words.proofs.CommandRowsLemmas.{HasRule, option_is, option_adds, one_place_is, rows_found, option_found, shape_at, shape_found, checked_at, word_found, one_place_alike, bundle_orders_nothing}

-- the command as `clap` builds it
abbrev replay_shape : Shape
replay_shape = (built replay_app).top

one_place : (p : ℕ) (a : Rule) → arg_by_index replay_shape.rules p ≡ Some a → IsPlace replay_shape.rules a
one_place = one_place_is replay_shape (with_index 1 (filled (place_rule (codes "folder")))) (record { by_id = refl; one = refl; once = refl; goes_on = refl }) (λ p. refl)

has_rule : (name : Text) → is_among name replay_known.options ≡ true → HasRule replay_shape.rules name
has_rule = each_named (HasRule replay_shape.rules) replay_known.options ((refl, refl), ((refl, refl), ((refl, refl), ((refl, refl), ((refl, refl), ((refl, refl), tt))))))

one_flag : (name : Text) → is_among name replay_known.options ≡ false → is_among name replay_known.flags ≡ true → IsFlag replay_shape.rules name
one_flag name e = each_named (IsFlag replay_shape.rules) replay_known.flags (record { rule = filled (flag_rule (codes "journal")); by_long = refl; takes = refl }, (record { rule = filled (flag_rule (codes "schedule")); by_long = refl; takes = refl }, (record { rule = filled (flag_rule (codes "log")); by_long = refl; takes = refl }, tt))) name

no_other : (name : Text) → is_among name replay_known.options ≡ false → is_among name replay_known.flags ≡ false → arg_by_long replay_shape.rules name ≡ None
no_other name e f =
    let os = none_named replay_known.options name e in
    let fs = none_named replay_known.flags name f in
    rw (os.0, os.1.0, os.1.1.0, os.1.1.1.0, os.1.1.1.1.0, os.1.1.1.1.1.0, fs.0, fs.1.0, fs.1.1.0) refl

reads : (words : List Text) → has_bundle words ≡ false
    → clap_rows replay_shape (idle_at nothing_held 1) words ≡ option_and_then (add_all replay_shape (Some []) 1) (given_by replay_known None words)
reads words e = reads_alike replay_shape refl one_place replay_known (λ name is. option_is replay_shape.rules name (has_rule name is)) one_flag no_other words (clear words e) nothing_held 1

adds_flag : (name : Text) → is_among name replay_known.flags ≡ true → AddsFlag replay_shape (arg_by_long replay_shape.rules name) name
adds_flag = each_named (λ name. AddsFlag replay_shape (arg_by_long replay_shape.rules name) name) replay_known.flags
    (λ rows. one_more (codes "journal") (codes "true") rows, (λ rows. one_more (codes "schedule") (codes "true") rows, (λ rows. one_more (codes "log") (codes "true") rows, tt)))

abbrev place_names : List Text
place_names = codes "folder" ∷ []

has_places : HasPlaces replay_shape 1 place_names
has_places = (λ v rows. one_more (codes "folder") v rows, refl)

adds : (given : List Given) → AllKnown replay_known given → add_all replay_shape (Some []) 1 given ≡ rows_once place_names given
adds given is = rows_given replay_shape replay_known (λ name is. option_adds replay_shape refl name (has_rule name is)) adds_flag place_names 1 has_places (refl, (refl, (tt, tt))) given is

defaults : TakeDefaults replay_shape.rules
defaults = (refl, (refl, (refl, (refl, (refl, (refl, (refl, (refl, (refl, (refl, tt))))))))))

-- the rows with the defaults
abbrev found : List Given → List Row
found given = rows_found replay_shape place_names given

abbrev journal_rule : Rule
journal_rule = filled (flag_rule (codes "journal"))

abbrev schedule_rule : Rule
schedule_rule = filled (flag_rule (codes "schedule"))

abbrev front_rules : List Rule
front_rules = with_index 1 (filled (place_rule (codes "folder"))) ∷ filled (option_rule (codes "date")) ∷ filled (option_rule (codes "workers")) ∷ filled (option_rule (codes "shards"))
    ∷ filled (option_rule (codes "batch")) ∷ filled (option_rule (codes "group")) ∷ filled (option_rule (codes "cost")) ∷ []

abbrev log_rule : Rule
log_rule = filled (flag_rule (codes "log"))

flag_journal : (given : List Given) → AllKnown replay_known given → one_of (codes "journal") (found given) ≡ Some (flag_text (has_flag (codes "journal") given))
flag_journal given is = flag_found replay_known place_names (codes "journal") front_rules (schedule_rule ∷ log_rule ∷ []) journal_rule refl refl refl refl refl (refl, tt) refl given is

flag_schedule : (given : List Given) → AllKnown replay_known given → one_of (codes "schedule") (found given) ≡ Some (flag_text (has_flag (codes "schedule") given))
flag_schedule given is = flag_found replay_known place_names (codes "schedule") (front_rules ++ journal_rule ∷ []) (log_rule ∷ []) schedule_rule refl refl refl refl refl (refl, tt) refl given is

flag_log : (given : List Given) → AllKnown replay_known given → one_of (codes "log") (found given) ≡ Some (flag_text (has_flag (codes "log") given))
flag_log given is = flag_found replay_known place_names (codes "log") (front_rules ++ journal_rule ∷ schedule_rule ∷ []) [] log_rule refl refl refl refl refl (refl, tt) refl given is

abbrev pub replay_with : Option Text → Option orders.Shape → Option Text → Bool → Bool → Bool → Option Order
replay_with folder shape date journal schedule log =
    option_and_then (λ f. option_and_then (λ s. option_map (λ d. replay f s d journal schedule log) (date_in date)) shape) folder

abbrev pub replay_at : List Row → Option Order
replay_at rows = replay_with (first_of (codes "folder") rows) (shape_at rows) (first_of (codes "date") rows) (flag_of (one_of (codes "journal") rows)) (flag_of (one_of (codes "schedule") rows)) (flag_of (one_of (codes "log") rows))

-- what the words give, of the command's word at its place
abbrev given_order : Text → List Given → Option Order
given_order word given = replay_with (Some word) (shape_of given) (value_of (codes "date") given) (has_flag (codes "journal") given) (has_flag (codes "schedule") given) (has_flag (codes "log") given)

at_found : (given : List Given) → AllKnown replay_known given → (word : Text) → places given ≡ word ∷ [] → replay_at (found given) ≡ given_order word given
at_found given is word e =
    ap₃ (replay_with (first_of (codes "folder") (found given)) (shape_at (found given)) (first_of (codes "date") (found given)))
    (ap flag_of (flag_journal given is) ∙ flag_of_text (has_flag (codes "journal") given)) (ap flag_of (flag_schedule given is) ∙ flag_of_text (has_flag (codes "schedule") given))
    (ap flag_of (flag_log given is) ∙ flag_of_text (has_flag (codes "log") given))
    ∙ ap₃ (λ f s d. replay_with f s d (has_flag (codes "journal") given) (has_flag (codes "schedule") given) (has_flag (codes "log") given))
    (word_found replay_shape replay_known (codes "folder") refl (λ rows. refl) given is word e) (shape_found replay_shape replay_known place_names (refl, (refl, (refl, (refl, refl)))) given is)
    (option_found replay_shape replay_known place_names (codes "date") refl given is)

alike : (given : List Given) → AllKnown replay_known given
    → (if each_once given then replay_by given else None) ≡ option_and_then replay_at (option_and_then (checked replay_shape) (rows_once place_names given))
alike = one_place_alike replay_shape replay_known (codes "folder") refl (λ rows. refl) given_order replay_at at_found

-- the order of the words behind `replay`, of what `clap` makes of them
pub replay_order : (words : List Text) → has_bundle words ≡ false
    → option_and_then replay_by (given_of replay_known words) ≡ option_and_then replay_at (unless (fault_of replay_app words) (Some (matches_of replay_app words)))
replay_order words e = command_reads replay_shape replay_known place_names replay_by replay_at words (reads words e) defaults adds alike

pub replay_bundle : (words : List Text) → has_bundle words ≡ true → option_and_then replay_by (given_of replay_known words) ≡ None
replay_bundle = bundle_orders_nothing replay_by replay_known

-- the texts of the flags in the rows that `clap` finds
told : (name : Text) → ((given : List Given) → AllKnown replay_known given → one_of name (found given) ≡ Some (flag_text (has_flag name given)))
    → (words : List Text) → has_bundle words ≡ false → fault_of replay_app words ≡ [] → is_flag_text (one_of name (matches_of replay_app words)) ≡ true
told name text words e taken =
    flag_told replay_shape replay_known place_names name words (reads words e) defaults adds text
    (λ given. (is_given (codes "folder") (found given), checked_at replay_shape replay_known (codes "folder") refl (λ rows. refl) given (is_given (codes "folder") (found given)) refl)) taken

pub journal_told : (words : List Text) → has_bundle words ≡ false → fault_of replay_app words ≡ [] → is_flag_text (one_of (codes "journal") (matches_of replay_app words)) ≡ true
journal_told = told (codes "journal") flag_journal

pub schedule_told : (words : List Text) → has_bundle words ≡ false → fault_of replay_app words ≡ [] → is_flag_text (one_of (codes "schedule") (matches_of replay_app words)) ≡ true
schedule_told = told (codes "schedule") flag_schedule

pub replay_log_told : (words : List Text) → has_bundle words ≡ false → fault_of replay_app words ≡ [] → is_flag_text (one_of (codes "log") (matches_of replay_app words)) ≡ true
replay_log_told = told (codes "log") flag_log

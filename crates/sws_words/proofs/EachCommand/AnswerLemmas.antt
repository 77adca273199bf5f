-- `answer`: the words as `clap` finds them, and as the grammar reads them.
use Rattle.std.proofs.Common.{◌≡◌, ℕ, true, false, List, [], ◌∷◌, Option, Some, None, refl, ap₂, codes}
use Rattle.std.specs.Prelude.{if◌then◌else◌, option_and_then, option_map}
use Rattle.clap.specs.Walk.{Rule, Row, Text, arg_by_long, arg_by_index, first_of, nothing_held}
use Rattle.clap.specs.Simple.{Shape, built, filled, with_index, matches_of}
use Rattle.clap.specs.Faults.{fault_of}
use Rattle.sws_words.specs.Commands.{answer_app, place_rule}
use Rattle.sws_words.specs.Grammar.{Given, is_among, given_by, given_of, each_once, places, value_of, has_bundle}
use Rattle.sws_words.specs.Orders.{Order, answer, answer_by, answer_known, date_in}
use Rattle.sws_words.proofs.Clap.ClapWalkLemmas.{IsPlace, unless, clap_rows, add_all}
use Rattle.sws_words.proofs.Clap.ClapStepLemmas.{idle_at}
use Rattle.sws_words.proofs.Clap.ClapGrammarLemmas.{IsFlag, reads_alike}
use Rattle.sws_words.proofs.Clap.ClapEndLemmas.{clear}
use Rattle.sws_words.proofs.GivenRows.{AddsFlag, AllKnown, HasPlaces, one_more, rows_given}
use Rattle.sws_words.proofs.TakenLemmas.{TakeDefaults, checked}
use Rattle.sws_words.proofs.FoundLemmas.{command_reads, each_named, none_named, rows_once}
use Rattle.sws_words.proofs.CommandRowsLemmas.{HasRule, option_is, option_adds, one_place_is, rows_found, option_found, word_found, one_place_alike, bundle_orders_nothing}

-- the command as `clap` builds it
abbrev answer_shape : Shape
answer_shape = (built answer_app).top

one_place : (p : ℕ) (a : Rule) → arg_by_index answer_shape.rules p ≡ Some a → IsPlace answer_shape.rules a
one_place = one_place_is answer_shape (with_index 1 (filled (place_rule (codes "folder")))) (record { by_id = refl; one = refl; once = refl; goes_on = refl }) (λ p. refl)

has_rule : (name : Text) → is_among name answer_known.options ≡ true → HasRule answer_shape.rules name
has_rule = each_named (HasRule answer_shape.rules) answer_known.options ((refl, refl), tt)

one_flag : (name : Text) → is_among name answer_known.options ≡ false → is_among name answer_known.flags ≡ true → IsFlag answer_shape.rules name
one_flag name e = each_named (IsFlag answer_shape.rules) answer_known.flags tt name

no_other : (name : Text) → is_among name answer_known.options ≡ false → is_among name answer_known.flags ≡ false → arg_by_long answer_shape.rules name ≡ None
no_other name e f =
    let os = none_named answer_known.options name e in
    let fs = none_named answer_known.flags name f in
    rw (os.0) refl

reads : (words : List Text) → has_bundle words ≡ false
    → clap_rows answer_shape (idle_at nothing_held 1) words ≡ option_and_then (add_all answer_shape (Some []) 1) (given_by answer_known None words)
reads words e = reads_alike answer_shape refl one_place answer_known (λ name is. option_is answer_shape.rules name (has_rule name is)) one_flag no_other words (clear words e) nothing_held 1

adds_flag : (name : Text) → is_among name answer_known.flags ≡ true → AddsFlag answer_shape (arg_by_long answer_shape.rules name) name
adds_flag = each_named (λ name. AddsFlag answer_shape (arg_by_long answer_shape.rules name) name) answer_known.flags
    tt

abbrev place_names : List Text
place_names = codes "folder" ∷ []

has_places : HasPlaces answer_shape 1 place_names
has_places = (λ v rows. one_more (codes "folder") v rows, refl)

adds : (given : List Given) → AllKnown answer_known given → add_all answer_shape (Some []) 1 given ≡ rows_once place_names given
adds given is = rows_given answer_shape answer_known (λ name is. option_adds answer_shape refl name (has_rule name is)) adds_flag place_names 1 has_places (refl, (refl, (tt, tt))) given is

defaults : TakeDefaults answer_shape.rules
defaults = (refl, (refl, tt))

-- the order, of a folder's word and a date's
abbrev pub answer_with : Option Text → Option Text → Option Order
answer_with folder date = option_and_then (λ f. option_map (λ d. answer f d) (date_in date)) folder

abbrev pub answer_at : List Row → Option Order
answer_at rows = answer_with (first_of (codes "folder") rows) (first_of (codes "date") rows)

at_found : (given : List Given) → AllKnown answer_known given → (word : Text) → places given ≡ word ∷ [] → answer_at (rows_found answer_shape place_names given) ≡ answer_with (Some word) (value_of (codes "date") given)
at_found given is word e = ap₂ answer_with (word_found answer_shape answer_known (codes "folder") refl (λ rows. refl) given is word e) (option_found answer_shape answer_known place_names (codes "date") refl given is)

alike : (given : List Given) → AllKnown answer_known given
    → (if each_once given then answer_by given else None) ≡ option_and_then answer_at (option_and_then (checked answer_shape) (rows_once place_names given))
alike =
    one_place_alike answer_shape answer_known (codes "folder") refl (λ rows. refl)
    (λ folder given. answer_with (Some folder) (value_of (codes "date") given)) answer_at at_found

-- the order of the words behind `answer`, of what `clap` makes of them
pub answer_order : (words : List Text) → has_bundle words ≡ false
    → option_and_then answer_by (given_of answer_known words) ≡ option_and_then answer_at (unless (fault_of answer_app words) (Some (matches_of answer_app words)))
answer_order words e = command_reads answer_shape answer_known place_names answer_by answer_at words (reads words e) defaults adds alike

pub answer_bundle : (words : List Text) → has_bundle words ≡ true → option_and_then answer_by (given_of answer_known words) ≡ None
answer_bundle = bundle_orders_nothing answer_by answer_known

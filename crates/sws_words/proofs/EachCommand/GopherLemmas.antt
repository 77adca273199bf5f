-- `gopher`: the words as `clap` finds them, and as the grammar reads them.
use Rattle.std.proofs.Common.{◌≡◌, ◌∙◌, ℕ, Bool, true, false, List, [], ◌∷◌, Option, Some, None, refl, ap, codes}
use Rattle.std.specs.Prelude.{if◌then◌else◌, option_and_then}
use Rattle.clap.specs.Walk.{Rule, Row, Text, arg_by_long, arg_by_index, first_of, one_of, nothing_held}
use Rattle.clap.specs.Simple.{Shape, built, filled, with_index, matches_of}
use Rattle.clap.specs.Takes.{is_given}
use Rattle.clap.specs.Faults.{fault_of}
use Rattle.sws_words.specs.Commands.{gopher_app, place_rule, option_rule, flag_rule}
use Rattle.sws_words.specs.Grammar.{Given, is_among, given_by, given_of, each_once, places, value_of, has_flag, has_bundle}
use Rattle.sws_words.specs.Orders.{Order, gopher_by, gopher_in, gopher_known, host_in, some_in, shape_of, within}
use Rattle.sws_words.specs.Orders as orders
use Rattle.sws_words.proofs.Clap.ClapWalkLemmas.{IsPlace, unless, clap_rows, add_all}
use Rattle.sws_words.proofs.Clap.ClapStepLemmas.{idle_at}
use Rattle.sws_words.proofs.Clap.ClapGrammarLemmas.{IsFlag, reads_alike}
use Rattle.sws_words.proofs.Clap.ClapEndLemmas.{clear}
use Rattle.sws_words.proofs.GivenRows.{AddsFlag, AllKnown, HasPlaces, one_more, rows_given}
use Rattle.sws_words.proofs.TakenLemmas.{TakeDefaults, checked}
use Rattle.sws_words.proofs.FoundLemmas.{command_reads, each_named, flag_text, none_named, rows_once}
use Rattle.sws_words.proofs.FlagLemmas.{flag_found, flag_of, flag_of_text, flag_told, is_flag_text}
use Rattle.sws_words.proofs.SameLemmas.{ap₅}
use Rattle.sws_words.proofs.CommandRowsLemmas.{HasRule, option_is, option_adds, one_place_is, rows_found, option_found, shape_at, shape_found, checked_at, word_found, one_place_alike, bundle_orders_nothing}

-- the command as `clap` builds it
abbrev gopher_shape : Shape
gopher_shape = (built gopher_app).top

one_place : (p : ℕ) (a : Rule) → arg_by_index gopher_shape.rules p ≡ Some a → IsPlace gopher_shape.rules a
one_place = one_place_is gopher_shape (with_index 1 (filled (place_rule (codes "folder")))) (record { by_id = refl; one = refl; once = refl; goes_on = refl }) (λ p. refl)

has_rule : (name : Text) → is_among name gopher_known.options ≡ true → HasRule gopher_shape.rules name
has_rule = each_named (HasRule gopher_shape.rules) gopher_known.options ((refl, refl), ((refl, refl), ((refl, refl), ((refl, refl), ((refl, refl), ((refl, refl), ((refl, refl), ((refl, refl), tt))))))))

one_flag : (name : Text) → is_among name gopher_known.options ≡ false → is_among name gopher_known.flags ≡ true → IsFlag gopher_shape.rules name
one_flag name e = each_named (IsFlag gopher_shape.rules) gopher_known.flags (record { rule = filled (flag_rule (codes "journal")); by_long = refl; takes = refl }, tt) name

no_other : (name : Text) → is_among name gopher_known.options ≡ false → is_among name gopher_known.flags ≡ false → arg_by_long gopher_shape.rules name ≡ None
no_other name e f =
    let os = none_named gopher_known.options name e in
    let fs = none_named gopher_known.flags name f in
    rw (os.0, os.1.0, os.1.1.0, os.1.1.1.0, os.1.1.1.1.0, os.1.1.1.1.1.0, os.1.1.1.1.1.1.0, os.1.1.1.1.1.1.1.0, fs.0) refl

reads : (words : List Text) → has_bundle words ≡ false
    → clap_rows gopher_shape (idle_at nothing_held 1) words ≡ option_and_then (add_all gopher_shape (Some []) 1) (given_by gopher_known None words)
reads words e = reads_alike gopher_shape refl one_place gopher_known (λ name is. option_is gopher_shape.rules name (has_rule name is)) one_flag no_other words (clear words e) nothing_held 1

adds_flag : (name : Text) → is_among name gopher_known.flags ≡ true → AddsFlag gopher_shape (arg_by_long gopher_shape.rules name) name
adds_flag = each_named (λ name. AddsFlag gopher_shape (arg_by_long gopher_shape.rules name) name) gopher_known.flags
    (λ rows. one_more (codes "journal") (codes "true") rows, tt)

abbrev place_names : List Text
place_names = codes "folder" ∷ []

has_places : HasPlaces gopher_shape 1 place_names
has_places = (λ v rows. one_more (codes "folder") v rows, refl)

adds : (given : List Given) → AllKnown gopher_known given → add_all gopher_shape (Some []) 1 given ≡ rows_once place_names given
adds given is = rows_given gopher_shape gopher_known (λ name is. option_adds gopher_shape refl name (has_rule name is)) adds_flag place_names 1 has_places (refl, (refl, (tt, tt))) given is

defaults : TakeDefaults gopher_shape.rules
defaults = (refl, (refl, (refl, (refl, (refl, (refl, (refl, (refl, (refl, (refl, tt))))))))))

-- the rows with the defaults
abbrev found : List Given → List Row
found given = rows_found gopher_shape place_names given

abbrev front_rules : List Rule
front_rules = with_index 1 (filled (place_rule (codes "folder"))) ∷ filled (option_rule (codes "host")) ∷ filled (option_rule (codes "port")) ∷ filled (option_rule (codes "connections"))
    ∷ filled (option_rule (codes "workers")) ∷ filled (option_rule (codes "shards"))
    ∷ filled (option_rule (codes "batch")) ∷ filled (option_rule (codes "group")) ∷ filled (option_rule (codes "cost")) ∷ []

flag_journal : (given : List Given) → AllKnown gopher_known given → one_of (codes "journal") (found given) ≡ Some (flag_text (has_flag (codes "journal") given))
flag_journal given is = flag_found gopher_known place_names (codes "journal") front_rules [] (filled (flag_rule (codes "journal"))) refl refl refl refl refl (refl, tt) refl given is

abbrev pub gopher_with : Option Text → Option Text → Option Text → Option Text → Option orders.Shape → Bool → Option Order
gopher_with folder host port connections shape journal =
    option_and_then (λ f. option_and_then (λ h. option_and_then (λ p. option_and_then (λ c. option_and_then (λ s. gopher_in f h p c s journal) shape)
    (some_in connections)) (option_and_then (within 1 65535) port)) (option_and_then host_in host)) folder

abbrev pub gopher_at : List Row → Option Order
gopher_at rows = gopher_with (first_of (codes "folder") rows) (first_of (codes "host") rows) (first_of (codes "port") rows) (first_of (codes "connections") rows) (shape_at rows) (flag_of (one_of (codes "journal") rows))

at_found : (given : List Given) → AllKnown gopher_known given → (word : Text) → places given ≡ word ∷ []
    → gopher_at (found given) ≡ gopher_with (Some word) (value_of (codes "host") given) (value_of (codes "port") given) (value_of (codes "connections") given) (shape_of given) (has_flag (codes "journal") given)
at_found given is word e =
    ap (gopher_with (first_of (codes "folder") (found given)) (first_of (codes "host") (found given)) (first_of (codes "port") (found given)) (first_of (codes "connections") (found given)) (shape_at (found given)))
    (ap flag_of (flag_journal given is) ∙ flag_of_text (has_flag (codes "journal") given))
    ∙ ap₅ (λ f h p c s. gopher_with f h p c s (has_flag (codes "journal") given)) (word_found gopher_shape gopher_known (codes "folder") refl (λ rows. refl) given is word e)
    (option_found gopher_shape gopher_known place_names (codes "host") refl given is) (option_found gopher_shape gopher_known place_names (codes "port") refl given is)
    (option_found gopher_shape gopher_known place_names (codes "connections") refl given is) (shape_found gopher_shape gopher_known place_names (refl, (refl, (refl, (refl, refl)))) given is)

alike : (given : List Given) → AllKnown gopher_known given
    → (if each_once given then gopher_by given else None) ≡ option_and_then gopher_at (option_and_then (checked gopher_shape) (rows_once place_names given))
alike =
    one_place_alike gopher_shape gopher_known (codes "folder") refl (λ rows. refl)
    (λ folder given. gopher_with (Some folder) (value_of (codes "host") given) (value_of (codes "port") given) (value_of (codes "connections") given) (shape_of given) (has_flag (codes "journal") given)) gopher_at at_found

-- the order of the words behind `gopher`, of what `clap` makes of them
pub gopher_order : (words : List Text) → has_bundle words ≡ false
    → option_and_then gopher_by (given_of gopher_known words) ≡ option_and_then gopher_at (unless (fault_of gopher_app words) (Some (matches_of gopher_app words)))
gopher_order words e = command_reads gopher_shape gopher_known place_names gopher_by gopher_at words (reads words e) defaults adds alike

pub gopher_bundle : (words : List Text) → has_bundle words ≡ true → option_and_then gopher_by (given_of gopher_known words) ≡ None
gopher_bundle = bundle_orders_nothing gopher_by gopher_known

-- the text of the flag in the rows that `clap` finds
pub gopher_flag : (words : List Text) → has_bundle words ≡ false → fault_of gopher_app words ≡ [] → is_flag_text (one_of (codes "journal") (matches_of gopher_app words)) ≡ true
gopher_flag words e taken =
    flag_told gopher_shape gopher_known place_names (codes "journal") words (reads words e) defaults adds flag_journal
    (λ given. (is_given (codes "folder") (found given), checked_at gopher_shape gopher_known (codes "folder") refl (λ rows. refl) given (is_given (codes "folder") (found given)) refl)) taken

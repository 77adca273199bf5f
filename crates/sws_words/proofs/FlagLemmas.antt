-- Flags: their texts in the rows that `clap` finds, whichever the command is.
use Rattle.std.proofs.Common.{◌≡◌, ◌∙◌, Bool, true, false, List, [], ◌∷◌, Option, Some, None, refl, sym, ap, true≢false, codes}
use Rattle.std.specs.Prelude.{◌||◌, ◌&&◌, if◌then◌else◌, option_and_then, is_some, fold}
use Rattle.std.specs.Option.{option_map_or}
use Rattle.std.specs.Str.{bytes_eq}
use Rattle.clap.specs.Walk.{Row, Rule, Text, finished, nothing_held, one_of, reading_by, row_text, walk, with_default}
use Rattle.clap.specs.Simple.{Shape}
use Rattle.clap.specs.Faults.{built_fault}
use Rattle.clap.specs.declared.builder.value_parser.Reading.TheVariants.{AsWritten}
use Rattle.sws_words.specs.Grammar.{Given, Known, is_among, given_by, given_of, each_once, has_flag, places}
use Rattle.sws_words.proofs.Clap.ClapStepLemmas.{idle_at}
use Rattle.sws_words.proofs.Clap.ClapWalkLemmas.{unless, clap_rows, add_all}
use Rattle.sws_words.proofs.GivenRows.{AllKnown, AreOthers, fits, rows_of}
use Rattle.sws_words.proofs.TakenLemmas.{TakeDefaults, alone, checked}
use Rattle.sws_words.proofs.FoundLemmas.{command_reads, defaults_leave, first_flag, flag_default, flag_text, row_at, rows_once}
use Rattle.sws_words.proofs.CommandRowsLemmas.{all_leave, leave_all, rows_found}

-- whether a flag's text is `true`
abbrev pub flag_of : Option Text → Bool
flag_of text = option_map_or (λ t. bytes_eq t (codes "true")) text false

pub flag_of_text : (t : Bool) → flag_of (Some (flag_text t)) ≡ t
flag_of_text true = refl
flag_of_text false = refl

-- a flag's text is `true` or `false`
abbrev pub is_flag_text : Option Text → Bool
is_flag_text text = option_map_or (λ t. bytes_eq t (codes "true") || bytes_eq t (codes "false")) text false

told_flag : (t : Bool) → is_flag_text (Some (flag_text t)) ≡ true
told_flag true = refl
told_flag false = refl

-- a flag's text, where its rule stands between others
pub flag_found : (known : Known) (names : List Text) (name : Text) (front behind : List Rule) (a : Rule)
    → all_leave name front ≡ true → all_leave name behind ≡ true → a.id ≡ name → a.defaults ≡ codes "false" ∷ [] → reading_by a ≡ AsWritten
    → AreOthers name names → is_among name known.options ≡ false → (given : List Given) → AllKnown known given
    → one_of name (fold with_default (with_default (fold with_default (rows_of names given) front) a) behind) ≡ Some (flag_text (has_flag name given))
flag_found known names name front behind a before after id defaults reading others isnt given is =
    let rows : List Row = fold with_default (rows_of names given) front in
    ap (option_and_then row_text) (defaults_leave name behind (with_default rows a) (leave_all name behind after))
    ∙ flag_default name a rows (has_flag name given) id defaults reading
    (defaults_leave name front (rows_of names given) (leave_all name front before) ∙ first_flag known names name others isnt given is)

-- what `get_flag` says of such a text
pub flag_got : (r : Bool) (text : Option Text) → is_flag_text text ≡ true → (text ≡ Some (codes "true") → r ≡ true) → (text ≡ Some (codes "false") → r ≡ false) → flag_of text ≡ r
flag_got r None is on off = absurd (true≢false (sym is))
flag_got r (Some t) is on off = by_text (bytes_eq t (codes "true")) (bytes_eq t (codes "false")) refl refl is
  where
    by_text : (a b : Bool) → bytes_eq t (codes "true") ≡ a → bytes_eq t (codes "false") ≡ b → (a || b) ≡ true → bytes_eq t (codes "true") ≡ r
    by_text true b h i e = h ∙ sym (on (ap (λ x. Some x) ((Rattle.std.proofs.lemmas.Slice.Eq.bytes_eq-Decides t (codes "true")).0 h)))
    by_text false true h i e = h ∙ sym (off (ap (λ x. Some x) ((Rattle.std.proofs.lemmas.Slice.Eq.bytes_eq-Decides t (codes "false")).0 i)))
    by_text false false h i e = absurd (true≢false (sym e))

abbrev nowhere : Option Bool
nowhere = None

nothing_else : (b : Bool) → (if b then nowhere else nowhere) ≡ nowhere
nothing_else true = refl
nothing_else false = refl

nothing : (o : Option (List Given)) → nowhere ≡ option_and_then (λ _. nowhere) o
nothing None = refl
nothing (Some g) = refl

by_test : (a : Bool) → nowhere ≡ (if a then None else Some true) → a ≡ true
by_test true h = refl
by_test false h = absurd (true≢false (sym (ap is_some h)))

-- the text of a flag in the rows that `clap` finds
pub flag_told : (s : Shape) (known : Known) (names : List Text) (name : Text) (words : List Text)
    → clap_rows s (idle_at nothing_held 1) words ≡ option_and_then (add_all s (Some []) 1) (given_by known None words)
    → TakeDefaults s.rules
    → ((given : List Given) → AllKnown known given → add_all s (Some []) 1 given ≡ rows_once names given)
    → ((given : List Given) → AllKnown known given → one_of name (rows_found s names given) ≡ Some (flag_text (has_flag name given)))
    → ((given : List Given) → (there : Bool) × (checked s (rows_of names given) ≡ (if there then Some (rows_found s names given) else None)))
    → built_fault (alone s) nothing_held words ≡ []
    → is_flag_text (one_of name (finished s.rules (walk s.rules [] nothing_held words).held)) ≡ true
flag_told s known names name words reads defaults adds found whole taken =
    by_test (is_flag_text (one_of name (finished s.rules (walk s.rules [] nothing_held words).held)))
    (nothing (given_of known words) ∙ command_reads s known names (λ _. nowhere) unless_told words reads defaults adds alike
    ∙ ap (λ k. option_and_then unless_told (unless k (Some (finished s.rules (walk s.rules [] nothing_held words).held)))) taken)
  where
    -- nothing, where the flag has such a text
    unless_told : List Row → Option Bool
    unless_told rows = if is_flag_text (one_of name rows) then None else Some true

    at_found : (given : List Given) → AllKnown known given → unless_told (rows_found s names given) ≡ None
    at_found given is =
        ap (λ a. if is_flag_text a then None else Some true) (found given is)
        ∙ ap (λ a. if a then None else Some true) (told_flag (has_flag name given))

    by_there : (given : List Given) → AllKnown known given → (b : Bool) → option_and_then unless_told (if b then Some (rows_found s names given) else None) ≡ None
    by_there given is true = at_found given is
    by_there given is false = refl

    by_once : (given : List Given) → AllKnown known given → (t : Bool)
        → option_and_then unless_told (option_and_then (checked s) (if t then Some (rows_of names given) else None)) ≡ None
    by_once given is false = refl
    by_once given is true = ap (option_and_then unless_told) (whole given).1 ∙ by_there given is (whole given).0

    alike : (given : List Given) → AllKnown known given
        → (if each_once given then nowhere else nowhere) ≡ option_and_then unless_told (option_and_then (checked s) (rows_once names given))
    alike given is = nothing_else (each_once given) ∙ sym (by_once given is (fits names (places given) && each_once given))

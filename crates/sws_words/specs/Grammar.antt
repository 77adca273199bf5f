-- The words behind a command.
use Rattle.std.specs.Prelude.{ℕ, ◌==◌, ◌&&◌, Bool, true, false, not, nat_le, if◌then◌else◌, List, [], ◌∷◌, map, length, codes, slice_index, Option, Some, None, is_some, option_map, option_and_then}
use Rattle.std.specs.List.{list_any}
use Rattle.std.specs.Str.{bytes_eq}
use Rattle.clap.specs.Lexer.{long_of}

-- a word, in bytes
abbrev pub Text : Type 0
Text = List ℕ

-- a word that begins with a minus sign and has more characters
abbrev pub looks_like_option : Text → Bool
looks_like_option word = nat_le 2 (length word) && slice_index word 0 == 45

-- what is given: a word at its place, an option with its value, or a flag
pub data Given : Type 0 where
  place : Text → Given
  option : Text → Text → Given
  flag : Text → Given

-- which options with a value, and which flags, a command has
pub record Known : Type 0 where
  pub options : List Text
  pub flags : List Text

-- the name is one of these
abbrev pub is_among : Text → List Text → Bool
is_among name names = list_any (λ known. bytes_eq known name) names

-- what was given and behind it the rest, where that is in order
abbrev pub before : Given → Option (List Given) → Option (List Given)
before given rest = option_map (λ others. given ∷ others) rest

-- an option with the value that stands in its word, or one whose value is the next word
abbrev pub with_value : Text → Option Text
    → (Option Text → Option (List Given)) → Option (List Given)
with_value name (Some value) rest = before (option name value) (rest None)
with_value name None rest = rest (Some name)

-- a word that begins with a minus sign: `--name` or `--name=value`, where
-- the command knows the name
abbrev pub by_name : Known → Option (Text × Option Text)
    → (Option Text → Option (List Given)) → Option (List Given)
by_name known None rest = None
by_name known (Some named) rest =
    if is_among named.0 known.options then with_value named.0 named.1 rest
    else if is_among named.0 known.flags && not (is_some named.1) then before
    (flag named.0) (rest None)
    else None

-- what the words give, from the left: a word at its place, an option with its value, in its word or
-- as the next, a flag; behind `--` each word is at its place, and any other word that looks like an
-- option is one that the command knows; the option is the one whose value the next word is
unfoldable pub given_by : Known → Option Text → List Text → Option (List Given)
given_by known None [] = Some []
given_by known (Some name) [] = None
given_by known None (word ∷ words) =
    if bytes_eq word (codes "--") then Some (map place words)
    else if looks_like_option word then by_name known (long_of word) (λ awaited.
    given_by known awaited words)
    else before (place word) (given_by known None words)
given_by known (Some name) (word ∷ words) =
    if looks_like_option word then None else before (option name word) (given_by known None words)

-- ---- what was given

-- this is an option or a flag of the name
abbrev pub is_named : Text → Given → Bool
is_named name (place word) = false
is_named name (option given value) = bytes_eq given name
is_named name (flag given) = bytes_eq given name

-- each option and each flag is given at most once
abbrev pub is_new : Given → List Given → Bool
is_new (place word) others = true
is_new (option name value) others = not (list_any (is_named name) others)
is_new (flag name) others = not (list_any (is_named name) others)

-- no option and no flag is given twice
abbrev pub each_once : List Given → Bool
each_once [] = true
each_once (given ∷ others) = is_new given others && each_once others

-- the words that are no option, in order
abbrev pub places : List Given → List Text
places [] = []
places (place word ∷ others) = word ∷ places others
places (option name value ∷ others) = places others
places (flag name ∷ others) = places others

-- the value of the option, where it is given
abbrev pub value_of : Text → List Given → Option Text
value_of name [] = None
value_of name (option given value ∷ others) =
    if bytes_eq given name then Some value else value_of name others
value_of name (place word ∷ others) = value_of name others
value_of name (flag given ∷ others) = value_of name others

-- the flag is given
abbrev pub has_flag : Text → List Given → Bool
has_flag name [] = false
has_flag name (flag given ∷ others) = if bytes_eq given name then true else has_flag name others
has_flag name (place word ∷ others) = has_flag name others
has_flag name (option given value ∷ others) = has_flag name others

-- what the words behind a command give, each option and flag at most once
abbrev pub given_of : Known → List Text → Option (List Given)
given_of known words = option_and_then (λ given. if each_once given then Some given else None)
    (given_by known None words)

-- ---- what is refused before `clap` sees it

-- a minus sign and other characters, of which the first is no minus sign: a bundle
-- of short flags to `clap`
abbrev pub is_bundle : Text → Bool
is_bundle [] = false
is_bundle (x ∷ []) = false
is_bundle (x ∷ y ∷ rest) = (x == 45) && not (y == 45)

-- a word before `--` is a bundle; the grammar gives nothing for such words
abbrev pub has_bundle : List Text → Bool
has_bundle [] = false
has_bundle (word ∷ words) = if bytes_eq word (45 ∷ 45 ∷ []) then false else if is_bundle word then
    true else has_bundle words

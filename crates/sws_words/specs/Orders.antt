-- The orders that words give.
use Rattle.std.specs.Prelude.{ℕ, ◌==◌, ◌&&◌, ◌||◌, Bool, false, not, nat_le, if◌then◌else◌, List, [], ◌∷◌, length, codes, Option, Some, None, is_some, option_map, option_and_then}
use Rattle.std.specs.Char.{is_ascii_alphanumeric}
use Rattle.std.specs.List.{list_all}
use Rattle.std.specs.Str.{bytes_eq, all_ascii_digits}
use Rattle.std.specs.Str.Parse.{digits_value, without_leading_plus}
use Rattle.mely_history.specs.Ranges.{core_limit, shard_limit, batch_limit, group_limit}
use Rattle.sws_link.specs.Limits.{conn_limit}
use Rattle.sws_words.specs.Grammar.{Text, Known, Given, given_of, places, value_of, has_flag}

-- ---- numbers

-- an optional plus sign and decimal digits, of which the first ones may be 0
abbrev pub number_in : Text → Option ℕ
number_in word =
    let digits = without_leading_plus word in
    if all_ascii_digits digits && not (length digits == 0) then Some
    (digits_value 10 digits) else None

-- a number of a range: an optional plus sign and decimal digits, leading zeros among them
unfoldable pub within : ℕ → ℕ → Text → Option ℕ
within least most word =
    option_and_then (λ number.
    if nat_le least number && nat_le number most then Some number else None) (number_in word)

-- the value of an option: `Some None` where it isn't given, `None` where it is out of form
abbrev pub optional : (Text → Option ℕ) → Option Text → Option (Option ℕ)
optional read None = Some None
optional read (Some word) = option_map Some (read word)

-- the number that the word says, or the default where there is no word
abbrev pub or_default : (Text → Option ℕ) → ℕ → Option Text → Option ℕ
or_default read default None = Some default
or_default read default (Some word) = read word

-- ---- orders

-- the shape of a run, as the words give it
pub record Shape : Type 0 where
  pub cores : ℕ
  pub shards : ℕ
  pub batch : ℕ
  pub group : ℕ
  pub steal_cost : ℕ

-- what a command line orders
pub data Order : Type 0 where
  answer : (folder : Text) → (date : Option ℕ) → Order
  replay : (folder : Text) → (shape : Shape) → (date : Option ℕ) → (journal schedule log : Bool)
      → Order
  serve : (folder : Text) → (port connections : ℕ) → (shape : Shape) → (date : Option ℕ)
      → (log : Bool) → Order
  bench : (connections number : ℕ) → (shape : Shape) → Order
  check : (connections : ℕ) → (shape : Shape) → (log : Bool) → Order
  gopher : (folder host : Text) → (port : ℕ) → (connections : Option ℕ) → (shape : Shape)
      → (journal : Bool) → Order

-- the highest cost of a steal, which is what the time left of a colour has to exceed for it
abbrev pub cost_limit : ℕ
cost_limit = 1000000

-- the options that shape a run
abbrev pub shape_options : List Text
shape_options = codes "workers" ∷ codes "shards" ∷ codes "batch" ∷ codes "group" ∷ codes "cost" ∷ []

-- their ranges, and what they are where they are not given
abbrev pub shape_in : (workers shards batch group cost : Option Text) → Option Shape
shape_in workers shards batch group cost =
    option_and_then (λ cores.
    option_and_then (λ parts.
    option_and_then (λ most.
    option_and_then (λ near.
    option_map (λ steal. record {
      cores = cores;
      shards = parts;
      batch = most;
      group = near;
      steal_cost = steal;
    })
    (or_default (within 0 cost_limit) 20 cost))
    (or_default (within 1 group_limit) 4 group))
    (or_default (within 1 batch_limit) 10 batch))
    (or_default (within 1 shard_limit) 1 shards))
    (or_default (within 1 core_limit) 1 workers)

-- the shape that the options give
abbrev pub shape_of : List Given → Option Shape
shape_of given = shape_in (value_of (codes "workers") given) (value_of (codes "shards") given)
    (value_of (codes "batch") given)
    (value_of (codes "group") given) (value_of (codes "cost") given)

-- the last second of the year 9999, in seconds after the beginning of 1970, and so the last that a
-- date shows, which has four digits for the year (RFC 9110, section 5.6.7)
abbrev pub last_second : ℕ
last_second = 253402300799

-- a number of seconds, up to the last one of the year 9999
abbrev pub date_in : Option Text → Option (Option ℕ)
date_in date = optional (within 0 last_second) date

-- the date that the option gives, where it is given
abbrev pub date_of : List Given → Option (Option ℕ)
date_of given = date_in (value_of (codes "date") given)

-- the word, where there is exactly one
abbrev pub only_place : List Text → Option Text
only_place [] = None
only_place (word ∷ []) = Some word
only_place (word ∷ other ∷ words) = None

-- the two words, where there are exactly two
abbrev pub two_places : List Text → Option (Text × Text)
two_places [] = None
two_places (word ∷ []) = None
two_places (word ∷ other ∷ []) = Some (word, other)
two_places (word ∷ other ∷ another ∷ words) = None

-- answer FOLDER [--date D]
abbrev pub answer_known : Known
answer_known = record { options = codes "date" ∷ []; flags = [] }

-- the order of `answer`
abbrev pub answer_by : List Given → Option Order
answer_by given =
    option_and_then (λ folder.
    option_map (λ date. answer folder date) (date_of given))
    (only_place (places given))

-- replay FOLDER [--workers K] [--shards G] [--batch B] [--group N] [--cost S] [--date D]
-- [--journal] [--schedule] [--log]
abbrev pub replay_known : Known
replay_known = record {
  options = codes "date" ∷ shape_options;
  flags = codes "journal" ∷ codes "schedule" ∷ codes "log" ∷ [];
}

-- the order of `replay`
abbrev pub replay_by : List Given → Option Order
replay_by given =
    option_and_then (λ folder.
    option_and_then (λ shape.
    option_map (λ date. replay folder shape date (has_flag (codes "journal") given)
    (has_flag (codes "schedule") given) (has_flag (codes "log") given)) (date_of given))
    (shape_of given))
    (only_place (places given))

-- serve FOLDER --port P --connections N [--log], with the options of the shape and --date
abbrev pub serve_known : Known
serve_known = record {
  options = codes "port" ∷ codes "connections" ∷ codes "date" ∷ shape_options;
  flags = codes "log" ∷ [];
}

-- the order of `serve`
abbrev pub serve_by : List Given → Option Order
serve_by given =
    option_and_then (λ folder.
    option_and_then (λ port.
    option_and_then (λ connections.
    option_and_then (λ shape.
    option_map (λ date. serve folder port connections shape date (has_flag (codes "log") given))
    (date_of given))
    (shape_of given))
    (option_and_then (within 1 conn_limit) (value_of (codes "connections") given)))
    (option_and_then (within 1 65535) (value_of (codes "port") given)))
    (only_place (places given))

-- bench N NUMBER, with the options of the shape
abbrev pub bench_known : Known
bench_known = record { options = shape_options; flags = [] }

-- the order of `bench`
abbrev pub bench_by : List Given → Option Order
bench_by given =
    option_and_then (λ words.
    option_and_then (λ connections.
    option_and_then (λ number.
    option_map (λ shape. bench connections number shape) (shape_of given))
    (within 0 4294967295 words.1))
    (within 1 conn_limit words.0))
    (two_places (places given))

-- check --connections N [--log], with the options of the shape
abbrev pub check_known : Known
check_known = record {
  options = codes "connections" ∷ shape_options;
  flags = codes "log" ∷ [];
}

-- the order of `check` by the words that are no options, of which it has none
abbrev pub check_in : List Text → Option ℕ → Option Shape → Bool → Option Order
check_in [] connections shape log =
    option_and_then (λ most. option_map (λ form. check most form log) shape) connections
check_in (word ∷ words) connections shape log = None

-- the order of `check`
abbrev pub check_by : List Given → Option Order
check_by given =
    check_in (places given)
    (option_and_then (within 0 conn_limit) (value_of (codes "connections") given))
    (shape_of given) (has_flag (codes "log") given)

-- ---- `gopher`

-- the most bytes of a host's name
abbrev pub host_limit : ℕ
host_limit = 255

-- the byte may stand in a host's name: a letter, a digit, a full stop or a minus sign
abbrev pub is_host_byte : ℕ → Bool
is_host_byte byte = is_ascii_alphanumeric byte || (byte == 46 || byte == 45)

-- there is a first byte, and it is no minus sign
abbrev pub begins_host : Text → Bool
begins_host [] = false
begins_host (byte ∷ bytes) = not (byte == 45)

-- a host's name: 1 to 255 such bytes, of which the first is no minus sign
abbrev pub is_host : Text → Bool
is_host word =
    begins_host word && (nat_le (length word) host_limit && list_all is_host_byte word)

-- the host's name that the word is
abbrev pub host_in : Text → Option Text
host_in word = if is_host word then Some word else None

-- how many connections from outside are served, where that is given
abbrev pub some_in : Option Text → Option (Option ℕ)
some_in connections = optional (within 1 conn_limit) connections

-- gopher FOLDER --host H --port P [--connections N] [--journal], with the options of the shape
abbrev pub gopher_known : Known
gopher_known = record {
  options = codes "host" ∷ codes "port" ∷ codes "connections" ∷ shape_options;
  flags = codes "journal" ∷ [];
}

-- the order of its parts: a journal is that of a script, and not of connections from outside
abbrev pub gopher_in : (folder host : Text) → ℕ → Option ℕ → Shape → Bool → Option Order
gopher_in folder host port connections shape journal =
    if is_some connections && journal then None
    else Some (gopher folder host port connections shape journal)

-- the order of `gopher`
abbrev pub gopher_by : List Given → Option Order
gopher_by given =
    option_and_then (λ folder.
    option_and_then (λ host.
    option_and_then (λ port.
    option_and_then (λ connections.
    option_and_then (λ shape.
    gopher_in folder host port connections shape (has_flag (codes "journal") given))
    (shape_of given))
    (some_in (value_of (codes "connections") given)))
    (option_and_then (within 1 65535) (value_of (codes "port") given)))
    (option_and_then host_in (value_of (codes "host") given)))
    (only_place (places given))

-- the order of a command line: by its first word the command, which reads those behind it
abbrev pub order_of : List Text → Option Order
order_of [] = None
order_of (command ∷ words) =
    if bytes_eq command (codes "answer") then option_and_then answer_by
    (given_of answer_known words)
    else if bytes_eq command (codes "replay") then option_and_then replay_by
    (given_of replay_known words)
    else if bytes_eq command (codes "serve") then option_and_then serve_by
    (given_of serve_known words)
    else if bytes_eq command (codes "bench") then option_and_then bench_by
    (given_of bench_known words)
    else if bytes_eq command (codes "check")
    then option_and_then check_by (given_of check_known words)
    else if bytes_eq command (codes "gopher")
    then option_and_then gopher_by (given_of gopher_known words)
    else None

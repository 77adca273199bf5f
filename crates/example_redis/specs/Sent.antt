-- How clients send requests.
-- RESP, "Sending commands to a Redis server": an array of bulk strings.
use Rattle.std.specs.Prelude.{◌≡◌, ◌<◌, ◌≤◌, ℕ, List, ◌++◌, codes, flat_map, length}
use Rattle.std.specs.Fmt.{decimal}
use Rattle.std.specs.List.{AllByRecursion}
use Rattle.mely_net.specs.declared.cut.Cut.TheVariants.{Frame}
use Rattle.example_redis.specs.declared.limits.TheConstants.{MOST_VALUE, MOST_WORDS}
use Rattle.example_redis.specs.Frames.{Says, cut_of, heard_of}
use Rattle.example_redis.specs.Replies.{bulk}

-- a request of these words
abbrev pub sent : List (List ℕ) → List ℕ
sent words = codes "*" ++ decimal (length words) ++ codes "\r\n" ++ flat_map bulk words

-- these are neither too many nor too long
pub record AreSendable (words : List (List ℕ)) : Type 0 where
  pub some : 0 < length words
  pub few : length words ≤ MOST_WORDS
  pub short : AllByRecursion (λ word. length word ≤ MOST_VALUE) words

-- a request ends where it was sent to, whatever comes behind it, and has the words that were sent
pub record IsReadBack (words : List (List ℕ)) : Type 0 where
  pub cut : (more : List ℕ) → cut_of (sent words ++ more) ≡ Frame (length (sent words))
  pub heard : heard_of (sent words) ≡ Says words

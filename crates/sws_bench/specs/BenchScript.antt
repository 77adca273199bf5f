-- The connections of a bench, each by what draws give from a state on: how many requests it has,
-- which file each asks for, and the size of the pieces in which its bytes come.
use Rattle.std.specs.Prelude.{ℕ, zero, suc, ◌+◌, ◌%◌, ◌<◌, List, ◌++◌, length, map, sum, codes, None}
use Rattle.std.specs.List.{flat_map, range_with_len}
use Rattle.std.specs.Int.{div_ceil}
use Rattle.std.specs.Fmt.{decimal}
use Rattle.std.specs.Fork.{slice_chunk}
use Rattle.sws_link.specs.LinkItems.{all_bytes}
use Rattle.sws_site.specs.ResponseHeads.{line_end}
use Rattle.sws_site.specs.Site.{SiteState}
use Rattle.sws_answer.specs.Responses.{input_limit, answer_limit}
use Rattle.sws_script.specs.declared.input.Item.{Item}
use Rattle.sws_script.specs.declared.input.Item.TheVariants.{Send}
use Rattle.sws_script.specs.declared.input.ScriptConn.{ScriptConn}
use Rattle.sws_script.specs.Scripted.{script_of}
use Rattle.sws_bench.specs.Draws.{next_state, behind, draw, draws_from}

-- the request of a draw: for one of twenty files, of which the site has sixteen
unfoldable pub request : ℕ → List ℕ
request drawn =
    codes "GET /f" ++ (decimal (drawn % 20)
    ++ (codes ".txt HTTP/1.1" ++ (line_end ++ (codes "Host: b" ++ (line_end ++ line_end)))))

-- ---- a connection

-- how many requests it has, by its first draw
abbrev pub request_count : ℕ → ℕ
request_count state = 1 + draw state 0 % 8

-- its bytes: a request for each of the draws behind the first
unfoldable pub bytes_from : ℕ → List ℕ
bytes_from state = flat_map request (draws_from (next_state state) (request_count state))

-- the state behind the draws of its requests
abbrev pub behind_requests : ℕ → ℕ
behind_requests state = behind (next_state state) (request_count state)

-- how many bytes its pieces have, by its last draw
abbrev pub piece_size : ℕ → ℕ
piece_size state = 1 + draw (behind_requests state) 0 % 64

-- the state behind all its draws
unfoldable pub behind_conn : ℕ → ℕ
behind_conn state = next_state (behind_requests state)

-- bytes in pieces of this size, the last one shorter where need be
unfoldable pub pieces : ℕ → List ℕ → List (List ℕ)
pieces size bytes = map (slice_chunk bytes size) (range_with_len 0 (div_ceil (length bytes) size))

-- the items that send these pieces
abbrev pub sends : List (List ℕ) → List Item
sends parts = map Send parts

-- it sends its bytes in these pieces, and then its input ends
unfoldable pub conn_from : ℕ → ScriptConn
conn_from state = record {
  step = None;
  cut = None;
  items = sends (pieces (piece_size state) (bytes_from state));
}

-- ---- all connections

-- the state with which the draws of a connection begin: those of the first begin
-- with the number of the bench
abbrev pub conn_state : ℕ → ℕ → ℕ
conn_state number zero = number
conn_state number (suc conn) = behind_conn (conn_state number conn)

-- so many connections of the bench of this number: they follow from the two numbers alone, so that
-- each run serves the same
unfoldable pub bench_conns : ℕ → ℕ → List ScriptConn
bench_conns number count = map (λ conn. conn_from (conn_state number conn)) (range_with_len 0 count)

-- how many bytes they send in all
unfoldable pub bench_bytes : ℕ → ℕ → ℕ
bench_bytes number count =
    sum (map (λ conn. length (all_bytes (script_of conn).items)) (bench_conns number count))

-- of a connection more bytes count, and more requests are answered, than any of these has
pub record HasRoom (site : SiteState) : Type 0 where
  pub input : 272 < input_limit site
  pub answers : 8 < answer_limit site

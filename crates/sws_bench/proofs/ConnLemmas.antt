-- A connection by its draws, and how few bytes it has.
use Rattle.std.proofs.Common.{◌≡◌, ℕ, ◌+◌, ◌*◌, ◌/◌, ◌%◌, ◌≤◌, List, [], ◌∷◌, ◌++◌, length, codes, ap, ◌∙◌, arith, length-append, None}
use Rattle.std.specs.List.{flat_map}
use Rattle.std.specs.Fmt.{decimal}
use Rattle.std.proofs.lemmas.Fmt.{length-decimal-le}
use Rattle.std.proofs.lemmas.List.FromFn.{length-map-range_with_len}
use Rattle.sws_site.specs.ResponseHeads.{line_end}
use Rattle.sws_script.specs.declared.input.Item.{Item}
use Rattle.sws_script.specs.declared.input.ScriptConn.{ScriptConn}
use Rattle.sws_bench.specs.Draws.{next_state, behind, draw, draws_from}
use Rattle.sws_bench.specs.BenchScript.{request, request_count, bytes_from, behind_requests, piece_size, behind_conn, pieces, sends, conn_from}

-- ---- by the draws one after another: `first` gives the count, `last` the size of the pieces

pub bytes_made : (start state first : ℕ) (bytes : List ℕ) → state ≡ next_state start → first ≡ draw start 0 → bytes ≡ flat_map request (draws_from state (1 + first % 8)) → bytes ≡ bytes_from start
unfolding bytes_from
bytes_made start state first bytes to given made = made ∙ (λ i. flat_map request (draws_from (to i) (1 + given i % 8)))

behind_made : (start state first next : ℕ) → state ≡ next_state start → first ≡ draw start 0 → next ≡ behind state (1 + first % 8) → next ≡ behind_requests start
behind_made start state first next to given made = made ∙ (λ i. behind (to i) (1 + given i % 8))

pub state_made : (start state first next after : ℕ) → state ≡ next_state start → first ≡ draw start 0 → next ≡ behind state (1 + first % 8) → after ≡ next_state next → after ≡ behind_conn start
unfolding behind_conn
state_made start state first next after to given made step = step ∙ ap next_state (behind_made start state first next to given made)

pub conn_made : (start state first next last : ℕ) (bytes : List ℕ) (items : List Item) → state ≡ next_state start → first ≡ draw start 0 → bytes ≡ flat_map request (draws_from state (1 + first % 8))
    → next ≡ behind state (1 + first % 8) → last ≡ draw next 0 → items ≡ sends (pieces (1 + last % 64) bytes) → (let conn : ScriptConn = record { step = None; cut = None; items = items } in conn ≡ conn_from start)
unfolding conn_from
conn_made start state first next last bytes items to given made behind_is drawn sent =
    let size : last ≡ draw (behind_requests start) 0 = drawn ∙ ap (λ (x : ℕ). next_state x / 65536) (behind_made start state first next to given behind_is) in
    let all = bytes_made start state first bytes to given made in
    let is : items ≡ sends (pieces (piece_size start) (bytes_from start)) = sent ∙ (λ i. sends (pieces (1 + size i % 64) (all i))) in
    λ i. record { step = None; cut = None; items = is i }

-- ---- few bytes

length-request : (drawn : ℕ) → length (request drawn) ≤ 34
unfolding request
length-request drawn =
    let digits = length-decimal-le 2 (drawn % 20) (omega arith) (omega arith) (omega arith) in
    let all = length-append (decimal (drawn % 20)) (codes ".txt HTTP/1.1" ++ (line_end ++ (codes "Host: b" ++ (line_end ++ line_end)))) in
    omega arith

length-requests : (draws : List ℕ) → length (flat_map request draws) ≤ 34 * length draws
length-requests [] = omega arith
length-requests (drawn ∷ draws) =
    let one = length-request drawn in
    let all = length-append (request drawn) (flat_map request draws) in
    omega (arith, length-requests draws)

-- eight requests at most
pub length-bytes_from : (state : ℕ) → length (bytes_from state) ≤ 272
unfolding bytes_from
length-bytes_from state =
    let all = length-requests (draws_from (next_state state) (request_count state)) in
    let count = length-map-range_with_len (draw (next_state state)) 0 (request_count state) in
    omega (arith, all, count)

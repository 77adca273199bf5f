-- What becomes of a connection of the bench.
use Rattle.std.proofs.Common.{◌≡◌, ℕ, ◌<◌, nat_le, Bool, true, false, List, [], ◌∷◌, ◌++◌, length, map, take, refl, ap, ◌∙◌, arith, cond}
use Rattle.std.specs.List.{flat_map, range_with_len, sum}
use Rattle.std.proofs.lemmas.Bool.{lt-leb}
use Rattle.std.proofs.lemmas.Simd.{map-map}
use Rattle.sws_link.specs.LinkItems.{all_bytes}
use Rattle.sws_site.specs.Site.{SiteState}
use Rattle.sws_answer.specs.Responses.{answers_to, is_closed, input_limit}
use Rattle.sws_script.specs.Scripted.{script_of, link_items}
use Rattle.sws_script.specs.declared.input.ScriptConn.{ScriptConn}
use Rattle.sws_steps.specs.declared.End.TheVariants.{Done}
use Rattle.sws_conn.specs.Outcome.{Input, at_end, at_limit, prepend_bytes, input_from, limit_input, end_of, scripted_input, outcome_of}
use Rattle.sws_bench.specs.BenchScript.{bytes_from, piece_size, pieces, sends, conn_from, conn_state, bench_conns, bench_bytes, HasRoom}
use Rattle.sws_bench.proofs.PieceLemmas.{joined}
use Rattle.sws_bench.proofs.ConnLemmas.{length-bytes_from}

-- the bytes of what is sent
sent_bytes : (parts : List (List ℕ)) → all_bytes (flat_map link_items (sends parts)) ≡ flat_map (λ part. part) parts
sent_bytes [] = refl
sent_bytes (part ∷ parts) = ap (λ rest. part ++ rest) (sent_bytes parts)

-- a connection sends its bytes
pub all_bytes-conn_from : (state : ℕ) → all_bytes (script_of (conn_from state)).items ≡ bytes_from state
unfolding conn_from
all_bytes-conn_from state = sent_bytes (pieces (piece_size state) (bytes_from state)) ∙ joined (piece_size state) (bytes_from state) (omega arith)

-- the bytes of all connections, by their draws
pub bench_bytes-sum : (number count : ℕ) → bench_bytes number count ≡ sum (map (λ conn. length (bytes_from (conn_state number conn))) (range_with_len 0 count))
unfolding bench_bytes bench_conns
bench_bytes-sum number count =
    ap sum (map-map (λ (conn : ScriptConn). length (all_bytes (script_of conn).items)) (λ (i : ℕ). conn_from (conn_state number i)) (range_with_len 0 count))
    ∙ (λ i. sum (map (λ (conn : ℕ). length (all_bytes-conn_from (conn_state number conn) i)) (range_with_len 0 count)))

-- an input of pieces alone ends with them
abbrev whole : List ℕ → Input
whole bytes = record { bytes = bytes; stop = at_end }

input_of_pieces : (waits : ℕ) (parts : List (List ℕ)) → input_from waits (flat_map link_items (sends parts)) ≡ whole (flat_map (λ part. part) parts)
input_of_pieces waits [] = refl
input_of_pieces waits ([] ∷ parts) = input_of_pieces waits parts
input_of_pieces waits ((byte ∷ bytes) ∷ parts) = ap (prepend_bytes (byte ∷ bytes)) (input_of_pieces 0 parts)

not_limited : (limit : ℕ) (input : Input) → length input.bytes < limit → limit_input limit input ≡ input
not_limited limit input short = λ i. cond (lt-leb limit (length input.bytes) short i) (record { bytes = take limit input.bytes; stop = at_limit }) input

-- its input ends behind all that it sends, as far as the site lets it count
scripted_input-limited : (site : SiteState) (state : ℕ) → scripted_input site (script_of (conn_from state)) ≡ limit_input (input_limit site) (whole (bytes_from state))
unfolding conn_from
scripted_input-limited site state =
    let parts = pieces (piece_size state) (bytes_from state) in
    ap (limit_input (input_limit site)) (input_of_pieces 0 parts ∙ ap whole (joined (piece_size state) (bytes_from state) (omega arith)))

-- all that it sends counts where the site has room for it
pub scripted_input-conn_from : (site : SiteState) (state : ℕ) → HasRoom site → scripted_input site (script_of (conn_from state)) ≡ whole (bytes_from state)
scripted_input-conn_from site state room =
    let short = length-bytes_from state in
    let more = room.input in
    scripted_input-limited site state
    ∙ not_limited (input_limit site) (whole (bytes_from state)) (omega (arith, short, more))

done : (closed : Bool) → end_of closed at_end ≡ Done
done true = refl
done false = refl

done_at_limit : (closed : Bool) → end_of closed at_limit ≡ Done
done_at_limit true = refl
done_at_limit false = refl

-- an input that ends well does so too where not all of it counts
limited_done : (site : SiteState) (limit : ℕ) (bytes : List ℕ) → (let input = limit_input limit (whole bytes) in end_of (is_closed (answers_to site input.bytes)) input.stop) ≡ Done
limited_done site limit bytes = by_test (nat_le limit (length bytes))
  where
    by_test : (b : Bool) → (let input = cond b (record { bytes = take limit bytes; stop = at_limit }) (whole bytes) in end_of (is_closed (answers_to site input.bytes)) input.stop) ≡ Done
    by_test true = done_at_limit (is_closed (answers_to site (take limit bytes)))
    by_test false = done (is_closed (answers_to site bytes))

-- so it is done
pub ends_done : (site : SiteState) (state : ℕ) → (outcome_of site (script_of (conn_from state))).end ≡ Done
unfolding conn_from
ends_done site state =
    ap (λ (input : Input). end_of (is_closed (answers_to site input.bytes)) input.stop) (scripted_input-limited site state)
    ∙ limited_done site (input_limit site) (bytes_from state)

-- Of a connection of a bench that was served alone nothing is left: all that it sends was read.
use Rattle.std.proofs.Common.{◌≡◌, ◌≢◌, ℕ, zero, suc, ◌+◌, ◌<◌, ◌≤◌, List, [], ◌∷◌, ◌++◌, length, map, take, take_all, append_assoc, append-nil, length-append, Some, refl, sym, ap, ◌∙◌, subst, arith, lit<}
use Rattle.std.specs.Prelude.{slice_get, sum, sum_by}
use Rattle.std.specs.List.{flat_map, range_with_len}
use Rattle.std.proofs.lemmas.List.FromFn.{length-map-range_with_len}
use Rattle.std.proofs.lemmas.List.Sums.{sum-map}
use Rattle.std.proofs.lemmas.Option.{same_Some}
use Rattle.sws_link.specs.Contents.{IsPrefix}
use Rattle.sws_link.specs.LinkItems.{all_bytes}
use Rattle.sws_link.specs.MemLink.{MemLinkState}
use Rattle.sws_link.specs.MemWorld.{MemWorldState}
use Rattle.sws_handlers.specs.declared.ended.Ended.{Ended}
use Rattle.sws_handlers.specs.declared.ended.Served.{Served}
use Rattle.sws_answer.specs.Responses.{answers, answers_to, responses_of, texts_of, input_limit, answer_limit}
use Rattle.sws_conn.specs.Outcome.{Input, scripted_input, outcome_of}
use Rattle.sws_script.specs.Scripted.{script_of}
use Rattle.sws_script.specs.declared.input.ScriptConn.{ScriptConn}
use Rattle.sws_site.specs.Site.{SiteState}
use Rattle.sws_replay.specs.Expected.{by_http}
use Rattle.sws_replay.specs.Runs.{IsServedAlone, ServesAll}
use Rattle.sws_bench.specs.Draws.{next_state, draw, draws_from}
use Rattle.sws_bench.specs.BenchScript.{request, request_count, bytes_from, conn_from, conn_state, bench_conns, bench_bytes, HasRoom}
use Rattle.sws_bench.specs.BenchSite.{bench_site}
use Rattle.sws_bench.proofs.ConnLemmas.{length-bytes_from}
use Rattle.sws_bench.proofs.OutcomeLemmas.{all_bytes-conn_from, scripted_input-conn_from}
use Rattle.sws_bench.proofs.RequestLemmas.{less_answered}
use Rattle.sws_bench.proofs.SummaryLemmas.{maps_same}

-- of few bytes all count
responses_are : (site : SiteState) (bytes : List ℕ) → HasRoom site → length bytes ≤ 272 → responses_of site bytes ≡ texts_of (answers (answer_limit site) site bytes)
unfolding responses_of answers_to
responses_are site bytes room few =
    let more = room.input in
    ap (λ (counted : List ℕ). texts_of (answers (answer_limit site) site counted)) (take_all (input_limit site) bytes (omega (arith, few, more)))

some_behind : (buffer left : List ℕ) → left ≢ [] → buffer ++ left ≢ []
some_behind [] left some none = some none
some_behind (byte ∷ buffer) left some none = cc

-- where all was answered, all was taken
all_taken : (site : SiteState) (state : ℕ) (taken left written consumed buffer : List ℕ) → HasRoom site → taken ++ left ≡ bytes_from state → taken ≡ consumed ++ buffer → IsPrefix written (responses_of site consumed) → written ≡ responses_of site (bytes_from state) → left ≡ []
unfolding bytes_from
all_taken site state taken [] written consumed buffer room all taken_is begins whole = refl
all_taken site state taken (byte ∷ rest) written consumed buffer room all taken_is begins whole =
    let left : List ℕ = byte ∷ rest in
    let draws : List ℕ = draws_from (next_state state) (request_count state) in
    let split : consumed ++ (buffer ++ left) ≡ flat_map request draws = sym (append_assoc consumed buffer left) ∙ ap (λ (bytes : List ℕ). bytes ++ left) (sym taken_is) ∙ all in
    let long = length-append consumed (buffer ++ left) in
    let sizes = ap (λ (bytes : List ℕ). length bytes) split in
    let short = length-bytes_from state in
    let count = length-map-range_with_len (draw (next_state state)) 0 (request_count state) in
    let enough = room.answers in
    let less = less_answered site draws (answer_limit site) consumed (buffer ++ left) (omega (arith, count, enough)) split (some_behind buffer left (λ none. cc)) in
    let front = ap (λ (bytes : List ℕ). length bytes) (responses_are site consumed room (omega (arith, long, sizes, short))) in
    let whole_is = ap (λ (bytes : List ℕ). length bytes) (whole ∙ responses_are site (flat_map request draws) room short) in
    let begins_is = ap (λ (bytes : List ℕ). length bytes) begins.1 in
    let more = length-append written begins.0 in
    absurd (omega (arith, less, front, whole_is, begins_is, more))

-- what is written to a connection that is served alone
alone_bytes : (site : SiteState) (state : ℕ) → HasRoom site → (outcome_of site (script_of (conn_from state))).bytes ≡ responses_of site (bytes_from state)
unfolding conn_from responses_of
alone_bytes site state room = ap (λ (input : Input). texts_of (answers_to site input.bytes)) (scripted_input-conn_from site state room)

-- a connection of a bench that was served alone
pub read_alone : (site : SiteState) (state : ℕ) (s : Served MemLinkState) → HasRoom site → IsServedAlone (by_http site) (conn_from state) s → s.read ≡ length (bytes_from state)
read_alone site state s room one =
    let bytes = one.link.bytes in
    let left : List ℕ = all_bytes bytes.input.items in
    let all : bytes.input.taken ++ left ≡ bytes_from state = one.input ∙ all_bytes-conn_from state in
    let none : left ≡ [] = all_taken site state bytes.input.taken left bytes.written one.consumes.consumed one.consumes.buffer room all one.consumes.taken_is one.consumes.begins (one.bytes ∙ alone_bytes site state room) in
    one.read ∙ ap (λ (taken : List ℕ). length taken) (sym (append-nil bytes.input.taken) ∙ ap (λ (rest : List ℕ). bytes.input.taken ++ rest) (sym none) ∙ all)

-- each connection of a bench is made of some state
made_from : (number from count i : ℕ) (conn : ScriptConn) → slice_get (map (λ (n : ℕ). conn_from (conn_state number n)) (range_with_len from count)) i ≡ Some conn → (state : ℕ) × (conn ≡ conn_from state)
made_from number from zero i conn there = cc
made_from number from (suc count) zero conn there = (conn_state number from, sym (same_Some (conn_from (conn_state number from)) conn there))
made_from number from (suc count) (suc i) conn there = made_from number (from + 1) count i conn there

-- all of them
pub all_read : (site : SiteState) (number count : ℕ) (ended : Ended MemWorldState MemLinkState) → HasRoom site → ServesAll (by_http site) (bench_conns number count) ended → sum_by (λ s. s.read) ended.served.items ≡ bench_bytes number count
unfolding bench_conns bench_bytes
all_read site number count ended room serves =
    sym (sum-map (λ (s : Served MemLinkState). s.read) ended.served.items)
    ∙ ap sum (maps_same (λ (s : Served MemLinkState). s.read) (λ (conn : ScriptConn). length (all_bytes (script_of conn).items)) ended.served.items _ serves.many
    (λ i conn s at there.
    let made = made_from number 0 count i conn at in
    read_alone site made.0 s room (subst (λ (c : ScriptConn). IsServedAlone (by_http site) c s) made.1 (serves.each i conn s at there))
    ∙ ap (λ (bytes : List ℕ). length bytes) (sym (all_bytes-conn_from made.0))
    ∙ ap (λ (c : ScriptConn). length (all_bytes (script_of c).items)) (sym made.1)))

-- the site of a bench has room for each of its connections
bench_room : HasRoom bench_site
bench_room = record { input = lit< tt; answers = lit< tt }

-- what was read in a bench's run
pub bench_read_is : (number count : ℕ) (site : SiteState) (conns : List ScriptConn) (ended : Ended MemWorldState MemLinkState) (served : List (Served MemLinkState)) → site ≡ bench_site → conns ≡ bench_conns number count → ServesAll (by_http site) conns ended → served ≡ ended.served.items
    → (read : ℕ) → read ≡ sum_by (λ s. s.read) served → read ≡ bench_bytes number count
bench_read_is number count site conns ended served of_site of_conns serves shown read same =
    same ∙ ap (λ (ss : List (Served MemLinkState)). sum_by (λ s. s.read) ss) shown
    ∙ all_read site number count ended (subst HasRoom (sym of_site) bench_room) (subst (λ (cs : List ScriptConn). ServesAll (by_http site) cs ended) of_conns serves)

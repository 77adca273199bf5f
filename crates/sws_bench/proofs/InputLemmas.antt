-- The connections are those of an input.
use Rattle.std.proofs.Common.{ℕ, zero, suc, ◌+◌, ◌*◌, ◌%◌, ◌<◌, ◌≤◌, false, List, [], ◌∷◌, ◌++◌, length, map, take, drop, codes, refl, arith}
use Rattle.std.specs.List.{range_with_len, flat_map, AllByRecursion}
use Rattle.std.specs.Int.{div_ceil}
use Rattle.std.specs.Str.{IsAscii}
use Rattle.std.specs.Fmt.{decimal}
use Rattle.std.specs.Fork.{slice_chunk}
use Rattle.std.proofs.lemmas.Fmt.{IsAscii-decimal}
use Rattle.std.proofs.lemmas.Grind.{div_ceil_times}
use Rattle.std.proofs.lemmas.List.{length-take, length-drop}
use Rattle.std.proofs.Math.Nat.{mul-le-mul_right, suc-mul}
use Rattle.sws_site.specs.ResponseHeads.{line_end}
use Rattle.sws_script.specs.declared.input.Item.{Item}
use Rattle.sws_script.specs.declared.input.Item.TheVariants.{Send}
use Rattle.sws_script.specs.declared.input.ScriptConn.{ScriptConn}
use Rattle.sws_script.specs.declared.line.Line.TheVariants as line
use Rattle.sws_script.specs.Lines.{IsWithin, IsItem, IsLine}
use Rattle.sws_script.specs.Inputs.{IsInOrder, IsInput, conn_lines}
use Rattle.sws_bench.specs.Draws.{next_state, draws_from}
use Rattle.sws_bench.specs.BenchScript.{request, request_count, bytes_from, piece_size, pieces, sends, conn_from, conn_state, bench_conns}

-- ---- of each member

all_append : {A : Type 0} (P : A → Type 0) (a b : List A) → AllByRecursion P a → AllByRecursion P b → AllByRecursion P (a ++ b)
all_append P [] b front back = back
all_append P (x ∷ a) b front back = (front.0, all_append P a b front.1 back)

all_take : {A : Type 0} (P : A → Type 0) (n : ℕ) (xs : List A) → AllByRecursion P xs → AllByRecursion P (take n xs)
all_take P zero xs all = tt
all_take P (suc n) [] all = tt
all_take P (suc n) (x ∷ xs) all = (all.0, all_take P n xs all.1)

all_drop : {A : Type 0} (P : A → Type 0) (n : ℕ) (xs : List A) → AllByRecursion P xs → AllByRecursion P (drop n xs)
all_drop P zero xs all = all
all_drop P (suc n) [] all = tt
all_drop P (suc n) (x ∷ xs) all = all_drop P n xs all.1

-- of the values at these numbers
all_map : {A : Type 0} (P : A → Type 0) (f : ℕ → A) (from n : ℕ) → ((k : ℕ) → k < from + n → P (f k)) → AllByRecursion P (map f (range_with_len from n))
all_map P f from zero each = tt
all_map P f from (suc n) each = (each from (omega arith), all_map P f (from + 1) n (λ k below. each k (omega arith)))

all_flat : {A B : Type 0} (P : B → Type 0) (f : A → List B) (xs : List A) → AllByRecursion (λ x. AllByRecursion P (f x)) xs → AllByRecursion P (flat_map f xs)
all_flat P f [] all = tt
all_flat P f (x ∷ xs) all = all_append P (f x) (flat_map f xs) all.0 (all_flat P f xs all.1)

-- ---- bytes

abbrev AreBytes : List ℕ → Type 0
AreBytes bytes = AllByRecursion (λ byte. byte < 256) bytes

AreBytes-ascii : (bytes : List ℕ) → IsAscii bytes → AreBytes bytes
AreBytes-ascii [] ascii = tt
AreBytes-ascii (byte ∷ bytes) ascii = (let first = ascii 0 in omega arith, AreBytes-ascii bytes (λ i. ascii (suc i)))

AreBytes-request : (drawn : ℕ) → AreBytes (request drawn)
unfolding request
AreBytes-request drawn =
    let digits = AreBytes-ascii (decimal (drawn % 20)) (IsAscii-decimal (drawn % 20) (omega arith)) in
    let rest : List ℕ = codes ".txt HTTP/1.1" ++ (line_end ++ (codes "Host: b" ++ (line_end ++ line_end))) in
    all_append (λ (byte : ℕ). byte < 256) (codes "GET /f") (decimal (drawn % 20) ++ rest) (search arith)
    (all_append (λ (byte : ℕ). byte < 256) (decimal (drawn % 20)) rest digits (search arith))

AreBytes-requests : (drawn : List ℕ) → AreBytes (flat_map request drawn)
AreBytes-requests [] = tt
AreBytes-requests (one ∷ drawn) = all_append (λ (byte : ℕ). byte < 256) (request one) (flat_map request drawn) (AreBytes-request one) (AreBytes-requests drawn)

AreBytes-bytes_from : (state : ℕ) → AreBytes (bytes_from state)
unfolding bytes_from
AreBytes-bytes_from state = AreBytes-requests (draws_from (next_state state) (request_count state))

-- ---- pieces

-- a piece has some bytes, and no more than its size
length-piece : (bytes : List ℕ) (size k : ℕ) → 0 < size → k < div_ceil (length bytes) size → IsWithin 1 size (length (slice_chunk bytes size k))
length-piece bytes size k some below =
    let bound = (div_ceil_times (length bytes) size some).1 in
    let here : suc k * size ≤ div_ceil (length bytes) size * size = mul-le-mul_right size (omega arith) in
    let next = suc-mul k size in
    let front = length-take size (drop (k * size) bytes) in
    let rest = length-drop (k * size) bytes in
    (omega (arith, bound, here, next, front, rest), omega (arith, front))

all_sends : (parts : List (List ℕ)) → AllByRecursion (λ part. IsItem (Send part)) parts → AllByRecursion IsItem (sends parts)
all_sends [] all = tt
all_sends (part ∷ parts) all = (all.0, all_sends parts all.1)

items_fit : (size : ℕ) (bytes : List ℕ) → 0 < size → size ≤ 64 → AreBytes bytes → AllByRecursion IsItem (sends (pieces size bytes))
unfolding pieces
items_fit size bytes some few all =
    all_sends (map (slice_chunk bytes size) (range_with_len 0 (div_ceil (length bytes) size)))
    (all_map (λ (part : List ℕ). IsItem (Send part)) (slice_chunk bytes size) 0 (div_ceil (length bytes) size)
    (λ k below.
    let long = length-piece bytes size k some (omega arith) in
    ((omega arith, omega arith), all_take (λ (byte : ℕ). byte < 256) size (drop (k * size) bytes) (all_drop (λ (byte : ℕ). byte < 256) (k * size) bytes all))))

in_order : (parts : List (List ℕ)) → IsInOrder (sends parts)
in_order [] = tt
in_order (part ∷ []) = tt
in_order (part ∷ next ∷ parts) = (tt, in_order (next ∷ parts))

-- ---- lines

item_lines : (items : List Item) → AllByRecursion IsItem items → AllByRecursion IsLine (map line.Item items)
item_lines [] all = tt
item_lines (item ∷ items) all = (all.0, item_lines items all.1)

conn_fits : (state : ℕ) → AllByRecursion IsLine (conn_lines (conn_from state))
unfolding conn_from
conn_fits state =
    (tt, item_lines (sends (pieces (piece_size state) (bytes_from state))) (items_fit (piece_size state) (bytes_from state) (omega arith) (omega arith) (AreBytes-bytes_from state)))

conn_in_order : (state : ℕ) → IsInOrder (conn_from state).items
unfolding conn_from
conn_in_order state = in_order (pieces (piece_size state) (bytes_from state))

-- so many connections are those of a script, whatever its run
pub bench_conns_are_an_input : (number count cores : ℕ) → IsInput false cores (record { steps = []; conns = bench_conns number count })
unfolding bench_conns
bench_conns_are_an_input number count cores =
    let conn : ℕ → ScriptConn = λ i. conn_from (conn_state number i) in
    record {
      lines = (tt, all_flat IsLine conn_lines (map conn (range_with_len 0 count)) (all_map (λ (c : ScriptConn). AllByRecursion IsLine (conn_lines c)) conn 0 count (λ i below. conn_fits (conn_state number i))));
      workers = tt;
      count = omega arith;
      order = all_map (λ (c : ScriptConn). IsInOrder c.items) conn 0 count (λ i below. conn_in_order (conn_state number i));
      none = λ e. refl;
    }

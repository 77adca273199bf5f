-- What connections served alone come to in all.
use Rattle.std.proofs.Common.{◌≡◌, ◌≢◌, ℕ, zero, suc, ◌+◌, ◌^◌, ◌<◌, ◌≤◌, false, List, [], ◌∷◌, length, map, Option, Some, None, refl, sym, ap, subst, ◌∙◌, arith}
use Rattle.std.specs.Prelude.{All, IsSome, slice_get, sum, sum_by}
use Rattle.std.proofs.lemmas.List.FromFn.{length-map-range_with_len}
use Rattle.mely_history.specs.Setup.{first_out_of_range}
use Rattle.mely_history.specs.declared.shape.Shape.{Shape}
use Rattle.sws_replay.specs.OfInput.{AreOfInput}
use Rattle.std.specs.List.{range_with_len, AllByRecursion}
use Rattle.std.proofs.lemmas.List.Elements.{All-from_recursion}
use Rattle.std.proofs.lemmas.List.Sums.{sum-map, sum_by-le}
use Rattle.std.proofs.lemmas.Simd.{map-map}
use Rattle.sws_steps.specs.declared.End.{End}
use Rattle.sws_steps.specs.declared.End.TheVariants.{Done, Memory}
use Rattle.sws_handlers.specs.Counting.{colours_over}
use Rattle.sws_handlers.specs.declared.ended.Ended.{Ended}
use Rattle.sws_handlers.specs.declared.ended.Served.{Served}
use Rattle.sws_link.specs.MemLink.{MemLinkState}
use Rattle.sws_link.specs.MemWorld.{MemWorldState}
use Rattle.sws_script.specs.declared.input.ScriptConn.{ScriptConn}
use Rattle.sws_site.specs.Site.{SiteState}
use Rattle.sws_conn.specs.HttpLaws.{http-orderly}
use Rattle.sws_steps.specs.Protocol.{most_input, most_output}
use Rattle.sws_replay.specs.Expected.{by_http}
use Rattle.sws_replay.specs.Transcripts.{alone}
use Rattle.sws_replay.specs.Runs.{ServesAll}
use Rattle.sws_bench.specs.BenchSite.{bench_site}
use Rattle.sws_bench.specs.BenchScript.{conn_from, conn_state, bench_conns}
use Rattle.sws_bench.specs.BenchSummary.{bench_ends, bench_written}
use Rattle.sws_bench.proofs.InputLemmas.{bench_conns_are_an_input}
use Rattle.sws_bench.proofs.OutcomeLemmas.{ends_done}

-- ---- two lists, place by place

pub maps_same : {A B C : Type 0} (f : A → C) (g : B → C) (xs : List A) (ys : List B) → length xs ≡ length ys → ((i : ℕ) (b : B) (a : A) → slice_get ys i ≡ Some b → slice_get xs i ≡ Some a → f a ≡ g b) → map f xs ≡ map g ys
maps_same f g [] [] long each = refl
maps_same f g [] (b ∷ ys) long each = absurd (omega arith)
maps_same f g (a ∷ xs) [] long each = absurd (omega arith)
maps_same {A} {B} {C} f g (a ∷ xs) (b ∷ ys) long each =
    let head : f a ≡ g b = each 0 b a refl refl in
    let tail : map f xs ≡ map g ys = maps_same f g xs ys (omega arith) (λ i y x. each (suc i) y x) in
    λ i. head i ∷ tail i

all_have : {A B : Type 0} (P : A → Type 0) (xs : List A) (ys : List B) → length xs ≡ length ys → ((i : ℕ) (b : B) (a : A) → slice_get ys i ≡ Some b → slice_get xs i ≡ Some a → P a) → AllByRecursion P xs
all_have P [] ys long each = tt
all_have P (a ∷ xs) [] long each = absurd (omega arith)
all_have P (a ∷ xs) (b ∷ ys) long each = (each 0 b a refl refl, all_have P xs ys (omega arith) (λ i y x. each (suc i) y x))

-- ---- a run

some_same : {A : Type 0} (xs ys : List A) → map (λ a. Some a) xs ≡ map (λ b. Some b) ys → xs ≡ ys
some_same [] [] same = refl
some_same [] (b ∷ ys) same = absurd (cc)
some_same (a ∷ xs) [] same = absurd (cc)
some_same (a ∷ xs) (b ∷ ys) same =
    let head : a ≡ b = cc in
    let rest : map (λ a. Some a) xs ≡ map (λ b. Some b) ys = cc in
    let tail : xs ≡ ys = some_same xs ys rest in
    λ i. head i ∷ tail i

module _ (site : SiteState) (conns : List ScriptConn) (ended : Ended MemWorldState MemLinkState) (serves : ServesAll (by_http site) conns ended) where
  all_ended : AllByRecursion (λ s. IsSome s.end) ended.served.items
  all_ended = all_have (λ (s : Served MemLinkState). IsSome s.end) ended.served.items conns serves.many (λ i conn s at there. subst (λ (e : Option End). IsSome e) (sym (serves.each i conn s at there).end) refl)

  have_ended : All (λ s. IsSome s.end) ended.served.items
  have_ended = All-from_recursion (λ (s : Served MemLinkState). IsSome s.end) ended.served.items all_ended

  ends_are : (ends : List End) → map (λ end. Some end) ends ≡ map (λ s. s.end) ended.served.items → ends ≡ map (λ conn. (alone (by_http site) conn).end) conns
  ends_are ends same =
      some_same ends (map (λ conn. (alone (by_http site) conn).end) conns)
      (same
      ∙ maps_same (λ (s : Served MemLinkState). s.end) (λ conn. Some (alone (by_http site) conn).end) ended.served.items conns serves.many (λ i conn s at there. (serves.each i conn s at there).end)
      ∙ sym (map-map (λ (end : End). Some end) (λ conn. (alone (by_http site) conn).end) conns))

  few_written : All (λ s. s.written ≤ most_output) ended.served.items
  few_written =
      All-from_recursion (λ (s : Served MemLinkState). s.written ≤ most_output) ended.served.items
      (all_have (λ (s : Served MemLinkState). s.written ≤ most_output) ended.served.items conns serves.many
      (λ i conn s at there. let few = (serves.each i conn s at there).few_written in let most = http-orderly.few_written site in omega (arith, few, most)))

  written_fits : length conns ≤ 1024 → sum_by (λ s. s.written) ended.served.items < 2 ^ 64
  written_fits few =
      let all = sum_by-le (λ (s : Served MemLinkState). s.written) most_output ended.served.items few_written in
      let many = serves.many in
      omega (arith, all, many)

  few_read : All (λ s. s.read ≤ most_input) ended.served.items
  few_read =
      All-from_recursion (λ (s : Served MemLinkState). s.read ≤ most_input) ended.served.items
      (all_have (λ (s : Served MemLinkState). s.read ≤ most_input) ended.served.items conns serves.many
      (λ i conn s at there. let few = (serves.each i conn s at there).few_read in let most = http-orderly.few_input site in omega (arith, few, most)))

  read_fits : length conns ≤ 1024 → sum_by (λ s. s.read) ended.served.items < 2 ^ 64
  read_fits few =
      let all = sum_by-le (λ (s : Served MemLinkState). s.read) most_input ended.served.items few_read in
      let many = serves.many in
      omega (arith, all, many)

  pub written_is : sum_by (λ s. s.written) ended.served.items ≡ sum (map (λ conn. length (alone (by_http site) conn).bytes) conns)
  written_is =
      sym (sum-map (λ (s : Served MemLinkState). s.written) ended.served.items)
      ∙ ap sum (maps_same (λ (s : Served MemLinkState). s.written) (λ conn. length (alone (by_http site) conn).bytes) ended.served.items conns serves.many
      (λ i conn s at there. let one = serves.each i conn s at there in one.written ∙ ap (λ (b : List ℕ). length b) one.bytes))

-- ---- no end is want of memory

fine : (number from count : ℕ) → AllByRecursion (λ end. end ≢ Memory) (map (λ conn. (alone (by_http bench_site) conn).end) (map (λ i. conn_from (conn_state number i)) (range_with_len from count)))
fine number from zero = tt
fine number from (suc count) =
    (λ memory. (let done : (alone (by_http bench_site) (conn_from (conn_state number from))).end ≡ Done = ends_done bench_site (conn_state number from) in cc), fine number (from + 1) count)

pub bench_ends-fine : (number count : ℕ) → AllByRecursion (λ end. end ≢ Memory) (bench_ends number count)
unfolding bench_ends bench_conns
bench_ends-fine number count = fine number 0 count

-- ---- a run of the bench

pub many : (number count : ℕ) (conns : List ScriptConn) → conns ≡ bench_conns number count → length conns ≡ count
unfolding bench_conns
many number count conns are = ap (λ cs. length cs) are ∙ length-map-range_with_len (λ (i : ℕ). conn_from (conn_state number i)) 0 count

pub in_range : (shape : Shape) (number count : ℕ) (conns : List ScriptConn) → conns ≡ bench_conns number count → first_out_of_range shape (count + 2) 1 ≡ None → first_out_of_range shape (colours_over (length conns) false) 1 ≡ None
in_range shape number count conns are range =
    let same = many number count conns are in
    let colours : length conns + 2 + 0 ≡ count + 2 = omega (arith, same) in
    ap (λ (n : ℕ). first_out_of_range shape n 1) colours ∙ range

pub of_input : (number count : ℕ) (conns : List ScriptConn) → conns ≡ bench_conns number count → AreOfInput conns
of_input number count conns are =
    let this : AreOfInput (bench_conns number count) = record { schedule = false; cores = 0; steps = []; is = bench_conns_are_an_input number count 0 } in
    subst AreOfInput (sym are) this

module _ (number count : ℕ) (site : SiteState) (conns : List ScriptConn) (ended : Ended MemWorldState MemLinkState) (served : List (Served MemLinkState)) (of_site : site ≡ bench_site) (of_conns : conns ≡ bench_conns number count)
    (serves : ServesAll (by_http site) conns ended) (shown : served ≡ ended.served.items) where
  pub bench_ended : All (λ s. IsSome s.end) served
  bench_ended = subst (λ (ss : List (Served MemLinkState)). All (λ s. IsSome s.end) ss) (sym shown) (have_ended site conns ended serves)

  pub bench_fits : count ≤ 1024 → sum_by (λ s. s.written) served < 2 ^ 64
  bench_fits few =
      let long = many number count conns of_conns in
      let fits = written_fits site conns ended serves (omega arith) in
      let same = ap (λ (ss : List (Served MemLinkState)). sum_by (λ s. s.written) ss) shown in
      omega (arith, fits, same)

  pub bench_read_fits : count ≤ 1024 → sum_by (λ s. s.read) served < 2 ^ 64
  bench_read_fits few =
      let long = many number count conns of_conns in
      let fits = read_fits site conns ended serves (omega arith) in
      let same = ap (λ (ss : List (Served MemLinkState)). sum_by (λ s. s.read) ss) shown in
      omega (arith, fits, same)

  pub bench_ends_are : (ends : List End) → map (λ end. Some end) ends ≡ map (λ s. s.end) served → ends ≡ bench_ends number count
  unfolding bench_ends
  bench_ends_are ends same =
      ends_are site conns ended serves ends (same ∙ ap (λ (ss : List (Served MemLinkState)). map (λ s. s.end) ss) shown)
      ∙ (λ i. map (λ conn. (alone (by_http (of_site i)) conn).end) (of_conns i))

  pub bench_written_is : (written : ℕ) → written ≡ sum_by (λ s. s.written) served → written ≡ bench_written number count
  unfolding bench_written
  bench_written_is written same =
      same ∙ ap (λ (ss : List (Served MemLinkState)). sum_by (λ s. s.written) ss) shown
      ∙ written_is site conns ended serves
      ∙ (λ i. sum (map (λ conn. length (alone (by_http (of_site i)) conn).bytes) (of_conns i)))

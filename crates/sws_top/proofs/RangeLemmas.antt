-- The orders of words are within their ranges.
use Rattle.std.specs.Prelude.{if◌then◌else◌, option_and_then, option_map, is_some, IfSome}
use Rattle.std.specs.List.{list_all}
use Rattle.std.specs.Str.{bytes_eq}
use Rattle.std.proofs.Common.{◌≡◌, ℕ, ◌≤◌, ◌&&◌, nat_le, Bool, true, false, List, [], ◌∷◌, length, Option, Some, None, refl, subst, codes, arith, leb-true}
use Rattle.sws_words.specs.Grammar.{Text, Given, given_of, places, value_of, has_flag}
use Rattle.sws_words.specs.Orders.{Order, Shape, answer, replay, serve, bench, check, gopher, within, or_default, number_in, shape_in, shape_of, date_in, date_of, only_place, two_places, order_of, answer_by, answer_known, replay_by, replay_known, serve_by, serve_known, bench_by, bench_known, check_in, check_by, check_known, begins_host, gopher_in, gopher_by, gopher_known, host_in, host_limit, is_host_byte, some_in}
use Rattle.sws_top.specs.Ranges.{IsBetween, IsDate, IsShape, IsInRange}
use Rattle.sws_site.specs.Site.{last_second}

-- what an answer that is there came from
and_then_some : {X Y : Type 0} (next : X → Option Y) (from : Option X) (y : Y) → option_and_then next from ≡ Some y → (x : X) × (from ≡ Some x) × (next x ≡ Some y)
and_then_some next None y e = cc
and_then_some next (Some x) y e = (x, refl, e)

map_some : {X Y : Type 0} (make : X → Y) (from : Option X) (y : Y) → option_map make from ≡ Some y → (x : X) × (from ≡ Some x) × (make x ≡ y)
map_some make None y e = cc
map_some make (Some x) y e = (x, refl, (let same : make x ≡ y = cc in same))

tested : (test : Bool) (number n : ℕ) → (if test then Some number else None) ≡ Some n → (test ≡ true) × (number ≡ n)
tested true number n e = (refl, (let same : number ≡ n = cc in same))
tested false number n e = cc

both : (a b : Bool) → (a && b) ≡ true → (a ≡ true) × (b ≡ true)
both true true e = (refl, refl)
both true false e = cc
both false true e = cc
both false false e = cc

within_some : (least most : ℕ) (word : Text) (n : ℕ) → within least most word ≡ Some n → IsBetween least most n
unfolding within
within_some least most word n e =
    let from = and_then_some (λ number. if nat_le least number && nat_le number most then Some number else None) (number_in word) n e in
    let test = tested (nat_le least from.0 && nat_le from.0 most) from.0 n from.2 in
    let each = both (nat_le least from.0) (nat_le from.0 most) test.0 in
    let low : least ≤ from.0 = leb-true least from.0 each.0 in
    let high : from.0 ≤ most = leb-true from.0 most each.1 in
    (subst (λ k. least ≤ k) test.1 low, subst (λ k. k ≤ most) test.1 high)

or_default_some : (least most default : ℕ) (word : Option Text) (n : ℕ) → least ≤ default → default ≤ most → or_default (within least most) default word ≡ Some n → IsBetween least most n
or_default_some least most default None n low high e =
    let same : default ≡ n = cc in (subst (λ k. least ≤ k) same low, subst (λ k. k ≤ most) same high)
or_default_some least most default (Some word) n low high e = within_some least most word n e

date_some : (word : Option Text) (date : Option ℕ) → date_in word ≡ Some date → IsDate date
date_some None date e = let none : None ≡ date = cc in subst IsDate none tt
date_some (Some word) date e =
    let made = map_some Some (within 0 last_second word) date e in
    subst IsDate made.2 (within_some 0 last_second word made.0 made.1).1

shape_some : (workers shards batch group cost : Option Text) (shape : Shape) → shape_in workers shards batch group cost ≡ Some shape → IsShape shape
shape_some workers shards batch group cost shape e =
    let cores = and_then_some _ (or_default (within 1 64) 1 workers) shape e in
    let parts = and_then_some _ (or_default (within 1 64) 1 shards) shape cores.2 in
    let most = and_then_some _ (or_default (within 1 1000) 10 batch) shape parts.2 in
    let near = and_then_some _ (or_default (within 1 64) 4 group) shape most.2 in
    let steal = map_some _ (or_default (within 0 1000000) 20 cost) shape near.2 in
    subst IsShape steal.2 (record {
      cores = or_default_some 1 64 1 workers cores.0 (omega arith) (omega arith) cores.1;
      shards = or_default_some 1 64 1 shards parts.0 (omega arith) (omega arith) parts.1;
      batch = or_default_some 1 1000 10 batch most.0 (omega arith) (omega arith) most.1;
      group = or_default_some 1 64 4 group near.0 (omega arith) (omega arith) near.1;
      steal_cost = (or_default_some 0 1000000 20 cost steal.0 (omega arith) (omega arith) steal.1).1;
    })

answer_range : (given : List Given) (order : Order) → answer_by given ≡ Some order → IsInRange order
answer_range given order e =
    let folder = and_then_some (λ f. option_map (λ date. answer f date) (date_of given)) (only_place (places given)) order e in
    let date = map_some (λ date. answer folder.0 date) (date_of given) order folder.2 in
    subst IsInRange date.2 (date_some (value_of (codes "date") given) date.0 date.1)

shape_given : (given : List Given) (shape : Shape) → shape_of given ≡ Some shape → IsShape shape
shape_given given shape e = shape_some (value_of (codes "workers") given) (value_of (codes "shards") given) (value_of (codes "batch") given)
    (value_of (codes "group") given) (value_of (codes "cost") given) shape e

date_given : (given : List Given) (date : Option ℕ) → date_of given ≡ Some date → IsDate date
date_given given date e = date_some (value_of (codes "date") given) date e

replay_range : (given : List Given) (order : Order) → replay_by given ≡ Some order → IsInRange order
replay_range given order e =
    let make : Text → Shape → Option ℕ → Order = λ f s d. replay f s d (has_flag (codes "journal") given) (has_flag (codes "schedule") given) (has_flag (codes "log") given) in
    let folder = and_then_some (λ f. option_and_then (λ s. option_map (make f s) (date_of given)) (shape_of given)) (only_place (places given)) order e in
    let shape = and_then_some (λ s. option_map (make folder.0 s) (date_of given)) (shape_of given) order folder.2 in
    let date = map_some (make folder.0 shape.0) (date_of given) order shape.2 in
    let range : IsInRange (make folder.0 shape.0 date.0) = (shape_given given shape.0 shape.1, date_given given date.0 date.1) in
    subst IsInRange date.2 range

serve_range : (given : List Given) (order : Order) → serve_by given ≡ Some order → IsInRange order
serve_range given order e =
    let log = has_flag (codes "log") given in
    let ports = option_and_then (within 1 65535) (value_of (codes "port") given) in
    let counts = option_and_then (within 1 1024) (value_of (codes "connections") given) in
    let folder = and_then_some (λ f. option_and_then (λ p. option_and_then (λ n. option_and_then (λ s. option_map (λ d. serve f p n s d log) (date_of given)) (shape_of given)) counts) ports) (only_place (places given)) order e in
    let port = and_then_some (λ p. option_and_then (λ n. option_and_then (λ s. option_map (λ d. serve folder.0 p n s d log) (date_of given)) (shape_of given)) counts) ports order folder.2 in
    let many = and_then_some (λ n. option_and_then (λ s. option_map (λ d. serve folder.0 port.0 n s d log) (date_of given)) (shape_of given)) counts order port.2 in
    let shape = and_then_some (λ s. option_map (λ d. serve folder.0 port.0 many.0 s d log) (date_of given)) (shape_of given) order many.2 in
    let date = map_some (λ d. serve folder.0 port.0 many.0 shape.0 d log) (date_of given) order shape.2 in
    let at = and_then_some (within 1 65535) (value_of (codes "port") given) port.0 port.1 in
    let count = and_then_some (within 1 1024) (value_of (codes "connections") given) many.0 many.1 in
    let range : IsInRange (serve folder.0 port.0 many.0 shape.0 date.0 log) = (
      within_some 1 65535 at.0 port.0 at.2,
      within_some 1 1024 count.0 many.0 count.2,
      shape_given given shape.0 shape.1,
      date_given given date.0 date.1,
    ) in
    subst IsInRange date.2 range

bench_range : (given : List Given) (order : Order) → bench_by given ≡ Some order → IsInRange order
bench_range given order e =
    let words = and_then_some (λ w. option_and_then (λ c. option_and_then (λ n. option_map (λ s. bench c n s) (shape_of given)) (within 0 4294967295 w.1)) (within 1 1024 w.0)) (two_places (places given)) order e in
    let many = and_then_some (λ c. option_and_then (λ n. option_map (λ s. bench c n s) (shape_of given)) (within 0 4294967295 words.0.1)) (within 1 1024 words.0.0) order words.2 in
    let number = and_then_some (λ n. option_map (λ s. bench many.0 n s) (shape_of given)) (within 0 4294967295 words.0.1) order many.2 in
    let shape = map_some (λ s. bench many.0 number.0 s) (shape_of given) order number.2 in
    let range : IsInRange (bench many.0 number.0 shape.0) = (within_some 1 1024 words.0.0 many.0 many.1, shape_given given shape.0 shape.1) in
    subst IsInRange shape.2 range

check_form : (words : List Text) (connections : Option ℕ) (shape : Option Shape) (log : Bool) (order : Order) → ((most : ℕ) → connections ≡ Some most → most ≤ 1024)
    → ((form : Shape) → shape ≡ Some form → IsShape form) → check_in words connections shape log ≡ Some order → IsInRange order
check_form (word ∷ words) connections shape log order few formed e = cc
check_form [] connections shape log order few formed e =
    let many = and_then_some (λ most. option_map (λ form. check most form log) shape) connections order e in
    let form = map_some (λ form. check many.0 form log) shape order many.2 in
    let range : IsInRange (check many.0 form.0 log) = (few many.0 many.1, formed form.0 form.1) in
    subst IsInRange form.2 range

check_range : (given : List Given) (order : Order) → check_by given ≡ Some order → IsInRange order
check_range given order e =
    check_form (places given) (option_and_then (within 0 1024) (value_of (codes "connections") given)) (shape_of given) (has_flag (codes "log") given) order
    (λ most is. let count = and_then_some (within 0 1024) (value_of (codes "connections") given) most is in (within_some 0 1024 count.0 most count.2).1)
    (λ form is. shape_given given form is) e

host_short : (word host : Text) → host_in word ≡ Some host → length host ≤ host_limit
host_short word host e =
    let test = tested_word (begins_host word && (nat_le (length word) host_limit && list_all is_host_byte word)) word host e in
    let most = both (nat_le (length word) host_limit) (list_all is_host_byte word) (both (begins_host word) (nat_le (length word) host_limit && list_all is_host_byte word) test.0).1 in
    let few : length word ≤ host_limit = leb-true (length word) host_limit most.0 in
    subst (λ (w : Text). length w ≤ host_limit) test.1 few
  where
    tested_word : (test : Bool) (word host : Text) → (if test then Some word else None) ≡ Some host → (test ≡ true) × (word ≡ host)
    tested_word true word host e = (refl, (let same : word ≡ host = cc in same))
    tested_word false word host e = cc

some_range : (word : Option Text) (connections : Option ℕ) → some_in word ≡ Some connections → IfSome connections (IsBetween 1 1024)
some_range None connections e = let none : None ≡ connections = cc in subst (λ (c : Option ℕ). IfSome c (IsBetween 1 1024)) none tt
some_range (Some word) connections e =
    let made = map_some Some (within 1 1024 word) connections e in
    subst (λ (c : Option ℕ). IfSome c (IsBetween 1 1024)) made.2 (within_some 1 1024 word made.0 made.1)

gopher_form : (folder host : Text) (port : ℕ) (connections : Option ℕ) (shape : Shape) (journal : Bool) (order : Order) → gopher_in folder host port connections shape journal ≡ Some order
    → IsInRange (gopher folder host port connections shape journal) → IsInRange order
gopher_form folder host port connections shape journal order e range = by_test (is_some connections && journal) e
  where
    by_test : (b : Bool) → (if b then None else Some (gopher folder host port connections shape journal)) ≡ Some order → IsInRange order
    by_test true e = cc
    by_test false e = let same : gopher folder host port connections shape journal ≡ order = cc in subst IsInRange same range

gopher_range : (given : List Given) (order : Order) → gopher_by given ≡ Some order → IsInRange order
gopher_range given order e =
    let journal = has_flag (codes "journal") given in
    let hosts = option_and_then host_in (value_of (codes "host") given) in
    let ports = option_and_then (within 1 65535) (value_of (codes "port") given) in
    let counts = some_in (value_of (codes "connections") given) in
    let folder = and_then_some (λ f. option_and_then (λ h. option_and_then (λ p. option_and_then (λ n. option_and_then (λ s. gopher_in f h p n s journal) (shape_of given)) counts) ports) hosts) (only_place (places given)) order e in
    let host = and_then_some (λ h. option_and_then (λ p. option_and_then (λ n. option_and_then (λ s. gopher_in folder.0 h p n s journal) (shape_of given)) counts) ports) hosts order folder.2 in
    let port = and_then_some (λ p. option_and_then (λ n. option_and_then (λ s. gopher_in folder.0 host.0 p n s journal) (shape_of given)) counts) ports order host.2 in
    let many = and_then_some (λ n. option_and_then (λ s. gopher_in folder.0 host.0 port.0 n s journal) (shape_of given)) counts order port.2 in
    let shape = and_then_some (λ s. gopher_in folder.0 host.0 port.0 many.0 s journal) (shape_of given) order many.2 in
    let named = and_then_some host_in (value_of (codes "host") given) host.0 host.1 in
    let at = and_then_some (within 1 65535) (value_of (codes "port") given) port.0 port.1 in
    gopher_form folder.0 host.0 port.0 many.0 shape.0 journal order shape.2 (
      host_short named.0 host.0 named.2,
      within_some 1 65535 at.0 port.0 at.2,
      some_range (value_of (codes "connections") given) many.0 many.1,
      shape_given given shape.0 shape.1,
    )

by_given : (by : List Given → Option Order) (given : Option (List Given)) (order : Order) → ((g : List Given) → by g ≡ Some order → IsInRange order)
    → option_and_then by given ≡ Some order → IsInRange order
by_given by given order all e = let from = and_then_some by given order e in all from.0 from.2

by_command : (test : Bool) (here other : Option Order) (order : Order) → (here ≡ Some order → IsInRange order) → (other ≡ Some order → IsInRange order)
    → (if test then here else other) ≡ Some order → IsInRange order
by_command true here other order this that e = this e
by_command false here other order this that e = that e

-- the numbers of an order are within their ranges
pub order_in_range : (words : List Text) (order : Order) → order_of words ≡ Some order → IsInRange order
order_in_range [] order e = cc
order_in_range (command ∷ words) order e =
    by_command (bytes_eq command (codes "answer")) _ _ order (by_given answer_by (given_of answer_known words) order (λ g. answer_range g order))
    (by_command (bytes_eq command (codes "replay")) _ _ order (by_given replay_by (given_of replay_known words) order (λ g. replay_range g order))
    (by_command (bytes_eq command (codes "serve")) _ _ order (by_given serve_by (given_of serve_known words) order (λ g. serve_range g order))
    (by_command (bytes_eq command (codes "bench")) _ _ order (by_given bench_by (given_of bench_known words) order (λ g. bench_range g order))
    (by_command (bytes_eq command (codes "check")) _ _ order (by_given check_by (given_of check_known words) order (λ g. check_range g order))
    (by_command (bytes_eq command (codes "gopher")) _ _ order (by_given gopher_by (given_of gopher_known words) order (λ g. gopher_range g order))
    (λ none. cc)))))) e

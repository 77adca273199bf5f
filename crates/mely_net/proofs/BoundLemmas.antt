-- One request of a connection waits for a cell at most.
use Rattle.std.proofs.Common.{◌≡◌, ◌≤◌, ◌+◌, ◌==◌, ℕ, Bool, true, false, List, [], ◌++◌, Option, None, Some, if◌then◌else◌, length, ◌∙◌, ap, arith, length-append}
use Rattle.std.proofs.lemmas.List.Elements.{filter_map-append}
use Rattle.std.specs.List.{cons_option, filter_map}
use Rattle.sws_link.specs.declared.Link.{Ghosts as LinkWords}
use Rattle.mely_net.specs.declared.client.Client.{Client}
use Rattle.mely_net.specs.Bounds.{AreAt, Mail, OneWaits, count_with}
use Rattle.mely_net.specs.Lines.{exchanges_in}
use Rattle.mely_net.specs.Messages.{replies_in, replies_sent, requests_in, requests_sent}
use Rattle.mely_net.specs.Rules.{Rules}
use Rattle.mely_net.specs.Talks.{Request, asked_by, done_by, replies_of, requests_of}
use Rattle.mely_net.proofs.ServedLemmas.{as_many, raised, with_peer}

one_if : {X : Type 0} (b : Bool) (x : X) → length (cons_option (if b then Some x else None) []) ≤ 1
one_if true x = omega arith
one_if false x = omega arith

one_at_most : {Q P : Type 0} (cell : ℕ) (under_way : Option (Request Q P)) → count_with cell (asked_by under_way) ≤ 1
one_at_most cell None = omega arith
one_at_most cell (Some one) = one_if (one.cell == cell) one.request

-- the numbers of two lists one behind the other
count_both : {X : Type 0} (peer : ℕ) (xs ys : List (ℕ × X)) → count_with peer (xs ++ ys) ≡ count_with peer xs + count_with peer ys
count_both peer xs ys = ap length (filter_map-append (with_peer peer) xs ys) ∙ length-append (filter_map (with_peer peer) xs) (filter_map (with_peer peer) ys)

module _ {Q P C W L : Type 0} (rules : Rules Q P C) (l : LinkWords L) (client cell : ℕ) (of_client of_cell : Mail W L Q P) (value : Client L Q P l) (kept : C) where
  pub one_waits : AreAt rules l client cell of_client of_cell value kept → OneWaits rules l client cell of_client of_cell
  one_waits at =
      let talk = at.connection.talk in
      let exchanges = exchanges_in talk.lines ++ done_by talk.under_way in
      let history = at.cell_is.history in
      let sent : count_with (cell + 1) (requests_sent of_client.sent) ≡ count_with cell at.connection.asks = ap (count_with (cell + 1)) at.connection.asked ∙ ap length (raised (λ n. n + 1) (λ n m (is : n + 1 ≡ m + 1). omega (arith, is)) cell at.connection.asks) in
      let asked : count_with cell at.connection.asks ≡ count_with cell (requests_of exchanges) + count_with cell (asked_by talk.under_way) = ap (count_with cell) talk.spoken.asked ∙ count_both cell (requests_of exchanges) (asked_by talk.under_way) in
      let one : count_with cell (asked_by talk.under_way) ≤ 1 = one_at_most cell talk.under_way in
      let heard : count_with cell (replies_in of_client.received) ≡ count_with cell (replies_of exchanges) + count_with cell talk.astray = ap (count_with cell) talk.spoken.replied ∙ count_both cell (replies_of exchanges) talk.astray in
      let same : count_with cell (requests_of exchanges) ≡ count_with cell (replies_of exchanges) = as_many cell exchanges in
      let said : count_with (client + rules.cells + 1) (replies_sent of_cell.sent) ≡ count_with client (replies_of history) = ap (count_with (client + rules.cells + 1)) at.cell_is.replied ∙ ap length (raised (λ n. n + rules.cells + 1) (λ n m (is : n + rules.cells + 1 ≡ m + rules.cells + 1). omega (arith, is)) client (replies_of history)) in
      let got : count_with client (requests_in of_cell.received) ≡ count_with client (requests_of history) = ap (count_with client) at.cell_is.asked in
      let both : count_with client (requests_of history) ≡ count_with client (replies_of history) = as_many client history in
      let within = at.replied in
      omega (arith, sent, asked, one, heard, same, said, got, both, within)

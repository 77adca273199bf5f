-- Exchanges of connections with cells, and the history of a cell.
use Rattle.std.specs.Prelude.{◌≡◌, ◌==◌, ℕ, List, [], ◌∷◌, Some, None, filter_map, slice_get, if◌then◌else◌}
use Rattle.mely_net.specs.Rules.{Rules}

-- a request with its reply, as one side knows it: in the list of a connection the peer is the cell
-- that was asked, and in that of a cell the connection that asked
pub record Exchange (Request Reply : Type 0) : Type 0 where
  pub peer : ℕ
  pub request : Request
  pub reply : Reply

-- this is the value of that number in the list
abbrev pub IsAt : {C : Type 0} → List C → ℕ → C → Type 0
IsAt values number value = slice_get values number ≡ Some value

-- those with this peer, in order, each request with its reply
abbrev pub exchanges_with : {Q P : Type 0} → ℕ → List (Exchange Q P) → List (Q × P)
exchanges_with peer exchanges = filter_map (λ one. if one.peer == peer then
    Some (one.request, one.reply) else None) exchanges

module _ {Q P C : Type 0} (rules : Rules Q P C) (cell : ℕ) where
  -- the value of a cell goes from one to the other along these exchanges, each by a step of the
  -- service
  abbrev pub Steps : C → List (Exchange Q P) → C → Type 0
  Steps before [] after = after ≡ before
  Steps before (one ∷ exchanges) after =
      (next : C) × rules.Serves cell before one.request next one.reply × Steps next exchanges after

  -- A sequential history of the cell, as in M. Herlihy and J. Wing, Linearizability: A Correctness
  -- Condition for Concurrent Objects, 1990: one request after another, from such a value to this
  -- one.
  pub record IsHistory (Begins : C → Type 0) (exchanges : List (Exchange Q P)) (value : C)
      : Type 0 where
    pub first : C
    pub begins : Begins first
    pub steps : Steps first exchanges value

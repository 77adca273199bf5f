-- Runs that follow one another.
use Rattle.std.specs.Prelude.{◌≡◌, ◌++◌, ℕ, List, [], ◌∷◌, Option, None, Some, filter_map}
use Rattle.sws_link.specs.declared.Link.{Ghosts as LinkWords}
use Rattle.mely_net.specs.declared.part.Part.{Part}
use Rattle.mely_net.specs.declared.part.Part.TheVariants as part
use Rattle.mely_net.specs.Exchanges.{Exchange, IsAt, Steps}
use Rattle.mely_net.specs.Rules.{Rules}
use Rattle.mely_net.specs.Served.{HasServedFrom}

-- the value of a cell
abbrev pub cell_in : {C W L Q P : Type 0} {l : LinkWords L} → Part C W L Q P l → Option C
cell_in (part.Desk desk) = None
cell_in (part.Cell value) = Some value
cell_in (part.Client client) = None

-- the values of the cells, in order
abbrev pub cells_in : {C W L Q P : Type 0} {l : LinkWords L} → List (Part C W L Q P l) → List C
cells_in parts = filter_map cell_in parts

-- a run that came to its end: how many connections it had, and the parts that it left
pub record Run (C W L Q P : Type 0) (l : LinkWords L) : Type 0 where
  pub clients : ℕ
  pub parts : List (Part C W L Q P l)

module _ {Q P C W L : Type 0} (rules : Rules Q P C) (l : LinkWords L) where
  -- Each run begins with the cells that the one before it left, and the first with these; the last
  -- one leaves those.
  abbrev pub HaveFollowed : List C → List (Run C W L Q P l) → List C → Type 0
  HaveFollowed cells [] last = last ≡ cells
  HaveFollowed cells (run ∷ runs) last = HasServedFrom rules l (IsAt cells) run.clients run.parts
      × HaveFollowed (cells_in run.parts) runs last

  -- the exchanges of a cell along all runs, those of one run behind those of the one before it
  abbrev pub history_along : (cell : ℕ) (cells : List C) (runs : List (Run C W L Q P l))
      (last : List C) → HaveFollowed cells runs last → List (Exchange Q P)
  history_along cell cells [] last followed = []
  history_along cell cells (run ∷ runs) last followed = followed.0.histories cell
      ++ history_along cell (cells_in run.parts) runs last followed.1

  -- along them the cell goes step by step from the value that the first run began with to the one
  -- that the last run left
  pub record HasOneHistory (cell : ℕ) (cells : List C) (runs : List (Run C W L Q P l))
      (last : List C) (followed : HaveFollowed cells runs last) : Type 0 where
    pub first : C
    pub begins : IsAt cells cell first
    pub value : C
    pub ends : IsAt last cell value
    pub steps : Steps rules cell first (history_along cell cells runs last followed) value

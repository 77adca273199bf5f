-- A list of colours by links.
use Rattle.std.specs.Prelude.{◌≡◌, ◌≤◌, ℕ, List, min, length}
use Rattle.mely_steal.specs.declared.links.TheConstants.{MAX_PLACES}
use Rattle.mely_steal.specs.declared.links.Link.{Link}
use Rattle.mely_steal.specs.declared.links.Ends.{Ends}
use Rattle.mely_steal.specs.Links.{list_at, IsStrung}

-- the list, and the number of colours
pub record ColourListState : Type 0 where
  pub list : List ℕ
  pub colours : ℕ

-- the only list of a table that has a place for each colour
pub record StandsAlone (links : List Link) (ends : Ends) (colours : ℕ) : Type 0 where
  pub strung : IsStrung 1 links ends
  pub long : length links ≡ min colours MAX_PLACES
  pub alone : (place : ℕ) → list_at links place ≤ 1

-- How the parts of a pattern are tried at a key.
use Rattle.std.specs.Prelude.{◌≡◌, ◌<◌, ◌≤◌, ℕ, true, false, List, ◌∷◌, drop, length, map}
use Rattle.example_redis.specs.declared.glob.End.{End}
use Rattle.example_redis.specs.declared.glob.End.TheVariants.{Whole, Stuck, Starred}
use Rattle.example_redis.specs.declared.glob.Part.{Part}
use Rattle.example_redis.specs.declared.glob.Spot.{Spot}
use Rattle.example_redis.specs.Globs as globs
use Rattle.example_redis.specs.Globs.{matches, part_of}

-- Parts that match a key lead to further ones, and the key to a rest of it: the two match where these
-- do, and where they match a key with fewer bytes in front, so do these.
pub record Leads (parts further : List globs.Part) (key rest : List ℕ) : Type 0 where
  pub same : matches parts key ≡ matches further rest
  pub later : (count : ℕ) → matches parts (drop count key) ≡ true
      → matches further (drop count rest) ≡ true

abbrev pub parts_at : List Part → ℕ → List globs.Part
parts_at parts place = map part_of (drop place parts)

-- from one spot on the parts up to a `*` lead to another
pub record Reaches (parts : List Part) (key : List ℕ) (from to : Spot) : Type 0 where
  pub part : to.part ≤ length parts
  pub byte : to.byte ≤ length key
  pub behind : from.part < to.part
  pub not_before : from.byte ≤ to.byte
  pub leads : Leads (parts_at parts from.part) (globs.Many ∷ parts_at parts to.part)
      (drop from.byte key) (drop to.byte key)

-- what comes of trying the parts from a spot on
abbrev pub Ends : List Part → List ℕ → Spot → End → Type 0
Ends parts key from Whole = matches (parts_at parts from.part) (drop from.byte key) ≡ true
Ends parts key from Stuck = matches (parts_at parts from.part) (drop from.byte key) ≡ false
Ends parts key from (Starred to) = Reaches parts key from to

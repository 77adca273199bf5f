-- Which links are told to end, once their world takes no further one (RFC 9112, section 9.5: a server
-- may close a connection that is idle at any time).
use Rattle.std.specs.Prelude.{◌≡◌, ◌⊎◌, ◌≤◌, ℕ, Bool, true}

-- a link that waits between two requests, and has moved nothing since the last look, or it is late; one
-- that has never moved anything only where it has been there for so long
pub record IsToRetire (is_resting is_late : Bool) (moved last idle longest : ℕ) : Type 0 where
  pub rests : is_resting ≡ true
  pub still : (is_late ≡ true) ⊎ (moved ≡ last)
  pub unused : moved ≡ 0 → longest ≤ idle

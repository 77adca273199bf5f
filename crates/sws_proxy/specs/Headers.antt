-- What the first bytes of a connection tell of the header before them, of either version.
use Rattle.std.specs.Prelude.{◌≡◌, ℕ, nat_eq, Bool, true, false, ◌||◌, List, codes}
use Rattle.std.specs.List.{starts_with}
use Rattle.sws_proxy.specs.declared.proxied.Proxied.{Proxied}
use Rattle.sws_proxy.specs.declared.proxied.Proxied.TheVariants as proxied
use Rattle.sws_proxy.specs.Blocks.{signature, TellsBlock}
use Rattle.sws_proxy.specs.Lines.{TellsLine}

-- they may still become the beginning of a header
abbrev pub is_begun : List ℕ → Bool
is_begun bytes = starts_with nat_eq signature bytes || starts_with nat_eq (codes "PROXY ") bytes

-- what is told of them
pub record TellsHeader (bytes : List ℕ) (told : Proxied) : Type 0 where
  pub block : starts_with nat_eq bytes signature ≡ true → TellsBlock bytes told
  pub line : starts_with nat_eq bytes (codes "PROXY ") ≡ true → TellsLine bytes told
  pub begun : starts_with nat_eq bytes signature ≡ false
      → starts_with nat_eq bytes (codes "PROXY ") ≡ false → is_begun bytes ≡ true
      → told ≡ proxied.More
  pub other : starts_with nat_eq bytes signature ≡ false
      → starts_with nat_eq bytes (codes "PROXY ") ≡ false → is_begun bytes ≡ false
      → told ≡ proxied.Bad

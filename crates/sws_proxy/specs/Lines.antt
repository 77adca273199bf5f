-- Headers of version 1: a line of words, ended by CR LF (proxy-protocol.txt of HAProxy, section 2.1).
use Rattle.std.specs.Prelude.{◌≡◌, ℕ, ◌+◌, ◌-◌, ◌<◌, ◌≤◌, ◌⊎◌, ◌==◌, nat_eq, Bool, true, false, if◌then◌else◌, List, [], ◌∷◌, length, take, drop, codes, Option, None, Some}
use Rattle.std.specs.Fmt.{decimal}
use Rattle.std.specs.List.{starts_with, ends_with}
use Rattle.std.specs.declared.net.ip_addr.IpAddr.{IpAddr}
use Rattle.std.specs.declared.net.ip_addr.IpAddr.TheVariants as Ip
use Rattle.std.specs.Net.Grammar.{IsIpv4Text, IsIpv6Text}
use Rattle.sws_proxy.specs.declared.proxied.Proxied.{Proxied}
use Rattle.sws_proxy.specs.declared.proxied.Proxied.TheVariants as proxied

-- what stands before the first such byte, which is all where there is none
abbrev pub before : ℕ → List ℕ → List ℕ
before byte [] = []
before byte (b ∷ bytes) = if b == byte then [] else b ∷ before byte bytes

-- what stands behind it, which is nothing where there is none
abbrev pub behind : ℕ → List ℕ → List ℕ
behind byte [] = []
behind byte (b ∷ bytes) = if b == byte then bytes else behind byte bytes

-- the text writes this address of IPv6, or of IPv4
abbrev pub IsAddress : Bool → List ℕ → IpAddr → Type 0
IsAddress true text (Ip.V6 address) = IsIpv6Text text address
IsAddress false text (Ip.V4 address) = IsIpv4Text text address
IsAddress true text (Ip.V4 address) = ⊥
IsAddress false text (Ip.V6 address) = ⊥

-- a number of 16 bits
abbrev pub IsPort : List ℕ → Type 0
IsPort text = (port : ℕ) × (text ≡ decimal port) × (port ≤ 65535)

-- an address and where it connected to, and their ports, with a blank between each two; the client
-- has the first address
pub record AreEnds (is_ipv6 : Bool) (words : List ℕ) (client : IpAddr) : Type 0 where
  pub source : IsAddress is_ipv6 (before 32 words) client
  pub target : (address : IpAddr) × IsAddress is_ipv6 (before 32 (behind 32 words)) address
  pub source_port : IsPort (before 32 (behind 32 (behind 32 words)))
  pub target_port : IsPort (behind 32 (behind 32 (behind 32 words)))

-- these first words, and the ends of a connection over IPv6, or IPv4
abbrev pub IsTcp : Bool → List ℕ → List ℕ → IpAddr → Type 0
IsTcp is_ipv6 first text client = (starts_with nat_eq text first ≡ true)
    × AreEnds is_ipv6 (drop (length first) text) client

-- whom a line without its end names
abbrev pub TextNames : List ℕ → Option IpAddr → Type 0
TextNames text None = starts_with nat_eq text (codes "PROXY UNKNOWN") ≡ true
TextNames text (Some client) =
    IsTcp false (codes "PROXY TCP4 ") text client ⊎ IsTcp true (codes "PROXY TCP6 ") text client

-- whom a line without its LF names
abbrev pub LineNames : List ℕ → Option IpAddr → Type 0
LineNames line client = (ends_with nat_eq line (13 ∷ []) ≡ true)
    × TextNames (take (length line - 1) line) client

-- what a line tells: it is a whole header, or none
abbrev pub IsOfLine : List ℕ → Proxied → Type 0
IsOfLine line (proxied.Whole client count) = LineNames line client × (count ≡ length line + 1)
IsOfLine line proxied.Bad = (client : Option IpAddr) → ¬ (LineNames line client)
IsOfLine line proxied.More = ⊥

-- the line, as far as it has come, within the 107 bytes that it has at most
abbrev pub first_line : List ℕ → List ℕ
first_line bytes = before 10 (take 107 bytes)

-- what is told of bytes that begin as a line
pub record TellsLine (bytes : List ℕ) (told : Proxied) : Type 0 where
  pub cut : length (first_line bytes) ≡ length bytes → length bytes < 107 → told ≡ proxied.More
  pub long : length (first_line bytes) ≡ 107 → told ≡ proxied.Bad
  pub line : length (first_line bytes) < length bytes → length (first_line bytes) < 107
      → IsOfLine (first_line bytes) told

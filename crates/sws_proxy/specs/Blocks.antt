-- Headers of version 2: the signature, four bytes, and a block of as many bytes as the last two of these say
-- (proxy-protocol.txt of HAProxy, section 2.2).
use Rattle.std.specs.Prelude.{◌≡◌, ℕ, ◌+◌, ◌*◌, ◌<◌, ◌≤◌, ◌==◌, nat_le, Bool, true, false, ◌&&◌, ◌||◌, if◌then◌else◌, List, [], ◌∷◌, length, take, drop, slice_index, Option, None, Some, ⊤}
use Rattle.std.specs.declared.net.ip_addr.IpAddr.{IpAddr}
use Rattle.std.specs.declared.net.ip_addr.IpAddr.TheVariants as Ip
use Rattle.std.specs.Net.Addr.{ipv4_octets, ipv6_segments, segments_of}
use Rattle.sws_proxy.specs.declared.proxied.Proxied.{Proxied}
use Rattle.sws_proxy.specs.declared.proxied.Proxied.TheVariants as proxied

-- CR LF CR LF NUL CR LF, `QUIT` and LF
abbrev pub signature : List ℕ
signature = 13 ∷ 10 ∷ 13 ∷ 10 ∷ 0 ∷ 13 ∷ 10 ∷ 81 ∷ 85 ∷ 73 ∷ 84 ∷ 10 ∷ []

-- how many bytes a header has at most
abbrev pub longest : ℕ
longest = 536

-- the addresses of TCP over IPv4: two of 4 bytes and two ports; over IPv6, two of 16 and two ports
abbrev pub addresses_length : ℕ → ℕ → ℕ
addresses_length command family = if command == 33 && family == 17 then 12
    else (if command == 33 && family == 33 then 36 else 0)

-- the first address, in network order, where the block has one of TCP. With the command LOCAL, which
-- is 32, a proxy speaks for itself; other families name nobody
abbrev pub source_octets : ℕ → ℕ → List ℕ → Option (List ℕ)
source_octets command family block = if command == 33 && family == 17 then Some (take 4 block)
    else (if command == 33 && family == 33 then Some (take 16 block) else None)

-- the command is LOCAL or PROXY, the header isn't too long, and its addresses have room in the block
abbrev pub is_sound : ℕ → ℕ → ℕ → Bool
is_sound command family size = (command == 32 || command == 33) && nat_le (16 + size) longest
    && nat_le (addresses_length command family) size

-- the address has these octets
abbrev pub HasOctets : IpAddr → List ℕ → Type 0
HasOctets (Ip.V4 address) octets = ipv4_octets address ≡ octets
HasOctets (Ip.V6 address) octets = ipv6_segments address ≡ segments_of octets

-- the client has these octets, or there are none and it isn't named
abbrev pub IsNamed : Option (List ℕ) → Option IpAddr → Type 0
IsNamed None None = ⊤
IsNamed (Some octets) (Some address) = HasOctets address octets
IsNamed None (Some address) = ⊥
IsNamed (Some octets) None = ⊥

-- the number of bytes of the block
abbrev pub block_size : List ℕ → ℕ
block_size bytes = slice_index bytes 14 * 256 + slice_index bytes 15

-- of so many bytes, and with this client
abbrev pub IsWhole : ℕ → Option (List ℕ) → Proxied → Type 0
IsWhole size octets (proxied.Whole client count) = IsNamed octets client × (count ≡ size)
IsWhole size octets proxied.More = ⊥
IsWhole size octets proxied.Bad = ⊥

-- what the command and the family say of this block
abbrev pub block_octets : List ℕ → Option (List ℕ)
block_octets bytes = source_octets (slice_index bytes 12) (slice_index bytes 13)
    (take (block_size bytes) (drop 16 bytes))

-- what is told of bytes that begin with the signature
pub record TellsBlock (bytes : List ℕ) (told : Proxied) : Type 0 where
  pub short : length bytes < 16 → told ≡ proxied.More
  pub unsound : 16 ≤ length bytes
      → is_sound (slice_index bytes 12) (slice_index bytes 13) (block_size bytes) ≡ false
      → told ≡ proxied.Bad
  pub cut : 16 ≤ length bytes
      → is_sound (slice_index bytes 12) (slice_index bytes 13) (block_size bytes) ≡ true
      → length bytes < 16 + block_size bytes → told ≡ proxied.More
  pub whole : is_sound (slice_index bytes 12) (slice_index bytes 13) (block_size bytes) ≡ true
      → 16 + block_size bytes ≤ length bytes
      → IsWhole (16 + block_size bytes) (block_octets bytes) told

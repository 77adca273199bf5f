-- At which addresses a server listens.
use Rattle.std.specs.declared.net.socket_addr.SocketAddr.{SocketAddr}
use Rattle.std.specs.declared.net.socket_addr.SocketAddr.TheVariants.{V4, V6}
use Rattle.std.specs.Net.Addr.{IsUnspecifiedV4, IsUnspecifiedV6}
use Rattle.std.specs.Net.Socket.{v4_ip, v6_ip}

-- all addresses of the machine, `[::]`
abbrev pub IsAll : SocketAddr → Type 0
IsAll (V4 address) = ⊥
IsAll (V6 address) = IsUnspecifiedV6 (v6_ip address)

-- all IPv4 addresses of the machine, `0.0.0.0`
abbrev pub IsAllOfIpv4 : SocketAddr → Type 0
IsAllOfIpv4 (V4 address) = IsUnspecifiedV4 (v4_ip address)
IsAllOfIpv4 (V6 address) = ⊥

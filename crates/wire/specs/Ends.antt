-- The addresses of BACnet/IP in the system's form (J.1.2).
use Rattle.std.specs.Prelude.{◌≡◌, Option, Some, None}
use Rattle.std.specs.Net.Addr.{ipv4_octets}
use Rattle.std.specs.Net.Socket.{v4_ip, v4_port}
use Rattle.std.specs.declared.net.socket_addr.SocketAddr.{SocketAddr}
use Rattle.std.specs.declared.net.socket_addr.SocketAddr.TheVariants.{V4, V6}
use Rattle.bvll.specs.Address.{address_at, address_octets}
use Rattle.bvll.specs.declared.address.Address.{Address}
use Rattle.npdu.specs.declared.mac.Mac.{Mac}
use Rattle.npdu.specs.declared.mac.Mac.TheVariants.{One, Six}

-- the address of an end of IPv4
abbrev pub address_of : SocketAddr → Option Address
address_of (V4 a) = Some (record { ip = ipv4_octets (v4_ip a); port = v4_port a })
address_of (V6 a) = None

-- an address as a station has it (Table 6-2)
abbrev pub mac_at : Address → Mac
mac_at a = Six (address_octets a)

-- the end that a station's address says, if it is one of BACnet/IP
abbrev pub IsEnd : Mac → SocketAddr → Type 0
IsEnd (Six octets) end = address_of end ≡ Some (address_at octets)
IsEnd (One octet) end = ⊥

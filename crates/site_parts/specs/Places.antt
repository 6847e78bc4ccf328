-- Where stations stand.
use Rattle.std.specs.Prelude.{ℕ, List, [], ◌∷◌, Option, Some, None}
use Rattle.bvll.specs.Address.{address_octets}
use Rattle.npdu.specs.declared.mac.Mac.{Mac}
use Rattle.npdu.specs.declared.mac.Mac.TheVariants.{One, Six}
use Rattle.npdu.specs.declared.mac.Station.{Station}
use Rattle.profile.specs.declared.link_kind.LinkKind.{LinkKind}
use Rattle.profile.specs.declared.link_kind.LinkKind.TheVariants.{BacnetIp, MsTp}
use Rattle.site_parts.specs.declared.place.Foreign.{Foreign}
use Rattle.site_parts.specs.declared.place.Link.{Link}
use Rattle.site_parts.specs.declared.place.Link.TheVariants as link
use Rattle.site_parts.specs.declared.place.Place.{Place}
use Rattle.site_parts.specs.declared.place.Place.TheVariants as place

-- the number of a link's network (6.1)
abbrev pub network_of : Link → ℕ
network_of (link.Ip network subnet address) = network
network_of (link.Bus network mac) = network

-- a link on a subnet is of BACnet/IP, one at a MAC of one octet of MS/TP (9, J)
abbrev pub kind_of : Link → LinkKind
kind_of (link.Ip network subnet address) = BacnetIp
kind_of (link.Bus network mac) = MsTp

-- the address of a station on its own network (Table 6-2)
abbrev pub mac_of : Link → Mac
mac_of (link.Ip network subnet address) = Six (address_octets address)
mac_of (link.Bus network mac) = One mac

-- the station of the internetwork at a link (6.1)
abbrev pub station_of : Link → Station
station_of l = record { net = network_of l; mac = mac_of l }

-- the links of a place: one, or none beyond all subnets
abbrev pub links_at : {A : Type 0} → Place A → List Link
links_at (place.On l) = l ∷ []
links_at (place.Beyond f) = []

-- what a place is beyond all subnets, where it is there (J.5)
abbrev pub beyond_at : {A : Type 0} → Place A → Option (Foreign A)
beyond_at (place.On l) = None
beyond_at (place.Beyond f) = Some f

-- the kind of link of a place: a foreign device is on BACnet/IP (J.5)
abbrev pub kind_at : {A : Type 0} → Place A → LinkKind
kind_at (place.On l) = kind_of l
kind_at (place.Beyond f) = BacnetIp

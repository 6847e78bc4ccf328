-- What may occur once in a site.
use Rattle.std.specs.Prelude.{List, [], ◌∷◌, ◌++◌, map}
use Rattle.std.specs.List.{flat_map}
use Rattle.bvll.specs.Address.{address_octets}
use Rattle.site_parts.specs.declared.parts.Network.{Network}
use Rattle.site_parts.specs.declared.parts.Station.{Station}
use Rattle.site_parts.specs.declared.place.Link.{Link}
use Rattle.site_parts.specs.declared.place.Link.TheVariants as link
use Rattle.site_parts.specs.declared.place.Place.{Place}
use Rattle.site_parts.specs.declared.place.Place.TheVariants as place
use Rattle.site_parts.specs.declared.role.Role.{Role}
use Rattle.site_parts.specs.declared.role.Role.TheVariants as role
use Rattle.site.specs.declared.marks.Mark.{Mark}
use Rattle.site.specs.declared.marks.Mark.TheVariants as mark

-- what no two links have in common: an address of BACnet/IP, or a MAC on one network of MS/TP (J.1.2, 9)
abbrev pub mark_of : Link → Mark
mark_of (link.Ip network subnet address) = mark.Address (address_octets address)
mark_of (link.Bus network mac) = mark.Bus network mac

-- no foreign device has an address of another station (J.5)
abbrev pub mark_at : {A : Type 0} → Place A → Mark
mark_at (place.On l) = mark_of l
mark_at (place.Beyond f) = mark.Address (address_octets f.address)

-- a subnet has one manager at most (J.4)
abbrev pub managed : Link → List Mark
managed (link.Ip network subnet address) = mark.Managed network subnet ∷ []
managed (link.Bus network mac) = []

-- the marks of a station: instances are apart in the internetwork (12.11.1)
abbrev pub marks_in : {A : Type 0} → Role A → List Mark
marks_in (role.Manager l) = mark_of l ∷ managed l
marks_in (role.Router ports) = map mark_of ports
marks_in (role.Device p objects) = mark.Instance objects.instance ∷ (mark_at p ∷ [])
marks_in (role.Client p segmented) = mark_at p ∷ []

abbrev pub marks_of : {A : Type 0} → Station A → List Mark
marks_of s = marks_in s.role

-- no two networks have one number (6.2.2)
abbrev pub network_mark : Network → Mark
network_mark n = mark.Network n.number

-- all that may occur once
abbrev pub marks : {A : Type 0} → List Network → List (Station A) → List Mark
marks ns ss = map network_mark ns ++ flat_map marks_of ss

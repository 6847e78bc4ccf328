-- Places on networks.
use Rattle.std.specs.Prelude.{◌==◌, ◌&&◌, ℕ, Bool, true, false, List, nat_lt}
use Rattle.std.specs.List.{list_any, list_all}
use Rattle.profile.specs.declared.link_kind.LinkKind.{LinkKind}
use Rattle.profile.specs.declared.link_kind.LinkKind.TheVariants.{BacnetIp, MsTp}
use Rattle.site_parts.specs.declared.parts.Network.{Network}
use Rattle.site_parts.specs.declared.parts.Station.{Station}
use Rattle.site_parts.specs.declared.place.Link.{Link}
use Rattle.site_parts.specs.declared.place.Link.TheVariants as link
use Rattle.site_parts.specs.Places.{network_of, kind_of}
use Rattle.site_parts.specs.Roles.{links_in}

abbrev pub same_kind : LinkKind → LinkKind → Bool
same_kind BacnetIp BacnetIp = true
same_kind MsTp MsTp = true
same_kind BacnetIp MsTp = false
same_kind MsTp BacnetIp = false

-- a link is on this network, and of its kind
abbrev pub is_on : Link → Network → Bool
is_on l n = (n.number == network_of l) && same_kind n.link_kind (kind_of l)

-- a subnet is 1 to 255, a MAC 0 to 127 (9)
abbrev pub is_in_range : Link → Bool
is_in_range (link.Ip network subnet address) = nat_lt 0 subnet && nat_lt subnet 256
is_in_range (link.Bus network mac) = nat_lt mac 128

-- a link in range is on a network of the site, of its kind
abbrev pub is_link : List Network → Link → Bool
is_link ns l = is_in_range l && list_any (is_on l) ns

abbrev pub are_linked : {A : Type 0} → List Network → List (Station A) → Bool
are_linked ns ss = list_all (λ s. list_all (is_link ns) (links_in s.role)) ss

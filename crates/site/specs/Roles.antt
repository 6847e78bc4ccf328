-- What stations are, and in which order they stand.
use Rattle.std.specs.Prelude.{◌≤◌, ◌<◌, ℕ, List, [], ◌∷◌, length, map}
use Rattle.std.specs.List.{AllByRecursion}
use Rattle.site_parts.specs.declared.parts.Station.{Station}
use Rattle.site_parts.specs.declared.place.Link.{Link}
use Rattle.site_parts.specs.declared.place.Link.TheVariants as link
use Rattle.site_parts.specs.declared.role.Role.{Role}
use Rattle.site_parts.specs.declared.role.Role.TheVariants as role
use Rattle.site_parts.specs.Places.{network_of}
use Rattle.site_parts.specs.Roles.{ports_in}
use Rattle.site.specs.Apart.{AreApart}

-- a manager is on BACnet/IP (J.4), a router has two ports or more (6.6)
abbrev pub IsRole : {A : Type 0} → Role A → Type 0
IsRole (role.Manager (link.Ip network subnet address)) = Unit {0}
IsRole (role.Manager (link.Bus network mac)) = ⊥
IsRole (role.Router ports) = 1 < length ports
IsRole (role.Device p objects) = Unit {0}
IsRole (role.Client p segmented) = Unit {0}

abbrev pub AreRoles : {A : Type 0} → List (Station A) → Type 0
AreRoles ss = AllByRecursion (λ s. IsRole s.role) ss

-- no router has two ports on one network (3.2)
abbrev pub ArePortsApart : {A : Type 0} → List (Station A) → Type 0
ArePortsApart ss = AllByRecursion (λ s. AreApart (map network_of (ports_in s.role))) ss

-- managers, routers, devices, clients, in this order
abbrev pub rank : {A : Type 0} → Role A → ℕ
rank (role.Manager l) = 0
rank (role.Router ports) = 1
rank (role.Device p objects) = 2
rank (role.Client p segmented) = 3

abbrev pub AreInOrder : {A : Type 0} → ℕ → List (Station A) → Type 0
AreInOrder least [] = Unit {0}
AreInOrder least (s ∷ ss) = (least ≤ rank s.role) × AreInOrder (rank s.role) ss

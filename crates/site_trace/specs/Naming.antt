-- The names of stations, as they stand in what is printed.
use Rattle.std.specs.Prelude.{ℕ, ◌==◌, Bool, false, List, [], ◌∷◌, ◌++◌, Option, None, Some, if◌then◌else◌, slice_index}
use Rattle.std.specs.Prelude.{codes}
use Rattle.std.specs.Fmt.{decimal}
use Rattle.bvll.specs.Address.{address_at}
use Rattle.bvll.specs.declared.address.Address.{Address}
use Rattle.npdu.specs.declared.mac.Mac.{Mac}
use Rattle.npdu.specs.declared.mac.Mac.TheVariants as mac
use Rattle.npdu.specs.declared.mac.Station as npdu
use Rattle.object_model.specs.declared.site.SiteObjects.{SiteObjects}
use Rattle.site_parts.specs.Roles.{objects_in}
use Rattle.site_parts.specs.declared.parts.Station.{Station}
use Rattle.site_views.specs.Views.{at_address}

-- an address of BACnet/IP, as `127.0.0.1:47808` (J.1.2)
abbrev pub address_text : Address → List ℕ
address_text a = decimal (slice_index a.ip 0) ++ (codes "." ++ (decimal (slice_index a.ip 1)
    ++ (codes "." ++ (decimal (slice_index a.ip 2) ++ (codes "." ++ (decimal (slice_index a.ip 3)
    ++ (codes ":" ++ decimal a.port)))))))

-- an address of BACnet/IP, or of MS/TP, as `5` (9)
abbrev pub mac_text : Mac → List ℕ
mac_text (mac.One octet) = decimal octet
mac_text (mac.Six octets) = address_text (address_at octets)

-- the name of a station that was found, or an address where none was
abbrev pub name_or : {A : Type 0} → Mac → Option (Station A) → List ℕ
name_or m None = mac_text m
name_or m (Some s) = s.name

-- the name of the station at an address, or the address where there is none
abbrev pub name_at : {A : Type 0} → List (Station A) → npdu.Station → List ℕ
name_at stations address = name_or address.mac (at_address stations address stations)

-- these objects are those of the device of this instance (12.11)
abbrev pub is_of_instance : {A : Type 0} → ℕ → Option (SiteObjects A) → Bool
is_of_instance instance None = false
is_of_instance instance (Some objects) = objects.instance == instance

-- the device of this instance
abbrev pub device_of : {A : Type 0} → ℕ → List (Station A) → Option (Station A)
device_of instance [] = None
device_of instance (s ∷ ss) = if is_of_instance instance (objects_in s.role) then Some s else device_of instance ss

-- the name of a station, if one was found
abbrev pub name_found : {A : Type 0} → Option (Station A) → List ℕ
name_found None = []
name_found (Some s) = s.name

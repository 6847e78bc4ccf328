-- What stations are, and the places that they have.
use Rattle.std.specs.Prelude.{List, [], ◌∷◌, Option, Some, None}
use Rattle.object_model.specs.declared.site.SiteObjects.{SiteObjects}
use Rattle.site_parts.specs.declared.place.Foreign.{Foreign}
use Rattle.site_parts.specs.declared.place.Link.{Link}
use Rattle.site_parts.specs.declared.role.Role.{Role}
use Rattle.site_parts.specs.declared.role.Role.TheVariants as role
use Rattle.site_parts.specs.Places.{links_at, beyond_at}

-- all places of a station on networks: those of a router's ports, and one or none of another station
abbrev pub links_in : {A : Type 0} → Role A → List Link
links_in (role.Manager l) = l ∷ []
links_in (role.Router ports) = ports
links_in (role.Device p objects) = links_at p
links_in (role.Client p segmented) = links_at p

-- the ports of a router; no other station has any (6.6)
abbrev pub ports_in : {A : Type 0} → Role A → List Link
ports_in (role.Router ports) = ports
ports_in (role.Manager l) = []
ports_in (role.Device p objects) = []
ports_in (role.Client p segmented) = []

-- the place of a station, where it is beyond all subnets (J.5)
abbrev pub beyond : {A : Type 0} → Role A → Option (Foreign A)
beyond (role.Device p objects) = beyond_at p
beyond (role.Client p segmented) = beyond_at p
beyond (role.Manager l) = None
beyond (role.Router ports) = None

-- the objects of a device; no other station has any (12)
abbrev pub objects_in : {A : Type 0} → Role A → Option (SiteObjects A)
objects_in (role.Device p objects) = Some objects
objects_in (role.Manager l) = None
objects_in (role.Router ports) = None
objects_in (role.Client p segmented) = None

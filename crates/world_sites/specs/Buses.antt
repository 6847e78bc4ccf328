-- The buses of a site as they open, and who hears there (9.3).
use Rattle.std.specs.Prelude.{◌==◌, ℕ, List, [], ◌∷◌, if◌then◌else◌}
use Rattle.std.specs.List.{flat_map}
use Rattle.bus_traffic.specs.Bus.{BusState}
use Rattle.bus_traffic.specs.Ears.{ear_anew}
use Rattle.bus_traffic.specs.declared.ear.Ear.{Ear}
use Rattle.profile.specs.declared.link_kind.LinkKind.TheVariants.{BacnetIp, MsTp}
use Rattle.profile.specs.declared.link_kind.LinkKind.{LinkKind}
use Rattle.site_parts.specs.Roles.{links_in}
use Rattle.site_parts.specs.declared.parts.Parts.{Parts}
use Rattle.site_parts.specs.declared.parts.Station.{Station}
use Rattle.site_parts.specs.declared.place.Link.{Link}
use Rattle.site_parts.specs.declared.place.Link.TheVariants as link

-- a station has an ear at a link, where that is on the bus of a number; it has heard nothing (9.5.2)
abbrev pub ear_on : (net : ℕ) → Link → List Ear
ear_on net (link.Ip network subnet address) = []
ear_on net (link.Bus network mac) = if network == net then ear_anew mac 0 ∷ [] else []

-- .. and so do all stations on it, in the order of the site
abbrev pub ears_on : {A : Type 0} → (net : ℕ) → List (Station A) → List Ear
ears_on net all = flat_map (λ s. flat_map (ear_on net) (links_in s.role)) all

-- a bus as it opens: each station on it has an ear there, which has heard nothing, and nothing was put out
abbrev pub bus_at : {A : Type 0} → List (Station A) → (net : ℕ) → BusState A
bus_at all net = record {
  net = net;
  ears = ears_on net all;
  known = [];
  recent = [];
}

abbrev pub bus_of_kind : {A : Type 0} → List (Station A) → (net : ℕ) → LinkKind → List (BusState A)
bus_of_kind all net MsTp = bus_at all net ∷ []
bus_of_kind all net BacnetIp = []

-- the buses of a site as they open, in its order
abbrev pub opening_buses : {A : Type 0} → Parts A → List (BusState A)
opening_buses p = flat_map (λ n. bus_of_kind p.stations n.number n.link_kind) p.networks

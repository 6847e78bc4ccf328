-- Each station of a sound site opens as one node, under its name and at its addresses.
use Rattle.std.proofs.Common.{rules, ◌≡◌, ◌∙◌, ◌&&◌, ◌||◌, append-nil, refl, sym, ap, ℕ, Bool, true, false, bytes_eq, List, [], ◌∷◌, ◌++◌, map, Option, Some, None}
use Rattle.std.specs.Prelude.{if◌then◌else◌, option_map, option_to_list}
use Rattle.std.specs.List.{AllByRecursion, flat_map, list_any}
use Rattle.node_laws.specs.link_site.Port as site
use Rattle.node_laws.specs.link_site.declared.port.SitePort.{SitePort}
use Rattle.npdu.specs.declared.mac.Station as npdu
use Rattle.site.specs.Apart.{AreApart, IsOther}
use Rattle.site.specs.Foreigns.{are_registered, is_host, is_manager_on, is_sound_beyond, is_time}
use Rattle.site.specs.Named.{names}
use Rattle.site.specs.Roles.{AreRoles, IsRole}
use Rattle.site.specs.Sound.{IsSound}
use Rattle.node_laws.specs.site_node.Node.{NodeState, node_places, places_by}
use Rattle.node_laws.specs.site_node.declared.part.Part.{Part}
use Rattle.node_laws.specs.site_node.declared.part.Part.TheVariants.{Device}
use Rattle.node_laws.specs.site_node.device.Device.{new_device}
use Rattle.site_parts.specs.Places.{beyond_at, links_at, station_of}
use Rattle.site_parts.specs.Roles.{beyond}
use Rattle.site_parts.specs.declared.parts.Parts.{Parts}
use Rattle.site_parts.specs.declared.parts.Station.{Station}
use Rattle.site_parts.specs.declared.place.Foreign.{Foreign}
use Rattle.site_parts.specs.declared.place.Link.{Link}
use Rattle.site_parts.specs.declared.place.Link.TheVariants as link
use Rattle.site_parts.specs.declared.place.Place.{Place}
use Rattle.site_parts.specs.declared.place.Place.TheVariants as place
use Rattle.site_parts.specs.declared.role.Role.{Role}
use Rattle.site_parts.specs.declared.role.Role.TheVariants as role
use Rattle.node_laws.specs.site_ports.Ports.{places_of}
use Rattle.site_views.specs.Views.{addresses_of, foreign_at, foreign_stations, host, managed_at}
use Rattle.world_sites.proofs.BoolLaws.{first_of, second_of}
use Rattle.world_sites.specs.Laws.{NamesAgree, PlacesAgree}
use Rattle.world_sites.specs.Opening.{client_at, foreign_port, node_at, opens, place_port, port_at, ports_at}

-- a manager of a name, where there is one and no two have a name, is found; and it is not on a bus
abbrev pub IsThere : Option Link → Type 0
IsThere None = ⊥
IsThere (Some (link.Ip n k a)) = Unit {0}
IsThere (Some (link.Bus n mac)) = ⊥

by_role : {A : Type 0} (n : Option ℕ) (r : Role A) → IsRole r → is_manager_on n r ≡ true → IsThere (managed_at r)
by_role n (role.Manager (link.Ip m k a)) on e = tt
by_role n (role.Manager (link.Bus m mac)) on e = absurd on
by_role n (role.Router ls) on e = absurd (cc e)
by_role n (role.Device p o) on e = absurd (cc e)
by_role n (role.Client p b) on e = absurd (cc e)

same_name : (x y : List ℕ) → bytes_eq x y ≡ true → x ≡ y
same_name x y e = grind (rules, e)

no_other : {A : Type 0} (f : Foreign A) (x : List ℕ) (ss : List (Station A)) → x ≡ f.manager →
    AllByRecursion (IsOther x) (names ss) → list_any (is_host f) ss ≡ true → ⊥
no_other f x [] e apart h = cc h
no_other f x (s ∷ ss) e apart h =
    by_test (bytes_eq s.name f.manager) refl (λ g. no_other f x ss e (apart.1) g) h
  where
    by_test : (b : Bool) → bytes_eq s.name f.manager ≡ b → (list_any (is_host f) ss ≡ true → ⊥) →
        ((b && is_manager_on f.network s.role) || list_any (is_host f) ss) ≡ true → ⊥
    by_test true t rest g = apart.0.other (e ∙ sym (same_name s.name f.manager t))
    by_test false t rest g = rest g

pub host_there : {A : Type 0} (f : Foreign A) (ss : List (Station A)) → AreApart (names ss) → AreRoles ss →
    list_any (is_host f) ss ≡ true → IsThere (host f.manager ss)
host_there f [] apart on h = absurd (cc h)
host_there f (s ∷ ss) apart on h =
    by_test (bytes_eq s.name f.manager) refl (host_there f ss (apart.1) (on.1)) h
  where
    managed : (c : Bool) → bytes_eq s.name f.manager ≡ true → is_manager_on f.network s.role ≡ c →
        (c || list_any (is_host f) ss) ≡ true → IsThere (managed_at s.role)
    managed true t u g = by_role f.network s.role (on.0) u
    managed false t u g = absurd (no_other f s.name ss (same_name s.name f.manager t) (apart.0) g)

    by_test : (b : Bool) → bytes_eq s.name f.manager ≡ b →
        (list_any (is_host f) ss ≡ true → IsThere (host f.manager ss)) →
        ((b && is_manager_on f.network s.role) || list_any (is_host f) ss) ≡ true →
        IsThere (if b then managed_at s.role else host f.manager ss)
    by_test true t next g = managed (is_manager_on f.network s.role) t refl g
    by_test false t next g = next g

-- a port is where its link is
port_is : {A : Type 0} (all : List (Station A)) (l : Link) → site.station_of (port_at all l) ≡ station_of l
port_is all (link.Ip n k a) = refl
port_is all (link.Bus n mac) = refl

ports_are : {A : Type 0} (all : List (Station A)) (ls : List Link) →
    map site.station_of (ports_at all ls) ≡ map station_of ls
ports_are all [] = refl
ports_are all (l ∷ ls) = ap (λ (x : npdu.Station). x ∷ map site.station_of (ports_at all ls)) (port_is all l)
    ∙ ap (λ (xs : List npdu.Station). station_of l ∷ xs) (ports_are all ls)

-- these are one node, of this name and at these addresses
record IsOne {A : Type 0} (ns : List (NodeState A)) (name : List ℕ) (xs : List npdu.Station) : Type 0 where
  node : NodeState A
  one : ns ≡ node ∷ []
  named : node.name ≡ name
  there : node_places node ≡ xs

-- a part is where its ports are
abbrev IsAtPorts : {A : Type 0} → (npdu.Station → Part A) → Type 0
IsAtPorts {A} part = (x : npdu.Station) (ports : List (SitePort A)) → places_by (part x) ports ≡ places_of ports

beyond_opens : {A : Type 0} (name : List ℕ) (part : npdu.Station → Part A) → IsAtPorts part → (f : Foreign A)
    (h : Option Link) → IsThere h →
    IsOne (option_to_list (option_map (node_at name part) (foreign_port f h))) name (foreign_at f.address h)
beyond_opens name part at f None is = absurd is
beyond_opens name part at f (Some (link.Ip n k a)) is =
    record { node = _; one = refl; named = refl; there = at _ _ }
beyond_opens name part at f (Some (link.Bus n mac)) is = absurd is

module _ {A : Type 0} (all : List (Station A)) (named : AreApart (names all)) (on : AreRoles all) where
  place_opens : (name : List ℕ) (part : npdu.Station → Part A) → IsAtPorts part → (p : Place A) →
      is_sound_beyond all (beyond_at p) ≡ true →
      IsOne (option_to_list (option_map (node_at name part) (place_port all p))) name
      (map station_of (links_at p) ++ foreign_stations all (beyond_at p))
  place_opens name part at (place.On (link.Ip n k a)) sound =
      record { node = _; one = refl; named = refl; there = at _ _ }
  place_opens name part at (place.On (link.Bus n mac)) sound =
      record { node = _; one = refl; named = refl; there = at _ _ }
  place_opens name part at (place.Beyond f) sound = beyond_opens name part at f (host f.manager all)
      (host_there f all named on (second_of (is_time f.seconds_to_live) (list_any (is_host f) all) sound))

  role_opens : (name : List ℕ) (r : Role A) → IsRole r → is_sound_beyond all (beyond r) ≡ true →
      IsOne (opens all name r) name (addresses_of all r)
  role_opens name (role.Manager (link.Ip n k a)) is sound =
      record { node = _; one = refl; named = refl; there = refl }
  role_opens name (role.Manager (link.Bus n mac)) is sound = absurd is
  role_opens name (role.Router ls) is sound = record {
    node = _;
    one = refl;
    named = refl;
    there = ports_are all ls ∙ sym (append-nil (map station_of ls));
  }
  role_opens name (role.Device p o) is sound = place_opens name (λ x. Device (new_device o x)) (λ x ports. refl) p sound
  role_opens name (role.Client p b) is sound = place_opens name (client_at p b) (λ x ports. refl) p sound

  abbrev nodes : List (Station A) → List (NodeState A)
  nodes ss = flat_map (λ s. opens all s.name s.role) ss

  abbrev OpensOne : Station A → Type 0
  OpensOne s = IsOne (opens all s.name s.role) s.name (addresses_of all s.role)

  each_opens : (ss : List (Station A)) → AreRoles ss → are_registered all ss ≡ true → AllByRecursion OpensOne ss
  each_opens [] is sound = tt
  each_opens (s ∷ ss) is sound = (
    role_opens s.name s.role (is.0) (first_of (is_sound_beyond all (beyond s.role)) (are_registered all ss) sound),
    each_opens ss (is.1) (second_of (is_sound_beyond all (beyond s.role)) (are_registered all ss) sound),
  )

  -- what each node has of its station is what the stations have
  agree : {X : Type 0} (f : NodeState A → X) (g : Station A → X) → ((s : Station A) (o : OpensOne s) → f o.node ≡ g s) →
      (ss : List (Station A)) → AllByRecursion OpensOne ss → map f (nodes ss) ≡ map g ss
  agree f g same [] opened = refl
  agree {X} f g same (s ∷ ss) opened =
      ap (λ (ns : List (NodeState A)). map f (ns ++ nodes ss)) opened.0.one
      ∙ ap (λ (x : X). x ∷ map f (nodes ss)) (same s opened.0)
      ∙ ap (λ (xs : List X). g s ∷ xs) (agree f g same ss opened.1)

module _ {A : Type 0} (p : Parts A) (s : IsSound p) where
  opened : AllByRecursion (OpensOne p.stations s.plain.named.apart s.plain.stations.roles) p.stations
  opened = each_opens p.stations s.plain.named.apart s.plain.stations.roles p.stations s.plain.stations.roles
      s.fit.managed.registered

pub places_agree : {A : Type 0} → PlacesAgree A
places_agree p s = agree p.stations s.plain.named.apart s.plain.stations.roles node_places
    (λ t. addresses_of p.stations t.role) (λ t o. o.there) p.stations (opened p s)

pub names_agree : {A : Type 0} → NamesAgree A
names_agree p s = agree p.stations s.plain.named.apart s.plain.stations.roles (λ n. n.name) (λ t. t.name)
    (λ t o. o.named) p.stations (opened p s)

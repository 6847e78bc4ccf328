-- A fresh world came about as it must.
use Rattle.std.proofs.Common.{◌≡◌, ◌∙◌, refl, ap, ℕ, List, [], ◌∷◌, ◌++◌, Option, Some, None}
use Rattle.std.specs.Prelude.{option_map, option_to_list}
use Rattle.std.specs.List.{flat_map}
use Rattle.buses.specs.Laws.{known_as}
use Rattle.carry.specs.Things.{SentFrame, Thing}
use Rattle.world.proofs.carry_world.Promised.{stays_so}
use Rattle.world.specs.device.Device.{new_device}
use Rattle.npdu.specs.declared.mac.Station as npdu
use Rattle.profile.specs.declared.link_kind.LinkKind.{LinkKind}
use Rattle.profile.specs.declared.link_kind.LinkKind.TheVariants.{BacnetIp, MsTp}
use Rattle.simulator.specs.Laws.{IsLed}
use Rattle.world.specs.site.Sound.{IsSound}
use Rattle.world.specs.site_node.Node.{NodeState}
use Rattle.world.specs.site_node.declared.part.Part.{Part}
use Rattle.world.specs.site_node.declared.part.Part.TheVariants.{Device}
use Rattle.site_parts.specs.declared.parts.Network.{Network}
use Rattle.site_parts.specs.declared.parts.Parts.{Parts}
use Rattle.site_parts.specs.declared.parts.Station.{Station}
use Rattle.site_parts.specs.declared.place.Foreign.{Foreign}
use Rattle.site_parts.specs.declared.place.Link.{Link}
use Rattle.site_parts.specs.declared.place.Link.TheVariants as link
use Rattle.site_parts.specs.declared.place.Place.{Place}
use Rattle.site_parts.specs.declared.place.Place.TheVariants as place
use Rattle.site_parts.specs.declared.role.Role.{Role}
use Rattle.site_parts.specs.declared.role.Role.TheVariants as role
use Rattle.world.specs.site_views.Views.{host}
use Rattle.world.specs.World.{frames_on, fresh_world, plain, things_of, waits_in}
use Rattle.world.proofs.world_sites.DeviceLaws.{devices_open}
use Rattle.world.proofs.world_sites.FreshLaws.{nodes_are_fresh}
use Rattle.world.proofs.world_sites.SiteLaws.{devices_are_site}
use Rattle.world.specs.world_sites.Buses.{bus_of_kind}
use Rattle.world.specs.world_sites.Opening.{client_at, foreign_port, node_at, object_site, opening_nodes, opens, place_port, ports_at}

-- two lists that are nothing together are nothing
both_none : {X : Type 0} (xs ys : List X) → xs ++ ys ≡ [] → (xs ≡ []) × (ys ≡ [])
both_none [] ys e = (refl, e)
both_none (x ∷ xs) ys e = absurd (cc e)

-- where nothing comes of these, nothing comes of them in front of others of which nothing comes
none_front : {Y Z : Type 0} (f : Y → List Z) (ys rest : List Y) → flat_map f ys ≡ [] → flat_map f rest ≡ [] →
    flat_map f (ys ++ rest) ≡ []
none_front f [] rest e r = r
none_front {Y} {Z} f (y ∷ ys) rest e r =
    let both = both_none (f y) (flat_map f ys) e in
    ap (λ (zs : List Z). zs ++ flat_map f (ys ++ rest)) both.0 ∙ none_front f ys rest both.1 r

-- where nothing comes of each, nothing comes of all
none_of : {X Y Z : Type 0} (f : Y → List Z) (g : X → List Y) (xs : List X) → ((x : X) → flat_map f (g x) ≡ []) →
    flat_map f (flat_map g xs) ≡ []
none_of f g [] none = refl
none_of f g (x ∷ xs) none = none_front f (g x) (flat_map g xs) (none x) (none_of f g xs none)

-- nothing waits in the ports that open
ports_wait : {A : Type 0} (all : List (Station A)) (ls : List Link) → waits_in (ports_at all ls) ≡ []
ports_wait all [] = refl
ports_wait all (link.Ip n k a ∷ ls) = ports_wait all ls
ports_wait all (link.Bus n m ∷ ls) = ports_wait all ls

module _ {A : Type 0} (name : List ℕ) (part : npdu.Station → Part A) where
  foreign_waits : (f : Foreign A) (h : Option Link) →
      flat_map (λ n. waits_in n.ports) (option_to_list (option_map (node_at name part) (foreign_port f h))) ≡ []
  foreign_waits f None = refl
  foreign_waits f (Some (link.Ip n k a)) = refl
  foreign_waits f (Some (link.Bus n m)) = refl

  place_waits : (all : List (Station A)) (p : Place A) →
      flat_map (λ n. waits_in n.ports) (option_to_list (option_map (node_at name part) (place_port all p))) ≡ []
  place_waits all (place.On (link.Ip n k a)) = refl
  place_waits all (place.On (link.Bus n m)) = refl
  place_waits all (place.Beyond f) = foreign_waits f (host f.manager all)

node_waits : {A : Type 0} (all : List (Station A)) (name : List ℕ) (r : Role A) →
    flat_map (λ n. waits_in n.ports) (opens all name r) ≡ []
node_waits all name (role.Device p o) = place_waits name (λ x. Device (new_device o x)) all p
node_waits all name (role.Client p b) = place_waits name (client_at p b) all p
node_waits {A} all name (role.Router ls) = ap (λ (ts : List (Thing A)). ts ++ []) (ports_wait all ls)
node_waits all name (role.Manager (link.Ip n k a)) = refl
node_waits all name (role.Manager (link.Bus n m)) = refl

-- nothing is known on a bus that opens
bus_knows : {A : Type 0} (all : List (Station A)) (number : ℕ) (k : LinkKind) →
    frames_on {A = A} (bus_of_kind all number k) ≡ []
bus_knows all number BacnetIp = refl
bus_knows all number MsTp = refl

-- nothing is on its way as a site opens
nothing_yet : {A : Type 0} (p : Parts A) → things_of (fresh_world p) ≡ []
nothing_yet {A} p =
    ap (λ (ts : List (Thing A)). ts ++ flat_map (λ n. waits_in n.ports) (opening_nodes p))
    (none_of (known_as SentFrame) (λ (n : Network). bus_of_kind p.stations n.number n.link_kind) p.networks
    (λ n. bus_knows p.stations n.number n.link_kind))
    ∙ none_of (λ (n : NodeState A). waits_in n.ports) (λ (s : Station A). opens p.stations s.name s.role) p.stations
    (λ s. node_waits p.stations s.name s.role)

pub led_new : {A : Type 0} (p : Parts A) → IsSound p → IsLed (fresh_world p)
led_new {A} p sound =
    let fresh = nodes_are_fresh p sound in record {
      is_site = devices_are_site p sound;
      fresh = plain (fresh_world p);
      begun = record {
        moment = refl;
        keys = refl;
        history = refl;
        things = nothing_yet p;
        said = refl;
        clients = fresh.clients;
        devices = fresh.devices;
        clients_apart = fresh.clients_apart;
        devices_apart = fresh.devices_apart;
        numbers = fresh.numbers;
      };
      devices = devices_open p sound;
      leads = stays_so (object_site p) (plain (fresh_world p));
      whole = record { first_item = refl; first_entry = refl; first_said = refl };
    }

pub ruleset fresh_rules = (led_new)

-- A site opens with managers that have their tables.
use Rattle.std.proofs.Common.{◌≡◌, ◌∙◌, inl, inr, refl, sym, ap, subst, arith, List, [], ◌∷◌, ℕ, Option, Some, None}
use Rattle.std.specs.Prelude.{option_map, option_to_list}
use Rattle.std.specs.List.{AllByRecursion}
use Rattle.bvll.specs.Address.{IsAddress}
use Rattle.history.proofs.HasLaws.{all_has, has_all}
use Rattle.history.specs.Lists.{Has}
use Rattle.link_site.specs.declared.port.SitePort.{SitePort}
use Rattle.npdu.specs.declared.mac.Station as npdu
use Rattle.site.specs.Sound.{IsSound}
use Rattle.site_node.specs.declared.part.Part.{Part}
use Rattle.site_node.specs.declared.part.Part.TheVariants.{Device}
use Rattle.site_node.specs.device.Device.{new_device}
use Rattle.site_parts.specs.Roles.{beyond}
use Rattle.site_parts.specs.declared.parts.Parts.{Parts}
use Rattle.site_parts.specs.declared.parts.Station.{Station}
use Rattle.site_parts.specs.declared.place.Foreign.{Foreign}
use Rattle.site_parts.specs.declared.place.Link.{Link}
use Rattle.site_parts.specs.declared.place.Link.TheVariants as link
use Rattle.site_parts.specs.declared.place.Place.{Place}
use Rattle.site_parts.specs.declared.place.Place.TheVariants as place
use Rattle.site_parts.specs.declared.role.Role.{Role}
use Rattle.site_parts.specs.declared.role.Role.TheVariants as role
use Rattle.site_reach.proofs.Site.{host_is, is_foreign, is_manager}
use Rattle.site_reach.proofs.Stays.{tables_stay}
use Rattle.site_reach.specs.Laws.{TablesStand}
use Rattle.site_reach.specs.Tables.{HasAddress, HasItsTableIfAny, HasItsTables, HaveAddresses, IsInOrder, IsPlaced}
use Rattle.site_views.specs.Views.{host, managed_at}
use Rattle.world.specs.Refusals.{Comes, Runs}
use Rattle.world.specs.World.{WorldState, fresh_world}
use Rattle.world.specs.site_events.declared.event.Event.{Event}
use Rattle.world_sites.proofs.ListLaws.{all_flat}
use Rattle.world_sites.specs.Opening.{client_at, foreign_port, manager_at, node_at, opens, place_port, port_at, ports_at}

module _ {A : Type 0} (ss : List (Station A)) where
  manager_opens : (s : Station A) (l : Link) → Has ss s → s.role ≡ role.Manager l →
      AllByRecursion (IsInOrder ss) (manager_at ss s.name l)
  manager_opens s (link.Ip net subnet own) there e = (
    record {
      table = (
        record {
          subnet = subnet;
          manages = is_manager ss net subnet own s there (ap (λ (r : Role A). managed_at r) e);
          knows = refl;
          peers = refl;
          just = tt;
          once = λ a. omega arith;
        },
        refl,
      );
      ports = tt;
    },
    tt,
  )
  manager_opens s (link.Bus net mac) there e = tt

  abbrev IsPlacedIf : Option (SitePort A) → Type 0
  IsPlacedIf None = Unit {0}
  IsPlacedIf (Some l) = IsPlaced ss l

  link_placed : (l : Link) → IsPlaced ss (port_at ss l)
  link_placed (link.Ip net subnet own) = tt
  link_placed (link.Bus net mac) = tt

  links_placed : (ls : List Link) → AllByRecursion (IsPlaced ss) (ports_at ss ls)
  links_placed [] = tt
  links_placed (l ∷ ls) = (link_placed l, links_placed ls)

  foreign_placed : (s : Station A) (f : Foreign A) (at : Option Link) → Has ss s → beyond s.role ≡ Some f → IsAddress f.address →
      host f.manager ss ≡ at → IsPlacedIf (foreign_port f at)
  foreign_placed s f None there e sound h = tt
  foreign_placed s f (Some (link.Bus net mac)) there e sound h = tt
  foreign_placed s f (Some (link.Ip net subnet own)) there e sound h =
      let m = host_is f.manager ss (link.Ip net subnet own) h in record {
        subnet = subnet;
        manages = is_manager ss net subnet own m.station m.there m.manages;
        is_there = is_foreign ss net subnet own f s there e h;
        sound = sound;
      }

  place_placed : (s : Station A) (p : Place A) → Has ss s → HasAddress (beyond s.role) →
      ((f : Foreign A) → p ≡ place.Beyond f → beyond s.role ≡ Some f) → IsPlacedIf (place_port ss p)
  place_placed s (place.On l) there sound is = link_placed l
  place_placed s (place.Beyond f) there sound is = foreign_placed s f (host f.manager ss) there (is f refl)
      (subst (λ (o : Option (Foreign A)). HasAddress o) (is f refl) sound) refl

  opened : (name : List ℕ) (part : npdu.Station → Part A) (port : Option (SitePort A)) →
      ((x : npdu.Station) (ports : List (SitePort A)) → HasItsTableIfAny ss (part x) ports) → IsPlacedIf port →
      AllByRecursion (IsInOrder ss) (option_to_list (option_map (node_at name part) port))
  opened name part None other placed = tt
  opened name part (Some l) other placed = (record { table = other _ (l ∷ []); ports = (placed, tt) }, tt)

  role_opens : (s : Station A) (r : Role A) → Has ss s → HasAddress (beyond s.role) → s.role ≡ r →
      AllByRecursion (IsInOrder ss) (opens ss s.name r)
  role_opens s (role.Manager l) there sound e = manager_opens s l there e
  role_opens s (role.Router ls) there sound e = (record { table = tt; ports = links_placed ls }, tt)
  role_opens s (role.Device p o) there sound e = opened s.name (λ x. Device (new_device o x)) (place_port ss p)
      (λ x ports. tt) (place_placed s p there sound
      (λ f q. ap (λ (r : Role A). beyond r) e ∙ ap (λ (x : Place A). beyond (role.Device x o)) q))
  role_opens s (role.Client p segmented) there sound e = opened s.name (client_at p segmented) (place_port ss p)
      (λ x ports. tt) (place_placed s p there sound
      (λ f q. ap (λ (r : Role A). beyond r) e ∙ ap (λ (x : Place A). beyond (role.Client x segmented)) q))

fresh_has : {A : Type 0} (p : Parts A) → IsSound p → HaveAddresses p.stations → HasItsTables (fresh_world p)
fresh_has {A} p sound addresses = record {
  sound = sound;
  nodes = all_flat (λ (s : Station A). opens p.stations s.name s.role) (IsInOrder p.stations) p.stations
      (has_all (λ (s : Station A). AllByRecursion (IsInOrder p.stations) (opens p.stations s.name s.role)) p.stations
      (λ s there. role_opens p.stations s s.role there
      (all_has (λ (t : Station A). HasAddress (beyond t.role)) p.stations s addresses there) refl));
  items = tt;
}

comes_stay : {A : Type 0} (e : Event A) (w v : WorldState A) → HasItsTables w → Comes e w v → HasItsTables v
comes_stay e w v has (inl steps) = tables_stay e w v has steps
comes_stay e w v has (inr refused) = subst (λ (x : WorldState _). HasItsTables x) (sym refused.same) has

runs_stay : {A : Type 0} (es : List (Event A)) (w v : WorldState A) → HasItsTables w → Runs es w v → HasItsTables v
runs_stay [] w v has e = subst (λ (x : WorldState _). HasItsTables x) (sym e) has
runs_stay (e ∷ es) w v has r = runs_stay es r.middle v (comes_stay e w r.middle has r.first) r.rest

pub tables_stand : {A : Type 0} → TablesStand A
tables_stand p es w sound addresses runs = runs_stay es (fresh_world p) w (fresh_has p sound addresses) runs

-- All devices of a sound site open, in its order.
use Rattle.std.proofs.Common.{◌≡◌, refl, sym, subst, ℕ, true, List, [], ◌∷◌, ◌++◌, Option, Some, None}
use Rattle.std.specs.Prelude.{option_map, option_to_list}
use Rattle.std.specs.List.{flat_map, list_any}
use Rattle.object_model.specs.declared.site.SiteObjects.{SiteObjects}
use Rattle.site.specs.Apart.{AreApart}
use Rattle.site.specs.Foreigns.{are_registered, is_host, is_sound_beyond, is_time}
use Rattle.site.specs.Named.{names}
use Rattle.site.specs.Roles.{AreRoles}
use Rattle.site_parts.specs.Roles.{beyond, objects_in}
use Rattle.site_parts.specs.declared.parts.Station.{Station}
use Rattle.site_parts.specs.declared.place.Foreign.{Foreign}
use Rattle.site_parts.specs.declared.place.Link.{Link}
use Rattle.site_parts.specs.declared.place.Link.TheVariants as link
use Rattle.site_parts.specs.declared.place.Place.TheVariants as place
use Rattle.site_parts.specs.declared.role.Role.{Role}
use Rattle.site_parts.specs.declared.role.Role.TheVariants as role
use Rattle.node_laws.specs.site_node.Node.{NodeState}
use Rattle.node_laws.specs.site_node.device.Device.{DeviceState, new_device}
use Rattle.node_laws.specs.site_node.declared.part.Part.TheVariants.{Device}
use Rattle.site_views.specs.Views.{host}
use Rattle.world_sites.specs.Laws.{DevicesOpen, OpenAs}
use Rattle.world_sites.specs.Opening.{devices_in, foreign_port, node_at, opens, place_port}
use Rattle.world_sites.specs.Nodes.{device_of, devices_of}
use Rattle.world_sites.proofs.FreshLaws.{no_devices}
use Rattle.world_sites.proofs.ListLaws.{flat_flat}
use Rattle.world_sites.proofs.BoolLaws.{first_of, second_of}
use Rattle.world_sites.proofs.AgreeLaws.{IsThere, host_there}

open_join : {A : Type 0} (os qs : List (SiteObjects A)) (ds es : List (DeviceState A)) → OpenAs os ds → OpenAs qs es →
    OpenAs (os ++ qs) (ds ++ es)
open_join [] qs [] es a b = b
open_join [] qs (d ∷ ds) es a b = absurd a
open_join (o ∷ os) qs [] es a b = absurd a
open_join (o ∷ os) qs (d ∷ ds) es a b = (a.0, open_join os qs ds es a.1 b)

-- where its manager is there, a foreign device has a port
beyond_opens : {A : Type 0} (name : List ℕ) (f : Foreign A) (o : SiteObjects A) (h : Option Link) → IsThere h →
    OpenAs (o ∷ [])
    (devices_of (option_to_list (option_map (node_at name (λ x. Device (new_device o x))) (foreign_port f h))))
beyond_opens name f o None is = absurd is
beyond_opens name f o (Some (link.Ip n k a)) is = (record { address = _; is = refl }, tt)
beyond_opens name f o (Some (link.Bus n mac)) is = absurd is

module _ {A : Type 0} (all : List (Station A)) (named : AreApart (names all)) (on : AreRoles all) where
  role_opens : (name : List ℕ) (r : Role A) → is_sound_beyond all (beyond r) ≡ true →
      OpenAs (option_to_list (objects_in r)) (devices_of (opens all name r))
  role_opens name (role.Device (place.On (link.Ip n k a)) o) sound = (record { address = _; is = refl }, tt)
  role_opens name (role.Device (place.On (link.Bus n mac)) o) sound = (record { address = _; is = refl }, tt)
  role_opens name (role.Device (place.Beyond f) o) sound = beyond_opens name f o (host f.manager all)
      (host_there f all named on (second_of (is_time f.seconds_to_live) (list_any (is_host f) all) sound))
  role_opens name (role.Client p b) sound = subst (λ (ds : List (DeviceState A)). OpenAs {A = A} [] ds)
      (sym (no_devices name p b (place_port all p))) tt
  role_opens name (role.Manager (link.Ip n k a)) sound = tt
  role_opens name (role.Manager (link.Bus n mac)) sound = tt
  role_opens name (role.Router ls) sound = tt

  all_open : (ss : List (Station A)) → are_registered all ss ≡ true →
      OpenAs (devices_in ss) (flat_map (λ s. devices_of (opens all s.name s.role)) ss)
  all_open [] sound = tt
  all_open (s ∷ ss) sound =
      open_join (option_to_list (objects_in s.role)) (devices_in ss) (devices_of (opens all s.name s.role))
      (flat_map (λ t. devices_of (opens all t.name t.role)) ss)
      (role_opens s.name s.role (first_of (is_sound_beyond all (beyond s.role)) (are_registered all ss) sound))
      (all_open ss (second_of (is_sound_beyond all (beyond s.role)) (are_registered all ss) sound))

pub devices_open : {A : Type 0} → DevicesOpen A
devices_open {A} p s =
    subst (λ (ds : List (DeviceState A)). OpenAs (devices_in p.stations) ds)
    (sym (flat_flat (λ (n : NodeState A). device_of n.part) (λ (t : Station A). opens p.stations t.name t.role)
    p.stations))
    (all_open p.stations s.plain.named.apart s.plain.stations.roles p.stations s.fit.managed.registered)

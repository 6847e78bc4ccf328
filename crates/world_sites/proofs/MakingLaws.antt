-- What the making of a site's devices and clients stands on: their ports.
use Rattle.std.proofs.Common.{◌≡◌, ◌∙◌, ap, ℕ, Bool, List, [], ◌∷◌, Option, Some, None}
use Rattle.std.specs.Prelude.{option_map, option_to_list}
use Rattle.node_laws.specs.link_site.Port as site
use Rattle.node_laws.specs.link_site.declared.port.SitePort.{SitePort}
use Rattle.object_model.specs.declared.site.SiteObjects.{SiteObjects}
use Rattle.node_laws.specs.site_node.client.Client.{ClientState, new_client}
use Rattle.node_laws.specs.site_node.declared.part.Part.TheVariants.{Device, Client}
use Rattle.node_laws.specs.site_node.device.Device.{DeviceState, new_device}
use Rattle.site_parts.specs.Places.{kind_at}
use Rattle.site_parts.specs.declared.parts.Station.{Station}
use Rattle.site_parts.specs.declared.place.Place.{Place}
use Rattle.site_parts.specs.declared.role.Role.TheVariants as role
use Rattle.unitdata.specs.Sizes.{longest_apdu}
use Rattle.world_sites.specs.Opening.{client_at, node_at, opens, place_port}

module _ {A : Type 0} (all : List (Station A)) (name : List ℕ) (p : Place A) where
  -- a device with a port, and a client, as a node
  pub device_opens : (o : SiteObjects A) (port : SitePort A) (d : DeviceState A) → Some port ≡ place_port all p →
      d ≡ new_device o (site.station_of port) →
      record { name = name; ports = port ∷ []; part = Device d } ∷ [] ≡ opens all name (role.Device p o)
  device_opens o port d e g =
      ap (λ (x : DeviceState A). record { name = name; ports = port ∷ []; part = Device x } ∷ []) g
      ∙ ap (λ (q : Option (SitePort A)). option_to_list (option_map (node_at name (λ x. Device (new_device o x))) q)) e

  pub client_opens : (b : Bool) (port : SitePort A) (c : ClientState A) → Some port ≡ place_port all p →
      c ≡ new_client (site.station_of port) b (longest_apdu (kind_at p)) →
      record { name = name; ports = port ∷ []; part = Client c } ∷ [] ≡ opens all name (role.Client p b)
  client_opens b port c e g =
      ap (λ (x : ClientState A). record { name = name; ports = port ∷ []; part = Client x } ∷ []) g
      ∙ ap (λ (q : Option (SitePort A)). option_to_list (option_map (node_at name (client_at p b)) q)) e

  -- where there is no port there is no node
  pub no_device : (o : SiteObjects A) → None ≡ place_port all p → [] ≡ opens all name (role.Device p o)
  no_device o e =
      ap (λ (q : Option (SitePort A)). option_to_list (option_map (node_at name (λ x. Device (new_device o x))) q)) e

  pub no_client : (b : Bool) → None ≡ place_port all p → [] ≡ opens all name (role.Client p b)
  no_client b e =
      ap (λ (q : Option (SitePort A)). option_to_list (option_map (node_at name (client_at p b)) q)) e

pub ruleset opening_rules = (device_opens, client_opens, no_device, no_client)

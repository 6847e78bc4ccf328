-- The devices of a world, as its history is judged for them.
use Rattle.std.specs.Prelude.{ℕ, List, [], ◌∷◌, map}
use Rattle.world.specs.carry_world.Laws.{Judged}
use Rattle.object_model.specs.Site.{opening_table}
use Rattle.object_model.specs.declared.site.SiteObjects.{SiteObjects}
use Rattle.world.specs.device.Device.{DeviceState}
use Rattle.site_parts.specs.declared.parts.Parts.{Parts}
use Rattle.world.specs.World.{WorldState}
use Rattle.world.specs.world_sites.Nodes.{devices_of}
use Rattle.world.specs.world_sites.Opening.{devices_in}

-- each device with the objects that the site gives it, at the same place (12)
abbrev pub judged : {A : Type 0} → List (SiteObjects A) → List (DeviceState A) → List (Judged A)
judged (o ∷ os) (d ∷ ds) =
    record { instance = d.instance; opening = opening_table o; table = d.server.table } ∷ judged os ds
judged os ds = []

-- the devices of a world, in the order of its site
abbrev pub judged_of : {A : Type 0} → WorldState A → List (Judged A)
judged_of w = judged (devices_in w.site.stations) (devices_of w.nodes)

-- the instances of a site's devices, in its order (12.11.1)
abbrev pub instances_of : {A : Type 0} → Parts A → List ℕ
instances_of p = map (λ o. o.instance) (devices_in p.stations)

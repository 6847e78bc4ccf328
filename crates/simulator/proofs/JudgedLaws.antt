-- The devices of a world that came about from a fresh one are those of its site, in order.
use Rattle.std.proofs.Common.{◌≡◌, ◌∙◌, refl, sym, ap, ℕ, List, [], ◌∷◌, map}
use Rattle.std.specs.List.{AllByRecursion}
use Rattle.world.specs.carry_world.carry_said.headline_site.Fair.{IsNewDevice}
use Rattle.world.specs.carry_world.Laws.{AreThemselves, Judged, instances_at, judged_at}
use Rattle.world.specs.device.Device.{DeviceState, new_device}
use Rattle.npdu.specs.declared.mac.Station.{Station}
use Rattle.object_model.specs.Objects.{PlainTable}
use Rattle.object_model.specs.Site.{opening_table}
use Rattle.object_model.specs.declared.site.SiteObjects.{SiteObjects}
use Rattle.simulator.specs.Judged.{judged}
use Rattle.world.specs.headline_bacnet.Refined.{ObjectSite}
use Rattle.world.specs.world_sites.Laws.{OpenAs}
use Rattle.world.specs.world_sites.headline_device.Devices.{station_of}

module _ {A : Type 0} (s : ObjectSite A) where
  -- the objects of a new device open as its station's do
  opens_so : (o : SiteObjects A) (f d : DeviceState A) (x : Station) → f ≡ new_device o x → IsNewDevice s f →
      station_of d ≡ station_of f → s.opening (station_of d) ≡ opening_table o
  opens_so o f d x is new at =
      ap s.opening (at ∙ ap (λ (z : DeviceState A). station_of z) new.is) ∙ new.opening
      ∙ sym (ap (λ (z : DeviceState A). z.server.table) new.is) ∙ ap (λ (z : DeviceState A). z.server.table) is

  -- each is judged with the objects that the site gives it
  pub judged_are : (os : List (SiteObjects A)) (fs ds : List (DeviceState A)) → OpenAs os fs → AllByRecursion (IsNewDevice s) fs →
      AreThemselves fs ds → map (λ d. judged_at s d) ds ≡ judged os ds
  judged_are [] [] [] o new is = refl
  judged_are [] [] (d ∷ ds) o new is = absurd is
  judged_are [] (f ∷ fs) ds o new is = absurd o
  judged_are (q ∷ os) [] ds o new is = absurd o
  judged_are (q ∷ os) (f ∷ fs) [] o new is = absurd is
  judged_are (q ∷ os) (f ∷ fs) (d ∷ ds) o new is =
      ap (λ (t : PlainTable A). record { instance = d.instance; opening = t; table = d.server.table } ∷ map (λ d. judged_at s d) ds)
      (opens_so q f d (o.0.address) (o.0.is) new.0 is.0)
      ∙ ap (λ (js : List (Judged A)). record { instance = d.instance; opening = opening_table q; table = d.server.table } ∷ js)
      (judged_are os fs ds o.1 new.1 is.2)

  -- .. and has the instance that it gives
  pub instances_are : (os : List (SiteObjects A)) (fs ds : List (DeviceState A)) → OpenAs os fs → AreThemselves fs ds →
      instances_at ds ≡ map (λ o. o.instance) os
  instances_are [] [] [] o is = refl
  instances_are [] [] (d ∷ ds) o is = absurd is
  instances_are [] (f ∷ fs) ds o is = absurd o
  instances_are (q ∷ os) [] ds o is = absurd o
  instances_are (q ∷ os) (f ∷ fs) [] o is = absurd is
  instances_are (q ∷ os) (f ∷ fs) (d ∷ ds) o is =
      ap (λ (n : ℕ). n ∷ instances_at ds) (is.1 ∙ ap (λ (z : DeviceState A). z.instance) (o.0.is))
      ∙ ap (λ (ns : List ℕ). q.instance ∷ ns) (instances_are os fs ds o.1 is.2)

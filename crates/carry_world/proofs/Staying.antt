-- Steps keep each device at its place, with its station and its instance.
use Rattle.std.proofs.Common.{◌≡◌, ◌∙◌, refl, sym, ap, subst, ℕ, zero, suc, List, [], ◌∷◌, Some, map}
use Rattle.std.specs.Prelude.{slice_get, slice_set}
use Rattle.carry_said.proofs.headline_site.headline_device.Itself.{itself_hearing, itself_restarting, itself_waking}
use Rattle.carry_said.specs.device.Device.{DeviceState}
use Rattle.carry_said.specs.headline_site.headline_bacnet.Refined.{ObjectSite}
use Rattle.carry_said.specs.headline_site.headline_device.Devices.{IsItself, station_of}
use Rattle.carry_world.specs.Laws.{AreThemselves, DevicesStay, instances_at}
use Rattle.carry_world.specs.PlainSteps.{ArePlainSteps, PlainStep, client_asks, client_hears, client_issues, client_wakes, device_hears, device_restarts, device_wakes, last_world}
use Rattle.carry_world.specs.PlainSteps.{something_passes, time_passes}
use Rattle.carry_world.specs.PlainWorld.{PlainWorld}

same_some : {X : Type 0} (x y : X) → Some x ≡ Some y → x ≡ y
same_some x y e = cc e

module _ {A : Type 0} where
  pub they_are : (ds : List (DeviceState A)) → AreThemselves ds ds
  they_are [] = tt
  they_are (d ∷ ds) = (refl, refl, they_are ds)

  -- the same still, where they are as before
  pub they_stay : (ds es : List (DeviceState A)) → es ≡ ds → AreThemselves ds es
  they_stay ds es e = subst (λ (xs : List (DeviceState A)). AreThemselves ds xs) (sym e) (they_are ds)

  pub they_stay_on : (ds es fs : List (DeviceState A)) → AreThemselves ds es → AreThemselves es fs → AreThemselves ds fs
  they_stay_on [] [] [] a b = tt
  they_stay_on [] [] (f ∷ fs) a b = absurd b
  they_stay_on [] (e ∷ es) fs a b = absurd a
  they_stay_on (d ∷ ds) [] fs a b = absurd a
  they_stay_on (d ∷ ds) (e ∷ es) [] a b = absurd b
  they_stay_on (d ∷ ds) (e ∷ es) (f ∷ fs) a b = (b.0 ∙ a.0, b.1 ∙ a.1, they_stay_on ds es fs a.2 b.2)

  -- one of them is replaced by itself
  one_stays : (ds : List (DeviceState A)) (place : ℕ) (d left : DeviceState A) → slice_get ds place ≡ Some d → IsItself d left →
      AreThemselves ds (slice_set ds place left)
  one_stays [] place d left there is = tt
  one_stays (x ∷ xs) zero d left there is =
      let here = same_some x d there in
      (is.station ∙ ap (λ (z : DeviceState A). station_of z) (sym here), is.instance ∙ ap (λ (z : DeviceState A). z.instance) (sym here), they_are xs)
  one_stays (x ∷ xs) (suc place) d left there is = (refl, refl, one_stays xs place d left there is)

  set_stays : (ds es : List (DeviceState A)) (place : ℕ) (d left : DeviceState A) → slice_get ds place ≡ Some d → IsItself d left →
      es ≡ slice_set ds place left → AreThemselves ds es
  set_stays ds es place d left there is e =
      subst (λ (xs : List (DeviceState A)). AreThemselves ds xs) (sym e) (one_stays ds place d left there is)

  -- they have their instances still
  pub same_instances : (ds es : List (DeviceState A)) → AreThemselves ds es → instances_at es ≡ instances_at ds
  same_instances [] [] a = refl
  same_instances [] (e ∷ es) a = absurd a
  same_instances (d ∷ ds) [] a = absurd a
  same_instances (d ∷ ds) (e ∷ es) a =
      ap (λ (n : ℕ). n ∷ instances_at es) a.1 ∙ ap (λ (ns : List ℕ). d.instance ∷ ns) (same_instances ds es a.2)

  pub step_stays : (s : ObjectSite A) (w v : PlainWorld A) → PlainStep s w v → AreThemselves w.devices v.devices
  step_stays s w v (device_hears k) = set_stays w.devices v.devices k.place k.d k.left k.there
      (itself_hearing w.moment k.p.from k.p.to k.p.npdu k.d k.left k.told k.hears) k.devices
  step_stays s w v (client_hears k) = they_stay w.devices v.devices k.devices
  step_stays s w v (client_issues k) = they_stay w.devices v.devices k.devices
  step_stays s w v (client_asks k) = they_stay w.devices v.devices k.devices
  step_stays s w v (client_wakes k) = they_stay w.devices v.devices k.devices
  step_stays s w v (device_wakes k) = set_stays w.devices v.devices k.place k.d _ k.there (itself_waking w.moment k.d) k.devices
  step_stays s w v (device_restarts k) = set_stays w.devices v.devices k.place k.d _ k.there
      (itself_restarting w.moment (s.opening (station_of k.d)) k.d) k.devices
  step_stays s w v (time_passes k) = they_stay w.devices v.devices k.devices
  step_stays s w v (something_passes k) = they_stay w.devices v.devices k.devices

  steps_stay : (s : ObjectSite A) (between : List (PlainWorld A)) (w : PlainWorld A) → ArePlainSteps s between w →
      AreThemselves w.devices (last_world between w).devices
  steps_stay s [] w steps = they_are w.devices
  steps_stay s (v ∷ vs) w steps = they_stay_on w.devices v.devices (last_world vs v).devices (step_stays s w v steps.0) (steps_stay s vs v steps.1)

  pub devices_stay : DevicesStay A
  devices_stay s w v to =
      subst (λ (z : PlainWorld A). AreThemselves w.devices z.devices) (sym to.last) (steps_stay s to.between w to.steps)

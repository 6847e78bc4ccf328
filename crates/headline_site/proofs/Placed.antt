-- Devices at stations of their own, with instances of their own, are a site.
use Rattle.std.proofs.Common.{◌≡◌, ◌≢◌, ◌∙◌, ◌⊎◌, ⊎_elim, inl, inr, refl, sym, ap, subst, ℕ, Bool, true, false, List, [], ◌∷◌, map, Option, Some, None}
use Rattle.std.specs.Prelude.{cond, option_map}
use Rattle.std.specs.List.{AllByRecursion}
use Rattle.headline.specs.Protocol as headline
use Rattle.headline_client.specs.headline_bacnet.Protocol.{bacnet}
use Rattle.headline_client.proofs.Places.{all_has}
use Rattle.history.proofs.Lists.{has_cons, has_next, none_has}
use Rattle.history.specs.Lists.{Has}
use Rattle.npdu.proofs.Stations.{one_station}
use Rattle.npdu.specs.Mac.{same_station}
use Rattle.npdu.specs.declared.mac.Station.{Station}
use Rattle.object_model.specs.Objects.{PlainTable}
use Rattle.object_model.specs.Site.{IsSite, IsSoundTable, opening_table}
use Rattle.headline_device.specs.remembered.Records.{AreDistinct}
use Rattle.headline_site.specs.Placed.{AreSound, IsDeviceOf, Placed, SiteHasEach, SiteIsSite, opened, placed_at, site_of}

some_same : {X : Type 0} (x y : X) → Some x ≡ Some y → x ≡ y
some_same x y e = cc e

none_some : {X : Type 0} (x : X) → None ≡ Some x → ⊥
none_some x e = cc e

-- what is true of each of a map's list is true of what it is the map of
all_of_map : {X Y : Type 0} (f : X → Y) (P : Y → Type 0) (xs : List X) (x : X) → AllByRecursion P (map f xs) → Has xs x → P (f x)
all_of_map f P [] x all there = absurd (none_has there)
all_of_map f P (z ∷ zs) x all there = ⊎_elim
    (λ (e : z ≡ x). subst (λ (y : _). P (f y)) e all.0)
    (λ (h : Has zs x). all_of_map f P zs x all.1 h)
    (has_cons z zs there)

-- of a list where no two have one value, two with one value are one
pub one_of : {X Y : Type 0} (f : X → Y) (xs : List X) (x y : X) → AreDistinct (map f xs) → Has xs x → Has xs y → f x ≡ f y → x ≡ y
one_of f [] x y apart hx hy e = absurd (none_has hx)
one_of {X} {Y} f (z ∷ zs) x y apart hx hy e = ⊎_elim
    (λ (a : z ≡ x). ⊎_elim
    (λ (b : z ≡ y). sym a ∙ b)
    (λ (h : Has zs y). absurd (all_of_map f (λ (k : Y). k ≢ f z) zs y apart.0 h (sym e ∙ ap f (sym a))))
    (has_cons z zs hy))
    (λ (g : Has zs x). ⊎_elim
    (λ (b : z ≡ y). absurd (all_of_map f (λ (k : Y). k ≢ f z) zs x apart.0 g (e ∙ ap f (sym b))))
    (λ (h : Has zs y). one_of f zs x y apart.1 g h e)
    (has_cons z zs hy))
    (has_cons z zs hx)

module _ {A : Type 0} where
  -- what is found at a station is one of them, and is there
  pub record IsThere (x : Station) (ps : List (Placed A)) (p : Placed A) : Type 0 where
    pub among : Has ps p
    pub at : p.station ≡ x

  there_by : (b : Bool) (x : Station) (q : Placed A) (ps : List (Placed A)) (p : Placed A) → same_station q.station x ≡ b →
      ((p : Placed A) → placed_at x ps ≡ Some p → IsThere x ps p) → cond b (Some q) (placed_at x ps) ≡ Some p → IsThere x (q ∷ ps) p
  there_by true x q ps p is rest e = record {
    among = record { place = 0; at_place = e };
    at = ap (λ (z : Placed A). z.station) (sym (some_same q p e)) ∙ (one_station q.station x).same is;
  }
  there_by false x q ps p is rest e = let r = rest p e in record { among = has_next q ps r.among; at = r.at }

  pub is_there : (x : Station) (ps : List (Placed A)) (p : Placed A) → placed_at x ps ≡ Some p → IsThere x ps p
  is_there x [] p e = absurd (none_some p e)
  is_there x (q ∷ ps) p e = there_by (same_station q.station x) x q ps p refl (λ r f. is_there x ps r f) e

  -- one of them is found at its station
  found_by : (b : Bool) (x : Station) (q : Placed A) (o : Option (Placed A)) (p : Placed A) → same_station q.station x ≡ b → (q.station ≡ x → q ≡ p) →
      (q.station ≢ x → o ≡ Some p) → cond b (Some q) o ≡ Some p
  found_by true x q o p is mine others = ap (λ (z : Placed A). Some z) (mine ((one_station q.station x).same is))
  found_by false x q o p is mine others = others (λ e. true_false ((sym ((one_station q.station x).one e)) ∙ is))
    where
      true_false : true ≡ false → ⊥
      true_false f = cc f

  pub found : (ps : List (Placed A)) → AreDistinct (map (λ (p : Placed A). p.station) ps) → (p : Placed A) → Has ps p →
      placed_at p.station ps ≡ Some p
  found [] apart p there = absurd (none_has there)
  found (q ∷ ps) apart p there = found_by (same_station q.station p.station) p.station q (placed_at p.station ps) p refl
      (λ e. one_of (λ (z : Placed A). z.station) (q ∷ ps) q p apart (record { place = 0; at_place = refl }) there e)
      (λ other. ⊎_elim
      (λ (e : q ≡ p). absurd (other (ap (λ (z : Placed A). z.station) e)))
      (λ (h : Has ps p). found ps apart.1 p h)
      (has_cons q ps there))

  -- the device that has an instance
  pub record Holds (x : Station) (ps : List (Placed A)) (n : ℕ) : Type 0 where
    pub device : Placed A
    pub at : placed_at x ps ≡ Some device
    pub instance : device.objects.instance ≡ n

  holds_by : (x : Station) (ps : List (Placed A)) (n : ℕ) (o : Option (Placed A)) → placed_at x ps ≡ o →
      option_map (λ (p : Placed A). p.objects.instance) o ≡ Some n → Holds x ps n
  holds_by x ps n None at e = absurd (none_some n e)
  holds_by x ps n (Some p) at e = record { device = p; at = at; instance = some_same p.objects.instance n e }

  one_station_each : (ps : List (Placed A)) → AreSound ps → (a b : Station) (n : ℕ) → (site_of ps).instance_of a ≡ Some n →
      (site_of ps).instance_of b ≡ Some n → a ≡ b
  one_station_each ps sound a b n e f =
      let p = holds_by a ps n (placed_at a ps) refl e in
      let q = holds_by b ps n (placed_at b ps) refl f in
      let x = is_there a ps p.device p.at in
      let y = is_there b ps q.device q.at in
      let same = one_of (λ (z : Placed A). z.objects.instance) ps p.device q.device sound.instances x.among y.among (p.instance ∙ sym q.instance) in
      sym x.at ∙ ap (λ (z : Placed A). z.station) same ∙ y.at

  sound_there : (ps : List (Placed A)) → AreSound ps → (x : Station) (n : ℕ) → (site_of ps).instance_of x ≡ Some n →
      IsSoundTable ((site_of ps).opening x)
  sound_there ps sound x n e =
      let p = holds_by x ps n (placed_at x ps) refl e in
      let t = is_there x ps p.device p.at in
      subst (λ (o : Option (Placed A)). IsSoundTable (opened o)) (sym p.at) (all_has (λ (z : Placed A). IsSite z.objects) ps p.device sound.objects t.among)

  pub site_is_site : SiteIsSite A
  site_is_site ps sound = record { one = one_station_each ps sound; sound = sound_there ps sound }

  pub site_has_each : SiteHasEach A
  site_has_each ps sound p there =
      let at = found ps sound.stations p there in
      record {
        instance = ap (λ (o : Option (Placed A)). option_map (λ (z : Placed A). z.objects.instance) o) at;
        opening = ap (λ (o : Option (Placed A)). opened o) at;
      }

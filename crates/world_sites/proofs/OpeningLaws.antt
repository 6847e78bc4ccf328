-- The objects of the device at an address are those that the site of the promise opens it with.
use Rattle.std.proofs.Common.{◌≡◌, ◌∙◌, refl, sym, ap, subst, Bool, true, false, List, [], ◌∷◌, ◌++◌, map, Option, Some, None}
use Rattle.std.specs.Prelude.{◌||◌, cond, if◌then◌else◌, option_map}
use Rattle.std.specs.List.{AllByRecursion, flat_map, list_any}
use Rattle.node_laws.proofs.carry_said.headline_site.Placed.{is_there}
use Rattle.node_laws.specs.carry_said.headline_site.Placed.{Placed, opened, placed_at}
use Rattle.history.proofs.HasLaws.{all_has}
use Rattle.npdu.proofs.Stations.{one_station}
use Rattle.npdu.specs.Mac.{same_station}
use Rattle.npdu.specs.declared.mac.Station as npdu
use Rattle.object_model.specs.Site.{IsSite, opening_table}
use Rattle.object_model.specs.declared.site.SiteObjects.{SiteObjects}
use Rattle.site.specs.Apart.{AreApart, IsOther}
use Rattle.site.specs.Sound.{IsSound}
use Rattle.site_parts.specs.Roles.{objects_in}
use Rattle.site_parts.specs.declared.parts.Parts.{Parts}
use Rattle.site_parts.specs.declared.parts.Station.{Station}
use Rattle.site_views.proofs.ApartLaws.{addresses_apart}
use Rattle.site_views.specs.Laws.{DeviceAt, devices_at}
use Rattle.site_views.specs.Views.{addresses_of, at_address}
use Rattle.world_sites.proofs.SiteLaws.{are_sound, placed_of}
use Rattle.world_sites.specs.Opening.{object_site, objects_at, objects_of, placed}

-- one of these addresses is that one
abbrev is_among : npdu.Station → List npdu.Station → Bool
is_among x xs = list_any (λ y. same_station y x) xs

-- the objects of the first of these devices at an address
abbrev objects_there : {A : Type 0} → npdu.Station → List (DeviceAt A) → Option (SiteObjects A)
objects_there x ds = option_map (λ q. q.objects) (placed_at x (map placed_of ds))

module _ {A : Type 0} where
  -- a device that is at an address is found there, with its objects
  first_there : (x : npdu.Station) (o : SiteObjects A) (xs : List npdu.Station) (ds : List (DeviceAt A)) →
      is_among x xs ≡ true → objects_there x (devices_at xs (Some o) ++ ds) ≡ Some o
  first_there x o [] ds e = absurd (cc e)
  first_there x o (a ∷ xs) ds e = by_test (same_station a x) (λ g. first_there x o xs ds g) e
    where
      by_test : (b : Bool) → (is_among x xs ≡ true → objects_there x (devices_at xs (Some o) ++ ds) ≡ Some o) →
          (b || is_among x xs) ≡ true →
          option_map (λ (r : Placed A). r.objects) (cond b (Some (placed_of (record { station = a; objects = o })))
          (placed_at x (map placed_of (devices_at xs (Some o) ++ ds)))) ≡ Some o
      by_test true next g = refl
      by_test false next g = next g

  -- a device that is not there is passed over
  passed_over : (x : npdu.Station) (o : SiteObjects A) (xs : List npdu.Station) (ds : List (DeviceAt A)) →
      is_among x xs ≡ false → objects_there x (devices_at xs (Some o) ++ ds) ≡ objects_there x ds
  passed_over x o [] ds e = refl
  passed_over x o (a ∷ xs) ds e = by_test (same_station a x) (λ g. passed_over x o xs ds g) e
    where
      by_test : (b : Bool) →
          (is_among x xs ≡ false → objects_there x (devices_at xs (Some o) ++ ds) ≡ objects_there x ds) →
          (b || is_among x xs) ≡ false →
          option_map (λ (r : Placed A). r.objects) (cond b (Some (placed_of (record { station = a; objects = o })))
          (placed_at x (map placed_of (devices_at xs (Some o) ++ ds)))) ≡ objects_there x ds
      by_test true next g = absurd (cc g)
      by_test false next g = next g

  passed : (x : npdu.Station) (h : Option (SiteObjects A)) (xs : List npdu.Station) (ds : List (DeviceAt A)) →
      is_among x xs ≡ false → objects_there x (devices_at xs h ++ ds) ≡ objects_there x ds
  passed x None xs ds e = refl
  passed x (Some o) xs ds e = passed_over x o xs ds e

-- an address among these is not among others that are apart from them
none_among : (x a : npdu.Station) (ys : List npdu.Station) → same_station a x ≡ true → AllByRecursion (IsOther a) ys →
    is_among x ys ≡ false
none_among x a [] e others = refl
none_among x a (y ∷ ys) e others = by_test (same_station y x) refl (none_among x a ys e others.1)
  where
    by_test : (b : Bool) → same_station y x ≡ b → is_among x ys ≡ false → (b || is_among x ys) ≡ false
    by_test true f next = absurd (others.0.other ((one_station a x).same e ∙ sym ((one_station y x).same f)))
    by_test false f next = next

all_behind : {X : Type 0} (P : X → Type 0) (xs ys : List X) → AllByRecursion P (xs ++ ys) → AllByRecursion P ys
all_behind P [] ys h = h
all_behind P (x ∷ xs) ys h = all_behind P xs ys h.1

none_behind : (x : npdu.Station) (xs ys : List npdu.Station) → is_among x xs ≡ true → AreApart (xs ++ ys) →
    is_among x ys ≡ false
none_behind x [] ys e apart = absurd (cc e)
none_behind x (a ∷ xs) ys e apart = by_test (same_station a x) refl (λ g. none_behind x xs ys g apart.1) e
  where
    by_test : (b : Bool) → same_station a x ≡ b → (is_among x xs ≡ true → is_among x ys ≡ false) →
        (b || is_among x xs) ≡ true → is_among x ys ≡ false
    by_test true f next g = none_among x a ys f (all_behind (IsOther a) xs ys apart.0)
    by_test false f next g = next g

apart_behind : (xs ys : List npdu.Station) → AreApart (xs ++ ys) → AreApart ys
apart_behind [] ys h = h
apart_behind (x ∷ xs) ys h = apart_behind xs ys h.1

either_none : (x : npdu.Station) (xs ys : List npdu.Station) → is_among x (xs ++ ys) ≡ false →
    (is_among x xs ≡ false) × (is_among x ys ≡ false)
either_none x [] ys e = (refl, e)
either_none x (a ∷ xs) ys e = by_test (same_station a x) (λ f. either_none x xs ys f) e
  where
    by_test : (b : Bool) → (is_among x (xs ++ ys) ≡ false → (is_among x xs ≡ false) × (is_among x ys ≡ false)) →
        (b || is_among x (xs ++ ys)) ≡ false → ((b || is_among x xs) ≡ false) × (is_among x ys ≡ false)
    by_test true next f = absurd (cc f)
    by_test false next f = next f

module _ {A : Type 0} (all : List (Station A)) where
  abbrev here : Station A → List (DeviceAt A)
  here s = devices_at (addresses_of all s.role) (objects_in s.role)

  abbrev at : Station A → List npdu.Station
  at s = addresses_of all s.role

  -- where no station is at an address, no device is
  no_device : (x : npdu.Station) (ss : List (Station A)) → is_among x (flat_map at ss) ≡ false →
      objects_there x (flat_map here ss) ≡ None
  no_device x [] e = refl
  no_device x (s ∷ ss) e =
      let none = either_none x (at s) (flat_map at ss) e in
      passed x (objects_in s.role) (at s) (flat_map here ss) none.0 ∙ no_device x ss none.1

  -- the station at an address is the device there, or no device is
  one_there : (x : npdu.Station) (h : Option (SiteObjects A)) (xs : List npdu.Station) (ss : List (Station A)) →
      is_among x xs ≡ true → AreApart (xs ++ flat_map at ss) →
      h ≡ objects_there x (devices_at xs h ++ flat_map here ss)
  one_there x None xs ss e apart = sym (no_device x ss (none_behind x xs (flat_map at ss) e apart))
  one_there x (Some o) xs ss e apart = sym (first_there x o xs (flat_map here ss) e)

  pub found_there : (x : npdu.Station) (ss : List (Station A)) → AreApart (flat_map at ss) →
      objects_of (at_address all x ss) ≡ objects_there x (flat_map here ss)
  found_there x [] apart = refl
  found_there x (s ∷ ss) apart =
      by_test (is_among x (at s)) refl (found_there x ss (apart_behind (at s) (flat_map at ss) apart))
    where
      by_test : (b : Bool) → is_among x (at s) ≡ b →
          objects_of (at_address all x ss) ≡ objects_there x (flat_map here ss) →
          objects_of (if b then Some s else at_address all x ss) ≡ objects_there x (here s ++ flat_map here ss)
      by_test true e next = one_there x (objects_in s.role) (at s) ss e apart
      by_test false e next = next ∙ sym (passed x (objects_in s.role) (at s) (flat_map here ss) e)

pub objects_are : {A : Type 0} (p : Parts A) → IsSound p → (x : npdu.Station) →
    objects_at x p.stations ≡ option_map (λ q. q.objects) (placed_at x (placed p))
objects_are p s x = found_there p.stations x p.stations (addresses_apart p s)

by_opening : {A : Type 0} (q : Option (Placed A)) (o : SiteObjects A) → Some o ≡ option_map (λ r. r.objects) q →
    opening_table o ≡ opened q
by_opening None o e = absurd (cc e)
by_opening (Some q) o e = let same : o ≡ q.objects = cc in ap (λ (z : SiteObjects _). opening_table z) same

-- the objects at an address are what the site opens with
pub opening_is : {A : Type 0} (p : Parts A) (x : npdu.Station) (o : SiteObjects A) → IsSound p →
    objects_at x p.stations ≡ Some o → opening_table o ≡ (object_site p).opening x
opening_is p x o s e = by_opening (placed_at x (placed p)) o (sym e ∙ objects_are p s x)

by_none : {A : Type 0} (q : Option (Placed A)) → None ≡ option_map (λ r. r.objects) q →
    option_map (λ r. r.objects.instance) q ≡ None
by_none None e = refl
by_none (Some q) e = absurd (cc e)

-- where there are none, no device is there
pub none_is : {A : Type 0} (p : Parts A) (x : npdu.Station) → IsSound p → objects_at x p.stations ≡ None →
    (object_site p).instance_of x ≡ None
none_is p x s e = by_none (placed_at x (placed p)) (sym e ∙ objects_are p s x)

by_sound : {A : Type 0} (ps : List (Placed A)) (x : npdu.Station) (q : Option (Placed A)) (o : SiteObjects A) →
    placed_at x ps ≡ q → Some o ≡ option_map (λ r. r.objects) q → AllByRecursion (λ r. IsSite r.objects) ps → IsSite o
by_sound ps x None o f e sound = absurd (cc e)
by_sound ps x (Some q) o f e sound =
    let same : o ≡ q.objects = cc in
    subst IsSite (sym same) (all_has (λ r. IsSite r.objects) ps q sound (is_there x ps q f).among)

-- they are sound
pub objects_sound : {A : Type 0} (p : Parts A) (x : npdu.Station) (o : SiteObjects A) → IsSound p →
    objects_at x p.stations ≡ Some o → IsSite o
objects_sound p x o s e =
    by_sound (placed p) x (placed_at x (placed p)) o refl (sym e ∙ objects_are p s x) (are_sound p s).objects

pub ruleset opening_rules = (opening_is, none_is, objects_sound)

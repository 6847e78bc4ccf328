-- What is said in a parcel is what is inside it, and whoever reads it finds that in the book.
use Rattle.std.proofs.Common.{◌≡◌, ◌∙◌, ⊎_elim, refl, sym, ap, subst, ℕ, Bool, true, false, List, [], ◌∷◌, Option, Some, None}
use Rattle.apdu.specs.declared.sizes.MaxApdu.{MaxApdu}
use Rattle.headline_site.specs.headline_bacnet.Bodies.{led_to, station_by}
use Rattle.history.proofs.HasLaws.{has_all}
use Rattle.history.proofs.Lists.{has, has_cons, has_next, none_has}
use Rattle.history.specs.Lists.{Has}
use Rattle.inside.proofs.Insides.{one_inside}
use Rattle.inside.specs.Inside.{Covers, Inside}
use Rattle.inside.specs.declared.reach.Reach.{Reach}
use Rattle.inside.specs.declared.reach.Reach.TheVariants as reach
use Rattle.npdu.specs.declared.mac.Mac.{Mac}
use Rattle.npdu.specs.declared.mac.Station.{Station}
use Rattle.npdu.specs.declared.mac.Target.TheVariants.{One, All}
use Rattle.npdu.specs.declared.mac.Way.{Way}
use Rattle.npdu.specs.declared.parcel.Parcel.{Parcel}
use Rattle.unitdata.proofs.InsideLaws.{announced_is_inside, spoken_is_inside}
use Rattle.unitdata.specs.Laws.{addressed, announced_inside, spoken_inside}
use Rattle.unitdata.specs.Saying.{Spoken, announced, announcing_npdu, is_spelled, npdu_of, parcel_if, parcel_of, parcel_to}
use Rattle.carry_said.specs.Said.{CarriesSaid, HasInsides, HasSomething, IsSaid, IsSaying, IsSayingEach, ObjectBook}

parcel_where : {A : Type 0} (b : Bool) (now : ℕ) (mac : Mac) (s : Spoken) (p : Parcel A) → is_spelled s.way.destination ≡ b → Has (parcel_if b now mac s) p →
    (parcel_to now mac s ≡ p) × (is_spelled s.way.destination ≡ true)
parcel_where true now mac s p e h = ⊎_elim
    (λ (same : parcel_to now mac s ≡ p). (same, e))
    (λ (more : Has [] p). absurd (none_has more))
    (has_cons (parcel_to now mac s) [] h)
parcel_where false now mac s p e h = absurd (none_has h)

-- the parcel of a thing said
parcel_is : {A : Type 0} (now : ℕ) (mac : Mac) (s : Spoken) (p : Parcel A) → Has (parcel_of now mac s) p →
    (parcel_to now mac s ≡ p) × (is_spelled s.way.destination ≡ true)
parcel_is now mac s p h = parcel_where (is_spelled s.way.destination) now mac s p refl h

-- a way leads to whom the message is addressed
leads_by : (net : ℕ) (way : Way) (o : Option Station) → addressed net way.to o ≡ station_by net o way
leads_by net way None = refl
leads_by net way (Some s) = refl

-- what goes on a way is for the station that it leads to, and no other
pub led_covers : (net : ℕ) (way : Way) (x : Station) → Covers (reach.One (addressed net way.to way.destination)) x → led_to net way ≡ x
led_covers net way x h = sym (leads_by net way way.destination) ∙ h

module _ {A : Type 0} (own : Station → MaxApdu) (b : ObjectBook A) (net : ℕ) (mac : Mac) (now : ℕ) where
  pub spoken_carries : (s : Spoken) (p : Parcel A) → IsSaid own b (spoken_inside net mac s) now → Has (parcel_of now mac s) p → CarriesSaid own b net p
  spoken_carries s p said at =
      let found = parcel_is now mac s p at in
      subst (λ (z : Parcel A). CarriesSaid own b net z) found.0 (record {
        said = λ i h. subst (λ (j : Inside). IsSaid own b j now)
            (one_inside net mac (One s.way.to) (npdu_of s) (spoken_inside net mac s) i (spoken_is_inside net mac s found.1) h) said;
      })

  pub announced_carries : (service : ℕ) (octets : List ℕ) → IsSaid own b (announced_inside net mac service octets) now →
      CarriesSaid own b net (announced now mac service octets)
  announced_carries service octets said = record {
    said = λ i h. subst (λ (j : Inside). IsSaid own b j now)
        (one_inside net mac All (announcing_npdu service octets) (announced_inside net mac service octets) i
        (announced_is_inside net mac All service octets) h) said;
  }

pub spoken_something : {A : Type 0} (net : ℕ) (mac : Mac) (now : ℕ) (s : Spoken) (p : Parcel A) → Has (parcel_of now mac s) p →
    IsSaying (record { net = net; mac = mac }) now p
spoken_something {A} net mac now s p at =
    let found = parcel_is now mac s p at in
    let is = spoken_is_inside net mac s found.1 in
    subst (λ (z : Parcel A). IsSaying (record { net = net; mac = mac }) now z) found.0 (record {
      something = record { inside = spoken_inside net mac s; has = is };
      source = λ i h. sym (ap (λ (j : Inside). j.source) (one_inside net mac (One s.way.to) (npdu_of s) (spoken_inside net mac s) i is h));
      stamp = refl;
    })

pub announced_something : {A : Type 0} (net : ℕ) (mac : Mac) (now service : ℕ) (octets : List ℕ) →
    IsSaying {A = A} (record { net = net; mac = mac }) now (announced now mac service octets)
announced_something net mac now service octets =
    let is = announced_is_inside net mac All service octets in
    record {
      something = record { inside = announced_inside net mac service octets; has = is };
      source = λ i h. sym (ap (λ (j : Inside). j.source) (one_inside net mac All (announcing_npdu service octets)
          (announced_inside net mac service octets) i is h));
      stamp = refl;
    }

all_insides : {A : Type 0} (net : ℕ) (ps : List (Parcel A)) → ((p : Parcel A) → Has ps p → HasSomething net p) → HasInsides net ps
all_insides net [] f = record { said = []; are = tt }
all_insides net (p ∷ ps) f =
    let one = f p (has 0 refl) in
    let rest = all_insides net ps (λ q there. f q (has_next p ps there)) in
    record {
      said = record { inside = one.inside; stamp = p.stamp } ∷ rest.said;
      are = (record { inside = one.has; stamp = refl }, rest.are);
    }

pub saying_each : {A : Type 0} (x : Station) (now : ℕ) (ps : List (Parcel A)) → ((p : Parcel A) → Has ps p → IsSaying x now p) → IsSayingEach x now ps
saying_each x now ps f = record {
  insides = all_insides x.net ps (λ p there. (f p there).something);
  each = has_all (IsSaying x now) ps f;
}

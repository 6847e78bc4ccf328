-- What is inside what a router passes on was inside what it heard.
use Rattle.std.proofs.Common.{◌≡◌, ◌∙◌, ⊎_elim, refl, sym, ap, subst, ℕ, ◌<◌, true, List, [], ◌∷◌, Option, Some, None, arith}
use Rattle.std.specs.Prelude.{IfSome}
use Rattle.inside.proofs.Insides.{inside_its_header, some_same}
use Rattle.inside.specs.Inside.{HasInside, Inside, at_address, linked, named, reach_of, to_station}
use Rattle.inside.specs.Laws.{RoutedIsInside}
use Rattle.inside.specs.Routed.{Arrives, GoesOn, at_last, on_way, source_on, target_of, to_mac}
use Rattle.npdu.proofs.CanonicalLaws.{canonical_spells, mac_again, mac_length}
use Rattle.npdu.specs.Header.{IsDestination, IsSound, IsSource, PlainDestination, PlainSource, Header, Spells}
use Rattle.npdu.specs.Mac.{is_address, mac_of, station_at}
use Rattle.npdu.specs.Sender.{sender}
use Rattle.npdu.specs.declared.mac.Mac.{Mac}
use Rattle.npdu.specs.declared.mac.Target.{Target}
use Rattle.npdu.specs.declared.mac.Target.TheVariants.{One, All}
use Rattle.npdu.specs.declared.parcel.Parcel.{Parcel}
use Rattle.npdu.specs.declared.view.Dnet.{Dnet}
use Rattle.npdu.specs.declared.view.Dnet.TheVariants.{Network}

none_some : {X : Type 0} (x : X) → None ≡ Some x → ⊥
none_some x e = cc e

-- who says it is who said it
same_sender : (net other : ℕ) (from router : Mac) (o : Option PlainSource) → is_address from ≡ true →
    sender other router (Some (source_on net from o)) ≡ sender net from o
same_sender net other from router None t = ap (station_at net) (mac_again from t)
same_sender net other from router (Some s) t = refl

sound_source : (net : ℕ) (from : Mac) (o : Option PlainSource) → is_address from ≡ true → 0 < net → net < 65535 → IfSome o IsSource →
    IsSource (source_on net from o)
sound_source net from None t low high s = (low, high, (mac_length from t).0, (mac_length from t).1)
sound_source net from (Some x) t low high s = s

-- whom it is for is whom it was for
target_is : (other : ℕ) (mac : List ℕ) (to : Target) → target_of mac ≡ Some to → at_address other mac ≡ Some (linked other to)
target_is other [] to e = ap (λ (z : Target). Some (linked other z)) (some_same All to e)
target_is other (octet ∷ more) to e = by_mac (mac_of (octet ∷ more)) e
  where
    by_mac : (o : Option Mac) → to_mac o ≡ Some to → to_station (station_at other o) ≡ Some (linked other to)
    by_mac None f = absurd (none_some to f)
    by_mac (Some m) f = ap (λ (z : Target). Some (linked other z)) (some_same (One m) to f)

module _ {A : Type 0} (net other : ℕ) (p q : Parcel A) (h : Header) (spelled : Spells p.npdu h) (d : PlainDestination)
    (is : h.destination ≡ Some d) (address : is_address p.from ≡ true) (low : 0 < net) (high : net < 65535) where
  sound_d : IsDestination d
  sound_d = subst (λ (o : Option PlainDestination). IfSome o IsDestination) is spelled.sound.destination

  way_sound : IsSound (on_way net p.from d h)
  way_sound = record {
    destination = (sound_d.0, sound_d.1, (let l = sound_d.2 in omega (arith, l)));
    source = sound_source net p.from h.source address low high spelled.sound.source;
    message = spelled.sound.message;
  }

  last_sound : IsSound (at_last net p.from h)
  last_sound = record {
    destination = tt;
    source = sound_source net p.from h.source address low high spelled.sound.source;
    message = spelled.sound.message;
  }

  goes_on_keeps : GoesOn net p h d q → (i : Inside) → HasInside other q.from q.to q.npdu i → HasInside net p.from p.to p.npdu i
  goes_on_keeps goes i has =
      let s : Spells q.npdu (on_way net p.from d h) =
      subst (λ (l : List ℕ). Spells l (on_way net p.from d h)) (sym goes.npdu) (canonical_spells (on_way net p.from d h) way_sound) in
      let in_it = inside_its_header other q.from q.to q.npdu (on_way net p.from d h) i s has in
      record {
        header = h;
        spelled = spelled;
        is = record {
          application = in_it.application;
          source = sym (same_sender net other p.from q.from h.source address) ∙ in_it.source;
          reach = ap (λ (o : Option PlainDestination). reach_of net p.to o) is ∙ in_it.reach;
          apdu = in_it.apdu;
        };
      }

  named_last : (n : Dnet) → n ≡ Network other → target_of d.mac ≡ Some q.to → named n d.mac ≡ Some (linked other q.to)
  named_last n e target = ap (λ (m : Dnet). named m d.mac) e ∙ target_is other d.mac q.to target

  arrives_keeps : Arrives net other p h d q → (i : Inside) → HasInside other q.from q.to q.npdu i → HasInside net p.from p.to p.npdu i
  arrives_keeps comes i has =
      let s : Spells q.npdu (at_last net p.from h) =
      subst (λ (l : List ℕ). Spells l (at_last net p.from h)) (sym comes.npdu) (canonical_spells (at_last net p.from h) last_sound) in
      let in_it = inside_its_header other q.from q.to q.npdu (at_last net p.from h) i s has in
      record {
        header = h;
        spelled = spelled;
        is = record {
          application = in_it.application;
          source = sym (same_sender net other p.from q.from h.source address) ∙ in_it.source;
          reach = ap (λ (o : Option PlainDestination). reach_of net p.to o) is ∙ named_last d.net comes.last comes.target ∙ in_it.reach;
          apdu = in_it.apdu;
        };
      }

pub routed_is_inside : {A : Type 0} → RoutedIsInside A
routed_is_inside net other p q i address low high r has = ⊎_elim
    (λ (goes : GoesOn net p r.header r.destination q).
    goes_on_keeps net other p q r.header r.spelled r.destination r.is address low high goes i has)
    (λ (comes : Arrives net other p r.header r.destination q).
    arrives_keeps net other p q r.header r.spelled r.destination r.is address low high comes i has)
    r.how

-- What is heard is inside the message, and what is said is inside its NPDU.
use Rattle.std.proofs.Common.{◌≡◌, refl, ap, subst, ℕ, Bool, true, false, List, [], ◌∷◌, Option, Some, None, arith}
use Rattle.std.specs.Prelude.{◌&&◌, nat_lt, option_map}
use Rattle.std.proofs.lemmas.Bool.{and_parts, ltb-true}
use Rattle.apdu.specs.Apdu.{PlainApdu, unconfirmed}
use Rattle.apdu.specs.Apdu as application
use Rattle.apdu.specs.ApduWriting as apdu
use Rattle.inside.specs.Inside.{Covers, HasInside, Reaches, at_address, linked, named, reach_of, to_station}
use Rattle.inside.specs.declared.reach.Reach.{Reach}
use Rattle.inside.specs.declared.reach.Reach.TheVariants as reach
use Rattle.npdu.proofs.CanonicalLaws.{canonical_spells, mac_again, mac_length}
use Rattle.npdu.specs.Header.{IsSound, PlainDestination}
use Rattle.npdu.specs.Mac.{is_address, mac_octets, mac_of, station_at}
use Rattle.npdu.specs.declared.mac.Mac.{Mac}
use Rattle.npdu.specs.declared.mac.Mac.TheVariants as mac
use Rattle.npdu.specs.declared.mac.Station.{Station}
use Rattle.npdu.specs.declared.mac.Target.{Target}
use Rattle.npdu.specs.declared.mac.Target.TheVariants.{One, All}
use Rattle.npdu.specs.declared.message.Message.{Message}
use Rattle.npdu.specs.declared.message.Message.TheVariants.{WhoIsRouterToNetwork, IAmRouterToNetwork, RejectMessageToNetwork, Other, Proprietary}
use Rattle.npdu.specs.declared.view.Dnet.{Dnet}
use Rattle.npdu.specs.declared.view.Dnet.TheVariants.{Network, Global}
use Rattle.unitdata.specs.Hearing.{HeardContent, SpellsContent, is_global, is_here, says}
use Rattle.unitdata.specs.Laws.{AnnouncedIsInside, BroughtIsInside, SpokenIsInside, addressed}
use Rattle.unitdata.specs.Saying.{announcing_npdu, destination_to, everywhere, global_npdu, header_to, is_spelled, npdu_to}

-- a target on the link is for each station that it reaches
link_covers : (net : ℕ) (to : Target) (m : Mac) → Reaches to m → Covers (linked net to) (record { net = net; mac = m })
link_covers net (One a) m e = ap (λ (x : Mac). record { net = net; mac = x }) e
link_covers net All m e = refl

-- whom a message is for that is heard there
record IsForAll (net : ℕ) (to : Target) (d : Option PlainDestination) : Type 0 where
  pub reach : Reach
  pub is : reach_of net to d ≡ Some reach
  pub covers : (m : Mac) → Reaches to m → Covers reach (record { net = net; mac = m })

here_by : (n : Dnet) (octets : List ℕ) → is_global n ≡ true → named n octets ≡ Some reach.All
here_by Global octets t = refl
here_by (Network number) octets t = absurd (cc t)

here_is : (net : ℕ) (to : Target) (d : Option PlainDestination) → is_here d ≡ true → IsForAll net to d
here_is net to None t = record { reach = linked net to; is = refl; covers = λ m r. link_covers net to m r }
here_is net to (Some d) t = record { reach = reach.All; is = here_by d.net d.mac t; covers = λ m r. tt }

-- an APDU stands behind no network message
apdu_behind : (m : Option Message) (octets : List ℕ) (c : HeardContent) (a : PlainApdu) → SpellsContent m octets c → c ≡ says a →
    (m ≡ None) × application.Spells octets a
apdu_behind None octets c a s e = (refl, subst (λ (x : HeardContent). SpellsContent None octets x) e s)
apdu_behind (Some WhoIsRouterToNetwork) octets c a s e = absurd s
apdu_behind (Some IAmRouterToNetwork) octets c a s e = absurd s
apdu_behind (Some RejectMessageToNetwork) octets c a s e =
    absurd (subst (λ (x : HeardContent). SpellsContent (Some RejectMessageToNetwork) octets x) e s)
apdu_behind (Some (Other kind)) octets c a s e = absurd s
apdu_behind (Some (Proprietary kind vendor)) octets c a s e = absurd s

pub brought_is_inside : BroughtIsInside
brought_is_inside net from to npdu h a b is =
    let content = apdu_behind b.header.message b.header.body h.content a b.said is in
    let here = here_is net to b.header.destination b.here in
    record {
      inside = record { source = h.station; reach = here.reach; apdu = b.header.body };
      has = record {
        header = b.header;
        spelled = b.spelled;
        is = record { application = content.0; source = b.sent; reach = here.is; apdu = refl };
      };
      source = refl;
      spelled = content.1;
      covers = here.covers;
    }

-- the header that a destination is said behind is one that has a spelling
sound_to : (e : Bool) (o : Option Station) (octets : List ℕ) → is_spelled o ≡ true → IsSound (header_to e (option_map destination_to o) octets)
sound_to e None octets t = record { destination = tt; source = tt; message = tt }
sound_to e (Some x) octets t =
    let parts = and_parts (nat_lt 0 x.net && nat_lt x.net 65535) (is_address x.mac) t in
    let bounds = and_parts (nat_lt 0 x.net) (nat_lt x.net 65535) parts.0 in
    record {
      destination = ((ltb-true 0 x.net bounds.0, ltb-true x.net 65535 bounds.1), (mac_length x.mac parts.1).1, omega arith);
      source = tt;
      message = tt;
    }

-- DNET and DADR name that station
at_some : (net : ℕ) (octets : List ℕ) (m : Mac) → mac_of octets ≡ Some m → at_address net octets ≡ Some (reach.One (record { net = net; mac = m }))
at_some net [] m e = absurd (cc e)
at_some net (octet ∷ more) m e = ap (λ (o : Option Mac). to_station (station_at net o)) e

reach_to : (net : ℕ) (to : Mac) (o : Option Station) → is_spelled o ≡ true →
    reach_of net (One to) (option_map destination_to o) ≡ Some (reach.One (addressed net to o))
reach_to net to None t = refl
reach_to net to (Some x) t =
    let parts = and_parts (nat_lt 0 x.net && nat_lt x.net 65535) (is_address x.mac) t in
    at_some x.net (mac_octets x.mac) x.mac (mac_again x.mac parts.1)

npdu_has : (net : ℕ) (from to : Mac) (e : Bool) (o : Option Station) (octets : List ℕ) → is_spelled o ≡ true →
    HasInside net from (One to) (npdu_to e o octets)
    (record { source = record { net = net; mac = from }; reach = reach.One (addressed net to o); apdu = octets })
unfolding npdu_to
npdu_has net from to e o octets t = record {
  header = header_to e (option_map destination_to o) octets;
  spelled = canonical_spells (header_to e (option_map destination_to o) octets) (sound_to e o octets t);
  is = record { application = refl; source = refl; reach = reach_to net to o t; apdu = refl };
}

pub spoken_is_inside : SpokenIsInside
spoken_is_inside net mac s t = npdu_has net mac s.way.to s.expects_reply s.way.destination s.apdu t

global_has : (net : ℕ) (from : Mac) (to : Target) (octets : List ℕ) →
    HasInside net from to (global_npdu octets)
    (record { source = record { net = net; mac = from }; reach = reach.All; apdu = octets })
unfolding global_npdu
global_has net from to octets = record {
  header = header_to false (Some everywhere) octets;
  spelled = canonical_spells (header_to false (Some everywhere) octets)
      (record { destination = (tt, omega arith, omega arith); source = tt; message = tt });
  is = record { application = refl; source = refl; reach = refl; apdu = refl };
}

pub announced_is_inside : AnnouncedIsInside
unfolding announcing_npdu
announced_is_inside net mac to service octets = global_has net mac to (apdu.canonical (unconfirmed service octets))

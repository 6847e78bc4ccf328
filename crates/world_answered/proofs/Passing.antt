-- What a router passes on of a message for a station of one of its networks, and what is inside that.
use Rattle.std.proofs.Common.{◌≡◌, ◌≢◌, ◌⊎◌, ◌∙◌, ⊎_elim, inl, inr, refl, sym, ap, subst, arith, ℕ, zero, suc, ◌+◌, cond, Bool, true, false, List, [], ◌∷◌, ◌++◌, ◌≤◌, length, length-append, Option, Some, None}
use Rattle.std.specs.Prelude.{◌==◌, ◌&&◌, nat_le, nat_lt, slice_get}
use Rattle.std.proofs.lemmas.Bool.{and_from, and_parts, eq-eqb, eqb-true, le-leb, ltb-true}
use Rattle.carry_answered.specs.Answered.{BringsOf}
use Rattle.history.proofs.Lists.{has}
use Rattle.history.specs.Lists.{Has}
use Rattle.inside.specs.Inside.{HasInside, Inside, linked}
use Rattle.inside.specs.Routed.{at_last, target_of, to_mac}
use Rattle.inside.specs.declared.reach.Reach.TheVariants as reach
use Rattle.link.specs.Step.{PortSent}
use Rattle.npdu.proofs.CanonicalLaws.{canonical_spells, mac_again, mac_length}
use Rattle.npdu.proofs.SpellingLaws.{one_header}
use Rattle.npdu.specs.Header.{Header, IsSound, NoHeader, Spells, canonical}
use Rattle.npdu.specs.Mac.{is_address, mac_octets, mac_of, station_at}
use Rattle.npdu.specs.declared.mac.Mac.{Mac}
use Rattle.npdu.specs.declared.mac.Mac.TheVariants.{Six}
use Rattle.npdu.specs.declared.mac.Station.{Station}
use Rattle.npdu.specs.declared.mac.Target.{Target}
use Rattle.npdu.specs.declared.mac.Target.TheVariants as target
use Rattle.npdu.specs.declared.parcel.Parcel.{Parcel}
use Rattle.router.proofs.Ports.{own_is}
use Rattle.router.specs.Handling.{by_port, delivered, is_on, own_port, own_port_from}
use Rattle.router.specs.Hearing.{Drops, Hears, RouterHears, handling_of, heard}
use Rattle.router.specs.Messages.{Heard, refused}
use Rattle.router.specs.Passing.{fits, last_of, net_of, passed, passed_if}
use Rattle.router.specs.Router.{IsNumbered, RouterState}
use Rattle.router.specs.Said.{said}
use Rattle.router.specs.declared.handling.Handling.{Handling}
use Rattle.router.specs.declared.handling.Handling.TheVariants as does
use Rattle.router.specs.declared.plan.PortParcel.{PortParcel}
use Rattle.npdu.specs.declared.message.NetworkRejectReason.TheVariants.{TooLong}
use Rattle.traffic.specs.declared.item.Item.{Item}
use Rattle.unitdata.proofs.InsideLaws.{spoken_is_inside}
use Rattle.unitdata.specs.Hearing.{is_alone}
use Rattle.unitdata.specs.Laws.{addressed, spoken_inside}
use Rattle.unitdata.specs.Saying.{Spoken, destination_to, header_to, is_named, is_spelled, npdu_of, npdu_to, parcel_to}
use Rattle.world.specs.site_ports.Drafts.{PortsState}
use Rattle.world.specs.site_ports.Ports.{DownsEach, places_of}
use Rattle.world.specs.world_log.Growing.{items_at}
use Rattle.world_answered.proofs.Items.{IsItemOf, one_down, one_puts}
use Rattle.world_answered.proofs.Places.{none_some, some_same}

-- a router on a network has a first port there
record HasOwn (net first : ℕ) (ports : List Station) : Type 0 where
  pub q : ℕ × Mac
  pub is : own_port_from first net ports ≡ Some q

own_test : (net first : ℕ) (s : Station) (ss : List Station) (b : Bool) → (s.net == net) ≡ b → HasOwn net (first + 1) ss ⊎ (b ≡ true) →
    HasOwn net first (s ∷ ss)
own_test net first s ss true t either =
    let here : ℕ × Mac = (first, s.mac) in record {
      q = here;
      is = ap (λ (c : Bool). cond c (Some here) (own_port_from (first + 1) net ss)) t;
    }
own_test net first s ss false t either =
    let here : ℕ × Mac = (first, s.mac) in ⊎_elim
    (λ (rest : HasOwn net (first + 1) ss). record {
      q = rest.q;
      is = ap (λ (c : Bool). cond c (Some here) (own_port_from (first + 1) net ss)) t ∙ rest.is;
    })
    (λ (no : false ≡ true). absurd (cc no))
    either

own_there : (net first : ℕ) (ss : List Station) (k : ℕ) (s : Station) → slice_get ss k ≡ Some s → s.net ≡ net → HasOwn net first ss
own_there net first [] k s e same = absurd (cc e)
own_there net first (x ∷ xs) zero s e same =
    let is = eq-eqb x.net net (ap (λ (y : Station). y.net) (some_same x s e) ∙ same) in
    own_test net first x xs (x.net == net) refl (inr is)
own_there net first (x ∷ xs) (suc k) s e same =
    own_test net first x xs (x.net == net) refl (inl (own_there net (first + 1) xs k s e same))

-- DADR names the one with that address
mac_target : (octets : List ℕ) (m : Mac) → mac_of octets ≡ Some m → target_of octets ≡ Some (target.One m)
mac_target [] m e = absurd (cc e)
mac_target (octet ∷ more) m e = ap (λ (o : Option Mac). to_mac o) e

-- an NPDU for a station of another network has this header
module _ (expects : Bool) (y : Station) (apdu : List ℕ) (named : is_named y ≡ true) where
  abbrev pub header : Header
  header = header_to expects (Some (destination_to y)) apdu

  parts : ((nat_lt 0 y.net && nat_lt y.net 65535) ≡ true) × (is_address y.mac ≡ true)
  parts = and_parts (nat_lt 0 y.net && nat_lt y.net 65535) (is_address y.mac) named

  header_sound : IsSound header
  header_sound =
      let bounds = and_parts (nat_lt 0 y.net) (nat_lt y.net 65535) parts.0 in
      record {
        destination = ((ltb-true 0 y.net bounds.0, ltb-true y.net 65535 bounds.1), (mac_length y.mac parts.1).1, omega arith);
        source = tt;
        message = tt;
      }

  pub npdu_spells : Spells (npdu_to expects (Some y) apdu) header
  unfolding npdu_to
  npdu_spells = canonical_spells header header_sound

  pub y_target : target_of (mac_octets y.mac) ≡ Some (target.One y.mac)
  y_target = mac_target (mac_octets y.mac) y.mac (mac_again y.mac parts.1)

none_spells : (expects : Bool) (apdu : List ℕ) → Spells (npdu_to expects None apdu) (header_to expects None apdu)
unfolding npdu_to
none_spells expects apdu = canonical_spells (header_to expects None apdu) (record { destination = tt; source = tt; message = tt })

-- what it puts out of a message for a station of another of its networks, from this one
pub record IsPassed {A : Type 0} (x : Station) (p : Parcel A) (h : Header) (y : Station) (j : Item A) : Type 0 where
  pub z : Station
  pub q : Parcel A
  pub item : IsItemOf z q y.mac j
  pub net : z.net ≡ y.net
  pub to : q.to ≡ target.One y.mac
  pub npdu : q.npdu ≡ canonical (at_last x.net p.from h)
  pub stamp : q.stamp ≡ p.stamp

module _ {A : Type 0} (now port : ℕ) (r : RouterState) (x : Station) (to : Mac) (p : Parcel A) (expects : Bool) (y : Station) (apdu : List ℕ)
    (named : is_named y ≡ true) (npdu : p.npdu ≡ npdu_to expects (Some y) apdu)
    (there : slice_get r.ports port ≡ Some (record { net = x.net; mac = to })) where
  abbrev h : Header
  h = header expects y apdu named

  abbrev at : Station
  at = record { net = x.net; mac = to }

  abbrev met : Heard A
  met = heard now port p at h

  spelled : Spells p.npdu h
  spelled = subst (λ (l : List ℕ). Spells l h) (sym npdu) (npdu_spells expects y apdu named)

  -- what it says is decided by its port on that network
  hears_it : (downs : List (PortParcel A)) (left : RouterState) → RouterHears now port p r downs left → downs ≡ said met r (handling_of r met)
  hears_it downs left e = ⊎_elim
      (λ (hears : Hears now port p r downs left).
      let here : hears.at ≡ at = some_same hears.at at (sym hears.met.there ∙ there) in
      let header_is : hears.header ≡ h = one_header p.npdu hears.header h hears.met.spelled spelled in
      hears.comes.says
      ∙ ap (λ (a : Station). said (heard now port p a hears.header) r (handling_of r (heard now port p a hears.header))) here
      ∙ ap (λ (k : Header). said (heard now port p at k) r (handling_of r (heard now port p at k))) header_is)
      (λ (drops : Drops now port p r downs left). ⊎_elim
      (λ (none : slice_get r.ports port ≡ None). absurd (none_some at (sym none ∙ there)))
      (λ (none : NoHeader p.npdu). absurd (none.none h spelled))
      drops.nothing)
      e

  handled_to : (q : ℕ × Mac) → own_port y.net r.ports ≡ Some q →
      handling_of r met ≡ cond (is_on q.1 (target.One y.mac)) (does.Deliver q.0 q.1 (target.One y.mac)) does.Discard
  handled_to q own =
      ap (λ (o : Option (ℕ × Mac)). by_port r y.net (mac_octets y.mac) o) own
      ∙ ap (λ (o : Option Target). delivered q.0 q.1 o) (y_target expects y apdu named)

  passed_is : (k : Header) (over : ℕ) (own : Mac) (t : Target) → passed met k over own t ≡ passed_if (fits own k) met k over own t
  unfolding passed
  passed_is k over own t = refl

  module _ (old new : PortsState A) (places_are : places_of old.ports ≡ r.ports) (silent : old.out ≡ []) (j : Item A)
      (j_net : j.net ≡ y.net) (two : x.net ≢ y.net)
      (first : slice_get (items_at now r.ports new.out) 0 ≡ Some j) where
    abbrev Goal : Type 0
    Goal = IsPassed x p h y j

    -- nothing goes down: there is no item
    none_down : DownsEach now [] old new → Goal
    none_down downs =
        let same : new ≡ old = downs in
        let out : new.out ≡ [] = ap (λ (s : PortsState A). s.out) same ∙ silent in
        absurd (none_some j (sym (ap (λ (o : List (PortSent A)). slice_get (items_at now r.ports o) 0) out) ∙ first))

    -- it is too long, which is said to the network that it came from
    refused_down : DownsEach now (refused met TooLong (net_of h.destination) ∷ []) old new → Goal
    refused_down downs =
        let back : Parcel A = (refused met TooLong (net_of h.destination)).parcel in
        let one = one_down now r.ports port back p.from refl j old new places_are silent downs first in
        let place : one.x ≡ at = some_same one.x at (sym one.at ∙ there) in
        absurd (two (ap (λ (s : Station). s.net) (sym place) ∙ sym one.item.net ∙ j_net))

    -- it goes on
    module _ (over : ℕ) (own : Mac) (z : Station) (z_there : slice_get r.ports over ≡ Some z) (z_net : z.net ≡ y.net) where
      abbrev q : Parcel A
      q = record { from = own; to = target.One y.mac; npdu = canonical (last_of met); stamp = p.stamp }

      sent_down : DownsEach now (record { port = over; parcel = q } ∷ []) old new → Goal
      sent_down downs =
          let one = one_down now r.ports over q y.mac refl j old new places_are silent downs first in
          let place : one.x ≡ z = some_same one.x z (sym one.at ∙ z_there) in record {
            z = one.x;
            q = q;
            item = one.item;
            net = ap (λ (s : Station). s.net) place ∙ z_net;
            to = refl;
            npdu = refl;
            stamp = refl;
          }

      passed_down : (b : Bool) → DownsEach now (passed_if b met (last_of met) over own (target.One y.mac) ∷ []) old new → Goal
      passed_down true downs = sent_down downs
      passed_down false downs = refused_down downs

      deliver_down : (b : Bool) → is_on own (target.One y.mac) ≡ b →
          DownsEach now (said met r (cond b (does.Deliver over own (target.One y.mac)) does.Discard)) old new → Goal
      deliver_down true on downs = passed_down (fits own (last_of met))
          (subst (λ (o : PortParcel A). DownsEach now (o ∷ []) old new) (passed_is (last_of met) over own (target.One y.mac)) downs)
      deliver_down false on downs = none_down downs

    pub passes_it : (port2 : Station) → Has r.ports port2 → port2.net ≡ y.net → (downs : List (PortParcel A)) (left : RouterState) →
        RouterHears now port p r downs left → DownsEach now downs old new → Goal
    passes_it port2 has_it on downs left hears goes_down =
        let own = own_there y.net 0 r.ports has_it.place port2 has_it.at_place on in
        let is = own_is r.ports y.net own.q own.is in
        let says = hears_it downs left hears ∙ ap (λ (x : Handling). said met r x) (handled_to own.q own.is) in
        deliver_down own.q.0 own.q.1 is.station is.at is.number (is_on own.q.1 (target.One y.mac)) refl
        (subst (λ (d : List (PortParcel A)). DownsEach now d old new) says goes_down)

pub six_long : (m : Mac) (octets : List ℕ) → m ≡ Six octets → is_address m ≡ true → length (mac_octets m) ≡ 6
six_long m octets six address =
    ap (λ (n : Mac). length (mac_octets n)) six
    ∙ eqb-true (length octets) 6 (sym (ap (λ (n : Mac). is_address n) six) ∙ address)

one_more : (n : ℕ) → suc n ≡ n + 1
one_more n = omega arith

five_more : (n : ℕ) → suc (suc (suc (suc (suc n)))) ≡ n + 5
five_more n = omega arith

-- it passes on what is short enough where it came from, over its port of BACnet/IP: one item, for that station
module _ {A : Type 0} (now port : ℕ) (r : RouterState) (x : Station) (to : Mac) (p : Parcel A) (expects : Bool) (y : Station) (apdu : List ℕ)
    (named : is_named y ≡ true) (npdu : p.npdu ≡ npdu_to expects (Some y) apdu)
    (there : slice_get r.ports port ≡ Some (record { net = x.net; mac = to })) (short : length p.npdu ≤ 1497)
    (apdu_short : length apdu ≤ 1476) (from_long : length (mac_octets p.from) ≡ 6) (to_octets : List ℕ) (to_six : y.mac ≡ Six to_octets)
    (to_long : length (mac_octets y.mac) ≡ 6) where
  abbrev at_router : Station
  at_router = record { net = x.net; mac = to }

  abbrev heard_so : Heard A
  heard_so = heard now port p at_router (header expects y apdu named)

  npdu_is : npdu_to expects (Some y) apdu ≡ canonical (header expects y apdu named)
  unfolding npdu_to
  npdu_is = refl

  last_short : length (canonical (last_of heard_so)) ≤ 1497
  last_short =
      let whole : length p.npdu ≡ length (canonical (header expects y apdu named)) = ap (λ (l : List ℕ). length l) (npdu ∙ npdu_is) in
      let front : length (canonical (header expects y apdu named)) ≡ length (mac_octets y.mac ++ 255 ∷ apdu) + 5 =
      five_more (length (mac_octets y.mac ++ 255 ∷ apdu)) in
      let inner = length-append (mac_octets y.mac) (255 ∷ apdu) in
      let hops : length (255 ∷ apdu) ≡ length apdu + 1 = one_more (length apdu) in
      let last : length (canonical (last_of heard_so)) ≡ length (mac_octets p.from ++ apdu) + 5 =
      five_more (length (mac_octets p.from ++ apdu)) in
      let behind = length-append (mac_octets p.from) apdu in
      omega (arith, whole, front, inner, hops, last, behind, short, from_long, to_long)

  it_fits : (own : Mac) (octets : List ℕ) → own ≡ Six octets → fits own (last_of heard_so) ≡ true
  it_fits own octets six =
      ap (λ (m : Mac). fits m (last_of heard_so)) six
      ∙ and_from (nat_le (length (canonical (last_of heard_so))) 1497) (nat_le (length apdu) 1476)
      (le-leb (length (canonical (last_of heard_so))) 1497 last_short) (le-leb (length apdu) 1476 apdu_short)

  on_it : (own : Mac) (octets : List ℕ) → own ≡ Six octets → is_on own (target.One y.mac) ≡ true
  on_it own octets six =
      ap (λ (m : Mac). is_on m (target.One y.mac)) six ∙ ap (λ (m : Mac). is_on (Six octets) (target.One m)) to_six

  -- one item
  pub record IsPassedOnce (items : List (Item A)) : Type 0 where
    pub i : Item A
    pub one : items ≡ i ∷ []
    pub goes : (i.net ≡ y.net) × (i.to ≡ y.mac)

  -- over a port of BACnet/IP on that network
  module _ (over : ℕ) (own : Mac) (z : Station) (z_there : slice_get r.ports over ≡ Some z) (z_net : z.net ≡ y.net) (own_is_z : own ≡ z.mac)
      (octets : List ℕ) (z_six : z.mac ≡ Six octets) where
    abbrev sent_it : PortParcel A
    sent_it = record {
      port = over;
      parcel = record { from = own; to = target.One y.mac; npdu = canonical (last_of heard_so); stamp = p.stamp };
    }

    says_it : said heard_so r (cond (is_on own (target.One y.mac)) (does.Deliver over own (target.One y.mac)) does.Discard) ≡ sent_it ∷ []
    says_it =
        ap (λ (b : Bool). said heard_so r (cond b (does.Deliver over own (target.One y.mac)) does.Discard)) (on_it own octets (own_is_z ∙ z_six))
        ∙ ap (λ (o : PortParcel A). o ∷ []) (passed_is now port r x to p expects y apdu named npdu there (last_of heard_so) over own (target.One y.mac)
        ∙ ap (λ (b : Bool). passed_if b heard_so (last_of heard_so) over own (target.One y.mac)) (it_fits own octets (own_is_z ∙ z_six)))

    sent_once : (old new : PortsState A) → places_of old.ports ≡ r.ports → old.out ≡ [] → DownsEach now (sent_it ∷ []) old new →
        IsPassedOnce (items_at now r.ports new.out)
    sent_once old new places_are silent goes =
        let first = one_puts now r.ports over z z_there sent_it.parcel y.mac refl own_is_z octets z_six to_octets to_six old new places_are silent goes in
        let put = one_down now r.ports over sent_it.parcel y.mac refl first.made old new places_are silent goes first.first in
        let same : put.x ≡ z = some_same put.x z (sym put.at ∙ z_there) in record {
          i = first.made;
          one = put.one;
          goes = (put.item.net ∙ ap (λ (s : Station). s.net) same ∙ z_net, put.item.for);
        }

  pub passes_once : (port2 : Station) → Has r.ports port2 → port2.net ≡ y.net →
      ((s : Station) → Has r.ports s → s.net ≡ y.net → (octets : List ℕ) × (s.mac ≡ Six octets)) →
      (old new : PortsState A) → places_of old.ports ≡ r.ports → old.out ≡ [] → (downs : List (PortParcel A)) (left : RouterState) →
      RouterHears now port p r downs left → DownsEach now downs old new → IsPassedOnce (items_at now r.ports new.out)
  passes_once port2 has_it on sixes old new places_are silent downs left hears goes_down =
      let own = own_there y.net 0 r.ports has_it.place port2 has_it.at_place on in
      let is = own_is r.ports y.net own.q own.is in
      let six = sixes is.station (has own.q.0 is.at) is.number in
      let says = hears_it now port r x to p expects y apdu named npdu there downs left hears
      ∙ ap (λ (z : Handling). said heard_so r z) (handled_to now port r x to p expects y apdu named npdu there own.q own.is)
      ∙ says_it own.q.0 own.q.1 is.station is.at is.number is.mac six.0 six.1 in
      sent_once own.q.0 own.q.1 is.station is.at is.number is.mac six.0 six.1 old new places_are silent
      (subst (λ (d : List (PortParcel A)). DownsEach now d old new) says goes_down)

-- what is said on a network without a destination beyond it is brought to a station there
module _ (x : Station) (now : ℕ) (s : Spoken) (none : s.way.destination ≡ None) where
  abbrev said_here : Inside
  said_here = record { source = x; reach = reach.One (record { net = x.net; mac = s.way.to }); apdu = s.apdu }

  here_spells : Spells (npdu_of s) (header_to s.expects_reply None s.apdu)
  here_spells = subst (λ (z : Option Station). Spells (npdu_to s.expects_reply z s.apdu) (header_to s.expects_reply None s.apdu))
      (sym none) (none_spells s.expects_reply s.apdu)

  abbrev has_here : HasInside x.net x.mac (target.One s.way.to) (npdu_of s) said_here
  has_here = record {
    header = header_to s.expects_reply None s.apdu;
    spelled = here_spells;
    is = record { application = refl; source = refl; reach = refl; apdu = refl };
  }

  pub brings_here : {A : Type 0} (net : ℕ) → x.net ≡ net → BringsOf {A = A} x.net (parcel_to now x.mac s) net (parcel_to now x.mac s)
  brings_here {A} net same =
      subst (λ (n : ℕ). BringsOf {A = A} x.net (parcel_to now x.mac s) n (parcel_to now x.mac s)) same (record {
        inside = said_here;
        said = has_here;
        brought = has_here;
        last = refl;
        alone = refl;
        stamp = refl;
      })

-- what a router passes on to the last network is brought to the station there that it is for: it came from an address, on a
-- network with a number
module _ {A : Type 0} (x : Station) (now : ℕ) (s : Spoken) (y : Station) (named : is_named y ≡ true)
    (destination : s.way.destination ≡ Some y) (address : is_address x.mac ≡ true) (numbered : IsNumbered x) (q : Parcel A)
    (to : q.to ≡ target.One y.mac) (npdu : q.npdu ≡ canonical (at_last x.net x.mac (header s.expects_reply y s.apdu named))) where
  abbrev last_header : Header
  last_header = at_last x.net x.mac (header s.expects_reply y s.apdu named)

  last_sound : IsSound last_header
  last_sound = record {
    destination = tt;
    source = (numbered.0, numbered.1, (mac_length x.mac address).0, (mac_length x.mac address).1);
    message = tt;
  }

  abbrev has_last : HasInside y.net q.from q.to q.npdu (spoken_inside x.net x.mac s)
  has_last = record {
    header = last_header;
    spelled = subst (λ (l : List ℕ). Spells l last_header) (sym npdu) (canonical_spells last_header last_sound);
    is = record {
      application = refl;
      source = ap (λ (o : Option Mac). station_at x.net o) (mac_again x.mac address);
      reach = ap (λ (t : Target). Some (linked y.net t)) to
          ∙ sym (ap (λ (o : Option Station). Some (reach.One (addressed x.net s.way.to o))) destination);
      apdu = refl;
    };
  }

  pub brings_on : q.stamp ≡ now → BringsOf x.net (parcel_to now x.mac s) y.net q
  brings_on stamp = record {
    inside = spoken_inside x.net x.mac s;
    said = spoken_is_inside x.net x.mac s (subst (λ (o : Option Station). is_spelled o ≡ true) (sym destination) named);
    brought = has_last;
    last = refl;
    alone = ap (λ (t : Target). is_alone t None) to;
    stamp = stamp;
  }

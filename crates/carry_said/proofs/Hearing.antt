-- What a parcel carries stays said, and is heard as it was said.
use Rattle.std.proofs.Common.{◌≡◌, ◌∙◌, refl, sym, subst, ℕ, ◌≤◌, ◌+◌, List, ◌++◌, arith}
use Rattle.apdu.specs.Apdu.{PlainApdu}
use Rattle.apdu.specs.declared.sizes.MaxApdu.{MaxApdu}
use Rattle.headline_site.specs.headline_bacnet.Network.{WasSaid}
use Rattle.headline_site.specs.headline_client.Safe as clients
use Rattle.headline_site.specs.headline_device.Devices as devices
use Rattle.history.proofs.Lists.{has_front}
use Rattle.history.specs.Book.{Message}
use Rattle.history.specs.Lists.{Has}
use Rattle.inside.specs.Inside.{Covers, Reaches}
use Rattle.npdu.specs.declared.mac.Station.{Station}
use Rattle.npdu.specs.declared.parcel.Parcel.{Parcel}
use Rattle.profile.specs.Times.{LIFE_MS}
use Rattle.unitdata.proofs.InsideLaws.{brought_is_inside}
use Rattle.unitdata.specs.Hearing.{Brings, Heard, says}
use Rattle.carry_said.specs.Laws.{ClientHearsSaid, DeviceHearsSaid, HeardWasSaid, SaidStill}
use Rattle.carry_said.specs.Said.{CarriesSaid, ObjectBook}

still_there : (l k more : List (Message Station)) (m : Message Station) → k ≡ l ++ more → Has l m → Has k m
still_there l k more m e h = subst (λ (x : List (Message Station)). Has x m) (sym e) (has_front l more h)

pub said_still : {A : Type 0} → SaidStill A
said_still own b later i stamp stays s = record {
  message = s.message;
  there = still_there b.said later.said stays.0 s.message stays.1 s.there;
  stamp_is = s.stamp_is;
  sayer = s.sayer;
  covers = s.covers;
  says = s.says;
}

young : (now stamp other : ℕ) → other ≡ stamp → now ≤ stamp + LIFE_MS → now ≤ other + LIFE_MS
young now stamp other e l = omega (arith, e, l)

-- what a station at an address hears: the message of the book, which was said to it and says the same
heard_as : {A : Type 0} (own : Station → MaxApdu) (b : ObjectBook A) (x : Station) (p : Parcel A) (h : Heard) (a : PlainApdu) →
    CarriesSaid own b x.net p → Reaches p.to x.mac → b.moment ≤ p.stamp + LIFE_MS → Brings x.net p.from p.to p.npdu h → h.content ≡ says a →
    WasSaid (own x) b x h.station a
heard_as own b x p h a carries reach life brings is =
    let in_it = brought_is_inside x.net p.from p.to p.npdu h a brings is in
    let s = carries.said in_it.inside in_it.has in
    let covered : Covers in_it.inside.reach x = in_it.covers x.mac reach in
    record {
      message = s.message;
      heard = record {
        was_said = s.there;
        covers = s.covers x covered;
        young = young b.moment p.stamp s.message.stamp s.stamp_is life;
      };
      from_is = s.sayer ∙ in_it.source;
      body = s.says x a covered in_it.spelled;
    }

pub device_hears : {A : Type 0} → DeviceHearsSaid A
device_hears own w d p carries reach life size h a brings is =
    subst (λ (m : MaxApdu). WasSaid m w.book (devices.station_of d) h.station a) size
    (heard_as own w.book (devices.station_of d) p h a carries reach life brings is)

pub client_hears : {A : Type 0} → ClientHearsSaid A
client_hears own b c p carries reach life h a brings is = heard_as own b (clients.station_of c) p h a carries reach life brings is

pub heard_was_said : {A : Type 0} → HeardWasSaid A
heard_was_said l net p h a among brings is =
    let in_it = brought_is_inside net p.from p.to p.npdu h a brings is in
    record {
      said = record { inside = in_it.inside; stamp = p.stamp };
      there = among.among in_it.inside in_it.has;
      stamp = refl;
      has = in_it.has;
      source = in_it.source;
      spelled = in_it.spelled;
      covers = in_it.covers;
    }

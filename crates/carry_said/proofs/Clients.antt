-- The parcels of a client carry what it says.
use Rattle.std.proofs.Common.{◌≡◌, inl, inr, refl, sym, subst, ℕ, List, map, Option}
use Rattle.std.specs.List.{AllByRecursion, flat_map}
use Rattle.apdu.specs.Apdu.{PlainApdu, abort_pdu, complex_ack, confirmed, error_pdu, reject_pdu, segment_ack, simple_ack, unconfirmed}
use Rattle.apdu.specs.Unconfirmed.{limits_octets, service_number}
use Rattle.apdu.specs.declared.sizes.MaxApdu.{MaxApdu}
use Rattle.apdu.specs.declared.unconfirmed.Limits.{Limits}
use Rattle.apdu.specs.declared.unconfirmed.UnconfirmedService.TheVariants as kind
use Rattle.headline_site.specs.client.Client.{ClientState}
use Rattle.headline_site.specs.client.Hearing.{Does, Transacts, silence}
use Rattle.headline_site.specs.client.Saying.{parcel_of}
use Rattle.headline_site.specs.client.ClientTold.{ClientTold}
use Rattle.headline_site.specs.client_tsm.Said.{said_apdu, said_way, spoken_of}
use Rattle.headline_site.specs.client_tsm.declared.said.ClientSaid.{ClientSaid}
use Rattle.headline_site.proofs.headline_bacnet.Speaking.{who_is_is_said}
use Rattle.headline_site.specs.headline_bacnet.Bodies.{Says, body_of}
use Rattle.headline_site.proofs.headline_client.Heard.{said_is_heard}
use Rattle.headline_site.specs.headline_client.Laws.{CanWrite}
use Rattle.headline_site.specs.headline_client.Safe.{station_of}
use Rattle.headline_site.specs.headline_client.Told.{message_of}
use Rattle.history.proofs.HasLaws.{all_has, flat_has, has_map}
use Rattle.history.proofs.Lists.{has_back, has_last, none_has}
use Rattle.history.specs.Book.{Broadcast, Message, Other}
use Rattle.history.specs.Lists.{Has}
use Rattle.npdu.specs.declared.mac.Station.{Station}
use Rattle.npdu.specs.declared.mac.Way.{Way}
use Rattle.npdu.specs.declared.parcel.Parcel.{Parcel}
use Rattle.unitdata.specs.Hearing.{HeardContent, refuses, says}
use Rattle.unitdata.specs.Laws.{announced_inside, spoken_inside}
use Rattle.carry_said.specs.Laws.{ClientAsksSaid, ClientHearingSays, ClientIssuesSaid, ClientSaysSaid, ClientSaysSomething, WhoIsSaysSomething}
use Rattle.carry_said.specs.Said.{CarriesSaid, IsSaid, IsSayingEach, ObjectBook}
use Rattle.carry_said.proofs.Parcels.{announced_carries, announced_something, led_covers, saying_each, spoken_carries, spoken_something}

module _ {A : Type 0} (own : Station → MaxApdu) (b : ObjectBook A) (now : ℕ) (c : ClientState A) where
  one_said : (x : ClientSaid A) → CanWrite x → Has b.said (message_of own (station_of c) now x) →
      IsSaid own b (spoken_inside c.net c.mac (spoken_of x)) now
  one_said x can there = record {
    message = message_of own (station_of c) now x;
    there = there;
    stamp_is = refl;
    sayer = refl;
    covers = λ y h. led_covers c.net (said_way x) y h;
    says = λ y a h s. subst (λ (z : Station). Says (own y) a (body_of (own z) (said_apdu x))) (sym (led_covers c.net (said_way x) y h))
        (said_is_heard (own y) x a can s);
  }

  all_carry : (xs : List (ClientSaid A)) (p : Parcel A) → AllByRecursion CanWrite xs →
      ((m : Message Station) → Has (map (message_of own (station_of c) now) xs) m → Has b.said m) →
      Has (flat_map (parcel_of now c.mac) xs) p → CarriesSaid own b c.net p
  all_carry xs p can there at =
      let found = flat_has (parcel_of now c.mac) xs p at in
      spoken_carries own b c.net c.mac now (spoken_of found.0) p
      (one_said found.0 (all_has CanWrite xs found.0 can found.1)
      (there (message_of own (station_of c) now found.0) (has_map (message_of own (station_of c) now) xs found.0 found.1))) found.2

  -- a Who-Is says nothing of requests and replies
  who_is_said : (limits : Option Limits) → Has b.said (record { from = station_of c; to = Broadcast; body = Other; stamp = now }) →
      IsSaid own b (announced_inside c.net c.mac (service_number kind.WhoIs) (limits_octets limits)) now
  who_is_said limits there = record {
    message = record { from = station_of c; to = Broadcast; body = Other; stamp = now };
    there = there;
    stamp_is = refl;
    sayer = refl;
    covers = λ y covered. tt;
    says = λ y a covered s. who_is_is_said (own y) limits a s;
  }

pub client_says : {A : Type 0} → ClientSaysSaid A
client_says own w c spoken tells next p can at =
    all_carry own _ w.book.moment c spoken p can (λ m h. has_back w.book.said (map (message_of own (station_of c) w.book.moment) spoken) h) at

pub client_issues : {A : Type 0} → ClientIssuesSaid A
client_issues own w c row spoken next p can at =
    all_carry own _ w.book.moment c spoken p can (λ m h. has_back w.book.said (map (message_of own (station_of c) w.book.moment) spoken) h) at

pub client_asks : {A : Type 0} → ClientAsksSaid A
client_asks own w c limits =
    announced_carries own _ c.net c.mac w.book.moment (service_number kind.WhoIs) (limits_octets limits)
    (who_is_said own _ w.book.moment c limits (has_last w.book.said _))

-- there is something inside what it says
pub client_says_something : {A : Type 0} → ClientSaysSomething A
client_says_something now c spoken p there =
    let found = flat_has (parcel_of now c.mac) spoken p there in
    spoken_something c.net c.mac now (spoken_of found.0) p found.2

pub who_is_says_something : {A : Type 0} → WhoIsSaysSomething A
who_is_says_something now c limits = announced_something c.net c.mac now (service_number kind.WhoIs) (limits_octets limits)

-- so it is where it hears something
module _ {A : Type 0} (now : ℕ) (c next : ClientState A) (told : ClientTold A) where
  is_silent : told ≡ silence → IsSayingEach (station_of c) now told.said
  is_silent e = saying_each (station_of c) now told.said (λ p there. absurd (none_has (subst (λ (t : ClientTold A). Has t.said p) e there)))

  by_transacting : (from : Station) (a : PlainApdu) → Transacts now from a c told next → IsSayingEach (station_of c) now told.said
  by_transacting from a k = saying_each (station_of c) now told.said
      (λ p there. client_says_something now c k.tsm_told.said p (subst (λ (t : ClientTold A). Has t.said p) k.told_is there))

  client_content : (from : Station) (way : Way) (x : HeardContent) → Does now from way x c told next → IsSayingEach (station_of c) now told.said
  client_content from way (says (unconfirmed service octets)) k = is_silent k.holds.silent
  client_content from way (says (confirmed segment accepted segments size invoke service octets)) k = by_transacting from _ k
  client_content from way (says (simple_ack invoke service)) k = by_transacting from _ k
  client_content from way (says (complex_ack segment invoke service octets)) k = by_transacting from _ k
  client_content from way (says (segment_ack negative server invoke number window)) k = by_transacting from _ k
  client_content from way (says (error_pdu invoke service class code first)) k = by_transacting from _ k
  client_content from way (says (reject_pdu invoke reason)) k = by_transacting from _ k
  client_content from way (says (abort_pdu server invoke reason)) k = by_transacting from _ k
  client_content from way (refuses rejected) k = is_silent k.silent

pub client_hearing_says : {A : Type 0} → ClientHearingSays A
client_hearing_says now from to npdu c next told (inl h) = client_content now c next told h.heard.station h.heard.way h.heard.content h.does
client_hearing_says now from to npdu c next told (inr drops) = is_silent now c next told drops.silent

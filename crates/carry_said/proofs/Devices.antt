-- The parcels of a device carry what it says.
use Rattle.std.proofs.Common.{◌≡◌, ⊎_elim, inl, inr, refl, subst, ℕ, ◌<◌, ◌^◌, List, [], map, arith}
use Rattle.apdu.specs.Apdu.{PlainApdu, abort_pdu, complex_ack, confirmed, error_pdu, reject_pdu, segment_ack, simple_ack, unconfirmed}
use Rattle.apdu.specs.Sizes.{apdu_taken}
use Rattle.apdu.specs.Unconfirmed.{i_am_octets, service_number}
use Rattle.apdu.specs.declared.sizes.MaxApdu.{MaxApdu}
use Rattle.apdu.specs.declared.sizes.MaxApdu.TheVariants.{UpTo50, UpTo128, UpTo206, UpTo480, UpTo1024, UpTo1476, Reserved}
use Rattle.apdu.specs.declared.unconfirmed.UnconfirmedService.TheVariants as kind
use Rattle.headline_site.specs.device.Device.{DeviceState, i_am_of}
use Rattle.headline_site.specs.device.Hearing.{AnswersWho, Does, Serves, origin_of}
use Rattle.headline_site.specs.device.Saying.{i_am_parcel, parcel_of}
use Rattle.headline_site.specs.device.DeviceTold.{DeviceTold}
use Rattle.headline_site.proofs.headline_bacnet.Speaking.{i_am_is_said}
use Rattle.headline_site.specs.headline_bacnet.Refined.{ObjectCore}
use Rattle.headline_site.specs.headline_device.Devices.{Deed, after_deed, announces, idles, serves, station_of, told_of_deed}
use Rattle.headline_site.specs.headline_device.Devices.{HasNumbers}
use Rattle.headline_site.proofs.headline_server.Heard.{said_is_heard}
use Rattle.headline_site.specs.headline_server.Refines.{message_of}
use Rattle.history.proofs.HasLaws.{flat_has, has_map}
use Rattle.history.proofs.Lists.{has_back, has_cons, has_last, none_has}
use Rattle.history.specs.Book.{Broadcast, I_am}
use Rattle.history.specs.Lists.{Has}
use Rattle.npdu.specs.declared.mac.Station.{Station}
use Rattle.npdu.specs.declared.parcel.Parcel.{Parcel}
use Rattle.headline_site.specs.server_answers.Said.{said_way, spoken_of}
use Rattle.headline_site.specs.server_answers.declared.asked.Origin.{Origin}
use Rattle.headline_site.specs.server_answers.ServerTold.{ServerTold}
use Rattle.headline_site.specs.server_answers.declared.said.ServerSaid.{ServerSaid}
use Rattle.headline_site.specs.server_tsm.Server.{ServerTsmState}
use Rattle.unitdata.specs.Hearing.{HeardContent, refuses, says}
use Rattle.unitdata.specs.Laws.{announced_inside, spoken_inside}
use Rattle.carry_said.specs.Laws.{DeviceHearingSays, DeviceSaysSaid, DeviceSaysSomething}
use Rattle.carry_said.specs.Said.{CarriesSaid, IsSaid, IsSaying, IsSayingEach}
use Rattle.carry_said.proofs.Parcels.{announced_carries, announced_something, led_covers, saying_each, spoken_carries, spoken_something}

most_taken : (m : MaxApdu) → apdu_taken m < 2 ^ 32
most_taken UpTo50 = omega arith
most_taken UpTo128 = omega arith
most_taken UpTo206 = omega arith
most_taken UpTo480 = omega arith
most_taken UpTo1024 = omega arith
most_taken UpTo1476 = omega arith
most_taken (Reserved n) = omega arith

module _ {A : Type 0} (own : Station → MaxApdu) (w : ObjectCore A) (device : DeviceState A) where
  served_said : (told : ServerTold A) (left : ServerTsmState A) (x : ServerSaid A) → Has told.said x →
      IsSaid own (after_deed device (serves told left) w).book (spoken_inside device.net device.mac (spoken_of x)) w.book.moment
  served_said told left x there = record {
    message = message_of (station_of device) w.book.moment x;
    there = has_back _ (map (message_of (station_of device) w.book.moment) told.said)
        (has_map (message_of (station_of device) w.book.moment) told.said x there);
    stamp_is = refl;
    sayer = refl;
    covers = λ y h. led_covers device.net (said_way x) y h;
    says = λ y a h s. said_is_heard (own y) x a s;
  }

  announced_said : HasNumbers device → IsSaid own (after_deed device announces w).book
      (announced_inside device.net device.mac (service_number kind.IAm) (i_am_octets (i_am_of device))) w.book.moment
  announced_said numbers = record {
    message = record { from = station_of device; to = Broadcast; body = I_am device.instance; stamp = w.book.moment };
    there = has_last w.book.said _;
    stamp_is = refl;
    sayer = refl;
    covers = λ y covered. tt;
    says = λ y a covered s. i_am_is_said (own y) (i_am_of device) a numbers.instance (most_taken device.server.max_apdu) numbers.vendor s;
  }

pub device_says : {A : Type 0} → DeviceSaysSaid A
device_says own w device (serves told left) p numbers there =
    let found = flat_has (parcel_of w.book.moment device.mac) told.said p there in
    spoken_carries own (after_deed device (serves told left) w).book device.net device.mac w.book.moment (spoken_of found.0) p
    (served_said own w device told left found.0 found.1) found.2
device_says {A} own w device announces p numbers there = ⊎_elim
    (λ (same : i_am_parcel w.book.moment device.mac (i_am_of device) ≡ p).
    subst (λ (z : Parcel A). CarriesSaid own (after_deed device announces w).book device.net z) same
    (announced_carries own (after_deed device announces w).book device.net device.mac w.book.moment (service_number kind.IAm)
    (i_am_octets (i_am_of device)) (announced_said own w device numbers)))
    (λ (more : Has [] p). absurd (none_has more))
    (has_cons (i_am_parcel w.book.moment device.mac (i_am_of device)) [] there)
device_says own w device idles p numbers there = absurd (none_has there)

pub device_says_something : {A : Type 0} → DeviceSaysSomething A
device_says_something now d (serves told left) p there =
    let found = flat_has (parcel_of now d.mac) told.said p there in
    spoken_something d.net d.mac now (spoken_of found.0) p found.2
device_says_something {A} now d announces p there = ⊎_elim
    (λ (same : i_am_parcel now d.mac (i_am_of d) ≡ p). subst (λ (z : Parcel A). IsSaying (station_of d) now z) same
    (announced_something d.net d.mac now (service_number kind.IAm) (i_am_octets (i_am_of d))))
    (λ (more : Has [] p). absurd (none_has more))
    (has_cons (i_am_parcel now d.mac (i_am_of d)) [] there)
device_says_something now d idles p there = absurd (none_has there)

-- so it is where it hears something
module _ {A : Type 0} (now : ℕ) (d left : DeviceState A) (told : DeviceTold A) where
  by_deed : (deed : Deed A) → told ≡ told_of_deed now d deed → IsSayingEach (station_of d) now told.said
  by_deed deed e = saying_each (station_of d) now told.said
      (λ p there. device_says_something now d deed p (subst (λ (t : DeviceTold A). Has t.said p) e there))

  by_serving : (from : Origin) (a : PlainApdu) → Serves now from a d told left → IsSayingEach (station_of d) now told.said
  by_serving from a k = by_deed (serves k.server_told k.left) k.told_is

  by_asking : (service : ℕ) (octets : List ℕ) → AnswersWho now d service octets told → IsSayingEach (station_of d) now told.said
  by_asking service octets (inl asks) = by_deed announces asks.1
  by_asking service octets (inr other) = by_deed idles other.1

  by_content : (from : Origin) (c : HeardContent) → Does now from c d told left → IsSayingEach (station_of d) now told.said
  by_content from (says (unconfirmed service octets)) k = by_asking service octets k.0
  by_content from (says (confirmed segment accepted segments size invoke service octets)) k = by_serving from _ k
  by_content from (says (simple_ack invoke service)) k = by_serving from _ k
  by_content from (says (complex_ack segment invoke service octets)) k = by_serving from _ k
  by_content from (says (segment_ack negative server invoke number window)) k = by_serving from _ k
  by_content from (says (error_pdu invoke service class code first)) k = by_serving from _ k
  by_content from (says (reject_pdu invoke reason)) k = by_serving from _ k
  by_content from (says (abort_pdu server invoke reason)) k = by_serving from _ k
  by_content from (refuses rejected) k = by_deed idles k.0

pub device_hearing_says : {A : Type 0} → DeviceHearingSays A
device_hearing_says now from to npdu d left told (inl h) = by_content now d left told (origin_of h.heard) h.heard.content h.does
device_hearing_says now from to npdu d left told (inr drops) = by_deed now d left told idles drops.silent

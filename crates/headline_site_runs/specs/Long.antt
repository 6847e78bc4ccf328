-- The same site, where the answer is long and the client takes APDUs of 50 octets: it comes in two segments.
use Rattle.std.specs.Prelude.{ℕ, ◌*◌, cond, List, [], ◌∷◌, Bool, true, false, Some, None, replicate, take, drop}
use Rattle.apdu.specs.Apdu.{apdu_of}
use Rattle.apdu.specs.declared.apdu.Apdu.{Apdu}
use Rattle.apdu.specs.declared.apdu.Apdu.TheVariants as apdu
use Rattle.apdu.specs.declared.sizes.MaxApdu.TheVariants.{UpTo50, UpTo1476}
use Rattle.apdu.specs.declared.sizes.MaxSegments.TheVariants.{SixtyFour}
use Rattle.client.specs.Client.{new_client}
use Rattle.device.specs.Device.{new_device}
use Rattle.headline.specs.Happenings.{start}
use Rattle.history.specs.Book.{Message, Other, Tells_piece, Unicast}
use Rattle.npdu.specs.Mac.{same_station}
use Rattle.npdu.specs.declared.mac.Station.{Station}
use Rattle.headline_bacnet.specs.Bodies.{body_of}
use Rattle.headline_bacnet.specs.Protocol.{bacnet}
use Rattle.headline_bacnet.specs.Refined.{ObjectSite}
use Rattle.objects.specs.Machine.{reply}
use Rattle.object_model.specs.Site.{opening_table}
use Rattle.profile.specs.declared.link_kind.LinkKind.TheVariants.{BacnetIp}
use Rattle.object_model.specs.declared.site.SiteObjects.{SiteObjects}
use Rattle.primitives.specs.declared.plain_data.Reply.{Reply}
use Rattle.services.specs.Asked.{request_octets}
use Rattle.services.specs.CanonicalReply.{canonical_reply}
use Rattle.headline_site.specs.AllStations.{AllStations}
use Rattle.headline_site_runs.specs.Small.{client, device, reads_name}

-- the name of the device has 60 octets
abbrev pub long_objects : {A : Type 0} → SiteObjects A
long_objects = record { name = replicate 60 68; instance = 10; vendor = 1; data_link = BacnetIp; objects = [] }

abbrev pub long_site : (A : Type 0) → ObjectSite A
long_site A =
    record {
      instance_of = λ x. cond (same_station x device) (Some 10) None;
      opening = λ x. opening_table (long_objects {A = A});
    }

abbrev pub long_begun : (A : Type 0) → AllStations A
long_begun A =
    record {
      core = start (bacnet A) (long_site A);
      clients = new_client client true UpTo50 ∷ [];
      devices = new_device long_objects device ∷ [];
    }

-- the request
abbrev pub long_request : (A : Type 0) → Apdu
long_request A = apdu.ConfirmedRequest None true SixtyFour UpTo50 0 12
    (record { ref_ptr = (0, 0); now = request_octets (reads_name {A = A}) })

abbrev pub long_asks : (A : Type 0) → ℕ → Message Station
long_asks A t =
    record { from = client; to = Unicast device; body = body_of UpTo1476 (apdu_of (long_request A)); stamp = t }

-- the reply, and its octets in pieces of 45
abbrev pub long_read : (A : Type 0) → Reply A
long_read A = reply (opening_table (long_objects {A = A})) reads_name

abbrev pub part : (A : Type 0) → ℕ → List ℕ
part A n = take 45 (drop (n * 45) (canonical_reply (reads_name {A = A}) (long_read A)))

-- a segment of the answer
abbrev pub part_answer : (A : Type 0) → ℕ → Bool → Apdu
part_answer A n more = apdu.ComplexAck (Some (record { more_follows = more; sequence_number = n; window = 4 })) 0 12
    (record { ref_ptr = (0, 0); now = part A n })

abbrev pub part_tells : (A : Type 0) → ℕ → Bool → ℕ → Message Station
part_tells A n more t =
    record { from = device; to = Unicast client; body = Tells_piece 0 n more (part A n); stamp = t }

-- the SegmentACK of the first segment
abbrev pub first_ack : Apdu
first_ack = apdu.SegmentAck false false 0 0 4

abbrev pub acks : ℕ → Message Station
acks t = record { from = client; to = Unicast device; body = Other; stamp = t }

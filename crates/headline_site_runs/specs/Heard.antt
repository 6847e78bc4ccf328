-- What is said and heard at the small site: the request whole, and its answer.
use Rattle.std.specs.Prelude.{ℕ, List, true, None}
use Rattle.apdu.specs.Apdu.{apdu_of}
use Rattle.apdu.specs.declared.apdu.Apdu.{Apdu}
use Rattle.apdu.specs.declared.apdu.Apdu.TheVariants as apdu
use Rattle.apdu.specs.declared.sizes.MaxApdu.TheVariants.{UpTo1476}
use Rattle.apdu.specs.declared.sizes.MaxSegments.TheVariants.{SixtyFour}
use Rattle.history.specs.Book.{Complex, Message, Tells, Unicast}
use Rattle.npdu.specs.declared.mac.Station.{Station}
use Rattle.headline_bacnet.specs.Bodies.{body_of}
use Rattle.objects.specs.Machine.{reply}
use Rattle.object_model.specs.Site.{opening_table}
use Rattle.primitives.specs.declared.plain_data.Reply.{Reply}
use Rattle.services.specs.Asked.{request_octets}
use Rattle.services.specs.CanonicalReply.{canonical_reply}
use Rattle.headline_site_runs.specs.Small.{client, device, objects, reads_name}

-- the request in an APDU
abbrev pub request : (A : Type 0) → Apdu
request A = apdu.ConfirmedRequest None true SixtyFour UpTo1476 0 12
    (record { ref_ptr = (0, 0); now = request_octets (reads_name {A = A}) })

-- the message that asks, said at a moment
abbrev pub asks : (A : Type 0) → ℕ → Message Station
asks A t = record { from = client; to = Unicast device; body = body_of UpTo1476 (apdu_of (request A)); stamp = t }

-- the reply, and its octets
abbrev pub name_read : (A : Type 0) → Reply A
name_read A = reply (opening_table (objects {A = A})) reads_name

abbrev pub name_octets : (A : Type 0) → List ℕ
name_octets A = canonical_reply (reads_name {A = A}) (name_read A)

-- the answer in an APDU
abbrev pub answer : (A : Type 0) → Apdu
answer A = apdu.ComplexAck None 0 12 (record { ref_ptr = (0, 0); now = name_octets A })

-- the message that tells, said at a moment
abbrev pub tells : (A : Type 0) → ℕ → Message Station
tells A t = record { from = device; to = Unicast client; body = Tells 0 (Complex (name_octets A)); stamp = t }

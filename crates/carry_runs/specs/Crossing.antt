-- A client on network 2, a device on network 1, and a router between them: what is said, and what the router makes of
-- the request.
use Rattle.std.specs.Prelude.{◌≡◌, ℕ, List, [], ◌∷◌, true, Some, None}
use Rattle.apdu.specs.Apdu.{PlainApdu, complex_ack, confirmed, unconfirmed}
use Rattle.apdu.specs.ApduWriting.{canonical}
use Rattle.apdu.specs.Sizes.{apdu_code}
use Rattle.apdu.specs.Unconfirmed.{i_am_octets, service_number}
use Rattle.apdu.specs.declared.sizes.MaxApdu.TheVariants.{UpTo1476}
use Rattle.apdu.specs.declared.sizes.MaxSegments.TheVariants.{SixtyFour}
use Rattle.apdu.specs.declared.unconfirmed.UnconfirmedService.TheVariants.{IAm, WhoIs}
use Rattle.bvll.specs.Datagram.{unicast}
use Rattle.carry.specs.Ports.{datagram_to}
use Rattle.carry.specs.Things.{Thing}
use Rattle.carry_answered.specs.Answered.{Exchange}
use Rattle.carry_world.specs.Laws.{IsFresh}
use Rattle.carry_world.specs.PlainSteps.{StepsTo}
use Rattle.carry_world.specs.PlainWorld.{PlainWorld}
use Rattle.client.specs.Client.{new_client}
use Rattle.device.specs.Device.{new_device}
use Rattle.headline_site_runs.specs.Heard.{name_octets, name_read}
use Rattle.headline_site_runs.specs.Small.{device, i_am, objects, reads_name, site}
use Rattle.history.specs.Lists.{Has}
use Rattle.history.specs.declared.Entry.TheVariants.{Answered, Executed, Issue}
use Rattle.inside.specs.Inside.{Said}
use Rattle.inside.specs.declared.reach.Reach.{Reach}
use Rattle.inside.specs.declared.reach.Reach.TheVariants as reach
use Rattle.npdu.specs.Header.{Header}
use Rattle.npdu.specs.Header as network
use Rattle.npdu.specs.Mac.{mac_octets}
use Rattle.npdu.specs.declared.mac.Mac.{Mac}
use Rattle.npdu.specs.declared.mac.Mac.TheVariants.{Six}
use Rattle.npdu.specs.declared.mac.Station.{Station}
use Rattle.npdu.specs.declared.mac.Target.TheVariants.{One}
use Rattle.npdu.specs.declared.parcel.Parcel.{Parcel}
use Rattle.npdu.specs.declared.priority.Priority.TheVariants.{Normal}
use Rattle.services.specs.Asked.{request_octets}

-- the client, and the router's ports on its network and on the device's
abbrev pub asker : Station
asker = record { net = 2; mac = Six (127 ∷ 0 ∷ 0 ∷ 1 ∷ 186 ∷ 194 ∷ []) }

abbrev pub near : Mac
near = Six (127 ∷ 0 ∷ 0 ∷ 1 ∷ 186 ∷ 210 ∷ [])

abbrev pub far : Mac
far = Six (127 ∷ 0 ∷ 0 ∷ 1 ∷ 186 ∷ 211 ∷ [])

-- nothing has happened to a client at this station and to the device
abbrev pub begun : (A : Type 0) → Station → PlainWorld A
begun A station =
    record {
      moment = 0;
      clients = new_client station true UpTo1476 ∷ [];
      devices = new_device objects device ∷ [];
      keys = [];
      history = [];
      things = [];
      said = [];
    }

-- the APDUs: who is there, I am, the request, and its answer
abbrev pub who_is_apdu : PlainApdu
who_is_apdu = unconfirmed (service_number WhoIs) []

abbrev pub i_am_apdu : PlainApdu
i_am_apdu = unconfirmed (service_number IAm) (i_am_octets i_am)

abbrev pub request_apdu : (A : Type 0) → PlainApdu
request_apdu A = confirmed None true SixtyFour (apdu_code UpTo1476) 0 12 (request_octets (reads_name {A = A}))

abbrev pub answer_apdu : (A : Type 0) → PlainApdu
answer_apdu A = complex_ack None 0 12 (name_octets A)

-- what a station said at 0
abbrev pub said_by : Station → Reach → PlainApdu → Said
said_by from to apdu = record { inside = record { source = from; reach = to; apdu = canonical apdu }; stamp = 0 }

-- all that was said in the run, in order
abbrev pub all_said : (A : Type 0) → List Said
all_said A =
    said_by asker reach.All who_is_apdu ∷ said_by device reach.All i_am_apdu ∷
    said_by asker (reach.One device) (request_apdu A) ∷ said_by device (reach.One asker) (answer_apdu A) ∷ []

-- the header of the request behind the router, with this network in SNET, and the client in SADR (6.5.2)
abbrev pub header_from : (A : Type 0) → ℕ → Header
header_from A net =
    record {
      expects_reply = true;
      priority = Normal;
      destination = None;
      source = Some (record { net = net; mac = mac_octets asker.mac });
      message = None;
      body = canonical (request_apdu A);
    }

-- the request so, in a parcel to the device and in a datagram on its network
abbrev pub request_from : (A : Type 0) → ℕ → Parcel A
request_from A net =
    record { from = far; to = One device.mac; npdu = network.canonical (header_from A net); stamp = 0 }

abbrev pub datagram_from : (A : Type 0) → ℕ → Thing A
datagram_from A net = datagram_to 1 (request_from A net) device.mac (unicast (request_from A net).npdu)

-- steps lead from a fresh world to one in which the request crossed the router, under the client's network in SNET, was
-- executed once, and is answered
pub record IsAnswered (A : Type 0) : Type 0 where
  pub fresh : IsFresh (site A) (begun A asker)
  pub world : PlainWorld A
  pub steps : StepsTo (site A) (begun A asker) world
  pub said : world.said ≡ all_said A
  pub crossed : Has world.things (datagram_from A asker.net)
  pub history : world.history ≡
      Issue 0 asker 10 reads_name 0 ∷ Executed 0 (name_read A) 0 ∷ Answered 0 (name_read A) 0 ∷ []

-- steps lead from a fresh world to one from which an exchange goes on in which nothing is lost, over the router
pub record HasExchange (A : Type 0) : Type 0 where
  pub before : PlainWorld A
  pub steps : StepsTo (site A) (begun A asker) before
  pub after : PlainWorld A
  pub exchange : Exchange before after

-- no steps lead to a world in which the same was said, and the request lies there with the outgoing network in SNET
abbrev pub NoneMisnames : Type 0 → Type 0
NoneMisnames A = (w : PlainWorld A) → StepsTo (site A) (begun A asker) w → w.said ≡ all_said A →
    Has w.things (datagram_from A 1) → ⊥

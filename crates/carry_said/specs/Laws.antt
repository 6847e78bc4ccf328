-- Laws of what parcels carry: what stations say is said, and what is heard of it was said to who hears it.
use Rattle.std.specs.Prelude.{◌≡◌, ◌≤◌, ◌+◌, ℕ, List, [], ◌∷◌, Option}
use Rattle.std.specs.List.{AllByRecursion}
use Rattle.apdu.specs.Apdu.{PlainApdu}
use Rattle.apdu.specs.declared.sizes.MaxApdu.{MaxApdu}
use Rattle.apdu.specs.declared.unconfirmed.Limits.{Limits}
use Rattle.headline_site.specs.client.Client.{ClientState}
use Rattle.headline_site.specs.client.Hearing.{ClientHears}
use Rattle.headline_site.specs.client.Saying as client
use Rattle.headline_site.specs.client.ClientTold.{ClientTold}
use Rattle.headline_site.specs.client_tsm.declared.plan.TransactionOutcome.{TransactionOutcome}
use Rattle.headline_site.specs.client_tsm.declared.said.ClientSaid.{ClientSaid}
use Rattle.headline_site.specs.device.Device.{DeviceState}
use Rattle.headline_site.specs.device.Hearing.{DeviceHears}
use Rattle.headline_site.specs.device.DeviceTold.{DeviceTold}
use Rattle.headline.specs.Happenings as core
use Rattle.headline.specs.Promised.{StaysSaid}
use Rattle.headline.specs.Stations.{Client}
use Rattle.headline_site.specs.headline_bacnet.Network.{BringsWhatWasSaid}
use Rattle.headline_site.specs.headline_bacnet.Refined.{ObjectCore}
use Rattle.headline_site.specs.headline_client.Laws.{CanWrite}
use Rattle.headline_site.specs.headline_client.Safe as clients
use Rattle.headline_site.specs.headline_client.Told.{acts, issues}
use Rattle.headline_site.specs.headline_device.Devices as devices
use Rattle.headline_site.specs.headline_device.Devices.{Deed, after_deed, told_of_deed}
use Rattle.headline_site.specs.headline_device.Devices.{HasNumbers}
use Rattle.history.specs.Book.{Broadcast, Issued, Other}
use Rattle.history.specs.Lists.{Has}
use Rattle.inside.specs.Inside.{Inside, Reaches, Said}
use Rattle.npdu.specs.declared.mac.Mac.{Mac}
use Rattle.npdu.specs.declared.mac.Station.{Station}
use Rattle.npdu.specs.declared.mac.Target.{Target}
use Rattle.npdu.specs.declared.parcel.Parcel.{Parcel}
use Rattle.primitives.specs.declared.plain_data.Request.{Request}
use Rattle.profile.specs.Times.{LIFE_MS}
use Rattle.unitdata.specs.Hearing.{Brings, Heard, says}
use Rattle.carry_said.specs.Said.{CarriesSaid, IsAmong, IsSaid, IsSaying, IsSayingEach, ObjectBook, WasSaid}

-- what was said stays said, whatever is said later
abbrev pub SaidStill : Type 0 → Type 0
SaidStill A = (own : Station → MaxApdu) (b later : ObjectBook A) (i : Inside) (stamp : ℕ) → StaysSaid b later →
    IsSaid own b i stamp → IsSaid own later i stamp

-- what a device hears of a parcel that reaches it, within a second, was said to it: all that is asked of the network
abbrev pub DeviceHearsSaid : Type 0 → Type 0
DeviceHearsSaid A = (own : Station → MaxApdu) (w : ObjectCore A) (d : DeviceState A) (p : Parcel A) →
    CarriesSaid own w.book d.net p → Reaches p.to d.mac → w.book.moment ≤ p.stamp + LIFE_MS →
    own (devices.station_of d) ≡ d.server.max_apdu →
    BringsWhatWasSaid d.server.max_apdu w.book (devices.station_of d) p.from p.to p.npdu

-- so is what a client hears
abbrev pub ClientHearsSaid : Type 0 → Type 0
ClientHearsSaid A = (own : Station → MaxApdu) (b : ObjectBook A) (c : ClientState A) (p : Parcel A) →
    CarriesSaid own b c.net p → Reaches p.to c.mac → b.moment ≤ p.stamp + LIFE_MS →
    BringsWhatWasSaid (own (clients.station_of c)) b (clients.station_of c) p.from p.to p.npdu

-- the parcels of a device carry what it says (5.4.5, 16.10.2)
abbrev pub DeviceSaysSaid : Type 0 → Type 0
DeviceSaysSaid A = (own : Station → MaxApdu) (w : ObjectCore A) (d : DeviceState A) (deed : Deed A) (p : Parcel A) →
    HasNumbers d → Has (told_of_deed w.book.moment d deed).said p →
    CarriesSaid own (after_deed d deed w).book d.net p

-- so do those of a client, where it hears or wakes (5.4.4)
abbrev pub ClientSaysSaid : Type 0 → Type 0
ClientSaysSaid A = (own : Station → MaxApdu) (w : ObjectCore A) (c : ClientState A) (says : List (ClientSaid A))
    (tells : List (TransactionOutcome A)) (next : Client Station (Request A)) (p : Parcel A) →
    AllByRecursion CanWrite says → Has (client.parcels_of w.book.moment c.mac says) p →
    CarriesSaid own (acts own (clients.station_of c) says tells next w).book c.net p

-- where it issues a request (5.4.4.1)
abbrev pub ClientIssuesSaid : Type 0 → Type 0
ClientIssuesSaid A = (own : Station → MaxApdu) (w : ObjectCore A) (c : ClientState A)
    (row : Issued Station (Request A)) (says : List (ClientSaid A)) (next : Client Station (Request A)) (p : Parcel A) →
    AllByRecursion CanWrite says → Has (client.parcels_of w.book.moment c.mac says) p →
    CarriesSaid own (issues own (clients.station_of c) row says next w).book c.net p

-- and where it asks who is there (16.10.1)
abbrev pub ClientAsksSaid : Type 0 → Type 0
ClientAsksSaid A = (own : Station → MaxApdu) (w : ObjectCore A) (c : ClientState A) (limits : Option Limits) →
    CarriesSaid own (core.says (clients.station_of c) Broadcast (Other ∷ []) w).book c.net
    (client.who_is_parcel w.book.moment c.mac limits)

-- what a station hears of a parcel whose inside is among what was said was said so
abbrev pub HeardWasSaid : Type 0 → Type 0
HeardWasSaid A = (l : List Said) (net : ℕ) (p : Parcel A) (h : Heard) (a : PlainApdu) → IsAmong l net p →
    Brings net p.from p.to p.npdu h → h.content ≡ says a → WasSaid l net p h a

-- a device says something in each of its parcels, whatever it does
abbrev pub DeviceSaysSomething : Type 0 → Type 0
DeviceSaysSomething A = (now : ℕ) (d : DeviceState A) (deed : Deed A) (p : Parcel A) →
    Has (told_of_deed now d deed).said p → IsSaying (devices.station_of d) now p

-- a client says something in each of its parcels
abbrev pub ClientSaysSomething : Type 0 → Type 0
ClientSaysSomething A = (now : ℕ) (c : ClientState A) (says : List (ClientSaid A)) (p : Parcel A) →
    Has (client.parcels_of now c.mac says) p → IsSaying (clients.station_of c) now p

-- it says something in a Who-Is
abbrev pub WhoIsSaysSomething : Type 0 → Type 0
WhoIsSaysSomething A = (now : ℕ) (c : ClientState A) (limits : Option Limits) →
    IsSaying {A = A} (clients.station_of c) now (client.who_is_parcel now c.mac limits)

-- a device says something in each parcel where it hears something
abbrev pub DeviceHearingSays : Type 0 → Type 0
DeviceHearingSays A = (now : ℕ) (from : Mac) (to : Target) (npdu : List ℕ) (d left : DeviceState A)
    (told : DeviceTold A) → DeviceHears now from to npdu d told left →
    IsSayingEach (devices.station_of d) now told.said

-- so does a client
abbrev pub ClientHearingSays : Type 0 → Type 0
ClientHearingSays A = (now : ℕ) (from : Mac) (to : Target) (npdu : List ℕ) (c next : ClientState A)
    (told : ClientTold A) → ClientHears now from to npdu c told next →
    IsSayingEach (clients.station_of c) now told.said

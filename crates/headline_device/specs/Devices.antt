-- What a step of a device is among all stations: a step of its server, an I-Am, or nothing.
use Rattle.std.proofs.Common.{inl, inr}
use Rattle.std.specs.Prelude.{◌≡◌, ◌≢◌, ◌<◌, ◌^◌, ℕ, List, [], ◌∷◌, Some}
use Rattle.apdu.specs.Apdu.{abort_pdu, complex_ack, confirmed, error_pdu, reject_pdu, segment_ack, simple_ack}
use Rattle.apdu.specs.Apdu.{unconfirmed}
use Rattle.device.specs.Device.{DeviceState, new_device, restarts}
use Rattle.device.specs.Hearing.{AnswersWho, DeviceHears, Does, origin_of, says_who, silence}
use Rattle.device.specs.Saying.{told_of}
use Rattle.device.specs.DeviceTold.{DeviceTold}
use Rattle.headline.specs.Happenings as core
use Rattle.history.specs.Book.{Broadcast, I_am}
use Rattle.npdu.specs.declared.mac.Mac.{Mac}
use Rattle.npdu.specs.declared.mac.Station.{Station}
use Rattle.npdu.specs.declared.mac.Target.{Target}
use Rattle.headline_server.specs.headline_bacnet.Network.{BringsWhatWasSaid}
use Rattle.headline_server.specs.headline_bacnet.Protocol.{bacnet}
use Rattle.headline_server.specs.headline_bacnet.Refined.{ObjectSite, Refined, ObjectCore}
use Rattle.object_model.specs.Objects.{PlainTable}
use Rattle.object_model.specs.Site.{opening_table}
use Rattle.object_model.specs.declared.site.SiteObjects.{SiteObjects}
use Rattle.headline_server.specs.Laws.{IsServed}
use Rattle.headline_server.specs.Refines.{begun_anew, served}
use Rattle.headline_server.specs.server_tsm.Server.{ServerTsmState, committed}
use Rattle.headline_server.specs.server_tsm.Steps.{told_of_plan}
use Rattle.headline_server.specs.server_tsm.Waking.{woken}
use Rattle.headline_server.specs.server_answers.declared.asked.Origin.{Origin}
use Rattle.headline_server.specs.server_answers.ServerTold.{ServerTold}
use Rattle.unitdata.specs.Hearing.{HeardContent, refuses, says}

-- the station that a device is (6.1)
abbrev pub station_of : {A : Type 0} → DeviceState A → Station
station_of device = record { net = device.net; mac = device.mac }

-- the device is one of the site, and stands among all stations as its server is
pub record IsDevice {A : Type 0} (s : ObjectSite A) (w : ObjectCore A) (device : DeviceState A) :
    Type 0 where
  pub instance : s.instance_of (station_of device) ≡ Some device.instance
  pub served : IsServed w (station_of device) device.server

-- what a device does: a step of its server, an I-Am (16.10.3), or nothing
pub data Deed (A : Type 0) : Type 0 where
  serves : (server_told : ServerTold A) (left : ServerTsmState A) → Deed A
  announces : Deed A
  idles : Deed A

-- what it says in parcels, and executes
abbrev pub told_of_deed : {A : Type 0} → ℕ → DeviceState A → Deed A → DeviceTold A
told_of_deed now device (serves server_told left) = told_of now device.mac server_told
told_of_deed now device announces = says_who now device
told_of_deed now device idles = silence

-- what it is then
abbrev pub left_of_deed : {A : Type 0} → DeviceState A → Deed A → DeviceState A
left_of_deed device (serves server_told left) = record device { server = left }
left_of_deed device announces = device
left_of_deed device idles = device

-- all stations after it
abbrev pub after_deed : {A : Type 0} → DeviceState A → Deed A → ObjectCore A → ObjectCore A
after_deed device (serves server_told left) w = served (station_of device) server_told left w
after_deed device announces w = core.says (station_of device) Broadcast (I_am device.instance ∷ []) w
after_deed device idles w = w

-- what is told and left of a device is that of this deed, which is honest; the device stands as before
pub record IsDone {A : Type 0} (s : ObjectSite A) (w : ObjectCore A) (device : DeviceState A) (deed : Deed A)
    (told : DeviceTold A) (left : DeviceState A) : Type 0 where
  pub told_is : told ≡ told_of_deed w.book.moment device deed
  pub left_is : left ≡ left_of_deed device deed
  pub refined : Refined s w (after_deed device deed w)
  pub stands : IsDevice s (after_deed device deed w) (left_of_deed device deed)

-- what a device does on an unconfirmed request: an I-Am on a Who-Is for it, else nothing (16.10.2)
abbrev pub deed_on_asking : {A : Type 0} (now : ℕ) (device : DeviceState A) (service : ℕ) (octets : List ℕ)
    (told : DeviceTold A) → AnswersWho now device service octets told → Deed A
deed_on_asking now device service octets told (inl asks) = announces
deed_on_asking now device service octets told (inr other) = idles

-- what it does on a message: on an APDU that is no unconfirmed request, a step of its server
abbrev pub deed_on : {A : Type 0} (now : ℕ) (from : Origin) (c : HeardContent)
    (device : DeviceState A) (told : DeviceTold A)
    (left : DeviceState A) → Does now from c device told left → Deed A
deed_on now from (says (unconfirmed service octets)) device told left does =
    deed_on_asking now device service octets told does.0
deed_on now from (says (confirmed segment accepted max_segments max_apdu invoke service octets)) device told left does =
    serves does.server_told does.left
deed_on now from (says (simple_ack invoke service)) device told left does = serves does.server_told does.left
deed_on now from (says (complex_ack segment invoke service octets)) device told left does =
    serves does.server_told does.left
deed_on now from (says (segment_ack negative server invoke number window)) device told left does =
    serves does.server_told does.left
deed_on now from (says (error_pdu invoke service class code first)) device told left does =
    serves does.server_told does.left
deed_on now from (says (reject_pdu invoke reason)) device told left does = serves does.server_told does.left
deed_on now from (says (abort_pdu server invoke reason)) device told left does = serves does.server_told does.left
deed_on now from (refuses rejected) device told left does = idles

-- what it does where an NPDU comes: on the message that it brings, if it brings one
abbrev pub deed_in : {A : Type 0} (now : ℕ) (from : Mac) (to : Target) (npdu : List ℕ) (device : DeviceState A)
    (told : DeviceTold A) (left : DeviceState A) → DeviceHears now from to npdu device told left → Deed A
deed_in now from to npdu device told left (inl h) =
    deed_on now (origin_of h.heard) h.heard.content device told left h.does
deed_in now from to npdu device told left (inr drops) = idles

-- the instance and the vendor of a device have the bits that the standard gives them (12.11, 20.2.14)
pub record HasNumbers {A : Type 0} (device : DeviceState A) : Type 0 where
  pub instance : device.instance < 2 ^ 22
  pub vendor : device.vendor < 2 ^ 32

-- one device, at two moments: its instance, vendor, station and the longest APDU that it takes (12.11)
pub record IsItself {A : Type 0} (device left : DeviceState A) : Type 0 where
  pub instance : left.instance ≡ device.instance
  pub vendor : left.vendor ≡ device.vendor
  pub station : station_of left ≡ station_of device
  pub size : left.server.max_apdu ≡ device.server.max_apdu

-- where an NPDU comes, a device stays itself (12.11)
abbrev pub StaysItselfHearing : Type 0 → Type 0
StaysItselfHearing A = (now : ℕ) (from : Mac) (to : Target) (npdu : List ℕ) (device left : DeviceState A)
    (told : DeviceTold A) → DeviceHears now from to npdu device told left → IsItself device left

-- where it wakes (12.11)
abbrev pub StaysItselfWaking : Type 0 → Type 0
StaysItselfWaking A = (now : ℕ) (device : DeviceState A) →
    IsItself device (record device { server = committed now (woken now device.server.records).change device.server })

-- where it restarts (12.11)
abbrev pub StaysItselfRestarting : Type 0 → Type 0
StaysItselfRestarting A = (now : ℕ) (table : PlainTable A) (device : DeviceState A) →
    IsItself device (restarts now table device)

-- what a device does where an NPDU comes is honest (5.4.5, 16.10.2)
abbrev pub HearingIsDone : Type 0 → Type 0
HearingIsDone A = (s : ObjectSite A) (w : ObjectCore A) (device left : DeviceState A) (from : Mac)
    (to : Target) (npdu : List ℕ) (told : DeviceTold A) → IsDevice s w device →
    BringsWhatWasSaid device.server.max_apdu w.book (station_of device) from to npdu →
    (h : DeviceHears w.book.moment from to npdu device told left) →
    IsDone s w device (deed_in w.book.moment from to npdu device told left h) told left

-- what a device does when it wakes is honest (5.4.5)
abbrev pub WakingIsDone : Type 0 → Type 0
WakingIsDone A = (s : ObjectSite A) (w : ObjectCore A) (device : DeviceState A) → IsDevice s w device →
    let plan = woken w.book.moment device.server.records in
    let left = committed w.book.moment plan.change device.server in
    IsDone s w device (serves (told_of_plan plan) left) (told_of w.book.moment device.mac (told_of_plan plan))
    (record device { server = left })

-- a restart of a device, with the opening objects of its station, is honest, and it stands as before
pub record IsBegunAnew {A : Type 0} (s : ObjectSite A) (w : ObjectCore A) (device left : DeviceState A) :
    Type 0 where
  pub refined : Refined s w (begun_anew (station_of device) device.instance left.server w)
  pub stands : IsDevice s (begun_anew (station_of device) device.instance left.server w) left

-- a restart of a device is honest, whenever it is, and it stands as before
abbrev pub RestartIsDone : Type 0 → Type 0
RestartIsDone A = (s : ObjectSite A) (w : ObjectCore A) (device : DeviceState A) → IsDevice s w device →
    IsBegunAnew s w device (restarts w.book.moment (s.opening (station_of device)) device)

-- each other device stands as before
abbrev pub OthersStand : Type 0 → Type 0
OthersStand A = (s : ObjectSite A) (w : ObjectCore A) (device other : DeviceState A) (deed : Deed A) →
    station_of other ≢ station_of device → IsDevice s w other → IsDevice s (after_deed device deed w) other

-- a device with the opening objects of its station stands among all stations at the start
abbrev pub OpensAtStart : Type 0 → Type 0
OpensAtStart A = (s : ObjectSite A) (objects : SiteObjects A) (address : Station) →
    s.instance_of address ≡ Some objects.instance → s.opening address ≡ opening_table objects →
    IsDevice s (core.start (bacnet A) s) (new_device objects address)

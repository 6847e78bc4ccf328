-- Each step of a device is an honest deed.
use Rattle.std.proofs.Common.{◌≡◌, ◌≢◌, ◌∙◌, inl, inr, refl, sym, ap, subst, ℕ, List, [], arith}
use Rattle.apdu.specs.Apdu.{PlainApdu, abort_pdu, complex_ack, confirmed, error_pdu, reject_pdu, segment_ack, simple_ack, unconfirmed}
use Rattle.device.specs.Device.{DeviceState}
use Rattle.device.specs.Hearing.{AnswersWho, Does, Hears, Serves, origin_of, says_who, silence}
use Rattle.device.specs.DeviceTold.{DeviceTold}
use Rattle.headline.specs.Protocol.{Site}
use Rattle.npdu.specs.declared.mac.Mac.{Mac}
use Rattle.npdu.specs.declared.mac.Station.{Station}
use Rattle.npdu.specs.declared.mac.Target.{Target}
use Rattle.headline_server.specs.headline_bacnet.Bodies.{Says, led_to}
use Rattle.headline_server.proofs.headline_bacnet.Places.{led_back, put_other}
use Rattle.object_model.specs.Objects.{PlainTable}
use Rattle.headline_server.proofs.Executing.{step_keeps, step_refines}
use Rattle.headline_server.proofs.Staying.{same_moment}
use Rattle.headline_server.proofs.Waking.{announce_refines, restart_keeps, restart_refines, wake_keeps, wake_refines}
use Rattle.headline_device.specs.Devices.{HearingIsDone, IsDevice, IsDone, OpensAtStart, OthersStand, RestartIsDone, WakingIsDone, announces, deed_on}
use Rattle.headline_device.specs.Devices.{deed_on_asking, idles, serves, station_of}
use Rattle.headline_server.specs.Laws.{IsHeardFrom, IsServed}
use Rattle.headline_server.specs.headline_bacnet.Network.{BringsWhatWasSaid, WasSaid}
use Rattle.headline_server.specs.headline_bacnet.Refined.{ObjectCore}
use Rattle.headline_server.specs.Refines.{served}
use Rattle.headline_server.specs.Safe.{safe_device}
use Rattle.headline_server.proofs.server_tsm.Kept.{kept_none}
use Rattle.headline_server.specs.server_tsm.Server.{ServerTsmState}
use Rattle.headline_server.specs.server_tsm.Waking.{woken}
use Rattle.headline_server.specs.server_answers.ServerTold.{ServerTold}
use Rattle.unitdata.specs.Hearing.{Brings, HeardContent, Heard, destination_if, refuses, way_to}
use Rattle.unitdata.specs.Hearing as content

module _ {A : Type 0} (s : Site Station (PlainTable A)) (w : ObjectCore A) (device : DeviceState A) (v : IsDevice s w device) where
  -- nothing is done
  idle_done : (told : DeviceTold A) (left : DeviceState A) → told ≡ silence → left ≡ device → IsDone s w device idles told left
  idle_done told left t l = record {
    told_is = t;
    left_is = l;
    refined = record { happenings = []; honest = tt; same = refl };
    stands = v;
  }

  -- an I-Am is said
  announce_done : (told : DeviceTold A) (left : DeviceState A) → told ≡ says_who w.book.moment device → left ≡ device → IsDone s w device announces told left
  announce_done told left t l = record {
    told_is = t;
    left_is = l;
    refined = announce_refines s w (station_of device) device.instance v.instance;
    stands = record { instance = v.instance; served = record { device = v.served.device; well = v.served.well; order = v.served.order } };
  }

  -- its server makes a step
  serve_done : (h : Heard) (plain : PlainApdu) (told : DeviceTold A) (left : DeviceState A) → led_to device.net h.way ≡ h.station →
      WasSaid device.server.max_apdu w.book (station_of device) h.station plain → (serve : Serves w.book.moment (origin_of h) plain device told left) →
      IsDone s w device (serves serve.server_told serve.left) told left
  serve_done h plain told left way said serve =
      let heard : IsHeardFrom w (station_of device) device.server.max_apdu (origin_of h) serve.apdu = record {
        message = said.message;
        heard = said.heard;
        sayer = said.from_is;
        says = subst (λ (z : PlainApdu). Says device.server.max_apdu z said.message.body) (sym serve.is) said.body;
        named = serve.named;
        way = way;
      } in
      record {
        told_is = serve.told_is;
        left_is = serve.new_is;
        refined = step_refines s w (station_of device) device.server serve.left (origin_of h) serve.apdu serve.server_told v.served heard serve.step;
        stands = record {
          instance = v.instance;
          served = step_keeps w (station_of device) device.server serve.left (origin_of h) serve.apdu serve.server_told v.served heard serve.step;
        };
      }

  -- what it does on an APDU, or where one of its own came back
  asking_done : (service : ℕ) (octets : List ℕ) (told : DeviceTold A) (left : DeviceState A) → left ≡ device →
      (o : AnswersWho w.book.moment device service octets told) → IsDone s w device (deed_on_asking w.book.moment device service octets told o) told left
  asking_done service octets told left same (inl asks) = announce_done told left asks.1 same
  asking_done service octets told left same (inr other) = idle_done told left other.1 same

  said_done : (h : Heard) (plain : PlainApdu) (told : DeviceTold A) (left : DeviceState A) → led_to device.net h.way ≡ h.station →
      WasSaid device.server.max_apdu w.book (station_of device) h.station plain →
      (does : Does w.book.moment (origin_of h) (content.says plain) device told left) →
      IsDone s w device (deed_on w.book.moment (origin_of h) (content.says plain) device told left does) told left
  said_done h (unconfirmed service octets) told left way said does = asking_done service octets told left does.1 does.0
  said_done h (confirmed segment accepted segments size invoke service octets) told left way said does =
      serve_done h (confirmed segment accepted segments size invoke service octets) told left way said does
  said_done h (simple_ack invoke service) told left way said does = serve_done h (simple_ack invoke service) told left way said does
  said_done h (complex_ack segment invoke service octets) told left way said does =
      serve_done h (complex_ack segment invoke service octets) told left way said does
  said_done h (segment_ack negative server invoke number window) told left way said does =
      serve_done h (segment_ack negative server invoke number window) told left way said does
  said_done h (error_pdu invoke service class code first) told left way said does =
      serve_done h (error_pdu invoke service class code first) told left way said does
  said_done h (reject_pdu invoke reason) told left way said does = serve_done h (reject_pdu invoke reason) told left way said does
  said_done h (abort_pdu server invoke reason) told left way said does = serve_done h (abort_pdu server invoke reason) told left way said does

  content_done : (h : Heard) (told : DeviceTold A) (left : DeviceState A) (c : HeardContent) →
      ((a : PlainApdu) → c ≡ content.says a → WasSaid device.server.max_apdu w.book (station_of device) h.station a) → led_to device.net h.way ≡ h.station →
      (does : Does w.book.moment (origin_of h) c device told left) → IsDone s w device (deed_on w.book.moment (origin_of h) c device told left does) told left
  content_done h told left (content.says a) said way does = said_done h a told left way (said a refl) does
  content_done h told left (refuses rejected) said way does = idle_done told left does.0 does.1

  hears_done : (from : Mac) (to : Target) (npdu : List ℕ) (told : DeviceTold A) (left : DeviceState A) →
      BringsWhatWasSaid device.server.max_apdu w.book (station_of device) from to npdu → (h : Hears w.book.moment from to npdu device told left) →
      IsDone s w device (deed_on w.book.moment (origin_of h.heard) h.heard.content device told left h.does) told left
  hears_done from to npdu told left said h =
      content_done h.heard told left h.heard.content (λ a e. said h.heard a h.brings e)
      (ap (led_to device.net) h.brings.way ∙ led_back device.net from h.heard.station) h.does

pub hearing_is_done : {A : Type 0} → HearingIsDone A
hearing_is_done s w device left from to npdu told v said (inl hears) = hears_done s w device v from to npdu told left said hears
hearing_is_done s w device left from to npdu told v said (inr drops) = idle_done s w device v told left drops.silent drops.same

pub waking_is_done : {A : Type 0} → WakingIsDone A
waking_is_done s w device v =
    let plan = woken w.book.moment device.server.records in
    record {
      told_is = refl;
      left_is = refl;
      refined = wake_refines s w (station_of device) device.server v.served;
      stands = record { instance = v.instance; served = wake_keeps w (station_of device) device.server v.served };
    }

pub restart_is_done : {A : Type 0} → RestartIsDone A
restart_is_done s w device v = record {
  refined = restart_refines s w (station_of device) device.instance device.server v.instance;
  stands = record {
    instance = v.instance;
    served = restart_keeps w (station_of device) device.instance (s.opening (station_of device)) device.server;
  };
}

-- the others
other_served : {A : Type 0} (w : ObjectCore A) (d x : Station) (server_told : ServerTold A) (left st : ServerTsmState A) → x ≢ d → IsServed w x st →
    IsServed (served d server_told left w) x st
other_served w d x server_told left st apart v = record {
  device = put_other w.devices d x (safe_device left) apart ∙ v.device;
  well = v.well;
  order = let same = same_moment w d server_told in let order = v.order in omega arith;
}

pub others_stand : {A : Type 0} → OthersStand A
others_stand s w device other (serves server_told left) apart v =
    record { instance = v.instance; served = other_served w (station_of device) (station_of other) server_told left other.server apart v.served }
others_stand s w device other announces apart v =
    record { instance = v.instance; served = record { device = v.served.device; well = v.served.well; order = v.served.order } }
others_stand s w device other idles apart v = v

pub opens_at_start : {A : Type 0} → OpensAtStart A
opens_at_start {A} s objects address instance opening = record {
  instance = instance;
  served = record {
    device = ap (λ (t : PlainTable A). record { records = []; gatherings = []; table = t; deaf_until = 0 }) opening;
    well = record { sayable = tt; kept = kept_none 0 };
    order = omega arith;
  };
}

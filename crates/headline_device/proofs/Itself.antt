-- A device stays itself.
use Rattle.std.proofs.Common.{◌≡◌, inl, inr, refl, sym, ap, subst, ◌∙◌, ℕ, List}
use Rattle.apdu.specs.Apdu.{PlainApdu, abort_pdu, complex_ack, confirmed, error_pdu, reject_pdu, segment_ack, simple_ack, unconfirmed}
use Rattle.device.specs.Device.{DeviceState}
use Rattle.device.specs.Hearing.{DeviceHears, Does, Serves, origin_of}
use Rattle.device.specs.DeviceTold.{DeviceTold}
use Rattle.headline_device.specs.Devices.{IsItself, StaysItselfHearing, StaysItselfRestarting, StaysItselfWaking}
use Rattle.headline_server.proofs.Waking.{size_stays}
use Rattle.npdu.specs.declared.mac.Mac.{Mac}
use Rattle.npdu.specs.declared.mac.Target.{Target}
use Rattle.headline_server.specs.server_answers.declared.asked.Origin.{Origin}
use Rattle.headline_server.specs.server_tsm.Server.{ServerTsmState}
use Rattle.headline_server.specs.server_tsm.Waking.{woken}
use Rattle.unitdata.specs.Hearing.{HeardContent, refuses, says}

abbrev same : {A : Type 0} (d : DeviceState A) → IsItself d d
same d = record { instance = refl; vendor = refl; station = refl; size = refl }

itself_as : {A : Type 0} (d left other : DeviceState A) → left ≡ other → IsItself d other → IsItself d left
itself_as {A} d left other e is = subst (λ (z : DeviceState A). IsItself d z) (sym e) is

-- a step of its server
serves_itself : {A : Type 0} (now : ℕ) (from : Origin) (a : PlainApdu) (d left : DeviceState A) (told : DeviceTold A) → Serves now from a d told left →
    IsItself d left
serves_itself {A} now from a d left told serve =
    let server : ServerTsmState A = serve.left in
    itself_as d left (record d { server = server }) serve.new_is (record {
      instance = refl;
      vendor = refl;
      station = refl;
      size = ap (λ (st : ServerTsmState A). st.max_apdu) serve.step.left_is ∙ size_stays now serve.step.plan.change d.server;
    })

does_itself : {A : Type 0} (now : ℕ) (from : Origin) (c : HeardContent) (d left : DeviceState A) (told : DeviceTold A) → Does now from c d told left →
    IsItself d left
does_itself now from (says (unconfirmed service octets)) d left told does = itself_as d left d does.1 (same d)
does_itself now from (says (confirmed segment accepted segments size invoke service octets)) d left told does = serves_itself now from _ d left told does
does_itself now from (says (simple_ack invoke service)) d left told does = serves_itself now from _ d left told does
does_itself now from (says (complex_ack segment invoke service octets)) d left told does = serves_itself now from _ d left told does
does_itself now from (says (segment_ack negative server invoke number window)) d left told does = serves_itself now from _ d left told does
does_itself now from (says (error_pdu invoke service class code first)) d left told does = serves_itself now from _ d left told does
does_itself now from (says (reject_pdu invoke reason)) d left told does = serves_itself now from _ d left told does
does_itself now from (says (abort_pdu server invoke reason)) d left told does = serves_itself now from _ d left told does
does_itself now from (refuses rejected) d left told does = itself_as d left d does.1 (same d)

pub itself_hearing : {A : Type 0} → StaysItselfHearing A
itself_hearing now from to npdu d left told (inl h) = does_itself now (origin_of h.heard) h.heard.content d left told h.does
itself_hearing now from to npdu d left told (inr drops) = itself_as d left d drops.same (same d)

pub itself_waking : {A : Type 0} → StaysItselfWaking A
itself_waking now d = record { instance = refl; vendor = refl; station = refl; size = size_stays now (woken now d.server.records).change d.server }

pub itself_restarting : {A : Type 0} → StaysItselfRestarting A
itself_restarting now table d = record { instance = refl; vendor = refl; station = refl; size = refl }

-- What the device hears at the moment 0 leaves it where it is, at that moment.
use Rattle.std.proofs.Common.{◌≡◌, ◌∙◌, refl, sym, ap, subst, List, [], ℕ, inl, inr}
use Rattle.apdu.specs.Apdu as application
use Rattle.npdu.specs.declared.mac.Mac.{Mac}
use Rattle.npdu.specs.declared.mac.Target.{Target}
use Rattle.device.specs.server_tsm.Server.{ServerTsmState, committed}
use Rattle.server_answers.specs.declared.asked.Origin.{Origin}
use Rattle.server_answers.specs.Plan.{ServerChange, Stays, Says, Gathers, GivesUp, Executes, Wakes}
use Rattle.unitdata.specs.Hearing.{HeardContent, refuses, says}
use Rattle.device.specs.Device.{DeviceState}
use Rattle.device.specs.Hearing.{DeviceHears, Does, Serves}
use Rattle.device.specs.DeviceTold.{DeviceTold}
use Rattle.npdu.specs.declared.parcel.Parcel.{Parcel}
use Rattle.console.specs.Hearing.{HandsUp, HandsUpNothing, OnlyHandsUp}
use Rattle.console.specs.Respond.{Responds, Said, SaysTo}

module _ {A : Type 0} where
  record Stays_there (now : ℕ) (old new : DeviceState A) : Type 0 where
    moment : old.server.moment ≡ now → new.server.moment ≡ now
    mac : new.mac ≡ old.mac

  committed_at : (now : ℕ) (change : ServerChange A) (st : ServerTsmState A) → (committed now change st).moment ≡ now
  committed_at now Stays st = refl
  committed_at now (Says saying) st = refl
  committed_at now (Gathers asked segment octets) st = refl
  committed_at now (GivesUp asker) st = refl
  committed_at now (Executes request r) st = refl
  committed_at now (Wakes sayings) st = refl

  same_there : (now : ℕ) (old new : DeviceState A) → new ≡ old → Stays_there now old new
  same_there now old new e = record {
    moment = λ at. ap (λ (d : DeviceState A). d.server.moment) e ∙ at;
    mac = ap (λ (d : DeviceState A). d.mac) e;
  }

  serves_there : (now : ℕ) (from : Origin) (a : application.PlainApdu) (old : DeviceState A) (told : DeviceTold A) (new : DeviceState A) →
      Serves now from a old told new → Stays_there now old new
  serves_there now from a old told new s = record {
    moment = λ at. ap (λ (d : DeviceState A). d.server.moment) s.new_is ∙ ap (λ (st : ServerTsmState A). st.moment) s.step.left_is
        ∙ committed_at now s.step.plan.change old.server;
    mac = ap (λ (d : DeviceState A). d.mac) s.new_is;
  }

  does_there : (now : ℕ) (from : Origin) (c : HeardContent) (old : DeviceState A) (told : DeviceTold A) (new : DeviceState A) → Does now from c old told new →
      Stays_there now old new
  does_there now from (refuses rejected) old told new d = same_there now old new d.1
  does_there now from (says (application.unconfirmed service octets)) old told new d = same_there now old new d.1
  does_there now from (says (application.confirmed s a m p i k x)) old told new d = serves_there now from _ old told new d
  does_there now from (says (application.simple_ack i k)) old told new d = serves_there now from _ old told new d
  does_there now from (says (application.complex_ack s i k x)) old told new d = serves_there now from _ old told new d
  does_there now from (says (application.segment_ack a s i n w)) old told new d = serves_there now from _ old told new d
  does_there now from (says (application.error_pdu i k c e f)) old told new d = serves_there now from _ old told new d
  does_there now from (says (application.reject_pdu i r)) old told new d = serves_there now from _ old told new d
  does_there now from (says (application.abort_pdu s i r)) old told new d = serves_there now from _ old told new d

  hears_there : (now : ℕ) (from : Mac) (to : Target) (npdu : List ℕ) (old : DeviceState A) (told : DeviceTold A) (new : DeviceState A) →
      DeviceHears now from to npdu old told new → Stays_there now old new
  hears_there now from to npdu old told new (inl h) = does_there now _ h.heard.content old told new h.does
  hears_there now from to npdu old told new (inr d) = same_there now old new d.same

  -- a device that is equal to the built-in one stays at the moment 0, and at its address
  pub stays : (own : Mac) (p : Parcel A) (device old new : DeviceState A) (said : Said) → SaysTo p old new said → old ≡ device →
      device.server.moment ≡ 0 → device.mac ≡ own → (new.server.moment ≡ 0) × (new.mac ≡ own)
  stays own p device old new said s same at there =
      let h = hears_there 0 p.from p.to p.npdu old s.told new s.hears in
      (h.moment (ap (λ (d : DeviceState A). d.server.moment) same ∙ at), h.mac ∙ ap (λ (d : DeviceState A). d.mac) same ∙ there)

  -- what it says to what is handed up is what it says to the datagram
  pub answers : (own from : Mac) (datagram : List ℕ) (p : Parcel A) (device old new : DeviceState A) (said : Said) → HandsUp own from datagram p →
      OnlyHandsUp own from datagram p → SaysTo p old new said → old ≡ device → device.mac ≡ own → Responds from datagram device new said
  answers own from datagram p device old new said up only spoken same there = inl (record {
    parcel = p;
    up = subst (λ (m : Mac). HandsUp m from datagram p) (sym there) up;
    only = subst (λ (m : Mac). OnlyHandsUp m from datagram p) (sym there) only;
    says = subst (λ (d : DeviceState A). SaysTo p d new said) same spoken;
  })

  -- where nothing is handed up, nothing is said
  pub ignores : (own from : Mac) (datagram : List ℕ) (device : DeviceState A) (said : Said) → HandsUpNothing A own from datagram → said ≡ [] →
      device.mac ≡ own → Responds from datagram device device said
  ignores own from datagram device said nothing silent there = inr (record {
    nothing = subst (λ (m : Mac). HandsUpNothing A m from datagram) (sym there) nothing;
    silent = silent;
    same = refl;
  })

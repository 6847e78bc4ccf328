-- A parcel is heard in one way.
use Rattle.std.proofs.Common.{◌≡◌, ◌∙◌, sym, ap, subst, inl, inr, ℕ, List}
use Rattle.apdu.specs.Apdu.{PlainApdu, abort_pdu, complex_ack, confirmed, error_pdu, reject_pdu, segment_ack, simple_ack, unconfirmed}
use Rattle.server_tsm.specs.server_answers.Plan.{ServerPlan}
use Rattle.server_tsm.specs.server_answers.declared.asked.Origin.{Origin}
use Rattle.server_tsm.specs.server_answers.ServerTold.{ServerTold}
use Rattle.server_tsm.proofs.Planned.{one_plan}
use Rattle.server_tsm.specs.Hearing as server
use Rattle.server_tsm.specs.Server.{ServerTsmState, committed}
use Rattle.server_tsm.specs.Steps.{IsPlan, IsStep, told_of_plan}
use Rattle.unitdata.proofs.OnceLaws.{brought_once}
use Rattle.unitdata.specs.Hearing.{Heard, HeardContent, refuses, says}
use Rattle.device.specs.Device.{DeviceState}
use Rattle.device.specs.Hearing.{AnswersWho, Does, Serves, origin_of}
use Rattle.device.specs.Laws.{HeardOnce}
use Rattle.device.specs.Saying.{told_of}
use Rattle.device.specs.DeviceTold.{DeviceTold}
use Rattle.device.proofs.HeardLaws.{one_heard}

module _ {A : Type 0} (now : ℕ) (old : DeviceState A) where
  one_step : (from : Origin) (h k : server.Heard) (t u : ServerTold A) (x y : ServerTsmState A) → h ≡ k → IsStep now from h old.server t x →
      IsStep now from k old.server u y → (t ≡ u) × (x ≡ y)
  one_step from h k t u x y same s r =
      let e = one_plan now from k old.server s.plan r.plan (subst (λ (z : server.Heard). IsPlan now from z old.server s.plan) same s.planned) r.planned in
      (s.told_is ∙ ap told_of_plan e ∙ sym r.told_is, s.left_is ∙ ap (λ (p : ServerPlan A). committed now p.change old.server) e ∙ sym r.left_is)

  serves_once : (from : Origin) (plain : PlainApdu) (told other : DeviceTold A) (x y : DeviceState A) → Serves now from plain old told x →
      Serves now from plain old other y → (told ≡ other) × (x ≡ y)
  serves_once from plain told other x y s r =
      let same = one_heard s.apdu r.apdu s.named r.named (s.is ∙ sym r.is) in
      let e = one_step from (server.heard_of s.apdu) (server.heard_of r.apdu) s.server_told r.server_told s.left r.left same s.step r.step in
      (s.told_is ∙ ap (told_of now old.mac) e.0 ∙ sym r.told_is, s.new_is ∙ ap (λ (st : ServerTsmState A). record old { server = st }) e.1 ∙ sym r.new_is)

  answers_once : (service : ℕ) (octets : List ℕ) (told other : DeviceTold A) → AnswersWho now old service octets told →
      AnswersWho now old service octets other → told ≡ other
  answers_once service octets told other (inl a) (inl b) = a.1 ∙ sym b.1
  answers_once service octets told other (inl a) (inr b) = absurd (b.0.none a.0)
  answers_once service octets told other (inr a) (inl b) = absurd (a.0.none b.0)
  answers_once service octets told other (inr a) (inr b) = a.1 ∙ sym b.1

  does_once : (from : Origin) (c : HeardContent) (told other : DeviceTold A) (x y : DeviceState A) → Does now from c old told x →
      Does now from c old other y → (told ≡ other) × (x ≡ y)
  does_once from (says (unconfirmed service octets)) told other x y a b = (answers_once service octets told other a.0 b.0, a.1 ∙ sym b.1)
  does_once from (says (confirmed s accepted m p i k octets)) told other x y a b = serves_once from (confirmed s accepted m p i k octets) told other x y a b
  does_once from (says (simple_ack i k)) told other x y a b = serves_once from (simple_ack i k) told other x y a b
  does_once from (says (complex_ack s i k octets)) told other x y a b = serves_once from (complex_ack s i k octets) told other x y a b
  does_once from (says (segment_ack n s i q w)) told other x y a b = serves_once from (segment_ack n s i q w) told other x y a b
  does_once from (says (error_pdu i k c e f)) told other x y a b = serves_once from (error_pdu i k c e f) told other x y a b
  does_once from (says (reject_pdu i r)) told other x y a b = serves_once from (reject_pdu i r) told other x y a b
  does_once from (says (abort_pdu s i r)) told other x y a b = serves_once from (abort_pdu s i r) told other x y a b
  does_once from (refuses rejected) told other x y a b = (a.0 ∙ sym b.0, a.1 ∙ sym b.1)

pub heard_once : {A : Type 0} → HeardOnce A
heard_once now from to npdu old x y told other (inl h) (inl k) =
    let same = brought_once old.net from to npdu h.heard k.heard h.brings k.brings in
    does_once now old (origin_of k.heard) k.heard.content told other x y
    (subst (λ (z : Heard). Does now (origin_of z) z.content old told x) same h.does) k.does
heard_once now from to npdu old x y told other (inl h) (inr d) = absurd (d.nothing.none h.heard h.brings)
heard_once now from to npdu old x y told other (inr d) (inl h) = absurd (d.nothing.none h.heard h.brings)
heard_once now from to npdu old x y told other (inr d) (inr e) = (d.silent ∙ sym e.silent, d.same ∙ sym e.same)

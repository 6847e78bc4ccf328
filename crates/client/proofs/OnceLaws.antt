-- A parcel is heard in one way.
use Rattle.std.proofs.Common.{◌≡◌, ◌∙◌, refl, sym, ap, subst, inl, inr, ℕ, List}
use Rattle.apdu.proofs.UnconfirmedLaws.{one_i_am}
use Rattle.apdu.specs.Apdu.{PlainApdu, abort_pdu, complex_ack, confirmed, error_pdu, reject_pdu, segment_ack, simple_ack, unconfirmed}
use Rattle.apdu.specs.declared.unconfirmed.IAm.{IAm}
use Rattle.bindings.specs.Binding.{introduced, put_binding}
use Rattle.bindings.specs.declared.binding.Binding.{Binding}
use Rattle.client_tsm.proofs.Telling.{one_plan}
use Rattle.client_tsm.specs.Client.{ClientTsmState, committed}
use Rattle.client_tsm.specs.Hearing as tsm
use Rattle.client_tsm.specs.Steps.{IsPlan, IsStep, told_of_plan}
use Rattle.client_tsm.specs.declared.plan.ClientTsmPlan.{ClientTsmPlan}
use Rattle.client_tsm.specs.declared.plan.ClientTsmTold.{ClientTsmTold}
use Rattle.npdu.specs.declared.mac.Station.{Station}
use Rattle.npdu.specs.declared.mac.Way.{Way}
use Rattle.unitdata.proofs.OnceLaws.{brought_once}
use Rattle.unitdata.specs.Hearing.{Heard, HeardContent, refuses, says}
use Rattle.client.specs.Client.{ClientState}
use Rattle.client.specs.Hearing.{Does, Holds, Learns, Learnt, Transacts}
use Rattle.client.specs.Laws.{HeardOnce}
use Rattle.client.specs.Saying.{told_of}
use Rattle.client.specs.ClientTold.{ClientTold}
use Rattle.client.proofs.HeardLaws.{one_heard}

learns_once : (station : Station) (way : Way) (service : ℕ) (octets : List ℕ) (old x y : List Binding) → Learns station way service octets old x →
    Learns station way service octets old y → x ≡ y
learns_once station way service octets old x y (inl i) (inl j) =
    i.bound ∙ ap (λ (k : IAm). put_binding (introduced station way k) old) (one_i_am octets i.i_am j.i_am i.is.spelled j.is.spelled) ∙ sym j.bound
learns_once station way service octets old x y (inl i) (inr o) = absurd (o.other.none i.i_am i.is)
learns_once station way service octets old x y (inr o) (inl i) = absurd (o.other.none i.i_am i.is)
learns_once station way service octets old x y (inr o) (inr p) = o.same ∙ sym p.same

module _ {A : Type 0} (now : ℕ) (old : ClientState A) where
  one_step : (from : Station) (h k : tsm.Heard A) (t u : ClientTsmTold A) (x y : ClientTsmState A) → h ≡ k → IsStep now from h old.machine t x →
      IsStep now from k old.machine u y → (t ≡ u) × (x ≡ y)
  one_step from h k t u x y same s r =
      let e = one_plan now from k old.machine s.plan r.plan (subst (λ (z : tsm.Heard A). IsPlan now from z old.machine s.plan) same s.planned) r.planned in
      (s.told_is ∙ ap told_of_plan e ∙ sym r.told_is, s.left_is ∙ ap (λ (p : ClientTsmPlan A). committed now p.change old.machine) e ∙ sym r.left_is)

  transacts_once : (from : Station) (plain : PlainApdu) (told other : ClientTold A) (x y : ClientState A) → Transacts now from plain old told x →
      Transacts now from plain old other y → (told ≡ other) × (x ≡ y)
  transacts_once from plain told other x y s r =
      let same = one_heard s.apdu r.apdu s.named r.named (s.is ∙ sym r.is) in
      let e = one_step from (tsm.heard_of s.apdu) (tsm.heard_of r.apdu) s.tsm_told r.tsm_told s.left r.left same s.step r.step in
      (s.told_is ∙ ap (told_of now old.mac) e.0 ∙ sym r.told_is, s.new_is ∙ ap (λ (m : ClientTsmState A). record old { machine = m }) e.1 ∙ sym r.new_is)

  holds_once : (x y : List Binding) (told other : ClientTold A) (v w : ClientState A) → x ≡ y → Holds x old told v → Holds y old other w →
      (told ≡ other) × (v ≡ w)
  holds_once x y told other v w same a b =
      (a.silent ∙ sym b.silent, a.left ∙ ap (λ (bs : List Binding). record old { bindings = bs }) same ∙ sym b.left)

  learnt_once : (station : Station) (way : Way) (service : ℕ) (octets : List ℕ) (told other : ClientTold A) (x y : ClientState A) →
      Learnt station way service octets old told x → Learnt station way service octets old other y → (told ≡ other) × (x ≡ y)
  learnt_once station way service octets told other x y a b =
      holds_once a.bindings b.bindings told other x y (learns_once station way service octets old.bindings a.bindings b.bindings a.learns b.learns) a.holds b.holds

  does_once : (from : Station) (way : Way) (c : HeardContent) (told other : ClientTold A) (x y : ClientState A) → Does now from way c old told x →
      Does now from way c old other y → (told ≡ other) × (x ≡ y)
  does_once from way (says (unconfirmed service octets)) told other x y a b = learnt_once from way service octets told other x y a b
  does_once from way (says (confirmed s accepted m p i k octets)) told other x y a b = transacts_once from (confirmed s accepted m p i k octets) told other x y a b
  does_once from way (says (simple_ack i k)) told other x y a b = transacts_once from (simple_ack i k) told other x y a b
  does_once from way (says (complex_ack s i k octets)) told other x y a b = transacts_once from (complex_ack s i k octets) told other x y a b
  does_once from way (says (segment_ack n s i q w)) told other x y a b = transacts_once from (segment_ack n s i q w) told other x y a b
  does_once from way (says (error_pdu i k c e f)) told other x y a b = transacts_once from (error_pdu i k c e f) told other x y a b
  does_once from way (says (reject_pdu i r)) told other x y a b = transacts_once from (reject_pdu i r) told other x y a b
  does_once from way (says (abort_pdu s i r)) told other x y a b = transacts_once from (abort_pdu s i r) told other x y a b
  does_once from way (refuses r) told other x y a b = holds_once _ _ told other x y refl a b

pub heard_once : {A : Type 0} → HeardOnce A
heard_once now from to npdu old x y told other (inl h) (inl k) =
    let same = brought_once old.net from to npdu h.heard k.heard h.brings k.brings in
    does_once now old k.heard.station k.heard.way k.heard.content told other x y
    (subst (λ (z : Heard). Does now z.station z.way z.content old told x) same h.does) k.does
heard_once now from to npdu old x y told other (inl h) (inr d) = absurd (d.nothing.none h.heard h.brings)
heard_once now from to npdu old x y told other (inr d) (inl h) = absurd (d.nothing.none h.heard h.brings)
heard_once now from to npdu old x y told other (inr d) (inr e) = (d.silent ∙ sym e.silent, d.same ∙ sym e.same)

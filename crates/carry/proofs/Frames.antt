-- What a node puts on a bus, and what frames and other things bear.
use Rattle.std.proofs.Common.{◌≡◌, ◌∙◌, refl, sym, ap, subst, ℕ, Bool, true, false, List, Some}
use Rattle.inside.proofs.Insides.{some_same}
use Rattle.inside.specs.Inside.{HasInside, Reaches}
use Rattle.mstp_frame.proofs.Spellings.{one_frame}
use Rattle.mstp_frame.specs.Frame.{PlainFrame}
use Rattle.npdu.specs.declared.mac.Mac.{Mac}
use Rattle.npdu.specs.declared.mac.Mac.TheVariants.{One as Octet}
use Rattle.npdu.specs.declared.mac.Target.{Target}
use Rattle.npdu.specs.declared.parcel.Parcel.{Parcel}
use Rattle.carry.proofs.Datagrams.{datagram_stamp}
use Rattle.carry.proofs.Passed.{none_some}
use Rattle.carry.specs.Datagrams.{parcel}
use Rattle.carry.specs.Frames.{IsFramed, carried_if, carried_in, framed_to}
use Rattle.carry.specs.Laws.{FramePassesOn, FrameReaches, OtherFramePassesOn, StampIsBorne}
use Rattle.carry.specs.Things.{SentDatagram, SentFrame, Waiting}

module _ {A : Type 0} where
  -- what a frame carries has its fields
  carried_is : (b : Bool) (stamp : ℕ) (f : PlainFrame) (q : Parcel A) → carried_if b stamp f ≡ Some q →
      parcel (Octet f.source) (framed_to f.destination) f.contents stamp ≡ q
  carried_is true stamp f q e = some_same _ q e
  carried_is false stamp f q e = absurd (none_some q e)

  framed_is : (p : Parcel A) (f : PlainFrame) → IsFramed p f → p ≡ parcel (Octet f.source) (framed_to f.destination) f.contents p.stamp
  framed_is p f is =
      ap (λ (x : Mac). parcel x p.to p.npdu p.stamp) is.from
      ∙ ap (λ (x : Target). parcel (Octet f.source) x p.npdu p.stamp) is.to
      ∙ ap (λ (x : List ℕ). parcel (Octet f.source) (framed_to f.destination) x p.stamp) is.npdu

  pub frame_passes_on : FramePassesOn A
  frame_passes_on ts net p f octets there spelled is = record {
    passes = λ q i b has.
        let same : f ≡ b.frame = one_frame octets f b.frame spelled b.spelled in
        let e : p ≡ q = framed_is p f is ∙ carried_is _ p.stamp f q (ap (λ (g : PlainFrame). carried_in p.stamp g) same ∙ b.carries) in
        record {
          thing = Waiting net p;
          there = there;
          parcel = p;
          bears = refl;
          has = subst (λ (z : Parcel A). HasInside net z.from z.to z.npdu i) (sym e) has;
          same = ap (λ (z : Parcel A). z.stamp) e;
        };
  }

  pub other_frame_passes_on : OtherFramePassesOn A
  other_frame_passes_on ts net stamp f octets spelled other = record {
    passes = λ q i b has.
        let same : f ≡ b.frame = one_frame octets f b.frame spelled b.spelled in
        absurd (none_some q (sym (ap (λ t. carried_if t stamp f) other) ∙ ap (λ (g : PlainFrame). carried_in stamp g) same ∙ b.carries));
  }

  pub frame_reaches : FrameReaches A
  frame_reaches f stamp node p e h = subst (λ (z : Parcel A). Reaches z.to (Octet node)) (carried_is _ stamp f p e) h

  pub stamp_is_borne : StampIsBorne A
  stamp_is_borne (SentDatagram net from to octets stamp) p b = datagram_stamp net stamp from to octets p b
  stamp_is_borne (SentFrame net octets stamp) p b = sym (ap (λ (z : Parcel A). z.stamp) (carried_is _ stamp b.frame p b.carries))
  stamp_is_borne (Waiting net parcel) p b = ap (λ (z : Parcel A). z.stamp) b

-- What a datagram bears.
use Rattle.std.proofs.Common.{◌≡◌, ◌∙◌, refl, sym, ap, subst, ℕ, true, false, List, Some}
use Rattle.std.specs.Prelude.{◌==◌, ◌||◌, nat_le}
use Rattle.bvll.proofs.Unique.{canonical_spells, one_datagram}
use Rattle.bvll.specs.Datagram.{Datagram, IsSound, broadcast, canonical, distribute, forwarded, function, unicast}
use Rattle.bvll.specs.Datagram as bvll
use Rattle.bvll.specs.Function.{number_of}
use Rattle.inside.proofs.Insides.{some_same}
use Rattle.inside.specs.Inside.{Reaches}
use Rattle.npdu.specs.declared.mac.Mac.{Mac}
use Rattle.npdu.specs.declared.mac.Target.TheVariants.{One, All}
use Rattle.npdu.specs.declared.parcel.Parcel.{Parcel}
use Rattle.carry.proofs.Passed.{none_some}
use Rattle.carry.specs.Datagrams.{carried_by, carries_npdu, parcel}
use Rattle.carry.specs.Laws.{DatagramReaches, OtherDatagramPassesOn}
use Rattle.carry.specs.Things.{Bears, SentDatagram}

true_false : true ≡ false → ⊥
true_false e = cc e

-- what a parcel has that a datagram carries
record IsBorne {A : Type 0} (to : Mac) (stamp : ℕ) (d : Datagram) (p : Parcel A) : Type 0 where
  stamp_is : p.stamp ≡ stamp
  reaches : Reaches p.to to
  carries : carries_npdu d ≡ true

-- datagrams carry an NPDU or none by their function
carries_by : (d : Datagram) → carries_npdu d ≡ ((number_of (function d) == 4) || nat_le 9 (number_of (function d)))
carries_by (bvll.outcome code) = refl
carries_by (bvll.write_distribution entries) = refl
carries_by bvll.read_distribution = refl
carries_by (bvll.distribution entries) = refl
carries_by (forwarded origin npdu) = refl
carries_by (bvll.register seconds) = refl
carries_by bvll.read_foreign = refl
carries_by (bvll.foreign entries) = refl
carries_by (bvll.delete_foreign address) = refl
carries_by (distribute npdu) = refl
carries_by (unicast npdu) = refl
carries_by (broadcast npdu) = refl

one_number : (d e : Datagram) → canonical d ≡ canonical e → number_of (function d) ≡ number_of (function e)
one_number d e same = cc same

carries_both : (d e : Datagram) → canonical d ≡ canonical e → carries_npdu d ≡ carries_npdu e
carries_both d e same = carries_by d ∙ ap (λ n. (n == 4) || nat_le 9 n) (one_number d e same) ∙ sym (carries_by e)

module _ {A : Type 0} where
  by_parcel : (to : Mac) (stamp : ℕ) (d : Datagram) (p q : Parcel A) → IsBorne to stamp d p → Some p ≡ Some q → IsBorne to stamp d q
  by_parcel to stamp d p q is e = subst (λ (z : Parcel A). IsBorne to stamp d z) (some_same p q e) is

  is_borne : (from to : Mac) (stamp : ℕ) (d : Datagram) (p : Parcel A) → carried_by from to stamp d ≡ Some p → IsBorne to stamp d p
  is_borne from to stamp (unicast npdu) p e =
      by_parcel to stamp (unicast npdu) (parcel from (One to) npdu stamp) p (record { stamp_is = refl; reaches = refl; carries = refl }) e
  is_borne from to stamp (broadcast npdu) p e =
      by_parcel to stamp (broadcast npdu) (parcel from All npdu stamp) p (record { stamp_is = refl; reaches = tt; carries = refl }) e
  is_borne from to stamp (distribute npdu) p e =
      by_parcel to stamp (distribute npdu) (parcel from All npdu stamp) p (record { stamp_is = refl; reaches = tt; carries = refl }) e
  is_borne from to stamp (forwarded origin npdu) p e =
      by_parcel to stamp (forwarded origin npdu) (parcel _ All npdu stamp) p (record { stamp_is = refl; reaches = tt; carries = refl }) e
  is_borne from to stamp (bvll.outcome code) p e = absurd (none_some p e)
  is_borne from to stamp (bvll.write_distribution entries) p e = absurd (none_some p e)
  is_borne from to stamp bvll.read_distribution p e = absurd (none_some p e)
  is_borne from to stamp (bvll.distribution entries) p e = absurd (none_some p e)
  is_borne from to stamp (bvll.register seconds) p e = absurd (none_some p e)
  is_borne from to stamp bvll.read_foreign p e = absurd (none_some p e)
  is_borne from to stamp (bvll.foreign entries) p e = absurd (none_some p e)
  is_borne from to stamp (bvll.delete_foreign address) p e = absurd (none_some p e)

  pub datagram_reaches : DatagramReaches A
  datagram_reaches net from to octets stamp p b = (is_borne from to stamp b.datagram p b.carries).reaches

  pub datagram_stamp : (net stamp : ℕ) (from to : Mac) (octets : List ℕ) (p : Parcel A) → Bears (SentDatagram net from to octets stamp) p → p.stamp ≡ stamp
  datagram_stamp net stamp from to octets p b = (is_borne from to stamp b.datagram p b.carries).stamp_is

  -- what a sound datagram bears is what it carries
  pub borne_by : (net stamp : ℕ) (from to : Mac) (d : Datagram) (q : Parcel A) → IsSound d →
      Bears (SentDatagram net from to (canonical d) stamp) q → carried_by from to stamp d ≡ Some q
  borne_by net stamp from to d q sound b =
      ap (λ (e : Datagram). carried_by from to stamp e) (one_datagram (canonical d) d b.datagram (canonical_spells d sound) b.spelled) ∙ b.carries

  -- a datagram that carries none bears none
  pub bears_none : (net stamp : ℕ) (from to : Mac) (d : Datagram) (p : Parcel A) → carries_npdu d ≡ false →
      Bears (SentDatagram net from to (canonical d) stamp) p → ⊥
  bears_none net stamp from to d p f b =
      true_false (sym (is_borne from to stamp b.datagram p b.carries).carries ∙ sym (carries_both d b.datagram b.spelled.parts) ∙ f)

  pub other_datagram_passes_on : OtherDatagramPassesOn A
  other_datagram_passes_on ts net stamp from to d f = record { passes = λ q i b has. absurd (bears_none net stamp from to d q f b) }

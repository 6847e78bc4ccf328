-- Octets spell the contents of one Reject-Message-To-Network, or of none.
use Rattle.std.proofs.Common.{◌≡◌, ◌≢◌, ◌∙◌, ℕ, List, [], ◌∷◌, length, refl, sym, ap, arith}
use Rattle.npdu.specs.Message.{reason_number}
use Rattle.npdu.specs.Rejected.{NoRejected, OnlyRejected, SpellsRejected, rejected_octets}
use Rattle.npdu.specs.declared.message.NetworkRejectReason.{NetworkRejectReason}
use Rattle.npdu.specs.declared.message.NetworkRejectReason.TheVariants.{NoRoute, UnknownMessageType, TooLong}
use Rattle.npdu.specs.declared.rejected.Rejected.{Rejected}
use Rattle.npdu.proofs.FieldLaws.{one_number}

one_reason : (a b : NetworkRejectReason) → reason_number a ≡ reason_number b → a ≡ b
one_reason NoRoute NoRoute e = refl
one_reason NoRoute UnknownMessageType e = absurd (omega (arith, e))
one_reason NoRoute TooLong e = absurd (omega (arith, e))
one_reason UnknownMessageType NoRoute e = absurd (omega (arith, e))
one_reason UnknownMessageType UnknownMessageType e = refl
one_reason UnknownMessageType TooLong e = absurd (omega (arith, e))
one_reason TooLong NoRoute e = absurd (omega (arith, e))
one_reason TooLong UnknownMessageType e = absurd (omega (arith, e))
one_reason TooLong TooLong e = refl

rejected_is : (a b : Rejected) → a.reason ≡ b.reason → a.net ≡ b.net → a ≡ b
rejected_is a b reason net =
    ap (λ (r : NetworkRejectReason). record { reason = r; net = a.net }) reason ∙ ap (λ (n : ℕ). record { reason = b.reason; net = n }) net

pub only_rejected : (octets : List ℕ) (r : Rejected) → SpellsRejected octets r → OnlyRejected octets r
only_rejected octets r s = record {
  only = λ x t.
      let same : rejected_octets r ≡ rejected_octets x = sym s.parts ∙ t.parts in
      let nets = one_number r.net x.net [] [] s.net t.net (cc same) in
      rejected_is r x (one_reason r.reason x.reason (cc same)) nets.0;
}

pub not_three : (octets : List ℕ) → length octets ≢ 3 → NoRejected octets
not_three octets other = record { none = λ r s. other (ap length s.parts) }

pub no_reason : (n : ℕ) (rest : List ℕ) → n ≢ 1 → n ≢ 3 → n ≢ 4 → NoRejected (n ∷ rest)
no_reason n rest one three four = record {
  none = λ r s. not_a_reason n r.reason one three four (cc s.parts);
}
  where
    not_a_reason : (n : ℕ) (r : NetworkRejectReason) → n ≢ 1 → n ≢ 3 → n ≢ 4 → n ≡ reason_number r → ⊥
    not_a_reason n NoRoute one three four e = one e
    not_a_reason n UnknownMessageType one three four e = three e
    not_a_reason n TooLong one three four e = four e

pub ruleset rejected_rules = (only_rejected, not_three, no_reason)

-- The canonical octets of a header spell it, and an address is read again from its octets.
use Rattle.std.proofs.Common.{◌≡◌, refl, ℕ, ◌+◌, ◌*◌, ◌/◌, ◌%◌, ◌<◌, Bool, true, false, List, [], ◌∷◌, length, Some, arith}
use Rattle.std.specs.Prelude.{◌==◌, is_some}
use Rattle.std.proofs.lemmas.Bool.{eq-eqb, eqb-true, ne_eqb}
use Rattle.tags.specs.Number.{bit}
use Rattle.npdu.specs.Header.{Header, IsSound, Spells, canonical, control_of}
use Rattle.npdu.specs.Mac.{is_address, mac_octets, mac_of}
use Rattle.npdu.specs.Priority.{priority_number}
use Rattle.npdu.specs.declared.mac.Mac.{Mac}
use Rattle.npdu.specs.declared.mac.Mac.TheVariants.{One, Six}
use Rattle.npdu.specs.declared.priority.Priority.{Priority}
use Rattle.npdu.specs.declared.priority.Priority.TheVariants.{Normal, Urgent, CriticalEquipment, LifeSafety}

-- the bits of a control octet, each by itself
record AreBits (c a b d e n : ℕ) : Type 0 where
  fits : c < 256
  message : c / 128 % 2 ≡ a
  destination : c / 32 % 2 ≡ b
  source : c / 8 % 2 ≡ d
  reply : c / 4 % 2 ≡ e
  priority : c % 4 ≡ n

are_bits : (a b d e n : ℕ) → a < 2 → b < 2 → d < 2 → e < 2 → n < 4 → AreBits (128 * a + 32 * b + 8 * d + 4 * e + n) a b d e n
are_bits a b d e n p q r s t = record {
  fits = omega arith;
  message = omega arith;
  destination = omega arith;
  source = omega arith;
  reply = omega arith;
  priority = omega arith;
}

bit_lt : (b : Bool) → bit b < 2
bit_lt true = omega arith
bit_lt false = omega arith

bit_is : (x : ℕ) (b : Bool) → x ≡ bit b → (x == 1) ≡ b
bit_is x true e = eq-eqb x 1 e
bit_is x false e = ne_eqb x 1 (λ f. let g = e in omega (arith, f, g))

priority_lt : (p : Priority) → priority_number p < 4
priority_lt Normal = omega arith
priority_lt Urgent = omega arith
priority_lt CriticalEquipment = omega arith
priority_lt LifeSafety = omega arith

pub canonical_spells : (h : Header) → IsSound h → Spells (canonical h) h
canonical_spells h sound =
    let bits = are_bits (bit (is_some h.message)) (bit (is_some h.destination)) (bit (is_some h.source)) (bit h.expects_reply)
    (priority_number h.priority) (bit_lt (is_some h.message)) (bit_lt (is_some h.destination)) (bit_lt (is_some h.source))
    (bit_lt h.expects_reply) (priority_lt h.priority) in
    record {
      sound = sound;
      control = control_of h;
      bits = record {
        fits = bits.fits;
        message = bit_is _ (is_some h.message) bits.message;
        destination = bit_is _ (is_some h.destination) bits.destination;
        source = bit_is _ (is_some h.source) bits.source;
        reply = bit_is _ h.expects_reply bits.reply;
        priority = bits.priority;
      };
      parts = refl;
    }

six_again : (octets : List ℕ) → length octets ≡ 6 → mac_of octets ≡ Some (Six octets)
six_again (a ∷ b ∷ c ∷ d ∷ e ∷ f ∷ []) six = refl
six_again [] six = absurd (omega (arith, six))
six_again (a ∷ []) six = absurd (omega (arith, six))
six_again (a ∷ b ∷ []) six = absurd (omega (arith, six))
six_again (a ∷ b ∷ c ∷ []) six = absurd (omega (arith, six))
six_again (a ∷ b ∷ c ∷ d ∷ []) six = absurd (omega (arith, six))
six_again (a ∷ b ∷ c ∷ d ∷ e ∷ []) six = absurd (omega (arith, six))
six_again (a ∷ b ∷ c ∷ d ∷ e ∷ f ∷ g ∷ more) six = absurd (omega (arith, six))

pub mac_again : (m : Mac) → is_address m ≡ true → mac_of (mac_octets m) ≡ Some m
mac_again (One octet) t = refl
mac_again (Six octets) t = six_again octets (eqb-true (length octets) 6 t)

pub mac_length : (m : Mac) → is_address m ≡ true → (0 < length (mac_octets m)) × (length (mac_octets m) < 256)
mac_length (One octet) t = (omega arith, omega arith)
mac_length (Six octets) t = let six = eqb-true (length octets) 6 t in (omega (arith, six), omega (arith, six))

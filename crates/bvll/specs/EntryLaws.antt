-- Laws: the entry in ten octets is what they spell.
use Rattle.std.proofs.Common.{◌≡◌, ℕ, ◌+◌, ◌≤◌, List, ◌++◌, length, drop, take, ap, sym, arith, ◌∙◌}
use Rattle.std.proofs.Math.Seq.{take-add}
use Rattle.std.proofs.lemmas.List.{length-take, length-drop, drop-drop}
use Rattle.byteorder.specs.Endian.{big_bytes, big_number}
use Rattle.bvll.specs.Address.{address_octets, address_at, IsAddress}
use Rattle.bvll.specs.Entry.{distribution_octets, distribution_at, IsDistributionEntry, foreign_octets, foreign_at}
use Rattle.bvll.specs.Entry.{IsForeignDevice}
use Rattle.bvll.specs.Octets.{two_octets, two_octets-lt}
use Rattle.tags.specs.Number.{AreOctets}
use Rattle.tags.proofs.OctetLists.{AreOctets-drop}
use Rattle.bvll.specs.Table.{SpellsEntry}

joined : (a b c d : List ℕ) → a ≡ b → c ≡ d → a ++ c ≡ b ++ d
joined a b c d e f = cc

-- two octets behind the first ones
two_at : (octets : List ℕ) (n : ℕ) → AreOctets octets → n + 2 ≤ length octets →
    big_bytes 2 (big_number 2 (drop n octets)) ≡ take 2 (drop n octets)
two_at octets n fits le = two_octets (drop n octets) (AreOctets-drop n octets fits) (omega (
  arith,
  length-drop n octets,
))

address_spelled : (octets : List ℕ) → AreOctets octets → 6 ≤ length octets →
    address_octets (address_at octets) ≡ take 6 octets
address_spelled octets fits le = ap (λ (x : List ℕ). take 4 octets ++ x) (two_at octets 4 fits le) ∙
    sym (take-add 4 2 octets)

address_fits : (octets : List ℕ) → AreOctets octets → 6 ≤ length octets → IsAddress (address_at octets)
address_fits octets fits le = record {
  ip = omega (arith, length-take 4 octets);
  port = two_octets-lt (drop 4 octets) (AreOctets-drop 4 octets fits);
}

-- ten octets spell the entry that is read in them (J.2.2)
pub distribution_spelled : (octets : List ℕ) → AreOctets octets → 10 ≤ length octets →
    SpellsEntry distribution_octets IsDistributionEntry (take 10 octets) (distribution_at octets)
distribution_spelled octets fits le = record {
  fields = record {
    address = address_fits octets fits (omega arith);
    mask = omega (arith, length-take 4 (drop 6 octets), length-drop 6 octets);
  };
  parts = sym (ap (λ (x : List ℕ). x ++ take 4 (drop 6 octets)) (address_spelled octets fits (omega arith)) ∙
      sym (take-add 6 4 octets));
}

-- ten octets spell the entry that is read in them (J.2.8)
pub foreign_spelled : (octets : List ℕ) → AreOctets octets → 10 ≤ length octets →
    SpellsEntry foreign_octets IsForeignDevice (take 10 octets) (foreign_at octets)
foreign_spelled octets fits le =
    let address = address_spelled octets fits (omega arith) in
    let to_live = two_at octets 6 fits (omega arith) in
    let left = two_at octets 8 fits (omega arith) in
    record {
      fields = record {
        address = address_fits octets fits (omega arith);
        to_live = two_octets-lt (drop 6 octets) (AreOctets-drop 6 octets fits);
        left = two_octets-lt (drop 8 octets) (AreOctets-drop 8 octets fits);
      };
      parts = take-add 6 4 octets ∙ joined _ _ _ _ (sym address) (take-add 2 2 (drop 6 octets) ∙
          joined _ _ _ _ (sym to_live) (ap (λ (x : List ℕ). take 2 x) (drop-drop 2 6 octets) ∙ sym left));
    }

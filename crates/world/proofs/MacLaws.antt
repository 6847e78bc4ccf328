-- Six octets are a link address, and so are all places of a node.
use Rattle.std.proofs.Common.{◌≡◌, ◌<◌, refl, ap, arith, ℕ, length, get_or, List, [], ◌∷◌}
use Rattle.bvll.specs.Address.{IsAddress, address_at, address_octets}
use Rattle.world_log.specs.node_laws.Out.{IsMac}
use Rattle.npdu.specs.declared.mac.Mac.TheVariants.{Six}

cell : (a b : ℕ) (xs ys : List ℕ) → a ≡ b → xs ≡ ys → a ∷ xs ≡ b ∷ ys
cell a b xs ys e f = cc

-- six octets are those of the address in them
six_back : (octets : List ℕ) → length octets ≡ 6 → ((i : ℕ) → get_or octets i 0 < 256) →
    octets ≡ address_octets (address_at octets)
six_back (a ∷ b ∷ c ∷ d ∷ e ∷ f ∷ []) len fits =
    let high : e < 256 = fits 4 in
    let low : f < 256 = fits 5 in
    cell a a _ _ refl (cell b b _ _ refl (cell c c _ _ refl (cell d d _ _ refl
    (cell e _ _ _ (omega (arith, high, low)) (cell f _ _ _ (omega (arith, high, low)) refl)))))
six_back [] len fits = absurd (omega (arith, len))
six_back (a ∷ []) len fits = absurd (omega (arith, len))
six_back (a ∷ b ∷ []) len fits = absurd (omega (arith, len))
six_back (a ∷ b ∷ c ∷ []) len fits = absurd (omega (arith, len))
six_back (a ∷ b ∷ c ∷ d ∷ []) len fits = absurd (omega (arith, len))
six_back (a ∷ b ∷ c ∷ d ∷ e ∷ []) len fits = absurd (omega (arith, len))
six_back (a ∷ b ∷ c ∷ d ∷ e ∷ f ∷ g ∷ more) len fits = absurd (omega (arith, len))

pub mac_of_six : (octets : List ℕ) → length octets ≡ 6 → ((i : ℕ) → get_or octets i 0 < 256) →
    IsAddress (address_at octets) → IsMac (Six octets)
mac_of_six octets len fits sound = record {
  address = address_at octets;
  sound = sound;
  is = ap (λ (xs : List ℕ). Six xs) (six_back octets len fits);
}

pub ruleset octet_rules = (mac_of_six)

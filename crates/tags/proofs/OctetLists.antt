-- Lists of octets.
use Rattle.std.proofs.Common.{◌≡◌, ℕ, suc, ◌+◌, ◌-◌, List, ◌∷◌, ◌++◌, length, drop, replicate, refl, arith, inl, inr}
use Rattle.std.proofs.lemmas.Bool.{cases_lt}
use Rattle.std.proofs.lemmas.List.{get_or-drop, get_or-append-add, length-replicate, get_or_append_left, get_or-append_right, get_or-replicate, get_or_past}
use Rattle.tags.specs.Number.{AreOctets}

pub AreOctets-rest : (b : ℕ) (bytes : List ℕ) → AreOctets (b ∷ bytes) → AreOctets bytes
AreOctets-rest b bytes h i = h (suc i)

pub AreOctets-drop : (n : ℕ) (bytes : List ℕ) → AreOctets bytes → AreOctets (drop n bytes)
AreOctets-drop n bytes h i = rw get_or-drop (h (n + i))

pub cons_equal : (a b : ℕ) (xs ys : List ℕ) → a ≡ b → xs ≡ ys → a ∷ xs ≡ b ∷ ys
cons_equal a b xs ys e f = cc

-- the rest of octets is octets
pub AreOctets-after : (bytes front rest : List ℕ) → bytes ≡ front ++ rest → AreOctets bytes → AreOctets rest
AreOctets-after bytes front rest e fits i = rw (← get_or-append-add front rest i 0, ← e) (fits (length front + i))

pub zeros_are_octets : (n : ℕ) → AreOctets (replicate n 0)
zeros_are_octets n i =
    elim (cases_lt i n) [
      | inl lt ↦ rw (get_or-replicate {A = ℕ} n i 0 0 lt) (omega arith)
      | inr le ↦ rw (get_or_past {X = ℕ} (replicate n 0) i 0 (omega (arith, length-replicate {A = ℕ} n 0))) (omega arith)
    ]

pub padded_are_octets : (bytes : List ℕ) (n : ℕ) → AreOctets bytes → AreOctets (bytes ++ replicate n 0)
padded_are_octets bytes n fits i =
    elim (cases_lt i (length bytes)) [
      | inl lt ↦ rw (get_or_append_left bytes (replicate n 0) 0 i lt) (fits i)
      | inr le ↦ rw (get_or-append_right bytes (replicate n 0) (length bytes) i 0 refl le) (zeros_are_octets n (i - length bytes))
    ]

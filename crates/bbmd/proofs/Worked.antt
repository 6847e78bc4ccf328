-- Tables of two subnets are full.
use Rattle.std.proofs.Common.{◌≡◌, ◌≤◌, ◌+◌, Bool, true, false, List, [], ◌∷◌, ◌&&◌, not, cond, refl, arith, inr, ap}
use Rattle.bvll.specs.declared.address.Address.{Address}
use Rattle.bbmd_tables.specs.Tables.{is_among, same_address}
use Rattle.bbmd.specs.Reach.{AreFull, everyone, times}
use Rattle.bbmd.specs.Worked.{two_subnets}
use Rattle.bbmd.proofs.Times.{same_is, not_among_times}

-- each address stands once
abbrev are_apart : List Address → Bool
are_apart [] = true
are_apart (x ∷ xs) = not (is_among x xs) && are_apart xs

both : (p q : Bool) → (not p && q) ≡ true → (p ≡ false) × (q ≡ true)
both true q e = absurd (cc e)
both false q e = (refl, e)

first_once : (x a : Address) (xs : List Address) (b : Bool) → same_address x a ≡ b → times x xs ≡ 0 → times a xs ≤ 1 →
    cond b 1 0 + times a xs ≤ 1
first_once x a xs true e none most = omega (arith, none, ap (λ (y : Address). times y xs) (same_is x a e))
first_once x a xs false e none most = omega (arith, most)

stands_once : (xs : List Address) → are_apart xs ≡ true → (a : Address) → times a xs ≤ 1
stands_once [] e a = omega arith
stands_once (x ∷ xs) e a =
    let p = both (is_among x xs) (are_apart xs) e in
    first_once x a xs (same_address x a) refl (not_among_times x xs (p.0)) (stands_once xs (p.1) a)

pub two_subnets_full : {A : Type 0} → AreFull {A = A} 0 two_subnets
two_subnets_full {A} = record {
  managed = ((record { knows = refl; itself = refl; peers = λ a. refl }, tt), ((record { knows = refl; itself = refl; peers = λ a. refl }, tt), tt));
  several = inr (refl, (refl, tt));
  apart = stands_once (everyone {A = A} 0 two_subnets) refl;
}

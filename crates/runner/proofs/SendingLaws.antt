-- One item after another is sent.
use Rattle.std.proofs.Common.{◌≡◌, ◌∙◌, inl, inr, sym, ap, subst, ℕ, zero, suc, ◌+◌, ◌-◌, ◌≤◌, ◌<◌, ◌^◌, Bool, true, false, arith, refl}
use Rattle.std.specs.Prelude.{min}
use Rattle.wire.specs.Counts.{IsRisen, raised}

-- one more, behind those from a number on
pub raised_more : (count sent number : ℕ) → sent ≤ number →
    raised (raised count (number - sent)) 1 ≡ raised count (number + 1 - sent)
raised_more count sent number le = let one : number + 1 - sent ≡ number - sent + 1 = omega (arith, le) in
    raised_twice count (number - sent) 1 ∙ ap (λ (n : ℕ). raised count n) (sym one)
  where
    raised_twice : (n a b : ℕ) → raised (raised n a) b ≡ raised n (a + b)
    raised_twice n a b = omega arith

-- one more fault is a rise, and so it is behind others
risen_one : (count : ℕ) → count ≤ 2 ^ 64 - 1 → IsRisen count (raised count 1)
risen_one count most = on (2 ^ 64 - 1 - count) refl
  where
    on : (n : ℕ) → 2 ^ 64 - 1 - count ≡ n → IsRisen count (raised count 1)
    on zero e = inr (omega (arith, e, most))
    on (suc n) e = inl (omega (arith, e))

risen_more : (first count : ℕ) → count ≤ 2 ^ 64 - 1 → IsRisen first count → IsRisen first (raised count 1)
risen_more first count most (inl less) = inl (omega (arith, less, most))
risen_more first count most (inr full) = inr full

pub fault_more : (first old new : ℕ) (failed : Bool) → old ≤ 2 ^ 64 - 1 → new ≡ raised old 1 →
    (failed ≡ false → old ≡ first) → (failed ≡ true → IsRisen first old) → IsRisen first new
fault_more first old new true most more sound risen =
    subst (λ (n : ℕ). IsRisen first n) (sym more) (risen_more first old most (risen refl))
fault_more first old new false most more sound risen =
    subst (λ (n : ℕ). IsRisen first n) (sym more)
    (subst (λ (n : ℕ). IsRisen n (raised old 1)) (sound refl) (risen_one old most))

pub most_raised : (old new : ℕ) → new ≡ raised old 1 → new ≤ 2 ^ 64 - 1
most_raised old new more = omega (arith, more)

pub ruleset sending_rules = (raised_more)

-- Protocol_Services_Supported and the services; the codes of sizes and the kinds of link.
use Rattle.std.proofs.Common.{sym, ◌∙◌, ap, subst, refl, inl, inr, arith}
use Rattle.std.specs.Prelude.{◌≡◌, ◌⊎◌, ◌↔◌, ℕ, ◌<◌, ◌==◌, ◌||◌, Bool, true, false, List, map, get_or}
use Rattle.std.specs.List.{range_with_len}
use Rattle.std.proofs.lemmas.Bool.{eqb-true, or_cases}
use Rattle.std.proofs.lemmas.List.FromFn.{get_or-map-range_with_len}
use Rattle.apdu.specs.Numbers.{service_number}
use Rattle.apdu.specs.declared.numbers.ConfirmedService.{ConfirmedService}
use Rattle.apdu.specs.declared.numbers.ConfirmedService.TheVariants.{ReadProperty, ReadPropertyMultiple, WriteProperty, WritePropertyMultiple}
use Rattle.device.specs.Laws.{IsServiceNumber, ServicesAreSupported, WHO_IS_BIT}
use Rattle.object_model.specs.Objects.{services_supported}
use Rattle.object_model.specs.Supported.{has_bit}

-- the numbers of the services, as a test
abbrev named : ℕ → Bool
named n = (n == 12) || ((n == 14) || ((n == 15) || ((n == 16) || (n == 34))))

-- all 35 bits at once
table : map (has_bit services_supported) (range_with_len 0 35) ≡ map named (range_with_len 0 35)
table = refl

bit_is : (n : ℕ) → n < 35 → has_bit services_supported n ≡ named n
bit_is n l =
    sym (get_or-map-range_with_len (has_bit services_supported) 0 35 n n false l (omega arith))
    ∙ ap (λ (xs : List Bool). get_or xs n false) table
    ∙ get_or-map-range_with_len named 0 35 n n false l (omega arith)

abbrev IsExecuted : ℕ → Type 0
IsExecuted n = IsServiceNumber n ⊎ (n ≡ WHO_IS_BIT)

is : (s : ConfirmedService) (n : ℕ) → (n == service_number s) ≡ true → IsExecuted n
is s n e = inl (record { service = s; numbered = sym (eqb-true n (service_number s) e) })

of_two : (n : ℕ) → ((n == 16) || (n == 34)) ≡ true → IsExecuted n
of_two n e = elim (or_cases (n == 16) (n == 34) e) [ inl u ↦ is WritePropertyMultiple n u | inr v ↦ inr (eqb-true n 34 v) ]

of_three : (n : ℕ) → ((n == 15) || ((n == 16) || (n == 34))) ≡ true → IsExecuted n
of_three n e = elim (or_cases (n == 15) _ e) [ inl u ↦ is WriteProperty n u | inr v ↦ of_two n v ]

of_four : (n : ℕ) → ((n == 14) || ((n == 15) || ((n == 16) || (n == 34)))) ≡ true → IsExecuted n
of_four n e = elim (or_cases (n == 14) _ e) [ inl u ↦ is ReadPropertyMultiple n u | inr v ↦ of_three n v ]

is_named : (n : ℕ) → named n ≡ true → IsExecuted n
is_named n e = elim (or_cases (n == 12) _ e) [ inl u ↦ is ReadProperty n u | inr v ↦ of_four n v ]

names : (s : ConfirmedService) → has_bit services_supported (service_number s) ≡ true
names ReadProperty = refl
names ReadPropertyMultiple = refl
names WriteProperty = refl
names WritePropertyMultiple = refl

executed : (n : ℕ) → IsExecuted n → has_bit services_supported n ≡ true
executed n (inl found) = subst (λ (m : ℕ). has_bit services_supported m ≡ true) found.numbered (names found.service)
executed n (inr who) = subst (λ (m : ℕ). has_bit services_supported m ≡ true) (sym who) refl

says : (n : ℕ) → n < 35 → (has_bit services_supported n ≡ true) ↔ IsExecuted n
says n l = (λ set. is_named n (sym (bit_is n l) ∙ set), λ found. executed n found)

pub services_are_supported : {A : Type 0} → ServicesAreSupported A
services_are_supported t d = record { octets = services_supported; are = refl; says = says }

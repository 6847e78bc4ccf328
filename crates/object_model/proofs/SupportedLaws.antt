-- Protocol_Object_Types_Supported and the object types.
use Rattle.std.proofs.Common.{sym, ◌∙◌, ap, subst, refl, inl, inr, arith}
use Rattle.std.specs.Prelude.{◌≡◌, ◌⊎◌, ℕ, ◌<◌, ◌==◌, ◌||◌, Bool, true, false, List, map, get_or}
use Rattle.std.specs.List.{range_with_len}
use Rattle.std.proofs.lemmas.Bool.{eqb-true, or_cases}
use Rattle.std.proofs.lemmas.List.FromFn.{get_or-map-range_with_len}
use Rattle.object_model.specs.Objects.{types_supported}
use Rattle.object_model.specs.Supported.{has_bit, IsTypeNumber, TypesAreSupported}
use Rattle.primitives.specs.Numbers.{type_number}
use Rattle.primitives.specs.declared.object_type.ObjectType.{ObjectType}
use Rattle.primitives.specs.declared.object_type.ObjectType.TheVariants.{BinaryValue, Device, MultiStateValue, CharacterStringValue, IntegerValue}

-- the numbers of the object types, as a test
abbrev named : ℕ → Bool
named n = (n == 5) || ((n == 8) || ((n == 19) || ((n == 40) || (n == 45))))

-- all 46 bits at once
table : map (has_bit types_supported) (range_with_len 0 46) ≡ map named (range_with_len 0 46)
table = refl

bit_is : (n : ℕ) → n < 46 → has_bit types_supported n ≡ named n
bit_is n l =
    sym (get_or-map-range_with_len (has_bit types_supported) 0 46 n n false l (omega arith))
    ∙ ap (λ (xs : List Bool). get_or xs n false) table
    ∙ get_or-map-range_with_len named 0 46 n n false l (omega arith)

is : (t : ObjectType) (n : ℕ) → (n == type_number t) ≡ true → IsTypeNumber n
is t n e = record { object_type = t; numbered = sym (eqb-true n (type_number t) e) }

of_two : (n : ℕ) → ((n == 40) || (n == 45)) ≡ true → IsTypeNumber n
of_two n e = elim (or_cases (n == 40) (n == 45) e) [ inl u ↦ is CharacterStringValue n u | inr v ↦ is IntegerValue n v ]

of_three : (n : ℕ) → ((n == 19) || ((n == 40) || (n == 45))) ≡ true → IsTypeNumber n
of_three n e = elim (or_cases (n == 19) _ e) [ inl u ↦ is MultiStateValue n u | inr v ↦ of_two n v ]

of_four : (n : ℕ) → ((n == 8) || ((n == 19) || ((n == 40) || (n == 45)))) ≡ true → IsTypeNumber n
of_four n e = elim (or_cases (n == 8) _ e) [ inl u ↦ is Device n u | inr v ↦ of_three n v ]

is_named : (n : ℕ) → named n ≡ true → IsTypeNumber n
is_named n e = elim (or_cases (n == 5) _ e) [ inl u ↦ is BinaryValue n u | inr v ↦ of_four n v ]

names : (t : ObjectType) → has_bit types_supported (type_number t) ≡ true
names BinaryValue = refl
names Device = refl
names MultiStateValue = refl
names CharacterStringValue = refl
names IntegerValue = refl

pub types_are_supported : TypesAreSupported
types_are_supported n l = (
  λ set. is_named n (sym (bit_is n l) ∙ set),
  λ found. subst (λ (m : ℕ). has_bit types_supported m ≡ true) found.numbered (names found.object_type),
)

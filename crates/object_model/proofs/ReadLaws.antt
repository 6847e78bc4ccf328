-- What is read, list by list.
use Rattle.std.proofs.Common.{refl, ap, ◌∙◌, ◌≡◌, ◌⊎◌, inl, inr, ℕ, Bool, true, false, List, [], ◌∷◌, arith}
use Rattle.std.specs.Prelude.{◌≢◌, ◌+◌, ◌-◌, ◌<◌, ◌≤◌, zero, suc, Option, Some, None, option_map, option_to_list, map, slice_get, slice_index_or, length}
use Rattle.std.proofs.lemmas.Bool.{ne_eqb}
use Rattle.priority.specs.Slots.{slot}
use Rattle.primitives.specs.tags.declared.value.Value.{Value}
use Rattle.primitives.specs.tags.declared.value.Value.TheVariants as value
use Rattle.object_model.specs.declared.object.DeviceObject.{DeviceObject}
use Rattle.object_model.specs.declared.object.ValueObject.{ValueObject}
use Rattle.primitives.specs.declared.property.Property.{Property}
use Rattle.primitives.specs.declared.property.Property.TheVariants as property
use Rattle.object_model.specs.Reading.{at_index, index_refusal}
use Rattle.object_model.specs.Objects.{PlainTable, held_by_value, held_by_device, object_list, identifier, slot_value}
use Rattle.primitives.specs.Properties.{is_array}

-- the element of a mapped list is the mapped element
pub slice_get_map : {X Y : Type 0} (f : X → Y) (xs : List X) (i : ℕ) → slice_get (map f xs) i ≡ option_map f (slice_get xs i)
slice_get_map f [] i = refl
slice_get_map f (x ∷ xs) zero = refl
slice_get_map f (x ∷ xs) (suc i) = slice_get_map f xs i

-- an array that the Device object has is the object list
pub device_array : {A : Type 0} (t : PlainTable A) (d : DeviceObject A) (p : Property) → is_array p ≡ true → p ≢ property.ObjectList → held_by_device t d p ≡ []
device_array t d property.PriorityArray e other = refl
device_array t d p e other = grind arith

-- an array that a value object has is the priority array
pub value_array : {A : Type 0} (o : ValueObject A) (p : Property) → is_array p ≡ true → p ≢ property.PriorityArray → held_by_value o p ≡ []
value_array o property.ObjectList e other = refl
value_array o p e other = grind arith

slot_from : {A : Type 0} (slots : List (Option (Value A))) (place : ℕ) → place < length slots →
    slice_get (map slot_value slots) place ≡ Some (slot_value (slice_index_or slots place None))
slot_from [] place below = absurd (omega (arith, below))
slot_from (s ∷ ss) zero below = refl
slot_from (s ∷ ss) (suc place) below = slot_from ss place (omega (arith, below))

-- the element at a place is what its slot holds
pub slot_at : {A : Type 0} (slots : List (Option (Value A))) (place : ℕ) → place < length slots →
    slice_get (map slot_value slots) place ≡ Some (slot_value (slot slots (place + 1)))
slot_at slots place below =
    let same : place ≡ place + 1 - 1 = omega arith in
    slot_from slots place below ∙ ap (λ (n : ℕ). Some (slot_value (slice_index_or slots n None))) same

pub slot_past : {A : Type 0} (slots : List (Option (Value A))) (place : ℕ) → length slots ≤ place → slice_get (map slot_value slots) place ≡ None
slot_past [] place past = refl
slot_past (s ∷ ss) zero past = absurd (omega (arith, past))
slot_past (s ∷ ss) (suc place) past = slot_past ss place (omega (arith, past))

-- at 0 an array has its length, and at every other index an element
pub at_index_element : {A : Type 0} (values : List (Value A)) (i : ℕ) → i ≢ 0 → at_index values (Some i) ≡ option_to_list (slice_get values (i - 1))
at_index_element values i other = rw (ne_eqb i 0 other) refl

-- a length that is right for arrays refuses what the true one does
pub refused_by_length : (array : Bool) (n m : ℕ) (index : Option ℕ) → (array ≡ true → n ≡ m) → index_refusal array n index ≡ index_refusal array m index
refused_by_length array n m None e = refl
refused_by_length true n m (Some i) e = ap (λ (k : ℕ). index_refusal true k (Some i)) (e refl)
refused_by_length false n m (Some i) e = refl

-- what the Device object has of the properties that it does not have, or that hold nothing
pub device_none : {A : Type 0} (t : PlainTable A) (d : DeviceObject A) (p : Property) →
    (p ≡ property.DeviceAddressBinding) ⊎ (p ≡ property.EventState) ⊎ (p ≡ property.NumberOfStates) ⊎ (p ≡ property.OutOfService) ⊎ (p ≡ property.PresentValue)
    ⊎ (p ≡ property.PriorityArray) ⊎ (p ≡ property.RelinquishDefault) ⊎ (p ≡ property.StatusFlags) ⊎ (p ≡ property.Units) → held_by_device t d p ≡ []
device_none t d p e = elim e [
  | inl e ↦ rw e refl
  | inr e ↦ elim e [
    | inl e ↦ rw e refl
    | inr e ↦ elim e [
      | inl e ↦ rw e refl
      | inr e ↦ elim e [
        | inl e ↦ rw e refl
        | inr e ↦ elim e [
          | inl e ↦ rw e refl
          | inr e ↦ elim e [
            | inl e ↦ rw e refl
            | inr e ↦ elim e [
              | inl e ↦ rw e refl
              | inr e ↦ elim e [
                | inl e ↦ rw e refl
                | inr e ↦ rw e refl
              ]
            ]
          ]
        ]
      ]
    ]
  ]
]

-- the object list has the identifiers of the objects at their places
pub listed_at : {A : Type 0} (t : PlainTable A) (i : ℕ) → slice_get (object_list t) i ≡ option_map (λ o. value.Object (identifier o)) (slice_get t i)
listed_at t i = slice_get_map (λ o. value.Object (identifier o)) t i

pub ruleset read_rules = (slice_get_map, slot_at, slot_past, at_index_element)

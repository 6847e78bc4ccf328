-- Reading a property: what it holds, or the first rule that refuses (15.5, 15.7).
use Rattle.std.specs.Prelude.{ℕ, ◌-◌, ◌==◌, ◌||◌, not, nat_lt, Bool, true, if◌then◌else◌, List, [], ◌∷◌, Option, Some}
use Rattle.std.specs.Prelude.{None, Result, Ok, Err, map, filter, find, flat_map, length, slice_get, option_to_list}
use Rattle.primitives.specs.tags.declared.object_id.ObjectId.{ObjectId}
use Rattle.primitives.specs.tags.declared.value.Value.{Value}
use Rattle.primitives.specs.tags.declared.value.Value.TheVariants as value
use Rattle.primitives.specs.declared.error.ErrorClass.{ErrorClass}
use Rattle.primitives.specs.declared.error.ErrorClass.TheVariants as class
use Rattle.primitives.specs.declared.error.ErrorCode.{ErrorCode}
use Rattle.primitives.specs.declared.error.ErrorCode.TheVariants as code
use Rattle.object_model.specs.declared.object.Object.{Object}
use Rattle.primitives.specs.declared.plain_data.ObjectRefs.{ObjectRefs}
use Rattle.primitives.specs.declared.plain_data.ObjectResults.{ObjectResults}
use Rattle.primitives.specs.declared.plain_data.PropertyReference.{PropertyReference}
use Rattle.primitives.specs.declared.plain_data.PropertyResult.{PropertyResult}
use Rattle.primitives.specs.declared.property.Property.{Property}
use Rattle.primitives.specs.Numbers.{ALL_PROPERTIES, OPTIONAL_PROPERTIES, REQUIRED_PROPERTIES, property_number}
use Rattle.object_model.specs.Identifiers.{same_id}
use Rattle.object_model.specs.Objects.{PlainTable, identifier, properties_of, held}
use Rattle.primitives.specs.Properties.{is_required, is_array}

-- an error class and code (18)
abbrev pub Refusal : Type 0
Refusal = ErrorClass × ErrorCode

-- the first refusal of reading: the device has no such object (15.5.1.3)
abbrev pub unknown_object : Refusal
unknown_object = (class.Object, code.UnknownObject)

-- the object has no such property (15.5.1.3)
abbrev pub unknown_property : Refusal
unknown_property = (class.Property, code.UnknownProperty)

-- an index is given, and the property is no array (15.5.1.3)
abbrev pub not_an_array : Refusal
not_an_array = (class.Property, code.PropertyIsNotAnArray)

-- the index is over the array's length (15.5.1.3)
abbrev pub invalid_index : Refusal
invalid_index = (class.Property, code.InvalidArrayIndex)

-- whether an identifier names the object (12.11.1)
abbrev pub is_named : {A : Type 0} → ObjectId → Object A → Bool
is_named id o = same_id (identifier o) id

-- the object of a table that an identifier names, if it is there
abbrev pub object_at : {A : Type 0} → PlainTable A → ObjectId → Option (Object A)
object_at t id = find (is_named id) t

-- the property of an object that has this number, if the object has it
abbrev pub property_at : {A : Type 0} → Object A → ℕ → Option Property
property_at o number = find (λ p. number == property_number p) (properties_of o)

-- why there is no element of this index: the property is no array, or the index is over its length (15.5.1.3)
abbrev pub index_refusal : Bool → ℕ → Option ℕ → Option Refusal
index_refusal array elements None = None
index_refusal array elements (Some i) = if array then (if nat_lt elements i then Some invalid_index else None)
    else Some not_an_array

-- a property of an object
pub record Place (A : Type 0) : Type 0 where
  pub object : Object A
  pub property : Property

-- the place, unless it is refused
abbrev pub place_or : {A : Type 0} → Option Refusal → Place A → Result (Place A) Refusal
place_or None p = Ok p
place_or (Some e) p = Err e

-- the rules on an index, once object and property are there
abbrev pub locate_element : {A : Type 0} → PlainTable A → Object A → Option Property → Option ℕ →
    Result (Place A) Refusal
locate_element t o None index = Err unknown_property
locate_element t o (Some p) index = place_or (index_refusal (is_array p) (length (held t o p)) index)
    (record { object = o; property = p })

-- the rules on a property and index, once the object is there
abbrev pub locate_property : {A : Type 0} → PlainTable A → Option (Object A) → ℕ → Option ℕ → Result (Place A) Refusal
locate_property t None number index = Err unknown_object
locate_property t (Some o) number index = locate_element t o (property_at o number) index

-- the property that is asked for, or the first rule that refuses: no such object, no such property, no array, no such
-- element (15.5.1.3)
abbrev pub locate : {A : Type 0} → PlainTable A → ObjectId → ℕ → Option ℕ → Result (Place A) Refusal
locate t id number index = locate_property t (object_at t id) number index

-- the values at an index: without one all, at 0 their number, else that element (12.1.5.1, 15.5.1.1.3)
abbrev pub at_index : {A : Type 0} → List (Value A) → Option ℕ → List (Value A)
at_index values None = values
at_index values (Some i) = if i == 0 then value.Unsigned (length values) ∷
    [] else option_to_list (slice_get values (i - 1))

-- what the place holds at an index
abbrev pub read_place : {A : Type 0} → PlainTable A → Result (Place A) Refusal → Option ℕ →
    Result (List (Value A)) Refusal
read_place t (Err e) index = Err e
read_place t (Ok at) index = Ok (at_index (held t at.object at.property) index)

-- what is read of a property: its values, or why there are none (15.5.2)
abbrev pub read : {A : Type 0} → PlainTable A → ObjectId → ℕ → Option ℕ → Result (List (Value A)) Refusal
read t id number index = read_place t (locate t id number index) index

-- a number that stands for all properties of an object, the optional or the required ones (15.7.3.1.2)
abbrev pub is_special : ℕ → Bool
is_special number = (number == ALL_PROPERTIES) || (number == OPTIONAL_PROPERTIES) || (number == REQUIRED_PROPERTIES)

-- whether a property is among those that such a number stands for (15.7.3.1.2)
abbrev pub is_selected : ℕ → Property → Bool
is_selected number p =
    if number == ALL_PROPERTIES then true
    else if number == REQUIRED_PROPERTIES then is_required p
    else not (is_required p)

-- one entry of a result: what is read of one property (15.7.3.2)
abbrev pub entry : {A : Type 0} → PlainTable A → ObjectId → ℕ → Option ℕ → PropertyResult A
entry t id number index = record { property = number; index = index; result = read t id number index }

-- the entries for such a number on an object that is there: one for each property in the order of its table; with an
-- index none of them is an array (15.7.3.1.2)
abbrev pub selected_entries : {A : Type 0} → PlainTable A → ObjectId → Object A → ℕ → Option ℕ → List (PropertyResult A)
selected_entries t id o number (Some i) = record { property = number; index = Some i; result = Err not_an_array } ∷ []
selected_entries t id o number None = map (λ p. entry t id (property_number p) None)
    (filter (is_selected number) (properties_of o))

-- the entries for one reference (15.7.3.2)
abbrev pub entries_in : {A : Type 0} → PlainTable A → ObjectId → Option (Object A) → PropertyReference →
    List (PropertyResult A)
entries_in t id None r = entry t id r.property r.index ∷ []
entries_in t id (Some o) r = if is_special r.property then selected_entries t id o r.property r.index
    else entry t id r.property r.index ∷ []

-- what is read of one object: the entries for its references in their order (15.7.3.2)
abbrev pub results_of : {A : Type 0} → PlainTable A → ObjectRefs A → ObjectResults A
results_of t asked = record {
  object = asked.object;
  results = flat_map
      (entries_in t asked.object (object_at t asked.object)) asked.refs;
}

-- What is printed in words of octets, objects, values, requests and replies (the types of 20.2, the services of 15).
use Rattle.std.specs.Prelude.{ℕ, ◌+◌, ◌/◌, ◌%◌, ◌==◌, ◌&&◌, ◌||◌, nat_lt, if◌then◌else◌, Bool, true, false, List, []}
use Rattle.std.specs.Prelude.{◌∷◌, ◌++◌, Option, None, Some, Result, Ok, Err, codes, flat_map}
use Rattle.std.specs.Fmt.{decimal, signed_decimal}
use Rattle.std.specs.Str.{is_utf8}
use Rattle.names.specs.Names.{name_in}
use Rattle.names.specs.Tables.{binary_values, error_classes, error_codes, object_types, properties}
use Rattle.primitives.specs.Errors.{class_number, code_number}
use Rattle.primitives.specs.declared.error.ErrorClass.{ErrorClass}
use Rattle.primitives.specs.declared.error.ErrorCode.{ErrorCode}
use Rattle.primitives.specs.declared.plain_data.ObjectRefs.{ObjectRefs}
use Rattle.primitives.specs.declared.plain_data.ObjectResults.{ObjectResults}
use Rattle.primitives.specs.declared.plain_data.ObjectWrites.{ObjectWrites}
use Rattle.primitives.specs.declared.plain_data.PropertyReference.{PropertyReference}
use Rattle.primitives.specs.declared.plain_data.PropertyResult.{PropertyResult}
use Rattle.primitives.specs.declared.plain_data.PropertyWrite.{PropertyWrite}
use Rattle.primitives.specs.declared.plain_data.Reply.{Reply}
use Rattle.primitives.specs.declared.plain_data.Reply.TheVariants as reply
use Rattle.primitives.specs.declared.plain_data.Request.{Request}
use Rattle.primitives.specs.declared.plain_data.Request.TheVariants as request
use Rattle.printing.specs.declared.spelling.Spelling.{Spelling}
use Rattle.printing.specs.declared.spelling.Spelling.TheVariants.{Numbers, Names}
use Rattle.printing.specs.declared.spelling.Wording.{Wording}
use Rattle.printing.specs.declared.spelling.Wording.TheVariants as wording
use Rattle.tags.specs.declared.object_id.ObjectId.{ObjectId}
use Rattle.tags.specs.declared.value.Value.{Value}
use Rattle.tags.specs.declared.value.Value.TheVariants as value

-- a name, or the number where it has none
abbrev pub or_number : Option (List ℕ) → ℕ → List ℕ
or_number None n = decimal n
or_number (Some name) n = name

-- a number of the standard, or its name in a table (21)
unfoldable pub named_text : Spelling → List (ℕ × List ℕ) → ℕ → List ℕ
named_text Numbers table n = decimal n
named_text Names table n = or_number (name_in table n) n

-- a hexadecimal digit, from A on in upper case
abbrev pub digit : ℕ → ℕ
digit n = if nat_lt n 10 then 48 + n else 55 + n

-- an octet as two of them
abbrev pub pair_of : ℕ → List ℕ
pair_of octet = digit (octet / 16) ∷ digit (octet % 16) ∷ []

-- octets as such pairs, or a dash where there are none
unfoldable pub octets_text : List ℕ → List ℕ
octets_text [] = codes "-"
octets_text (o ∷ os) = flat_map pair_of (o ∷ os)

-- an object by the name of its type, if that has one, as `binary-value,1` (20.2.14)
abbrev pub named_object : Option (List ℕ) → ObjectId → List ℕ
named_object None o = decimal o.object_type ++ (codes ":" ++ decimal o.instance)
named_object (Some name) o = name ++ (codes "," ++ decimal o.instance)

-- an object: its type and its instance, as `5:1` or `binary-value,1` (20.2.14)
unfoldable pub object_text : Spelling → ObjectId → List ℕ
object_text Numbers o = named_object None o
object_text Names o = named_object (name_in object_types o.object_type) o

-- a property, as `85` or `present-value`, or an element of it, as `87/16` or `priority-array[16]` (21,
-- BACnetPropertyReference)
unfoldable pub property_text : Spelling → ℕ → Option ℕ → List ℕ
property_text s property None = named_text s properties property
property_text Numbers property (Some index) = decimal property ++ (codes "/" ++ decimal index)
property_text Names property (Some index) =
    named_text Names properties property ++ (codes "[" ++ (decimal index ++ codes "]"))

-- a reference to a property (21, BACnetPropertyReference)
unfoldable pub reference_text : Spelling → PropertyReference → List ℕ
reference_text s r = property_text s r.property r.index

-- a property of an object, as `5:1 85`
unfoldable pub place_text : Spelling → ObjectId → ℕ → Option ℕ → List ℕ
place_text s object property index = object_text s object ++ (codes " " ++ property_text s property index)

-- a number and octets
unfoldable pub numbered_text : ℕ → List ℕ → List ℕ
numbered_text n octets = decimal n ++ (codes " " ++ octets_text octets)

-- an octet of a text as it stands in a text in quotes: itself, or behind a backslash
abbrev pub escaped : ℕ → List ℕ
escaped octet =
    if (octet == 34) || (octet == 92) then codes "\\" ++ octet ∷ []
    else if nat_lt 31 octet && nat_lt octet 127 then octet ∷ []
    else codes "\\x" ++ pair_of octet

-- none of the octets is a quote, a backslash or a control character
abbrev pub is_plain : List ℕ → Bool
is_plain [] = true
is_plain (o ∷ os) =
    (if (o == 34) || (o == 92) then false else nat_lt 31 o && (if o == 127 then false else true)) && is_plain os

-- a text in UTF-8, in quotes: as it is where it is plain, and else with each octet that isn't ASCII escaped too
unfoldable pub quoted_text : List ℕ → List ℕ
quoted_text octets = codes "\"" ++ ((if is_plain octets then octets else flat_map escaped octets) ++ codes "\"")

-- a text in quotes, or its octets where it is no UTF-8
unfoldable pub readable_text : List ℕ → List ℕ
readable_text octets = if is_utf8 octets then quoted_text octets else octets_text octets

-- a text of set 0, or of the set behind a slash (20.2.9)
unfoldable pub text_text : Wording → ℕ → List ℕ → List ℕ
text_text wording.Numbers set octets =
    if set == 0 then codes "text " ++ octets_text octets else codes "text/" ++ numbered_text set octets
text_text w set octets =
    if set == 0 then codes "text " ++ readable_text octets else codes "text/" ++ numbered_text set octets

-- an Enumerated by its number, or as a BACnetBinaryPV (21)
unfoldable pub enum_text : Wording → ℕ → List ℕ
enum_text wording.States n = codes "enum " ++ named_text Names binary_values n
enum_text w n = codes "enum " ++ decimal n

-- how an object's type is spelled among values
abbrev pub spelling_of : Wording → Spelling
spelling_of wording.Numbers = Numbers
spelling_of w = Names

-- a value (20.2)
unfoldable pub value_text : {A : Type 0} → Wording → Value A → List ℕ
value_text w value.Null = codes "null"
value_text w (value.Bool true) = codes "bool true"
value_text w (value.Bool false) = codes "bool false"
value_text w (value.Unsigned n) = codes "unsigned " ++ decimal n
value_text w (value.Signed z) = codes "signed " ++ signed_decimal z
value_text w (value.Text set octets) = text_text w set octets
value_text w (value.Bits unused octets) = codes "bits " ++ numbered_text unused octets
value_text w (value.Enum n) = enum_text w n
value_text w (value.Object o) = codes "object " ++ object_text (spelling_of w) o
value_text w (value.Other tag octets) = codes "other " ++ numbered_text tag octets
value_text w (value.Built octets) = codes "built " ++ octets_text octets

-- how values are worded of which no property is known
abbrev pub wording_of : Spelling → Wording
wording_of Numbers = wording.Numbers
wording_of Names = wording.Names

-- the property of an object of this type holds a BACnetBinaryPV: Present_Value, Priority_Array or Relinquish_Default of
-- a Binary Value (12.8)
abbrev pub is_binary : ℕ → ℕ → Bool
is_binary object_type property = (object_type == 5) && ((property == 85) || (property == 87) || (property == 104))

-- how the values of a property of an object of this type are worded
abbrev pub wording_at : Spelling → ℕ → ℕ → Wording
wording_at Numbers object_type property = wording.Numbers
wording_at Names object_type property = if is_binary object_type property then wording.States else wording.Names

-- values, with a comma and a space between each and the next
unfoldable pub values_text : {A : Type 0} → Wording → List (Value A) → List ℕ
values_text w [] = []
values_text w (v ∷ vs) = value_text w v ++ flat_map (λ u. codes ", " ++ value_text w u) vs

-- the priority of a write, where it has one
unfoldable pub priority_text : Option ℕ → List ℕ
priority_text None = []
priority_text (Some priority) = codes " at " ++ decimal priority

-- the values of a write, behind a space
unfoldable pub given_text : {A : Type 0} → Wording → List (Value A) → List ℕ
given_text w [] = []
given_text w (v ∷ vs) = codes " " ++ values_text w (v ∷ vs)

-- a write of a property of an object, as `45:1 85 signed 20 at 8` (21, BACnetPropertyValue)
unfoldable pub write_text : {A : Type 0} → Spelling → ObjectId → PropertyWrite A → List ℕ
write_text s object w = place_text s object w.property w.index
    ++ (given_text (wording_at s object.object_type w.property) w.values ++ priority_text w.priority)

-- the writes to an object
unfoldable pub writes_text : {A : Type 0} → Spelling → ObjectId → List (PropertyWrite A) → List ℕ
writes_text s object [] = []
writes_text s object (w ∷ ws) = write_text s object w ++ flat_map (λ x. codes "; " ++ write_text s object x) ws

-- the writes to objects
unfoldable pub batch_text : {A : Type 0} → Spelling → List (ObjectWrites A) → List ℕ
batch_text s [] = []
batch_text s (g ∷ gs) =
    writes_text s g.object g.writes ++ flat_map (λ h. codes "; " ++ writes_text s h.object h.writes) gs

-- references to properties, with a comma between each and the next
unfoldable pub references_text : Spelling → List PropertyReference → List ℕ
references_text s [] = []
references_text s (r ∷ rs) = codes " " ++ (reference_text s r ++ flat_map (λ q. codes "," ++ reference_text s q) rs)

-- an object and references to its properties (15.7.3.1, ReadAccessSpecification)
unfoldable pub refs_text : {A : Type 0} → Spelling → ObjectRefs A → List ℕ
refs_text s g = codes " " ++ (object_text s g.object ++ references_text s g.refs)

-- a request (15)
unfoldable pub request_text : {A : Type 0} → Spelling → Request A → List ℕ
request_text s (request.Read object property index) = codes "read " ++ place_text s object property index
request_text s (request.ReadMany groups) = codes "many" ++ flat_map (λ g. refs_text s g) groups
request_text s (request.Write object property index values priority) =
    codes "write " ++ (place_text s object property index
    ++ (given_text (wording_at s object.object_type property) values ++ priority_text priority))
request_text s (request.WriteMany groups) = codes "batch " ++ batch_text s groups

-- the class and the code of an error, each behind a space (18)
unfoldable pub error_text : Spelling → ErrorClass → ErrorCode → List ℕ
error_text s class code = codes " " ++ (named_text s error_classes (class_number class)
    ++ (codes " " ++ named_text s error_codes (code_number code)))

-- what was read of a property of an object of this type, or why nothing was (15.7.3.2)
unfoldable pub outcome_text : {A : Type 0} → Spelling → (object_type property : ℕ) →
    Result (List (Value A)) (ErrorClass × ErrorCode) → List ℕ
outcome_text s object_type property (Ok values) = codes " = " ++ values_text (wording_at s object_type property) values
outcome_text s object_type property (Err e) = codes " !" ++ error_text s e.0 e.1

-- a property of an object of this type and what was read of it
unfoldable pub result_text : {A : Type 0} → Spelling → ℕ → PropertyResult A → List ℕ
result_text s object_type r = property_text s r.property r.index ++ outcome_text s object_type r.property r.result

-- what was read of the properties of an object of this type
unfoldable pub results_text : {A : Type 0} → Spelling → ℕ → List (PropertyResult A) → List ℕ
results_text s object_type [] = []
results_text s object_type (r ∷ rs) =
    codes " " ++ (result_text s object_type r ++ flat_map (λ q. codes "; " ++ result_text s object_type q) rs)

-- an object and what was read of it, within brackets (15.7.3.2, ReadAccessResult)
unfoldable pub object_results_text : {A : Type 0} → Spelling → ObjectResults A → List ℕ
object_results_text s o =
    codes " [" ++ (object_text s o.object ++ (results_text s o.object.object_type o.results ++ codes "]"))

-- the values that were read of a property, so worded, with no space where there are none
unfoldable pub read_text : {A : Type 0} → Wording → List (Value A) → List ℕ
read_text w [] = codes "values"
read_text w (v ∷ vs) = codes "values " ++ values_text w (v ∷ vs)

-- a reply
unfoldable pub reply_text : {A : Type 0} → Spelling → Reply A → List ℕ
reply_text s (reply.Values values) = read_text (wording_of s) values
reply_text s (reply.Many results) = codes "many" ++ flat_map (λ o. object_results_text s o) results
reply_text s reply.Done = codes "done"
reply_text s (reply.Error class code) = codes "error" ++ error_text s class code
reply_text s (reply.ErrorAt class code object property index) =
    codes "error" ++ (error_text s class code ++ (codes " at " ++ place_text s object property index))

-- how the values of a reply are worded, where the request is known: as those of the property that it reads (15.5)
abbrev pub wording_to : {A : Type 0} → Spelling → Option (Request A) → Wording
wording_to s (Some (request.Read object property index)) = wording_at s object.object_type property
wording_to s asked = wording_of s

-- a reply to a request, where that is known
unfoldable pub reply_to_text : {A : Type 0} → Spelling → Option (Request A) → Reply A → List ℕ
reply_to_text s asked (reply.Values values) = read_text (wording_to s asked) values
reply_to_text s asked r = reply_text s r

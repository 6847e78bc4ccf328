-- What a tag says in words (20.2, 21).
use Rattle.std.specs.Prelude.{ℕ, ◌/◌, ◌%◌, ◌==◌, ◌&&◌, nat_lt, if◌then◌else◌, Bool, true, false, List, [], ◌∷◌, ◌++◌}
use Rattle.std.specs.Prelude.{Option, None, Some, codes, length}
use Rattle.std.specs.Fmt.{decimal, signed_decimal}
use Rattle.byteorder.specs.Endian.{big_number, twos_complement}
use Rattle.names.specs.Names.{name_in}
use Rattle.names.specs.Tables.{binary_values, error_classes, error_codes, properties}
use Rattle.names.specs.Headers.{data_types, segmentations}
use Rattle.printing.specs.Printed.{is_binary, named_text, object_text, octets_text, readable_text}
use Rattle.printing.specs.declared.spelling.Spelling.TheVariants.{Names}
use Rattle.tags.specs.declared.tag.Class.{Class}
use Rattle.tags.specs.declared.tag.Class.TheVariants.{Application, Context}
use Rattle.tags.specs.Tag.{PlainTag, PlainContent, null, boolean, contents, opening, closing}
use Rattle.parameters.specs.Position.{has_number, number_in, parameter_of, behind}
use Rattle.parameters.specs.declared.position.Position.{Position}
use Rattle.parameters.specs.declared.productions.Parameter.{Parameter}
use Rattle.parameters.specs.declared.productions.Parameter.TheVariants as p
use Rattle.parameters.specs.declared.productions.Row.{Row}

-- a number behind a word, or its name in a table (21)
unfoldable pub number_note : List ℕ → List (ℕ × List ℕ) → List ℕ → List ℕ
number_note word table octets = if has_number octets then word ++ named_text Names table (number_in octets) else []

-- a Signed Integer (20.2.5)
unfoldable pub signed_note : List ℕ → List ℕ
signed_note octets =
    if has_number octets then codes " signed " ++ signed_decimal (twos_complement (length octets) (number_in octets))
    else []

-- an object behind a word (20.2.14)
unfoldable pub object_note : List ℕ → List ℕ → List ℕ
object_note word octets =
    if length octets == 4 then
    word ++ object_text Names
    (record { object_type = big_number 4 octets / 4194304; instance = big_number 4 octets % 4194304 })
    else []

-- a number and octets
abbrev pub pair : ℕ → List ℕ → List ℕ
pair n octets = decimal n ++ (codes " " ++ octets_text octets)

-- a Character String, and its set where that is not UTF-8 (20.2.9)
unfoldable pub text_note : List ℕ → List ℕ
text_note [] = []
text_note (set ∷ octets) =
    if set == 0 then codes " text " ++ readable_text octets else codes " text/" ++ pair set octets

-- a Bit String, with its unused bits (20.2.10)
unfoldable pub bits_note : List ℕ → List ℕ
bits_note [] = []
bits_note (unused ∷ octets) = codes " bits " ++ pair unused octets

-- a name, where there is one
abbrev pub behind_space : Option (List ℕ) → List ℕ
behind_space None = []
behind_space (Some name) = codes " " ++ name

-- the name of a type whose values aren't put in words
abbrev pub type_note : ℕ → List ℕ
type_note number = behind_space (name_in data_types number)

-- the states of an Enumerated that is a BACnetBinaryPV, as that of a Binary Value is (12.8)
abbrev pub states : Option ℕ → Option ℕ → List (ℕ × List ℕ)
states (Some object_type) (Some property) = if is_binary object_type property then binary_values else []
states _ _ = []

-- a value of a type, by the tag's number (20.2.1.4), where these are the states of an Enumerated
unfoldable pub typed_note : List (ℕ × List ℕ) → (number : ℕ) → List ℕ → List ℕ
typed_note table number octets =
    if number == 2 then number_note (codes " unsigned ") [] octets
    else if number == 3 then signed_note octets
    else if number == 7 then text_note octets
    else if number == 8 then bits_note octets
    else if number == 9 then number_note (codes " enum ") table octets
    else if number == 12 then object_note (codes " object ") octets
    else type_note number

-- the words of contents octets, by the parameter that they are; those of another by their type, if they have one
unfoldable pub octets_note : Parameter → Position → Class → (number : ℕ) → List ℕ → List ℕ
octets_note p.Object at class number octets = object_note (codes " ") octets
octets_note p.Property at class number octets = number_note (codes " ") properties octets
octets_note p.Index at class number octets = number_note (codes " index ") [] octets
octets_note p.Priority at class number octets = number_note (codes " priority ") [] octets
octets_note p.ErrorClass at class number octets = number_note (codes " ") error_classes octets
octets_note p.ErrorCode at class number octets = number_note (codes " ") error_codes octets
octets_note p.LowLimit at class number octets = number_note (codes " low-limit ") [] octets
octets_note p.HighLimit at class number octets = number_note (codes " high-limit ") [] octets
octets_note p.MaxApdu at class number octets = number_note (codes " max-apdu ") [] octets
octets_note p.Segmentation at class number octets = number_note (codes " ") segmentations octets
octets_note p.Vendor at class number octets = number_note (codes " vendor ") [] octets
octets_note p.Value at class number octets = typed_note (states at.object_type at.property) number octets
octets_note p.Other at Application number octets = typed_note [] number octets
octets_note p.Other at Context number octets = []

-- the words of what a tag carries
abbrev pub content_note : Parameter → Position → Class → (number : ℕ) → PlainContent → List ℕ
content_note q at class number null = codes " null"
content_note q at class number (boolean true) = codes " bool true"
content_note q at class number (boolean false) = codes " bool false"
content_note q at class number (contents octets) = octets_note q at class number octets
content_note q at class number opening = []
content_note q at class number closing = []

-- the words of a tag, behind a space, where it has any
abbrev pub note : Parameter → Position → PlainTag → List ℕ
note q at t = content_note q at t.class t.number t.content

-- those of a tag whose parameter is known
abbrev pub known_note : Parameter → Position → PlainTag → List ℕ
known_note p.Other at t = []
known_note q at t = note q at t

-- what tags say from here on, of which the parameter is known
abbrev pub gist : List Row → Position → List PlainTag → List ℕ
gist rows at [] = []
gist rows at (t ∷ ts) =
    known_note (parameter_of rows at t) at t ++ gist rows (behind (parameter_of rows at t) t at) ts

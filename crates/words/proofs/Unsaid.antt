-- A part that isn't said leaves the whole unsaid.
use Rattle.std.proofs.Common.{◌≡◌, ◌∙◌, inl, inr, sym, ap, subst, ℕ, ◌+◌, ◌*◌, Bool, true, false, List, [], length, Option, Some, None, Result, Ok, Err, arith}
use Rattle.std.specs.Prelude.{◌≢◌, ◌⊎◌, IfErr, IsErrAnd, slice_index, codes}
use Rattle.tags.specs.declared.value.Value.{Value}
use Rattle.tags.specs.declared.value.Value.TheVariants as value
use Rattle.words.specs.declared.unread.Unread.{Unread}
use Rattle.words.specs.declared.unread.Unread.TheVariants.{Memory}
use Rattle.words.specs.Digits.{NoOctets}
use Rattle.names.specs.Names.{number_in}
use Rattle.names.specs.Tables.{properties}
use Rattle.words.specs.Says.{Has, HasNo, before, behind, closing, colon, comma, opening, slash, space, SaysBool}
use Rattle.words.specs.Says.{SaysBracketed, SaysEnum, SaysProperty, SaysSet, SaysSlashed, SaysValue}
use Rattle.words.specs.Unsaid.{NoBool, NoSigned, NoUnsigned, NoNamedObject, NoObject, NoPropertyNumber, NoReference}
use Rattle.words.specs.Unsaid.{NoEnumerated, NoNumbered, NoSet, NoState, NoValue}

pub no_type : (word : List ℕ) → Has colon word → NoUnsigned 16 (before colon word) → NoObject word
no_type word has none = record {
  none = λ o s. elim s.form [
    | inl said ↦ none.none o.object_type said.type_said
    | inr named ↦ absurd (omega (arith, has, named.0))
  ];
}

pub no_instance : (word : List ℕ) → Has colon word → NoUnsigned 32 (behind colon word) → NoObject word
no_instance word has none = record {
  none = λ o s. elim s.form [
    | inl said ↦ none.none o.instance said.instance_said
    | inr named ↦ absurd (omega (arith, has, named.0))
  ];
}

pub no_named : (word : List ℕ) → HasNo colon word → NoNamedObject word → NoObject word
no_named word whole none = record {
  none = λ o s. elim s.form [
    | inl said ↦ absurd (omega (arith, whole, said.parted))
    | inr named ↦ none.none o named.1
  ];
}

pub ruleset object_laws = (no_type, no_instance, no_named)

pub no_named_instance : (word : List ℕ) → NoUnsigned 32 (behind comma word) → NoNamedObject word
no_named_instance word none = record { none = λ o s. none.none o.instance s.instance_said }

pub ruleset named_laws = (no_named_instance)

none_is_some : (n : ℕ) (named : Option ℕ) → named ≡ None → named ≡ Some n → ⊥
none_is_some n None e f = cc
none_is_some n (Some m) e f = cc

pub no_property_number : (word : List ℕ) → number_in properties word ≡ None → NoUnsigned 32 word → NoPropertyNumber word
no_property_number word unnamed none = record {
  none = λ n s. elim s.form [
    | inl t ↦ none.none n t
    | inr t ↦ none_is_some n (number_in properties word) unnamed t
  ];
}

pub ruleset number_laws = (no_property_number)

slash_element : (word : List ℕ) (p i : ℕ) → Has slash word →
    NoPropertyNumber (before slash word) ⊎ NoUnsigned 32 (behind slash word) →
    SaysSlashed word p i ⊎ SaysBracketed word p i → ⊥
slash_element word p i has (inl none) (inl s) = none.none p s.property_said
slash_element word p i has (inr none) (inl s) = none.none i s.index_said
slash_element word p i has none (inr s) = absurd (omega (arith, has, s.no_slash))

slashed : (word : List ℕ) (p : ℕ) (i : Option ℕ) → Has slash word →
    NoPropertyNumber (before slash word) ⊎ NoUnsigned 32 (behind slash word) → SaysProperty word p i → ⊥
slashed word p (Some i) has none s = slash_element word p i has none s.form
slashed word p None has none s = absurd (omega (arith, has, s.no_slash))

pub no_property : (word : List ℕ) → Has slash word → NoPropertyNumber (before slash word) → NoReference word
no_property word has none = record { none = λ r s. slashed word r.property r.index has (inl none) s }

pub no_index : (word : List ℕ) → Has slash word → NoUnsigned 32 (behind slash word) → NoReference word
no_index word has none = record { none = λ r s. slashed word r.property r.index has (inr none) s }

pub ruleset property_laws = (no_property, no_index)

plain : (word : List ℕ) (p : ℕ) (i : Option ℕ) → HasNo slash word → HasNo opening word → NoPropertyNumber word →
    SaysProperty word p i → ⊥
plain word p None whole opened none s = none.none p s.property_said
plain word p (Some i) whole opened none s = elim s.form [
  | inl t ↦ absurd (omega (arith, whole, t.parted))
  | inr t ↦ absurd (omega (arith, opened, t.opened))
]

pub no_plain : (word : List ℕ) → HasNo opening word → NoPropertyNumber word → HasNo slash word → NoReference word
no_plain word opened none whole = record { none = λ r s. plain word r.property r.index whole opened none s }

-- what is wrong with what stands in brackets
pub record IsBadElement (word : List ℕ) : Type 0 where
  pub none : (p i : ℕ) → SaysBracketed word p i → ⊥

element : (word : List ℕ) (p : ℕ) (i : Option ℕ) → HasNo slash word → Has opening word → IsBadElement word →
    SaysProperty word p i → ⊥
element word p None whole opened none s = absurd (omega (arith, opened, s.no_bracket))
element word p (Some i) whole opened none s = elim s.form [
  | inl t ↦ absurd (omega (arith, whole, t.parted))
  | inr t ↦ none.none p i t
]

pub bad_element : (word : List ℕ) → Has opening word → IsBadElement word → HasNo slash word → NoReference word
bad_element word opened none whole = record { none = λ r s. element word r.property r.index whole opened none s }

pub unclosed : (word : List ℕ) → HasNo closing (behind opening word) → IsBadElement word
unclosed word whole = record { none = λ p i s. absurd (omega (arith, whole, s.closed)) }

pub unended : (word : List ℕ) → behind closing (behind opening word) ≢ [] → IsBadElement word
unended word more = record { none = λ p i s. more s.ended }

pub no_bracketed : (word : List ℕ) → NoPropertyNumber (before opening word) → IsBadElement word
no_bracketed word none = record { none = λ p i s. none.none p s.property_said }

pub no_bracketed_index : (word : List ℕ) → NoUnsigned 32 (before closing (behind opening word)) → IsBadElement word
no_bracketed_index word none = record { none = λ p i s. none.none i s.index_said }

pub ruleset bracket_laws = (no_plain, bad_element, unclosed, unended, no_bracketed, no_bracketed_index)

pub no_number : (words : List ℕ) → NoUnsigned 8 (before space words) → NoNumbered words
no_number words none = record { none = λ n octets s. none.none n s.number_said }

pub no_octets : (words : List ℕ) → NoOctets (behind space words) → NoNumbered words
no_octets words none = record { none = λ n octets s. none.none octets s.octets_said }

no_flag : (word : List ℕ) (b : Bool) → word ≢ codes "true" → word ≢ codes "false" → SaysBool word b → ⊥
no_flag word true not_true not_false s = not_true s
no_flag word false not_true not_false s = not_false s

pub no_bool : (word : List ℕ) → word ≢ codes "true" → word ≢ codes "false" → NoBool word
no_bool word not_true not_false = record { none = λ b s. no_flag word b not_true not_false s }

-- what kinds that differ differ in: their count of characters, or one of the first two
abbrev signs : List ℕ → ℕ
signs kind = length kind + 256 * slice_index kind 0 + 65536 * slice_index kind 1

kinds_apart : (kind a b : List ℕ) → kind ≡ a → kind ≡ b → signs a ≢ signs b → ⊥
kinds_apart kind a b e f n = n (ap signs (sym e ∙ f))

-- an Enumerated is of another kind than these words
enum_apart : (words other : List ℕ) (n : ℕ) → Has space words → SaysEnum words n → before space words ≡ other →
    signs (codes "enum") ≢ signs other → ⊥
enum_apart words other n has s e apart = elim s.form [
  | inl t ↦ kinds_apart (before space words) (codes "enum") other t.0.kind_is e apart
  | inr t ↦ absurd (omega (arith, has, t.0))
]

null_has_no_space : (words : List ℕ) → Has space words → words ≡ codes "null" → ⊥
null_has_no_space words has e = absurd (omega (arith, subst (λ (w : List ℕ). Has space w) e has))

-- what has a slash is another kind than one without
set_apart : (kind other : List ℕ) (set : ℕ) → SaysSet kind set → kind ≡ other → signs (codes "text") ≢ signs other → (Has slash other → ⊥) → ⊥
set_apart kind other set (inl s) e apart none = kinds_apart kind (codes "text") other s.0 e apart
set_apart kind other set (inr s) e apart none = none (subst (λ (w : List ℕ). Has slash w) e s.0)

no_bool_value_in : {A : Type 0} (words : List ℕ) (v : Value A) → Has space words →
    before space words ≡ codes "bool" → NoBool (behind space words) → SaysValue words v → ⊥
no_bool_value_in words value.Null has e none s = null_has_no_space words has s
no_bool_value_in words (value.Bool b) has e none s = none.none b s.1
no_bool_value_in words (value.Text set octets) has e none s =
    set_apart (before space words) (codes "bool") set s.1 e (λ n. absurd (omega (arith, n)))
    (λ h. absurd (omega (arith, h)))
no_bool_value_in words (value.Enum n) has e none s =
    enum_apart words (codes "bool") n has s e (λ m. absurd (omega (arith, m)))
no_bool_value_in words v has e none s =
    kinds_apart (before space words) _ (codes "bool") s.0.kind_is e (λ n. absurd (omega (arith, n)))

pub no_bool_value : {A : Type 0} (words kind rest : List ℕ) → Has space words → kind ≡ before space words →
    rest ≡ behind space words → kind ≡ codes "bool" → NoBool rest → NoValue A words
no_bool_value words kind rest has front back e none =
    record { none = λ v s. no_bool_value_in words v has (sym front ∙ e) (subst (λ (w : List ℕ). NoBool w) back none) s }

no_unsigned_in : {A : Type 0} (words : List ℕ) (v : Value A) → Has space words →
    before space words ≡ codes "unsigned" → NoUnsigned 32 (behind space words) → SaysValue words v → ⊥
no_unsigned_in words value.Null has e none s = null_has_no_space words has s
no_unsigned_in words (value.Unsigned n) has e none s = none.none n s.1
no_unsigned_in words (value.Text set octets) has e none s =
    set_apart (before space words) (codes "unsigned") set s.1 e (λ n. absurd (omega (arith, n)))
    (λ h. absurd (omega (arith, h)))
no_unsigned_in words (value.Enum n) has e none s =
    enum_apart words (codes "unsigned") n has s e (λ m. absurd (omega (arith, m)))
no_unsigned_in words v has e none s =
    kinds_apart (before space words) _ (codes "unsigned") s.0.kind_is e (λ n. absurd (omega (arith, n)))

pub no_unsigned : {A : Type 0} (words kind rest : List ℕ) → Has space words → kind ≡ before space words →
    rest ≡ behind space words → kind ≡ codes "unsigned" → NoUnsigned 32 rest → NoValue A words
no_unsigned words kind rest has front back e none =
    record { none = λ v s. no_unsigned_in words v has (sym front ∙ e) (subst (λ (w : List ℕ). NoUnsigned 32 w) back none) s }

no_signed_in : {A : Type 0} (words : List ℕ) (v : Value A) → Has space words →
    before space words ≡ codes "signed" → NoSigned (behind space words) → SaysValue words v → ⊥
no_signed_in words value.Null has e none s = null_has_no_space words has s
no_signed_in words (value.Signed z) has e none s = none.none z s.1
no_signed_in words (value.Text set octets) has e none s =
    set_apart (before space words) (codes "signed") set s.1 e (λ n. absurd (omega (arith, n)))
    (λ h. absurd (omega (arith, h)))
no_signed_in words (value.Enum n) has e none s =
    enum_apart words (codes "signed") n has s e (λ m. absurd (omega (arith, m)))
no_signed_in words v has e none s =
    kinds_apart (before space words) _ (codes "signed") s.0.kind_is e (λ n. absurd (omega (arith, n)))

pub no_signed : {A : Type 0} (words kind rest : List ℕ) → Has space words → kind ≡ before space words →
    rest ≡ behind space words → kind ≡ codes "signed" → NoSigned rest → NoValue A words
no_signed words kind rest has front back e none =
    record { none = λ v s. no_signed_in words v has (sym front ∙ e) (subst (λ (w : List ℕ). NoSigned w) back none) s }

pub no_enumerated : (word : List ℕ) → NoUnsigned 32 word → NoState word → NoEnumerated word
no_enumerated word none other = record {
  none = λ n s. elim s.form [
    | inl t ↦ none.none n t
    | inr t ↦ other.none n t
  ];
}

pub ruleset enumerated_laws = (no_enumerated)

enum_in : (words : List ℕ) (n : ℕ) → Has space words → NoEnumerated (behind space words) → SaysEnum words n → ⊥
enum_in words n has none s = elim s.form [
  | inl t ↦ none.none n t.1
  | inr t ↦ absurd (omega (arith, has, t.0))
]

no_enum_in : {A : Type 0} (words : List ℕ) (v : Value A) → Has space words →
    before space words ≡ codes "enum" → NoEnumerated (behind space words) → SaysValue words v → ⊥
no_enum_in words value.Null has e none s = null_has_no_space words has s
no_enum_in words (value.Enum n) has e none s = enum_in words n has none s
no_enum_in words (value.Text set octets) has e none s =
    set_apart (before space words) (codes "enum") set s.1 e (λ n. absurd (omega (arith, n)))
    (λ h. absurd (omega (arith, h)))
no_enum_in words v has e none s =
    kinds_apart (before space words) _ (codes "enum") s.0.kind_is e (λ n. absurd (omega (arith, n)))

pub no_enum : {A : Type 0} (words kind rest : List ℕ) → Has space words → kind ≡ before space words →
    rest ≡ behind space words → kind ≡ codes "enum" → NoEnumerated rest → NoValue A words
no_enum words kind rest has front back e none =
    record { none = λ v s. no_enum_in words v has (sym front ∙ e) (subst (λ (w : List ℕ). NoEnumerated w) back none) s }

no_object_in : {A : Type 0} (words : List ℕ) (v : Value A) → Has space words →
    before space words ≡ codes "object" → NoObject (behind space words) → SaysValue words v → ⊥
no_object_in words value.Null has e none s = null_has_no_space words has s
no_object_in words (value.Object o) has e none s = none.none o s.1
no_object_in words (value.Text set octets) has e none s =
    set_apart (before space words) (codes "object") set s.1 e (λ n. absurd (omega (arith, n)))
    (λ h. absurd (omega (arith, h)))
no_object_in words (value.Enum n) has e none s =
    enum_apart words (codes "object") n has s e (λ m. absurd (omega (arith, m)))
no_object_in words v has e none s =
    kinds_apart (before space words) _ (codes "object") s.0.kind_is e (λ n. absurd (omega (arith, n)))

pub no_object : {A : Type 0} (words kind rest : List ℕ) → Has space words → kind ≡ before space words →
    rest ≡ behind space words → kind ≡ codes "object" → NoObject rest → NoValue A words
no_object words kind rest has front back e none =
    record { none = λ v s. no_object_in words v has (sym front ∙ e) (subst (λ (w : List ℕ). NoObject w) back none) s }

no_bits_in : {A : Type 0} (words : List ℕ) (v : Value A) → Has space words →
    before space words ≡ codes "bits" → NoNumbered (behind space words) → SaysValue words v → ⊥
no_bits_in words value.Null has e none s = null_has_no_space words has s
no_bits_in words (value.Bits n octets) has e none s = none.none n octets s.1
no_bits_in words (value.Text set octets) has e none s =
    set_apart (before space words) (codes "bits") set s.1 e (λ n. absurd (omega (arith, n)))
    (λ h. absurd (omega (arith, h)))
no_bits_in words (value.Enum n) has e none s =
    enum_apart words (codes "bits") n has s e (λ m. absurd (omega (arith, m)))
no_bits_in words v has e none s =
    kinds_apart (before space words) _ (codes "bits") s.0.kind_is e (λ n. absurd (omega (arith, n)))

pub no_bits : {A : Type 0} (words kind rest : List ℕ) → Has space words → kind ≡ before space words →
    rest ≡ behind space words → kind ≡ codes "bits" → NoNumbered rest → NoValue A words
no_bits words kind rest has front back e none =
    record { none = λ v s. no_bits_in words v has (sym front ∙ e) (subst (λ (w : List ℕ). NoNumbered w) back none) s }

no_other_in : {A : Type 0} (words : List ℕ) (v : Value A) → Has space words →
    before space words ≡ codes "other" → NoNumbered (behind space words) → SaysValue words v → ⊥
no_other_in words value.Null has e none s = null_has_no_space words has s
no_other_in words (value.Other n octets) has e none s = none.none n octets s.1
no_other_in words (value.Text set octets) has e none s =
    set_apart (before space words) (codes "other") set s.1 e (λ n. absurd (omega (arith, n)))
    (λ h. absurd (omega (arith, h)))
no_other_in words (value.Enum n) has e none s =
    enum_apart words (codes "other") n has s e (λ m. absurd (omega (arith, m)))
no_other_in words v has e none s =
    kinds_apart (before space words) _ (codes "other") s.0.kind_is e (λ n. absurd (omega (arith, n)))

pub no_other : {A : Type 0} (words kind rest : List ℕ) → Has space words → kind ≡ before space words →
    rest ≡ behind space words → kind ≡ codes "other" → NoNumbered rest → NoValue A words
no_other words kind rest has front back e none =
    record { none = λ v s. no_other_in words v has (sym front ∙ e) (subst (λ (w : List ℕ). NoNumbered w) back none) s }

no_built_in : {A : Type 0} (words : List ℕ) (v : Value A) → Has space words →
    before space words ≡ codes "built" → NoOctets (behind space words) → SaysValue words v → ⊥
no_built_in words value.Null has e none s = null_has_no_space words has s
no_built_in words (value.Built octets) has e none s = none.none octets s.1
no_built_in words (value.Text set octets) has e none s =
    set_apart (before space words) (codes "built") set s.1 e (λ n. absurd (omega (arith, n)))
    (λ h. absurd (omega (arith, h)))
no_built_in words (value.Enum n) has e none s =
    enum_apart words (codes "built") n has s e (λ m. absurd (omega (arith, m)))
no_built_in words v has e none s =
    kinds_apart (before space words) _ (codes "built") s.0.kind_is e (λ n. absurd (omega (arith, n)))

pub no_built : {A : Type 0} (words kind rest : List ℕ) → Has space words → kind ≡ before space words →
    rest ≡ behind space words → kind ≡ codes "built" → NoOctets rest → NoValue A words
no_built words kind rest has front back e none =
    record { none = λ v s. no_built_in words v has (sym front ∙ e) (subst (λ (w : List ℕ). NoOctets w) back none) s }

-- the kind is none of those but a text's
pub record IsText (kind : List ℕ) : Type 0 where
  pub not_bool : kind ≢ codes "bool"
  pub not_unsigned : kind ≢ codes "unsigned"
  pub not_signed : kind ≢ codes "signed"
  pub not_enum : kind ≢ codes "enum"
  pub not_object : kind ≢ codes "object"
  pub not_bits : kind ≢ codes "bits"
  pub not_other : kind ≢ codes "other"
  pub not_built : kind ≢ codes "built"

text_in : {A : Type 0} (words : List ℕ) (v : Value A) → Has space words → IsText (before space words) → NoSet (before space words) ⊎
    NoOctets (behind space words) → SaysValue words v → ⊥
text_in words value.Null has other none s = null_has_no_space words has s
text_in words (value.Bool b) has other none s = other.not_bool s.0.kind_is
text_in words (value.Unsigned n) has other none s = other.not_unsigned s.0.kind_is
text_in words (value.Signed z) has other none s = other.not_signed s.0.kind_is
text_in words (value.Enum n) has other none s = elim s.form [
  | inl t ↦ other.not_enum t.0.kind_is
  | inr t ↦ absurd (omega (arith, has, t.0))
]
text_in words (value.Object o) has other none s = other.not_object s.0.kind_is
text_in words (value.Text set octets) has other (inl none) s = none.none set s.1
text_in words (value.Text set octets) has other (inr none) s = none.none octets s.2
text_in words (value.Bits n octets) has other none s = other.not_bits s.0.kind_is
text_in words (value.Other n octets) has other none s = other.not_other s.0.kind_is
text_in words (value.Built octets) has other none s = other.not_built s.0.kind_is

pub no_text : {A : Type 0} (words : List ℕ) → Has space words → IsText (before space words) → NoSet (before space words) ⊎ NoOctets (behind space words) →
    NoValue A words
no_text words has other none = record { none = λ v s. text_in words v has other none s }

word_in : {A : Type 0} (words : List ℕ) (v : Value A) → HasNo space words → words ≢ codes "null" → NoState words →
    SaysValue words v → ⊥
word_in words value.Null whole other none s = other s
word_in words (value.Enum n) whole other none s = elim s.form [
  | inl t ↦ absurd (omega (arith, whole, t.0.parted))
  | inr t ↦ none.none n t.1
]
word_in words (value.Text set octets) whole other none s = absurd (omega (arith, whole, s.0))
word_in words v whole other none s = absurd (omega (arith, whole, s.0.parted))

pub no_word : {A : Type 0} (words : List ℕ) → HasNo space words → words ≢ codes "null" → NoState words → NoValue A words
no_word words whole other none = record { none = λ v s. word_in words v whole other none s }

-- what is refused where the words say no value
pub refused : {A : Type 0} (r : Result (Value A) Unread) (words : List ℕ) → NoValue A words → IfErr r (λ e. (e ≡ Memory) ⊎ NoValue A words)
refused (Ok v) words none = tt
refused (Err e) words none = inr none

-- the same where there may be no memory
pub refused_or : {A : Type 0} (r : Result (Value A) Unread) (words : List ℕ) (e : Unread) → IsErrAnd r (λ x. x ≡ e) → (e ≡ Memory) ⊎ NoValue A words →
    IfErr r (λ x. (x ≡ Memory) ⊎ NoValue A words)
refused_or (Ok v) words e is none = tt
refused_or (Err x) words e is (inl memory) = inl (is ∙ memory)
refused_or (Err x) words e is (inr none) = inr none

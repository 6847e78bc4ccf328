-- A part of a request that isn't said leaves the whole unsaid.
use Rattle.std.proofs.Common.{◌≡◌, ◌∙◌, inl, inr, sym, refl, ap, subst, ℕ, List, [], ◌∷◌, length, Option, Some, arith}
use Rattle.std.specs.Prelude.{◌≢◌, slice_index, codes}
use Rattle.primitives.specs.declared.plain_data.Request.{Request}
use Rattle.primitives.specs.declared.plain_data.Request.TheVariants as request
use Rattle.tags.specs.declared.value.Value.{Value}
use Rattle.tags.specs.declared.value.Value.TheVariants as value
use Rattle.words.specs.Marks.{first_part, other_parts, but_last_part, last_part}
use Rattle.words.specs.Says.{HasNo, before, behind, space, IsOfKind, SaysState, SaysValue}
use Rattle.words.specs.Unsaid.{NoObject, NoReference}
use Rattle.words.specs.Requests.{SaysGiven, SaysRequest}
use Rattle.words.specs.NoRequests.{NoBatch, NoGiven, NoMany, NoObjectWrite, NoPlace, NoPriority, NoReferences, NoRefs, NoRequest, NoWrite}

pub place_whole : (words : List ℕ) → HasNo space words → NoPlace words
place_whole words whole = record { none = λ o p i s. absurd (omega (arith, whole, s.parted)) }

pub place_no_object : (words : List ℕ) → NoObject (before space words) → NoPlace words
place_no_object words none = record { none = λ o p i s. none.none o s.object_said }

pub place_no_property : (words : List ℕ) → NoReference (behind space words) → NoPlace words
place_no_property words none = record { none = λ o p i s. none.none (record { property = p; index = i }) s.property_said }

pub write_no_priority : (A : Type 0) (words : List ℕ) → NoPriority (last_part (codes " at ") words) → NoWrite A words
write_no_priority A words none = record { none = λ w s. none.none w.priority s.priority_said }

pub write_no_property : (A : Type 0) (words : List ℕ) → NoReference (first_part (codes " ") (but_last_part (codes " at ") words)) → NoWrite A words
write_no_property A words none = record { none = λ w s. none.none (record { property = w.property; index = w.index }) s.property_said }

pub write_no_values : (A : Type 0) (words : List ℕ) → NoGiven A (other_parts (codes " ") (but_last_part (codes " at ") words)) → NoWrite A words
write_no_values A words none = record { none = λ w s. none.none w.values s.values_said }

nothing_is_no_state : (n : ℕ) → SaysState [] n → ⊥
nothing_is_no_state n s = cc

-- no value is said by no words
nothing_says_none : {A : Type 0} (v : Value A) → SaysValue [] v → ⊥
nothing_says_none value.Null s = absurd (omega (arith, ap length s))
nothing_says_none (value.Bool b) s = absurd (omega (arith, s.0.parted))
nothing_says_none (value.Unsigned n) s = absurd (omega (arith, s.0.parted))
nothing_says_none (value.Signed z) s = absurd (omega (arith, s.0.parted))
nothing_says_none (value.Enum n) s = elim s.form [
  | inl t ↦ absurd (omega (arith, t.0.parted))
  | inr t ↦ nothing_is_no_state n t.1
]
nothing_says_none (value.Object o) s = absurd (omega (arith, s.0.parted))
nothing_says_none (value.Text set octets) s = absurd (omega (arith, s.0))
nothing_says_none (value.Bits n octets) s = absurd (omega (arith, s.0.parted))
nothing_says_none (value.Other n octets) s = absurd (omega (arith, s.0.parted))
nothing_says_none (value.Built octets) s = absurd (omega (arith, s.0.parted))

nothing_first : first_part (codes ", ") [] ≡ []
unfolding first_part
nothing_first = refl

pub none_of_nothing : {A : Type 0} (words : List ℕ) (vs : List (Value A)) → words ≡ [] → SaysGiven (Some words) vs → ⊥
none_of_nothing words [] e s = s
none_of_nothing words (v ∷ vs) e s = nothing_says_none v (subst (λ (w : List ℕ). SaysValue w v) (ap (first_part (codes ", ")) e ∙ nothing_first) s.0)

write_of_nothing : {A : Type 0} (given : Option (List ℕ)) (rest : List ℕ) (vs : List (Value A)) → given ≡ Some rest → rest ≡ [] → SaysGiven given vs → ⊥
write_of_nothing given rest vs e f s = none_of_nothing rest vs f (subst (λ (w : Option (List ℕ)). SaysGiven w vs) e s)

pub write_empty : (A : Type 0) (words rest : List ℕ) → other_parts (codes " ") (but_last_part (codes " at ") words) ≡ Some rest → rest ≡ [] → NoWrite A words
write_empty A words rest e f = record {
  none =
      λ w s. write_of_nothing (other_parts (codes " ") (but_last_part (codes " at ") words)) rest w.values e f s.values_said;
}

pub object_whole : (A : Type 0) (words : List ℕ) → HasNo space words → NoObjectWrite A words
object_whole A words whole = record { none = λ w s. absurd (omega (arith, whole, s.parted)) }

pub object_none : (A : Type 0) (words : List ℕ) → NoObject (before space words) → NoObjectWrite A words
object_none A words none = record { none = λ w s. none.none w.0 s.object_said }

pub object_no_write : (A : Type 0) (words : List ℕ) → NoWrite A (behind space words) → NoObjectWrite A words
object_no_write A words none = record { none = λ w s. none.none w.1 s.write_said }

pub refs_whole : (A : Type 0) (words : List ℕ) → HasNo space words → NoRefs A words
refs_whole A words whole = record { none = λ g s. absurd (omega (arith, whole, s.parted)) }

pub refs_no_object : (A : Type 0) (words : List ℕ) → NoObject (before space words) → NoRefs A words
refs_no_object A words none = record { none = λ g s. none.none g.object s.object_said }

pub refs_none : (A : Type 0) (words : List ℕ) → NoReferences (first_part (codes " ") (behind space words)) → NoRefs A words
refs_none A words none = record { none = λ g s. none.none g.refs s.refs_said }

-- kinds that differ in their first character
kinds_apart : (kind a b : List ℕ) → kind ≡ a → kind ≡ b → slice_index a 0 ≢ slice_index b 0 → ⊥
kinds_apart kind a b e f n = n (ap (λ (l : List ℕ). slice_index l 0) (sym e ∙ f))

-- the verb of each request
abbrev pub verb_of : {A : Type 0} → Request A → List ℕ
verb_of (request.Read o p i) = codes "read"
verb_of (request.ReadMany groups) = codes "many"
verb_of (request.Write o p i vs l) = codes "write"
verb_of (request.WriteMany groups) = codes "batch"

has_verb : {A : Type 0} (words : List ℕ) (r : Request A) → SaysRequest words r → IsOfKind words (verb_of r)
has_verb words (request.Read o p i) s = s.0
has_verb words (request.ReadMany groups) s = s.0
has_verb words (request.Write o p i vs l) s = s.0
has_verb words (request.WriteMany groups) s = s.0

no_read_in : {A : Type 0} (words : List ℕ) (r : Request A) → before space words ≡ codes "read" → NoPlace (behind space words) → SaysRequest words r → ⊥
no_read_in words (request.Read o p i) e none s = none.none o p i s.1
no_read_in words (request.ReadMany groups) e none s =
    kinds_apart (before space words) (codes "many") (codes "read") s.0.kind_is e (λ n. absurd (omega (arith, n)))
no_read_in words (request.Write o p i vs l) e none s =
    kinds_apart (before space words) (codes "write") (codes "read") s.0.kind_is e (λ n. absurd (omega (arith, n)))
no_read_in words (request.WriteMany groups) e none s =
    kinds_apart (before space words) (codes "batch") (codes "read") s.0.kind_is e (λ n. absurd (omega (arith, n)))

no_many_in : {A : Type 0} (words : List ℕ) (r : Request A) → before space words ≡ codes "many" → NoMany A (behind space words) → SaysRequest words r → ⊥
no_many_in words (request.Read o p i) e none s = kinds_apart (before space words) (codes "read") (codes "many") s.0.kind_is e (λ n. absurd (omega (arith, n)))
no_many_in words (request.ReadMany groups) e none s = none.none groups s.1
no_many_in words (request.Write o p i vs l) e none s =
    kinds_apart (before space words) (codes "write") (codes "many") s.0.kind_is e (λ n. absurd (omega (arith, n)))
no_many_in words (request.WriteMany groups) e none s =
    kinds_apart (before space words) (codes "batch") (codes "many") s.0.kind_is e (λ n. absurd (omega (arith, n)))

no_write_in : {A : Type 0} (words : List ℕ) (r : Request A) → before space words ≡ codes "write" → NoObjectWrite A (behind space words) →
    SaysRequest words r → ⊥
no_write_in words (request.Read o p i) e none s = kinds_apart (before space words) (codes "read") (codes "write") s.0.kind_is e (λ n. absurd (omega (arith, n)))
no_write_in words (request.ReadMany groups) e none s =
    kinds_apart (before space words) (codes "many") (codes "write") s.0.kind_is e (λ n. absurd (omega (arith, n)))
no_write_in words (request.Write o p i vs l) e none s = none.none (o, record { property = p; index = i; values = vs; priority = l }) s.1
no_write_in words (request.WriteMany groups) e none s =
    kinds_apart (before space words) (codes "batch") (codes "write") s.0.kind_is e (λ n. absurd (omega (arith, n)))

no_batch_in : {A : Type 0} (words : List ℕ) (r : Request A) → before space words ≡ codes "batch" → NoBatch A (behind space words) → SaysRequest words r → ⊥
no_batch_in words (request.Read o p i) e none s = kinds_apart (before space words) (codes "read") (codes "batch") s.0.kind_is e (λ n. absurd (omega (arith, n)))
no_batch_in words (request.ReadMany groups) e none s =
    kinds_apart (before space words) (codes "many") (codes "batch") s.0.kind_is e (λ n. absurd (omega (arith, n)))
no_batch_in words (request.Write o p i vs l) e none s =
    kinds_apart (before space words) (codes "write") (codes "batch") s.0.kind_is e (λ n. absurd (omega (arith, n)))
no_batch_in words (request.WriteMany groups) e none s = none.none groups s.1

pub request_whole : (A : Type 0) (words : List ℕ) → HasNo space words → NoRequest A words
request_whole A words whole = record { none = λ r s. absurd (omega (arith, whole, (has_verb words r s).parted)) }

pub no_read : (A : Type 0) (words : List ℕ) → before space words ≡ codes "read" → NoPlace (behind space words) → NoRequest A words
no_read A words e none = record { none = λ r s. no_read_in words r e none s }

pub no_many : (A : Type 0) (words : List ℕ) → before space words ≡ codes "many" → NoMany A (behind space words) → NoRequest A words
no_many A words e none = record { none = λ r s. no_many_in words r e none s }

pub no_write : (A : Type 0) (words : List ℕ) → before space words ≡ codes "write" → NoObjectWrite A (behind space words) → NoRequest A words
no_write A words e none = record { none = λ r s. no_write_in words r e none s }

pub no_batch : (A : Type 0) (words : List ℕ) → before space words ≡ codes "batch" → NoBatch A (behind space words) → NoRequest A words
no_batch A words e none = record { none = λ r s. no_batch_in words r e none s }

-- the verb is none of a request
pub record IsNoVerb (kind : List ℕ) : Type 0 where
  pub not_read : kind ≢ codes "read"
  pub not_write : kind ≢ codes "write"
  pub not_many : kind ≢ codes "many"
  pub not_batch : kind ≢ codes "batch"

no_verb_in : {A : Type 0} (words : List ℕ) (r : Request A) → IsNoVerb (before space words) → SaysRequest words r → ⊥
no_verb_in words (request.Read o p i) other s = other.not_read s.0.kind_is
no_verb_in words (request.ReadMany groups) other s = other.not_many s.0.kind_is
no_verb_in words (request.Write o p i vs l) other s = other.not_write s.0.kind_is
no_verb_in words (request.WriteMany groups) other s = other.not_batch s.0.kind_is

pub no_verb : (A : Type 0) (words : List ℕ) → IsNoVerb (before space words) → NoRequest A words
no_verb A words other = record { none = λ r s. no_verb_in words r other s }

pub ruleset place_laws = (place_whole, place_no_object, place_no_property)

pub ruleset write_laws = (write_empty, write_no_priority, write_no_property, write_no_values)

pub ruleset object_laws = (object_whole, object_none, object_no_write)

pub ruleset refs_laws = (refs_whole, refs_no_object, refs_none)

pub ruleset request_laws = (request_whole, no_read, no_many, no_write, no_batch, no_verb)

-- A part of an error's names that isn't said leaves the whole unsaid.
use Rattle.std.proofs.Common.{◌≡◌, ◌∙◌, ap, sym, ℕ, List, Option, Some, None, arith}
use Rattle.std.specs.Prelude.{◌≢◌, codes}
use Rattle.expectations.specs.Errors.{NoClass, NoCode, NoErrorNames, NoWrite, SaysClass, SaysClassFirst, SaysCode}
use Rattle.expectations.specs.Errors.{SaysErrorNames, SaysWrite}
use Rattle.names.specs.Names.{number_in}
use Rattle.names.specs.Tables.{error_classes, error_codes}
use Rattle.primitives.specs.Errors.{IsClassOf, IsCodeOf, class_number, code_number}
use Rattle.primitives.specs.declared.error.ErrorClass.{ErrorClass}
use Rattle.primitives.specs.declared.error.ErrorCode.{ErrorCode}
use Rattle.primitives.specs.declared.plain_data.Reply.{Reply}
use Rattle.primitives.specs.declared.plain_data.Reply.TheVariants as reply
use Rattle.tags.specs.declared.object_id.ObjectId.{ObjectId}
use Rattle.words.proofs.Requests.{place_no_object, place_no_property, place_whole}
use Rattle.words.specs.NoRequests.{NoPlace}
use Rattle.words.specs.Says.{Has, HasNo, before, behind, space}

none_is_some : (n : ℕ) (found : Option ℕ) → found ≡ None → found ≡ Some n → ⊥
none_is_some n None e f = cc
none_is_some n (Some m) e f = cc

pub no_class : (word : List ℕ) → number_in error_classes word ≡ None → NoClass word
no_class word none = record { none = λ c s. none_is_some (class_number c) (number_in error_classes word) none s.name }

pub class_said : (word : List ℕ) (n : ℕ) (c : ErrorClass) → number_in error_classes word ≡ Some n → IsClassOf n c →
    SaysClass word c
class_said word n c e is = record { name = e ∙ ap Some (sym (is.0)); named = is.1 }

pub ruleset class_laws = (no_class, class_said)

pub no_code : (word : List ℕ) → number_in error_codes word ≡ None → NoCode word
no_code word none = record { none = λ c s. none_is_some (code_number c) (number_in error_codes word) none s.name }

pub code_said : (word : List ℕ) (n : ℕ) (c : ErrorCode) → number_in error_codes word ≡ Some n → IsCodeOf n c →
    SaysCode word c
code_said word n c e is = record { name = e ∙ ap Some (sym (is.0)); named = is.1 }

pub ruleset code_laws = (no_code, code_said)

pub ruleset place_laws = (place_whole, place_no_object, place_no_property)

pub write_whole : (words : List ℕ) → HasNo space words → NoWrite words
write_whole words whole = record { none = λ o p i s. absurd (let k = s.kind.parted in omega (arith, whole, k)) }

pub write_other : (words : List ℕ) → before space words ≢ codes "at" → NoWrite words
write_other words other = record { none = λ o p i s. other s.kind.kind_is }

pub write_no_place : (words : List ℕ) → NoPlace (behind space words) → NoWrite words
write_no_place words none = record { none = λ o p i s. none.none o p i s.place_said }

pub ruleset write_laws = (write_whole, write_other, write_no_place)

no_first : {A : Type 0} (words : List ℕ) (r : Reply A) → ((c : ErrorClass) → SaysClassFirst words c → ⊥) →
    SaysErrorNames words r → ⊥
no_first words (reply.Error c d) none s = none c s.0
no_first words (reply.ErrorAt c d o p i) none s = none c s.0
no_first words (reply.Values vs) none s = s
no_first words (reply.Many all) none s = s
no_first words reply.Done none s = s

pub names_whole : (A : Type 0) (words : List ℕ) → HasNo space words → NoErrorNames A words
names_whole A words whole = record {
  none = λ r s. no_first words r (λ c f. absurd (let k = f.parted in omega (arith, whole, k))) s;
}

pub names_no_class : (A : Type 0) (words : List ℕ) → NoClass (before space words) → NoErrorNames A words
names_no_class A words none = record { none = λ r s. no_first words r (λ c f. none.none c f.class_said) s }

no_code_alone : {A : Type 0} (words : List ℕ) (r : Reply A) → HasNo space (behind space words) →
    NoCode (behind space words) → SaysErrorNames words r → ⊥
no_code_alone words (reply.Error c d) whole none s = none.none d s.2
no_code_alone words (reply.ErrorAt c d o p i) whole none s = absurd (let k = s.1 in omega (arith, whole, k))
no_code_alone words (reply.Values vs) whole none s = s
no_code_alone words (reply.Many all) whole none s = s
no_code_alone words reply.Done whole none s = s

pub names_no_code_alone : (A : Type 0) (words : List ℕ) → HasNo space (behind space words) →
    NoCode (behind space words) → NoErrorNames A words
names_no_code_alone A words whole none = record { none = λ r s. no_code_alone words r whole none s }

no_code_before : {A : Type 0} (words : List ℕ) (r : Reply A) → Has space (behind space words) →
    NoCode (before space (behind space words)) → SaysErrorNames words r → ⊥
no_code_before words (reply.Error c d) parted none s = absurd (let k = s.1 in omega (arith, parted, k))
no_code_before words (reply.ErrorAt c d o p i) parted none s = none.none d s.2
no_code_before words (reply.Values vs) parted none s = s
no_code_before words (reply.Many all) parted none s = s
no_code_before words reply.Done parted none s = s

pub names_no_code : (A : Type 0) (words : List ℕ) → Has space (behind space words) →
    NoCode (before space (behind space words)) → NoErrorNames A words
names_no_code A words parted none = record { none = λ r s. no_code_before words r parted none s }

no_write_behind : {A : Type 0} (words : List ℕ) (r : Reply A) → Has space (behind space words) →
    NoWrite (behind space (behind space words)) → SaysErrorNames words r → ⊥
no_write_behind words (reply.Error c d) parted none s = absurd (let k = s.1 in omega (arith, parted, k))
no_write_behind words (reply.ErrorAt c d o p i) parted none s = none.none o p i s.3
no_write_behind words (reply.Values vs) parted none s = s
no_write_behind words (reply.Many all) parted none s = s
no_write_behind words reply.Done parted none s = s

pub names_no_write : (A : Type 0) (words : List ℕ) → Has space (behind space words) →
    NoWrite (behind space (behind space words)) → NoErrorNames A words
names_no_write A words parted none = record { none = λ r s. no_write_behind words r parted none s }

pub class_first : (words : List ℕ) (c : ErrorClass) → Has space words → SaysClass (before space words) c →
    SaysClassFirst words c
class_first words c parted said = record { parted = parted; class_said = said }

pub ruleset names_laws = (class_first, names_whole, names_no_class, names_no_code_alone, names_no_code, names_no_write)

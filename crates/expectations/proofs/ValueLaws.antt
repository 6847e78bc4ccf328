-- A part of what a property reads that isn't said leaves the whole unsaid.
use Rattle.std.proofs.Common.{◌≡◌, subst, sym, ℕ, ℤ, List, [], Option, Some, None, arith}
use Rattle.std.specs.Prelude.{◌≢◌, codes}
use Rattle.expectations.specs.declared.expectation.ExpectedValue.{ExpectedValue}
use Rattle.expectations.specs.declared.expectation.ExpectedValue.TheVariants as value
use Rattle.expectations.specs.Values.{NoExpectedValue, NoReads, NoWhole, SaysExpectedValue, SaysReads, SaysValueForm}
use Rattle.expectations.specs.Values.{SaysValueIn, SaysWhole}
use Rattle.network_faults.specs.Unsaid.{NoStation}
use Rattle.tags.specs.declared.value.Value.{Value}
use Rattle.words.specs.Marks.{first_part, other_parts}
use Rattle.words.specs.NoRequests.{NoPlace, NoValues}
use Rattle.words.specs.Requests.{SaysValues}
use Rattle.words.specs.Says.{HasNo, before, behind, space}

pub value_empty : (A : Type 0) (words : List ℕ) → words ≡ [] → NoExpectedValue A words
value_empty A words empty = record { none = λ v s. s.some empty }

pub number_said : {A : Type 0} (words : List ℕ) (z : ℤ) → words ≢ [] → SaysWhole words z →
    SaysExpectedValue {A = A} words (value.Number z)
number_said words z some s = record { some = some; form = s }

pub values_said : {A : Type 0} (words : List ℕ) (vs : List (Value A)) → words ≢ [] → SaysValues words vs →
    SaysExpectedValue words (value.Values vs)
values_said words vs some s = record { some = some; form = s }

neither_in : {A : Type 0} (words : List ℕ) (v : ExpectedValue A) → NoWhole words → NoValues A words →
    SaysValueForm words v → ⊥
neither_in words (value.Number z) no_number no_values s = no_number.none z s
neither_in words (value.Values vs) no_number no_values s = no_values.none vs s

pub neither : (A : Type 0) (words : List ℕ) → NoWhole words → NoValues A words → NoExpectedValue A words
neither A words no_number no_values = record { none = λ v s. neither_in words v no_number no_values s.form }

pub ruleset value_laws = (value_empty, number_said, values_said, neither)

none_in : {A : Type 0} (given : Option (List ℕ)) (v : ExpectedValue A) → given ≡ None → SaysValueIn given v → ⊥
none_in given v e s = subst (λ (g : Option (List ℕ)). SaysValueIn g v) e s

other_in : {A : Type 0} (given : Option (List ℕ)) (w : List ℕ) (v : ExpectedValue A) → given ≡ Some w →
    NoExpectedValue A w → SaysValueIn given v → ⊥
other_in given w v e none s = none.none v (subst (λ (g : Option (List ℕ)). SaysValueIn g v) e s)

pub value_given : {A : Type 0} (words w : List ℕ) (v : ExpectedValue A) → other_parts (codes " = ") words ≡ Some w →
    SaysExpectedValue w v → SaysValueIn (other_parts (codes " = ") words) v
value_given words w v e s = subst (λ (g : Option (List ℕ)). SaysValueIn g v) (sym e) s

pub reads_unmarked : (A : Type 0) (words : List ℕ) → other_parts (codes " = ") words ≡ None → NoReads A words
reads_unmarked A words e = record { none = λ n o p v s. none_in (other_parts (codes " = ") words) v e s.value_said }

pub reads_no_value : (A : Type 0) (words w : List ℕ) → other_parts (codes " = ") words ≡ Some w →
    NoExpectedValue A w → NoReads A words
reads_no_value A words w e none = record {
  none = λ n o p v s. other_in (other_parts (codes " = ") words) w v e none s.value_said;
}

pub reads_whole : (A : Type 0) (words : List ℕ) → HasNo space (first_part (codes " = ") words) → NoReads A words
reads_whole A words whole = record { none = λ n o p v s. absurd (let k = s.parted in omega (arith, whole, k)) }

pub reads_no_station : (A : Type 0) (words : List ℕ) → NoStation (before space (first_part (codes " = ") words)) →
    NoReads A words
reads_no_station A words none = record { none = λ n o p v s. none.none n s.station_said }

pub reads_no_place : (A : Type 0) (words : List ℕ) → NoPlace (behind space (first_part (codes " = ") words)) →
    NoReads A words
reads_no_place A words none = record { none = λ n o p v s. none.none o p.property p.index s.place_said }

pub ruleset reads_laws = (value_given, reads_unmarked, reads_no_value, reads_whole, reads_no_station, reads_no_place)

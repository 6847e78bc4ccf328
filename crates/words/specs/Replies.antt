-- Which replies words say (15.5, 15.7, 15.9, 15.10, 18).
use Rattle.std.specs.Prelude.{◌≡◌, ◌++◌, ◌∷◌, ℕ, List, [], Option, Some, None, Result, Ok, Err, IsSomeAnd, codes}
use Rattle.primitives.specs.Errors.{class_number, code_number, IsNamedClass, IsNamedCode}
use Rattle.primitives.specs.declared.error.ErrorClass.{ErrorClass}
use Rattle.primitives.specs.declared.error.ErrorCode.{ErrorCode}
use Rattle.primitives.specs.declared.plain_data.ObjectResults.{ObjectResults}
use Rattle.primitives.specs.declared.plain_data.PropertyResult.{PropertyResult}
use Rattle.primitives.specs.declared.plain_data.Reply.{Reply}
use Rattle.primitives.specs.declared.plain_data.Reply.TheVariants as reply
use Rattle.tags.specs.declared.value.Value.{Value}
use Rattle.words.specs.Marks.{first_part, other_parts}
use Rattle.words.specs.Requests.{SaysGiven, SaysParts, SaysPlace, SaysValues}
use Rattle.words.specs.Says.{Has, before, behind, space, SaysObject, SaysProperty, SaysUnsigned}

-- a class and a code by their numbers, each under its name, as `2 40` (18)
pub record SaysError (words : List ℕ) (class : ErrorClass) (code : ErrorCode) : Type 0 where
  pub parted : Has space words
  pub class_said : SaysUnsigned 32 (before space words) (class_number class)
  pub class_named : IsNamedClass class
  pub code_said : SaysUnsigned 32 (behind space words) (code_number code)
  pub code_named : IsNamedCode code

-- the part of these words is there, and says the error
abbrev pub SaysErrorIn : Option (List ℕ) → ErrorClass × ErrorCode → Type 0
SaysErrorIn None e = ⊥
SaysErrorIn (Some words) e = SaysError words e.0 e.1

-- an error behind ` ! `, and no values
abbrev pub IsErrorIn : {A : Type 0} → Option (List ℕ) → Result (List (Value A)) (ErrorClass × ErrorCode) → Type 0
IsErrorIn words (Ok values) = ⊥
IsErrorIn words (Err e) = SaysErrorIn words e

-- why nothing was read of a property, as `87/17 ! 2 42` (15.7.3.2)
pub record SaysRefusal {A : Type 0} (words : List ℕ) (r : PropertyResult A) : Type 0 where
  pub property_said : SaysProperty (first_part (codes " ! ") words) r.property r.index
  pub error_said : IsErrorIn (other_parts (codes " ! ") words) r.result

-- these are values, and the words say them
abbrev pub AreValuesIn : {A : Type 0} → List ℕ → Result (List (Value A)) (ErrorClass × ErrorCode) → Type 0
AreValuesIn words (Ok values) = SaysValues words values
AreValuesIn words (Err e) = ⊥

-- what was read of a property, where these words say the property and those behind a ` = ` the values
pub record SaysValuesRead {A : Type 0} (place given : List ℕ) (r : PropertyResult A) : Type 0 where
  pub property_said : SaysProperty place r.property r.index
  pub values_said : AreValuesIn given r.result

-- the words behind a ` = `, if there is one, say the values; else nothing was read
abbrev pub SaysResultBy : {A : Type 0} → List ℕ → Option (List ℕ) → PropertyResult A → Type 0
SaysResultBy words None r = SaysRefusal words r
SaysResultBy words (Some given) r = SaysValuesRead (first_part (codes " = ") words) given r

-- what was read of a property, as `85 = enum 1` or `87/17 ! 2 42` (15.7.3.2)
abbrev pub SaysResult : {A : Type 0} → List ℕ → PropertyResult A → Type 0
SaysResult words r = SaysResultBy words (other_parts (codes " = ") words) r

-- such results, parted by `; `
abbrev pub SaysEachResult : {A : Type 0} → Option (List ℕ) → List (PropertyResult A) → Type 0
SaysEachResult words results = SaysParts (codes "; ") SaysResult words results

-- what was read of an object, as `5:1 85 = enum 1; 87/17 ! 2 42` (15.7.3.2)
pub record SaysResults {A : Type 0} (words : List ℕ) (r : ObjectResults A) : Type 0 where
  pub object_said : SaysObject (first_part (codes " ") words) r.object
  pub results_said : SaysEachResult (other_parts (codes " ") words) r.results

-- what was read of several objects, parted by `] [`
abbrev pub SaysObjects : {A : Type 0} → List ℕ → List (ObjectResults A) → Type 0
SaysObjects words all = SaysParts (codes "] [") SaysResults (Some words) all

-- these stand between a bracket at the front and one at the end
abbrev pub IsBracketed : List ℕ → List ℕ → Type 0
IsBracketed words inner = words ≡ 91 ∷ (inner ++ 93 ∷ [])

-- what was read of several objects, each within brackets
pub record SaysBracketed {A : Type 0} (words : List ℕ) (all : List (ObjectResults A)) : Type 0 where
  pub inner : List ℕ
  pub bracketed : IsBracketed words inner
  pub objects_said : SaysObjects inner all

-- the same, or nothing where nothing was read
abbrev pub SaysManyRead : {A : Type 0} → Option (List ℕ) → List (ObjectResults A) → Type 0
SaysManyRead None [] = Unit {0}
SaysManyRead None (r ∷ rs) = ⊥
SaysManyRead (Some words) all = SaysBracketed words all

-- an error and the write that failed: before the first ` at ` the error, behind it the object and its property
abbrev pub SaysNamedError : {A : Type 0} → List ℕ → List ℕ → Reply A → Type 0
SaysNamedError front place (reply.ErrorAt class code object property index) =
    SaysError front class code × SaysPlace place object property index
SaysNamedError front place r = ⊥

-- an error without a write
abbrev pub SaysBareError : {A : Type 0} → List ℕ → Reply A → Type 0
SaysBareError words (reply.Error class code) = SaysError words class code
SaysBareError words r = ⊥

-- an error, where these words stand behind the first ` at `
abbrev pub SaysErrorBy : {A : Type 0} → List ℕ → Option (List ℕ) → Reply A → Type 0
SaysErrorBy words None r = SaysBareError words r
SaysErrorBy words (Some place) r = SaysNamedError (first_part (codes " at ") words) place r

-- an error, as `2 40`, or with the write that failed, as `2 40 at 5:1 77`
abbrev pub SaysErrorReply : {A : Type 0} → List ℕ → Reply A → Type 0
SaysErrorReply words r = SaysErrorBy words (other_parts (codes " at ") words) r

-- the kind of a reply, and the words behind it, if there are any
abbrev pub SaysKind : {A : Type 0} → List ℕ → Option (List ℕ) → Reply A → Type 0
SaysKind kind words (reply.Values values) = (kind ≡ codes "values") × SaysGiven words values
SaysKind kind words (reply.Many all) = (kind ≡ codes "many") × SaysManyRead words all
SaysKind kind words reply.Done = (kind ≡ codes "done") × (words ≡ None)
SaysKind {A} kind words (reply.Error class code) = (kind ≡ codes "error") ×
    IsSomeAnd words (λ w. SaysErrorReply {A = A} w (reply.Error class code))
SaysKind {A} kind words (reply.ErrorAt class code object property index) = (kind ≡ codes "error") ×
    IsSomeAnd words (λ w. SaysErrorReply {A = A} w (reply.ErrorAt class code object property index))

-- the words say the reply, with a spelling or without
abbrev pub SaysReply : {A : Type 0} → List ℕ → Reply A → Type 0
SaysReply words r = SaysKind (first_part (codes " ") words) (other_parts (codes " ") words) r

-- the words say no class and code
pub record NoError (words : List ℕ) : Type 0 where
  pub none : (class : ErrorClass) (code : ErrorCode) → SaysError words class code → ⊥

-- the words say no refusal of a property
pub record NoRefusal (A : Type 0) (words : List ℕ) : Type 0 where
  pub none : (r : PropertyResult A) → SaysRefusal words r → ⊥

-- the words say nothing that was read of a property
pub record NoResult (A : Type 0) (words : List ℕ) : Type 0 where
  pub none : (r : PropertyResult A) → SaysResult words r → ⊥

-- the words say no list of such
pub record NoEachResult (A : Type 0) (words : Option (List ℕ)) : Type 0 where
  pub none : (rs : List (PropertyResult A)) → SaysEachResult words rs → ⊥

-- the words say nothing that was read of an object
pub record NoResults (A : Type 0) (words : List ℕ) : Type 0 where
  pub none : (r : ObjectResults A) → SaysResults words r → ⊥

-- the words say nothing that was read of several objects
pub record NoObjects (A : Type 0) (words : List ℕ) : Type 0 where
  pub none : (all : List (ObjectResults A)) → SaysObjects words all → ⊥

-- the words say nothing that was read within brackets
pub record NoBracketed (A : Type 0) (words : List ℕ) : Type 0 where
  pub none : (all : List (ObjectResults A)) → SaysBracketed words all → ⊥

-- the words have no brackets at both ends
pub record NoBrackets (words : List ℕ) : Type 0 where
  pub none : (inner : List ℕ) → IsBracketed words inner → ⊥

-- the words say no error and write that failed
pub record NoNamedError (A : Type 0) (front place : List ℕ) : Type 0 where
  pub none : (r : Reply A) → SaysNamedError front place r → ⊥

-- the words say no values of a property
pub record NoValuesRead (A : Type 0) (place given : List ℕ) : Type 0 where
  pub none : (r : PropertyResult A) → SaysValuesRead place given r → ⊥

-- the words say no error
pub record NoErrorReply (A : Type 0) (words : List ℕ) : Type 0 where
  pub none : (r : Reply A) → SaysErrorReply words r → ⊥

-- the words behind this kind say no reply
pub record NoKind (A : Type 0) (kind : List ℕ) (words : Option (List ℕ)) : Type 0 where
  pub none : (r : Reply A) → SaysKind kind words r → ⊥

-- the words say no reply
pub record NoReply (A : Type 0) (words : List ℕ) : Type 0 where
  pub none : (r : Reply A) → SaysReply words r → ⊥

-- Which replies answer a request (15.5 to 15.10).
use Rattle.std.specs.Prelude.{◌≡◌, ◌≢◌, List, [], ◌∷◌, map}
use Rattle.std.specs.List.{AllByRecursion}
use Rattle.primitives.specs.Numbers.{ALL_PROPERTIES, OPTIONAL_PROPERTIES, REQUIRED_PROPERTIES}
use Rattle.primitives.specs.declared.plain_data.Request.{Request}
use Rattle.primitives.specs.declared.plain_data.Request.TheVariants.{Read, ReadMany, Write, WriteMany}
use Rattle.primitives.specs.declared.plain_data.ObjectRefs.{ObjectRefs}
use Rattle.primitives.specs.declared.plain_data.PropertyReference.{PropertyReference}
use Rattle.primitives.specs.declared.plain_data.Reply.{Reply}
use Rattle.primitives.specs.declared.plain_data.Reply.TheVariants.{Values, Many, Done, Error, ErrorAt}
use Rattle.primitives.specs.declared.plain_data.ObjectResults.{ObjectResults}
use Rattle.primitives.specs.declared.plain_data.PropertyResult.{PropertyResult}

-- a property's own number, and none that stands for all, optional or required ones (15.7.3.1.2)
abbrev pub IsOneProperty : PropertyReference → Type 0
IsOneProperty r =
    (r.property ≢ ALL_PROPERTIES) × (r.property ≢ OPTIONAL_PROPERTIES) × (r.property ≢ REQUIRED_PROPERTIES)

-- the property and index that were read
abbrev pub read_reference : {A : Type 0} → PropertyResult A → PropertyReference
read_reference r = record { property = r.property; index = r.index }

-- the object asked, with the references asked where each names one property (15.7.3.2)
pub record AnswersRefs {A : Type 0} (asked : ObjectRefs A) (answered : ObjectResults A) : Type 0 where
  pub object : answered.object ≡ asked.object
  pub references : AllByRecursion IsOneProperty asked.refs → map read_reference answered.results ≡ asked.refs

-- the objects asked, in their order (15.7.3.2)
abbrev pub AnswersAll : {A : Type 0} → List (ObjectRefs A) → List (ObjectResults A) → Type 0
AnswersAll [] [] = Unit {0}
AnswersAll (asked ∷ others) (answered ∷ results) = AnswersRefs asked answered × AnswersAll others results
AnswersAll asked results = ⊥

-- the reply is of a kind that the request's service gives (15.5.1, 15.7.3, 15.9.1, 15.10.1)
abbrev pub IsAnswerTo : {A : Type 0} → Request A → Reply A → Type 0
IsAnswerTo (Read object property index) (Values values) = Unit {0}
IsAnswerTo (Read object property index) (Error class code) = Unit {0}
IsAnswerTo (ReadMany asked) (Many results) = AnswersAll asked results
IsAnswerTo (ReadMany asked) (Error class code) = Unit {0}
IsAnswerTo (Write object property index values priority) Done = Unit {0}
IsAnswerTo (Write object property index values priority) (Error class code) = Unit {0}
IsAnswerTo (WriteMany asked) Done = Unit {0}
IsAnswerTo (WriteMany asked) (ErrorAt class code object property index) = Unit {0}
IsAnswerTo request reply = ⊥

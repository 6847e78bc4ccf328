-- An error by the names of its class and code (18).
use Rattle.std.specs.Prelude.{◌≡◌, ◌∷◌, ℕ, List, [], Option, Some, None, codes}
use Rattle.names.specs.Names.{number_in}
use Rattle.names.specs.Tables.{error_classes, error_codes}
use Rattle.primitives.specs.Errors.{IsNamedClass, IsNamedCode, class_number, code_number}
use Rattle.primitives.specs.declared.error.ErrorClass.{ErrorClass}
use Rattle.primitives.specs.declared.error.ErrorCode.{ErrorCode}
use Rattle.primitives.specs.declared.plain_data.Reply.{Reply}
use Rattle.primitives.specs.declared.plain_data.Reply.TheVariants as reply
use Rattle.tags.specs.declared.object_id.ObjectId.{ObjectId}
use Rattle.words.specs.Requests.{SaysPlace}
use Rattle.words.specs.Says.{Has, HasNo, IsOfKind, before, behind, space}

-- the word is the name of a class
pub record SaysClass (word : List ℕ) (class : ErrorClass) : Type 0 where
  pub name : number_in error_classes word ≡ Some (class_number class)
  pub named : IsNamedClass class

-- the word is the name of a code
pub record SaysCode (word : List ℕ) (code : ErrorCode) : Type 0 where
  pub name : number_in error_codes word ≡ Some (code_number code)
  pub named : IsNamedCode code

-- the words are the write that failed, as `at 45:1 85` (15.10.1.3)
pub record SaysWrite (words : List ℕ) (object : ObjectId) (property : ℕ) (index : Option ℕ) : Type 0 where
  pub kind : IsOfKind words (codes "at")
  pub place_said : SaysPlace (behind space words) object property index

-- the words begin with the name of a class, and a space
pub record SaysClassFirst (words : List ℕ) (class : ErrorClass) : Type 0 where
  pub parted : Has space words
  pub class_said : SaysClass (before space words) class

-- the words are a class and a code by their names, as `property write-access-denied`, and behind them the write that
-- failed where there is one (15.10.1.3, 18)
abbrev pub SaysErrorNames : {A : Type 0} → List ℕ → Reply A → Type 0
SaysErrorNames words (reply.Error class code) =
    SaysClassFirst words class × HasNo space (behind space words) × SaysCode (behind space words) code
SaysErrorNames words (reply.ErrorAt class code object property index) =
    SaysClassFirst words class × Has space (behind space words) × SaysCode (before space (behind space words)) code
    × SaysWrite (behind space (behind space words)) object property index
SaysErrorNames words (reply.Values values) = ⊥
SaysErrorNames words (reply.Many all) = ⊥
SaysErrorNames words reply.Done = ⊥

-- the word is the name of no class
pub record NoClass (word : List ℕ) : Type 0 where
  pub none : (class : ErrorClass) → SaysClass word class → ⊥

-- the word is the name of no code
pub record NoCode (word : List ℕ) : Type 0 where
  pub none : (code : ErrorCode) → SaysCode word code → ⊥

-- the words are no write that failed
pub record NoWrite (words : List ℕ) : Type 0 where
  pub none : (object : ObjectId) (property : ℕ) (index : Option ℕ) → SaysWrite words object property index → ⊥

-- the words are no error by its names
pub record NoErrorNames (A : Type 0) (words : List ℕ) : Type 0 where
  pub none : (r : Reply A) → SaysErrorNames words r → ⊥

-- Which requests words don't say.
use Rattle.std.specs.Prelude.{◌≡◌, ℕ, List, length, Option}
use Rattle.std.specs.List.{AllByRecursion}
use Rattle.primitives.specs.declared.plain_data.ObjectRefs.{ObjectRefs}
use Rattle.primitives.specs.declared.plain_data.ObjectWrites.{ObjectWrites}
use Rattle.primitives.specs.declared.plain_data.PropertyReference.{PropertyReference}
use Rattle.primitives.specs.declared.plain_data.PropertyWrite.{PropertyWrite}
use Rattle.primitives.specs.declared.plain_data.Request.{Request}
use Rattle.primitives.specs.declared.plain_data.Request.TheVariants.{Read, ReadMany, Write, WriteMany}
use Rattle.primitives.specs.Sound.{IsSoundRequest}
use Rattle.tags.specs.declared.object_id.ObjectId.{ObjectId}
use Rattle.tags.specs.declared.value.Value.{Value}
use Rattle.words.specs.Requests.{SaysValues, SaysReferences, SaysPlace, SaysRefs, SaysWrite, SaysObjectWrite, SaysBatch}
use Rattle.words.specs.Requests.{SaysRequest, SaysMany, SaysGiven, SaysPriority}

-- the words say no values
pub record NoValues (A : Type 0) (words : List ℕ) : Type 0 where
  pub none : (vs : List (Value A)) → SaysValues words vs → ⊥

-- they are no values, or not one after another
pub record NoGiven (A : Type 0) (words : Option (List ℕ)) : Type 0 where
  pub none : (vs : List (Value A)) → SaysGiven words vs → ⊥

-- the words say no references
pub record NoReferences (words : List ℕ) : Type 0 where
  pub none : (refs : List PropertyReference) → SaysReferences words refs → ⊥

-- the words say no object and property
pub record NoPlace (words : List ℕ) : Type 0 where
  pub none : (object : ObjectId) (property : ℕ) (index : Option ℕ) → SaysPlace words object property index → ⊥

-- the words begin with no object and references to its properties
pub record NoRefs (A : Type 0) (words : List ℕ) : Type 0 where
  pub none : (group : ObjectRefs A) → SaysRefs words group → ⊥

-- the words say no ReadPropertyMultiple
pub record NoMany (A : Type 0) (words : List ℕ) : Type 0 where
  pub none : (groups : List (ObjectRefs A)) → SaysMany words groups → ⊥

-- the word is no priority
pub record NoPriority (word : Option (List ℕ)) : Type 0 where
  pub none : (priority : Option ℕ) → SaysPriority word priority → ⊥

-- the words say no write
pub record NoWrite (A : Type 0) (words : List ℕ) : Type 0 where
  pub none : (write : PropertyWrite A) → SaysWrite words write → ⊥

-- the words say no object and write
pub record NoObjectWrite (A : Type 0) (words : List ℕ) : Type 0 where
  pub none : (w : ObjectId × PropertyWrite A) → SaysObjectWrite words w → ⊥

-- the words say no writes
pub record NoBatch (A : Type 0) (words : List ℕ) : Type 0 where
  pub none : (groups : List (ObjectWrites A)) → SaysBatch words groups → ⊥

-- the words say no request
pub record NoRequest (A : Type 0) (words : List ℕ) : Type 0 where
  pub none : (request : Request A) → SaysRequest words request → ⊥

-- each of the writes has one value
abbrev pub AreSingle : {A : Type 0} → List (PropertyWrite A) → Type 0
AreSingle writes = AllByRecursion (λ w. length w.values ≡ 1) writes

-- each write of the groups has one value
abbrev pub HaveSingleValues : {A : Type 0} → List (ObjectWrites A) → Type 0
HaveSingleValues groups = AllByRecursion (λ g. AreSingle g.writes) groups

-- each write of the request has one value
abbrev pub HasSingleValues : {A : Type 0} → Request A → Type 0
HasSingleValues (Read object property index) = Unit {0}
HasSingleValues (ReadMany groups) = Unit {0}
HasSingleValues (Write object property index values priority) = length values ≡ 1
HasSingleValues (WriteMany groups) = HaveSingleValues groups

-- the words say a request of which a write has no value or several
pub record SaysSeveral (A : Type 0) (words : List ℕ) : Type 0 where
  pub request : Request A
  pub said : SaysRequest words request
  pub several : HasSingleValues request → ⊥

-- the words say a request that has no spelling
pub record SaysUnspelled (A : Type 0) (words : List ℕ) : Type 0 where
  pub request : Request A
  pub said : SaysRequest words request
  pub unsound : IsSoundRequest request → ⊥

-- ReadPropertyMultiple and WritePropertyMultiple requests, and why one is rejected (15.7.3.1, 15.10.3.1, 18.9, 21).
use Rattle.std.specs.Prelude.{◌≡◌, ◌≢◌, ℕ, ◌<◌, ◌⊎◌, List, [], length, Option}
use Rattle.tags.specs.declared.object_id.ObjectId.{ObjectId}
use Rattle.tags.specs.declared.value.Value.{Value}
use Rattle.primitives.specs.Sound.{IsSoundPriority}
use Rattle.primitives.specs.declared.plain_data.ObjectRefs.{ObjectRefs}
use Rattle.primitives.specs.declared.plain_data.PropertyReference.{PropertyReference}
use Rattle.primitives.specs.declared.plain_data.ObjectWrites.{ObjectWrites}
use Rattle.primitives.specs.declared.plain_data.PropertyWrite.{PropertyWrite}
use Rattle.apdu.specs.declared.numbers.RejectReason.{RejectReason}
use Rattle.apdu.specs.declared.numbers.RejectReason.TheVariants.{InvalidParameterDataType, InvalidTag}
use Rattle.apdu.specs.declared.numbers.RejectReason.TheVariants.{MissingRequiredParameter}
use Rattle.services.specs.Fields.{
  TakesObject,
  TakesNumber,
  TakesOption,
  TakesOpening,
  TakesClosing,
  TakesEach,
  TakesInside,
  OpensBehind,
  NoContents,
  NoClosing,
  HasBadNumber,
  RejectsObject,
  RejectsOption,
  RejectsOpening,
  RejectsBehind,
  RejectsInside,
  RejectsRange,
}

-- an object under context tag 0, and the opening tag 1 of its list of properties (21)
pub record OpensList (octets : List ℕ) (object : ObjectId) (inside : List ℕ) : Type 0 where
  pub behind_object : List ℕ
  pub object_taken : TakesObject octets 0 object behind_object
  pub opened : TakesOpening behind_object 1 inside

-- why they are rejected (18.9)
pub data RejectsList (reason : RejectReason) (octets : List ℕ) : Type 0 where
  at_object : RejectsObject reason octets 0 → RejectsList reason octets
  at_opening : (o : ObjectId) (at : List ℕ) → TakesObject octets 0 o at → RejectsOpening reason at 1 →
      RejectsList reason octets

-- the closing tag of the list stands there already (21)
pub record HasClosing (octets : List ℕ) : Type 0 where
  pub rest : List ℕ
  pub taken : TakesClosing octets 1 rest

-- why no first property is read in a list: the body or the list ends, or no tag or another one stands there, or it has
-- no number (18.9)
abbrev pub RejectsFirst : RejectReason → List ℕ → Type 0
RejectsFirst MissingRequiredParameter octets = (octets ≡ []) ⊎ HasClosing octets
RejectsFirst InvalidTag octets = (0 < length octets) × NoClosing octets 1 × NoContents octets 0
RejectsFirst InvalidParameterDataType octets = HasBadNumber octets 0
RejectsFirst reason octets = ⊥

-- why neither a further property nor the end of the list is read: no tag or another one stands there, or it has no
-- number (18.9)
abbrev pub RejectsNext : RejectReason → List ℕ → Type 0
RejectsNext InvalidTag octets = NoClosing octets 1 × NoContents octets 0
RejectsNext InvalidParameterDataType octets = HasBadNumber octets 0
RejectsNext reason octets = ⊥

-- a property under context tag 0, and an array index under 1 or none (21, BACnetPropertyReference)
pub record TakesReference (octets : List ℕ) (r : PropertyReference) (rest : List ℕ) : Type 0 where
  pub behind_property : List ℕ
  pub property_taken : TakesNumber octets 0 r.property behind_property
  pub index_taken : TakesOption behind_property 1 r.index rest

-- why a list of references is rejected (18.9)
pub data RejectsReferences (reason : RejectReason) (inside : List ℕ) : Type 0 where
  at_first : RejectsFirst reason inside → RejectsReferences reason inside
  at_next : (rs : List PropertyReference) (at : List ℕ) → rs ≢ [] → TakesEach TakesReference inside rs at →
      RejectsNext reason at → RejectsReferences reason inside
  at_index : (rs : List PropertyReference) (at : List ℕ) (p : ℕ) (behind : List ℕ) →
      TakesEach TakesReference inside rs at → TakesNumber at 0 p behind → RejectsOption reason behind 1 →
      RejectsReferences reason inside

-- an object and a list of at least one reference (15.7.3.1, ReadAccessSpecification)
pub record TakesRefs {A : Type 0} (octets : List ℕ) (r : ObjectRefs A) (rest : List ℕ) : Type 0 where
  pub inside : List ℕ
  pub behind_references : List ℕ
  pub opened : OpensList octets r.object inside
  pub references_taken : TakesEach TakesReference inside r.refs behind_references
  pub closed : TakesClosing behind_references 1 rest
  pub some : r.refs ≢ []

-- why they are rejected (18.9)
pub data RejectsRefs (reason : RejectReason) (octets : List ℕ) : Type 0 where
  at_list : RejectsList reason octets → RejectsRefs reason octets
  at_references : (o : ObjectId) (inside : List ℕ) → OpensList octets o inside → RejectsReferences reason inside →
      RejectsRefs reason octets

-- ReadPropertyMultiple: at least one object with its references (15.7.3.1, 21)
pub record SpellsReadMultiple {A : Type 0} (body : List ℕ) (asked : List (ObjectRefs A)) : Type 0 where
  pub taken : TakesEach TakesRefs body asked []
  pub some : asked ≢ []

-- something must stand there: a first object, or octets behind the objects before (18.9)
abbrev pub MustStand : {X : Type 0} → List X → List ℕ → Type 0
MustStand before octets = (before ≡ []) ⊎ (0 < length octets)

-- why a ReadPropertyMultiple request is rejected: the first fault in reading order (18.9)
pub record RejectsReadMultiple (A : Type 0) (reason : RejectReason) (body : List ℕ) : Type 0 where
  pub before : List (ObjectRefs A)
  pub at : List ℕ
  pub taken : TakesEach TakesRefs body before at
  pub must : MustStand before at
  pub rejected : RejectsRefs reason at

-- what is written to a property: an array index under context tag 1 or none, values between the opening
-- and the closing tag 2, and a priority under 3 or none (21, BACnetPropertyValue)
pub record TakesPropertyWrite {A : Type 0} (octets : List ℕ) (w : PropertyWrite A) (rest : List ℕ) : Type 0 where
  pub behind_property : List ℕ
  pub inside : List ℕ
  pub behind_values : List ℕ
  pub property_taken : TakesNumber octets 0 w.property behind_property
  pub opened : OpensBehind behind_property 1 w.index 2 inside
  pub values_taken : TakesInside inside 2 w.values behind_values
  pub priority_taken : TakesOption behind_values 3 w.priority rest
  pub in_range : IsSoundPriority w.priority

-- why what stands behind a written property is rejected (18.9)
pub data RejectsBehindProperty (A : Type 0) (reason : RejectReason) (octets : List ℕ) : Type 0 where
  at_opening : RejectsBehind reason octets 1 2 → RejectsBehindProperty A reason octets
  at_values : (i : Option ℕ) (inside : List ℕ) → OpensBehind octets 1 i 2 inside → RejectsInside A reason inside 2 →
      RejectsBehindProperty A reason octets
  at_priority : (i : Option ℕ) (inside : List ℕ) (vs : List (Value A)) (at : List ℕ) → OpensBehind octets 1 i 2 inside →
      TakesInside inside 2 vs at → RejectsOption reason at 3 → RejectsBehindProperty A reason octets
  at_range : (i : Option ℕ) (inside : List ℕ) (vs : List (Value A)) (at : List ℕ) (n : Option ℕ) (rest : List ℕ) →
      OpensBehind octets 1 i 2 inside → TakesInside inside 2 vs at → TakesOption at 3 n rest → RejectsRange reason n →
      RejectsBehindProperty A reason octets

-- why a list of writes is rejected (18.9)
pub data RejectsWriteList (A : Type 0) (reason : RejectReason) (inside : List ℕ) : Type 0 where
  at_first : RejectsFirst reason inside → RejectsWriteList A reason inside
  at_next : (ws : List (PropertyWrite A)) (at : List ℕ) → ws ≢ [] → TakesEach TakesPropertyWrite inside ws at →
      RejectsNext reason at → RejectsWriteList A reason inside
  at_write : (ws : List (PropertyWrite A)) (at : List ℕ) (p : ℕ) (behind : List ℕ) →
      TakesEach TakesPropertyWrite inside ws at → TakesNumber at 0 p behind → RejectsBehindProperty A reason behind →
      RejectsWriteList A reason inside

-- an object and a list of at least one write (15.10.3.1, WriteAccessSpecification)
pub record TakesWrites {A : Type 0} (octets : List ℕ) (w : ObjectWrites A) (rest : List ℕ) : Type 0 where
  pub inside : List ℕ
  pub behind_writes : List ℕ
  pub opened : OpensList octets w.object inside
  pub writes_taken : TakesEach TakesPropertyWrite inside w.writes behind_writes
  pub closed : TakesClosing behind_writes 1 rest
  pub some : w.writes ≢ []

-- why they are rejected (18.9)
pub data RejectsWrites (A : Type 0) (reason : RejectReason) (octets : List ℕ) : Type 0 where
  at_list : RejectsList reason octets → RejectsWrites A reason octets
  at_writes : (o : ObjectId) (inside : List ℕ) → OpensList octets o inside → RejectsWriteList A reason inside →
      RejectsWrites A reason octets

-- WritePropertyMultiple: at least one object with its writes (15.10.3.1, 21)
pub record SpellsWriteMultiple {A : Type 0} (body : List ℕ) (asked : List (ObjectWrites A)) : Type 0 where
  pub taken : TakesEach TakesWrites body asked []
  pub some : asked ≢ []

-- why a WritePropertyMultiple request is rejected: the first fault in reading order (18.9)
pub record RejectsWriteMultiple (A : Type 0) (reason : RejectReason) (body : List ℕ) : Type 0 where
  pub before : List (ObjectWrites A)
  pub at : List ℕ
  pub taken : TakesEach TakesWrites body before at
  pub must : MustStand before at
  pub rejected : RejectsWrites A reason at

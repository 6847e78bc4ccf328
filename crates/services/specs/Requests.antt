-- ReadProperty and WriteProperty requests, and why one is rejected (15.5.1, 15.9.1, 18.9, 21).
use Rattle.std.specs.Prelude.{ℕ, List, [], Option}
use Rattle.tags.specs.declared.object_id.ObjectId.{ObjectId}
use Rattle.tags.specs.declared.value.Value.{Value}
use Rattle.primitives.specs.Sound.{IsSoundPriority}
use Rattle.apdu.specs.declared.numbers.RejectReason.{RejectReason}
use Rattle.services.specs.Fields.{TakesObject, TakesNumber, TakesLast, TakesInside, OpensBehind, RejectsObject}
use Rattle.services.specs.Fields.{RejectsNumber, RejectsLast, RejectsEnd, RejectsBehind, RejectsInside, RejectsRange}

-- an object under context tag 0 and a property under 1, and what follows (15.5.1, 15.9.1)
pub record TakesProperty (octets : List ℕ) (object : ObjectId) (property : ℕ) (rest : List ℕ) : Type 0 where
  pub behind_object : List ℕ
  pub object_taken : TakesObject octets 0 object behind_object
  pub property_taken : TakesNumber behind_object 1 property rest

-- why they are rejected (18.9)
pub data RejectsProperty (reason : RejectReason) (octets : List ℕ) : Type 0 where
  at_object : RejectsObject reason octets 0 → RejectsProperty reason octets
  at_property : (o : ObjectId) (at : List ℕ) → TakesObject octets 0 o at → RejectsNumber reason at 1 →
      RejectsProperty reason octets

-- ReadProperty: object, property, and an array index under context tag 2 or none (15.5.1, 21)
pub record SpellsReadProperty (body : List ℕ) (object : ObjectId) (property : ℕ) (index : Option ℕ) : Type 0 where
  pub behind_property : List ℕ
  pub property_taken : TakesProperty body object property behind_property
  pub index_taken : TakesLast behind_property 2 index []

-- why a ReadProperty request is rejected: the first fault in reading order (18.9)
pub data RejectsReadProperty (reason : RejectReason) (body : List ℕ) : Type 0 where
  at_property : RejectsProperty reason body → RejectsReadProperty reason body
  at_index : (o : ObjectId) (p : ℕ) (at : List ℕ) → TakesProperty body o p at → RejectsLast reason at 2 →
      RejectsReadProperty reason body
  at_end : (o : ObjectId) (p : ℕ) (i : Option ℕ) (at rest : List ℕ) → TakesProperty body o p at →
      TakesLast at 2 i rest → RejectsEnd reason rest → RejectsReadProperty reason body

-- object, property, an array index under context tag 2 or none, and values between the opening and
-- the closing tag 3, and what follows (15.9.1)
pub record TakesWrite {A : Type 0} (octets : List ℕ) (object : ObjectId) (property : ℕ) (index : Option ℕ)
    (values : List (Value A)) (rest : List ℕ) : Type 0 where
  pub behind_property : List ℕ
  pub inside : List ℕ
  pub property_taken : TakesProperty octets object property behind_property
  pub opened : OpensBehind behind_property 2 index 3 inside
  pub values_taken : TakesInside inside 3 values rest

-- why they are rejected (18.9)
pub data RejectsWrite (A : Type 0) (reason : RejectReason) (octets : List ℕ) : Type 0 where
  at_property : RejectsProperty reason octets → RejectsWrite A reason octets
  at_index : (o : ObjectId) (p : ℕ) (at : List ℕ) → TakesProperty octets o p at → RejectsBehind reason at 2 3 →
      RejectsWrite A reason octets
  at_values : (o : ObjectId) (p : ℕ) (i : Option ℕ) (at inside : List ℕ) → TakesProperty octets o p at →
      OpensBehind at 2 i 3 inside → RejectsInside A reason inside 3 → RejectsWrite A reason octets

-- WriteProperty: what is written where, and a priority under context tag 4 or none (15.9.1, 21)
pub record SpellsWriteProperty {A : Type 0} (body : List ℕ) (object : ObjectId) (property : ℕ) (index : Option ℕ)
    (values : List (Value A)) (priority : Option ℕ) : Type 0 where
  pub behind_values : List ℕ
  pub write_taken : TakesWrite body object property index values behind_values
  pub priority_taken : TakesLast behind_values 4 priority []
  pub in_range : IsSoundPriority priority

-- why what stands behind the values is rejected: the priority, its range, or octets behind it (18.9)
pub data RejectsTail (reason : RejectReason) (octets : List ℕ) : Type 0 where
  at_priority : RejectsLast reason octets 4 → RejectsTail reason octets
  at_range : (n : Option ℕ) (rest : List ℕ) → TakesLast octets 4 n rest → RejectsRange reason n →
      RejectsTail reason octets
  at_end : (n : Option ℕ) (rest : List ℕ) → TakesLast octets 4 n rest → IsSoundPriority n → RejectsEnd reason rest →
      RejectsTail reason octets

-- why a WriteProperty request is rejected: the first fault in reading order (18.9)
pub data RejectsWriteProperty (A : Type 0) (reason : RejectReason) (body : List ℕ) : Type 0 where
  at_write : RejectsWrite A reason body → RejectsWriteProperty A reason body
  at_tail : (o : ObjectId) (p : ℕ) (i : Option ℕ) (vs : List (Value A)) (at : List ℕ) → TakesWrite body o p i vs at →
      RejectsTail reason at → RejectsWriteProperty A reason body

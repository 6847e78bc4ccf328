-- Which requests words say (15.5, 15.7, 15.9, 15.10).
use Rattle.std.specs.Prelude.{◌≡◌, ◌≢◌, ◌++◌, ℕ, List, [], ◌∷◌, Option, Some, None, codes}
use Rattle.primitives.specs.declared.plain_data.ObjectRefs.{ObjectRefs}
use Rattle.primitives.specs.declared.plain_data.ObjectWrites.{ObjectWrites}
use Rattle.primitives.specs.declared.plain_data.PropertyReference.{PropertyReference}
use Rattle.primitives.specs.declared.plain_data.PropertyWrite.{PropertyWrite}
use Rattle.primitives.specs.declared.plain_data.Request.{Request}
use Rattle.primitives.specs.declared.plain_data.Request.TheVariants.{Read, ReadMany, Write, WriteMany}
use Rattle.tags.specs.declared.object_id.ObjectId.{ObjectId}
use Rattle.tags.specs.declared.value.Value.{Value}
use Rattle.words.specs.Marks.{first_part, other_parts, but_last_part, last_part}
use Rattle.words.specs.Says.{Has, before, behind, space, IsOfKind, SaysUnsigned, SaysObject, SaysProperty}
use Rattle.words.specs.Says.{SaysReference, SaysValue}

-- the words say the elements one after another, each in front of what it leaves to the next
abbrev pub SaysEach : {X : Type 0} → (List ℕ → Option (List ℕ)) → (List ℕ → X → Type 0) →
    Option (List ℕ) → List X → Type 0
SaysEach leaves says None [] = Unit {0}
SaysEach leaves says None (x ∷ xs) = ⊥
SaysEach leaves says (Some words) [] = ⊥
SaysEach leaves says (Some words) (x ∷ xs) = says words x × SaysEach leaves says (leaves words) xs

-- the parts round each mark say the elements, each part one of them
abbrev pub SaysParts : {X : Type 0} → List ℕ → (List ℕ → X → Type 0) → Option (List ℕ) → List X → Type 0
SaysParts mark says words xs = SaysEach (other_parts mark) (λ w x. says (first_part mark w) x) words xs

-- values parted by `, `
abbrev pub SaysGiven : {A : Type 0} → Option (List ℕ) → List (Value A) → Type 0
SaysGiven words values = SaysParts (codes ", ") SaysValue words values

-- values parted by `, `, or none where there is no word
abbrev pub SaysValues : {A : Type 0} → List ℕ → List (Value A) → Type 0
SaysValues words [] = words ≡ []
SaysValues words (v ∷ vs) = SaysGiven (Some words) (v ∷ vs)

-- references parted by commas, as `85,87/17`
abbrev pub SaysReferences : List ℕ → List PropertyReference → Type 0
SaysReferences words refs = SaysParts (codes ",") SaysReference (Some words) refs

-- a priority, where one is said (15.9.1.1.5)
abbrev pub SaysPriority : Option (List ℕ) → Option ℕ → Type 0
SaysPriority None None = Unit {0}
SaysPriority (Some word) (Some priority) = SaysUnsigned 8 word priority
SaysPriority None (Some priority) = ⊥
SaysPriority (Some word) None = ⊥

-- an object, a space, and a property, as `5:1 85` (15.5.1.1)
pub record SaysPlace (words : List ℕ) (object : ObjectId) (property : ℕ) (index : Option ℕ) : Type 0 where
  pub parted : Has space words
  pub object_said : SaysObject (before space words) object
  pub property_said : SaysProperty (behind space words) property index

-- an object, a space, and references up to the next space, as `5:1 85,87/17` (15.7.3.1)
pub record SaysRefs {A : Type 0} (words : List ℕ) (group : ObjectRefs A) : Type 0 where
  pub parted : Has space words
  pub object_said : SaysObject (before space words) group.object
  pub refs_said : SaysReferences (first_part (codes " ") (behind space words)) group.refs

-- what stands behind these references, if they are not the last
abbrev pub other_refs : List ℕ → Option (List ℕ)
other_refs words = other_parts (codes " ") (behind space words)

-- such objects and references one after another, as `5:1 85,87/17 8:99 76` (15.7.1.1)
abbrev pub SaysMany : {A : Type 0} → List ℕ → List (ObjectRefs A) → Type 0
SaysMany words groups = SaysEach other_refs SaysRefs (Some words) groups

-- a property, the values behind a space, and a priority behind the last ` at `, as `85 signed 20 at 8` (15.9.1.1)
pub record SaysWrite {A : Type 0} (words : List ℕ) (write : PropertyWrite A) : Type 0 where
  pub property_said :
      SaysProperty (first_part (codes " ") (but_last_part (codes " at ") words)) write.property write.index
  pub values_said : SaysGiven (other_parts (codes " ") (but_last_part (codes " at ") words)) write.values
  pub priority_said : SaysPriority (last_part (codes " at ") words) write.priority

-- an object, a space, and a write to it, as `45:1 85 signed 20 at 8`
pub record SaysObjectWrite {A : Type 0} (words : List ℕ) (w : ObjectId × PropertyWrite A) : Type 0 where
  pub parted : Has space words
  pub object_said : SaysObject (before space words) w.0
  pub write_said : SaysWrite (behind space words) w.1

-- each write with its object
abbrev pub with_object : {A : Type 0} → ObjectId → List (PropertyWrite A) → List (ObjectId × PropertyWrite A)
with_object object [] = []
with_object object (write ∷ writes) = (object, write) ∷ with_object object writes

-- the writes of all groups in their order, each with its object
abbrev pub all_writes : {A : Type 0} → List (ObjectWrites A) → List (ObjectId × PropertyWrite A)
all_writes [] = []
all_writes (group ∷ groups) = with_object group.object group.writes ++ all_writes groups

-- the first group is not to this object
abbrev pub BeginsElsewhere : {A : Type 0} → ObjectId → List (ObjectWrites A) → Type 0
BeginsElsewhere object [] = Unit {0}
BeginsElsewhere object (group ∷ groups) = object ≢ group.object

-- each group has a write, and neighbouring groups are to different objects
abbrev pub AreGrouped : {A : Type 0} → List (ObjectWrites A) → Type 0
AreGrouped [] = Unit {0}
AreGrouped (group ∷ groups) = (group.writes ≢ []) × BeginsElsewhere group.object groups × AreGrouped groups

-- the last group is to this object (for private functions alone)
abbrev pub EndsWith : {A : Type 0} → ObjectId → List (ObjectWrites A) → Type 0
EndsWith object [] = ⊥
EndsWith object (g ∷ []) = g.object ≡ object
EndsWith object (g ∷ k ∷ ks) = EndsWith object (k ∷ ks)

-- there is no last group, or it is not to this object (for private functions alone)
abbrev pub EndsElsewhere : {A : Type 0} → ObjectId → List (ObjectWrites A) → Type 0
EndsElsewhere object [] = Unit {0}
EndsElsewhere object (g ∷ []) = g.object ≢ object
EndsElsewhere object (g ∷ k ∷ ks) = EndsElsewhere object (k ∷ ks)

-- writes parted by `; `, where neighbouring writes to one object are one group (15.10.3.1)
pub record SaysBatch {A : Type 0} (words : List ℕ) (groups : List (ObjectWrites A)) : Type 0 where
  pub writes_said : SaysParts (codes "; ") SaysObjectWrite (Some words) (all_writes groups)
  pub grouped : AreGrouped groups

-- the words say the request, with a spelling or without; a write may have no value, or several
abbrev pub SaysRequest : {A : Type 0} → List ℕ → Request A → Type 0
SaysRequest words (Read object property index) =
    IsOfKind words (codes "read") × SaysPlace (behind space words) object property index
SaysRequest words (ReadMany groups) =
    IsOfKind words (codes "many") × SaysMany (behind space words) groups
SaysRequest words (Write object property index values priority) = IsOfKind words (codes "write") ×
    SaysObjectWrite (behind space words)
    (object, record { property = property; index = index; values = values; priority = priority })
SaysRequest words (WriteMany groups) = IsOfKind words (codes "batch") × SaysBatch (behind space words) groups

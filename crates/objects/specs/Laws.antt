-- What holds of tables and requests (15, 19.2).
use Rattle.std.specs.Prelude.{◌≡◌, ◌≢◌, ◌↔◌, ◌⊎◌, ℕ, List, [], ◌∷◌, ◌++◌, Option, Some, None, Ok, Err, map}
use Rattle.std.specs.List.{AllByRecursion}
use Rattle.object_model.specs.tags.declared.object_id.ObjectId.{ObjectId}
use Rattle.object_model.specs.tags.declared.value.Value.{Value}
use Rattle.object_model.specs.tags.declared.value.Value.TheVariants as value
use Rattle.priority.specs.Laws.{NoneHigher, IsInForce, NoneFilled}
use Rattle.object_model.specs.declared.object.Object.TheVariants as object
use Rattle.object_model.specs.declared.object.ValueObject.{ValueObject}
use Rattle.primitives.specs.declared.plain_data.PropertyWrite.{PropertyWrite}
use Rattle.primitives.specs.declared.plain_data.Reply.{Reply}
use Rattle.primitives.specs.declared.plain_data.Reply.TheVariants.{Done, ErrorAt}
use Rattle.primitives.specs.declared.plain_data.Request.{Request}
use Rattle.primitives.specs.declared.plain_data.Request.TheVariants.{Write}
use Rattle.primitives.specs.declared.property.Property.{Property}
use Rattle.primitives.specs.declared.property.Property.TheVariants as property
use Rattle.primitives.specs.Answers.{IsAnswerTo}
use Rattle.objects.specs.Failure.{HaveOneShape, first_failure}
use Rattle.objects.specs.Machine.{reply, after}
use Rattle.primitives.specs.Numbers.{property_number}
use Rattle.object_model.specs.Objects.{PlainTable, identifier, name_of, object_list, object_type_of}
use Rattle.object_model.specs.Reading.{Refusal, object_at, read}
use Rattle.object_model.specs.Site.{IsSoundTable}
use Rattle.primitives.specs.Sound.{IsSoundPriority, IsSoundRequest, IsSoundReply}
use Rattle.object_model.specs.Writing.{level_of, write, ObjectWrite, failed_at, write_all}

-- what a sound request leaves of a sound table is sound (15.9.2, 15.10.2)
abbrev pub LeavesSound : Type 0 → Type 0
LeavesSound A = (t : PlainTable A) (q : Request A) → IsSoundTable t → IsSoundRequest q → IsSoundTable (after t q)

-- the reply of a sound table to a sound request is sound: it has a spelling (15.5 to 15.10)
abbrev pub RepliesSound : Type 0 → Type 0
RepliesSound A = (t : PlainTable A) (q : Request A) → IsSoundTable t → IsSoundRequest q → IsSoundReply (reply t q)

-- the reply is of a kind that the request's service gives (15.5.1, 15.7.3, 15.9.1, 15.10.1)
abbrev pub AnswersRequest : Type 0 → Type 0
AnswersRequest A = (t : PlainTable A) (q : Request A) → IsAnswerTo q (reply t q)

-- a write that is done leaves the shape of the table (15.9.2)
abbrev pub WriteLeavesShape : Type 0 → Type 0
WriteLeavesShape A = (t u : PlainTable A) (id : ObjectId) (w : PropertyWrite A) → write t id w ≡ Ok u → HaveOneShape t u

-- tables of one shape refuse the same writes, for the same reasons (15.9.1.3)
abbrev pub ShapeRefuses : Type 0 → Type 0
ShapeRefuses A = (t u : PlainTable A) (id : ObjectId) (w : PropertyWrite A) (e : Refusal) → HaveOneShape t u →
    (write t id w ≡ Err e) ↔ (write u id w ≡ Err e)

-- the reply to several writes is the first failure among them, each looked for in the table as it was (15.10.2)
abbrev pub RepliesFirstFailure : Type 0 → Type 0
RepliesFirstFailure A = (t : PlainTable A) (ws : List (ObjectWrite A)) → (write_all t ws).reply ≡ first_failure t ws

-- the first write that fails ends the request: those before it stay, and those behind it are not done (15.10.2)
abbrev pub WritesEndAtFailure : Type 0 → Type 0
WritesEndAtFailure A = (t u : PlainTable A) (before behind : List (ObjectWrite A)) (w : ObjectWrite A) (e : Refusal) →
    write_all t before ≡ record { table = u; reply = Done } → write u w.object w.write ≡ Err e →
    write_all t (before ++ w ∷ behind) ≡ record { table = u; reply = failed_at w e }

-- a WriteProperty whose reply is that all was written is a write that is done (15.9.2)
abbrev pub DoneIsWritten : Type 0 → Type 0
DoneIsWritten A = (t : PlainTable A) (id : ObjectId) (number : ℕ) (index : Option ℕ) (values : List (Value A))
    (priority : Option ℕ) → reply t (Write id number index values priority) ≡ Done →
    write t id (record { property = number; index = index; values = values; priority = priority }) ≡
    Ok (after t (Write id number index values priority))

-- a reply after which nothing was written: what was read, or the error of a request with one property
abbrev pub SaysNoWrite : {A : Type 0} → Reply A → Type 0
SaysNoWrite Done = ⊥
SaysNoWrite (ErrorAt class code object property index) = ⊥
SaysNoWrite reply = Unit {0}

-- reading changes nothing, and neither does a write that is refused (15.5.2, 15.7.2, 15.9.2)
abbrev pub ReadingChangesNothing : Type 0 → Type 0
ReadingChangesNothing A = (t : PlainTable A) (q : Request A) → SaysNoWrite (reply t q) → after t q ≡ t

-- no request changes an object's type, its instance number or how many slots it has (12.1.1)
abbrev pub RequestLeavesShape : Type 0 → Type 0
RequestLeavesShape A = (t : PlainTable A) (q : Request A) → HaveOneShape t (after t q)

-- no request changes the identifiers of the objects (12.1.1)
abbrev pub RequestLeavesIdentifiers : Type 0 → Type 0
RequestLeavesIdentifiers A = (t : PlainTable A) (q : Request A) → map identifier (after t q) ≡ map identifier t

-- no request changes their names (12.11.2)
abbrev pub RequestLeavesNames : Type 0 → Type 0
RequestLeavesNames A = (t : PlainTable A) (q : Request A) → map name_of (after t q) ≡ map name_of t

-- no request changes their types (12.11.3)
abbrev pub RequestLeavesTypes : Type 0 → Type 0
RequestLeavesTypes A = (t : PlainTable A) (q : Request A) → map object_type_of (after t q) ≡ map object_type_of t

-- no request changes the object list (12.11.16)
abbrev pub RequestLeavesObjectList : Type 0 → Type 0
RequestLeavesObjectList A = (t : PlainTable A) (q : Request A) → object_list (after t q) ≡ object_list t

-- a write leaves every other object as it was (15.9.2)
abbrev pub WriteLeavesOtherObjects : Type 0 → Type 0
WriteLeavesOtherObjects A = (t u : PlainTable A) (id other : ObjectId) (w : PropertyWrite A) → write t id w ≡ Ok u →
    other ≢ id → object_at u other ≡ object_at t other

-- and so all that is read of it (15.9.2)
abbrev pub WriteLeavesOtherReads : Type 0 → Type 0
WriteLeavesOtherReads A = (t u : PlainTable A) (id other : ObjectId) (w : PropertyWrite A) (number : ℕ)
    (index : Option ℕ) → write t id w ≡ Ok u → other ≢ id → read u other number index ≡ read t other number index

-- the properties through which a written one shows, itself among them (12.8.6, 19.2)
abbrev pub shown_by : Property → List Property
shown_by property.PresentValue = property.PresentValue ∷ property.PriorityArray ∷ []
shown_by property.RelinquishDefault = property.RelinquishDefault ∷ property.PresentValue ∷ []
shown_by property.OutOfService = property.OutOfService ∷ property.StatusFlags ∷ []
shown_by p = p ∷ []

-- the number is that of none of them
abbrev pub IsNotShownBy : Property → ℕ → Type 0
IsNotShownBy written number = AllByRecursion (λ p. property_number p ≢ number) (shown_by written)

-- of its own object, a write leaves what is read of all properties but those through which the written one shows
-- (15.9.2)
abbrev pub WriteLeavesOtherProperties : Type 0 → Type 0
WriteLeavesOtherProperties A = (t u : PlainTable A) (id : ObjectId) (w : PropertyWrite A) (written : Property)
    (number : ℕ) (index : Option ℕ) → write t id w ≡ Ok u → property_number written ≡ w.property →
    IsNotShownBy written number → read u id number index ≡ read t id number index

-- a command leaves what is read of every slot of another level (19.2)
abbrev pub CommandLeavesOtherLevels : Type 0 → Type 0
CommandLeavesOtherLevels A = (t u : PlainTable A) (id : ObjectId) (w : PropertyWrite A) (level : ℕ) →
    write t id w ≡ Ok u → w.property ≡ property_number property.PresentValue → level ≢ level_of w.priority →
    read u id (property_number property.PriorityArray) (Some level) ≡ read t id (property_number property.PriorityArray)
    (Some level)

-- a value is in force: that of the filled slot of the least number, or the default where no slot is filled (19.2)
abbrev pub IsValueInForce : {A : Type 0} → ValueObject A → Value A → Type 0
IsValueInForce o v = IsInForce o.slots v ⊎ (NoneFilled o.slots × (v ≡ o.default))

-- Present_Value of a value object reads the value in force, and no other (15.5.2, 19.2)
abbrev pub PresentIsInForce : Type 0 → Type 0
PresentIsInForce A = (t : PlainTable A) (id : ObjectId) (o : ValueObject A) (v : Value A) →
    object_at t id ≡ Some (object.Value o) → (read t id (property_number property.PresentValue) None ≡
    Ok (v ∷ [])) ↔ IsValueInForce o v

-- the slots of all higher priorities of an object are empty (19.2)
pub record NoneHigherAt {A : Type 0} (t : PlainTable A) (id : ObjectId) (level : ℕ) : Type 0 where
  pub none : (o : ValueObject A) → object_at t id ≡ Some (object.Value o) → NoneHigher o.slots level

-- the slot of its level reads back what was commanded; Null so empties that slot (19.2.1)
abbrev pub CommandReadsBack : Type 0 → Type 0
CommandReadsBack A = (t u : PlainTable A) (id : ObjectId) (w : PropertyWrite A) → IsSoundTable t →
    IsSoundPriority w.priority → write t id w ≡ Ok u → w.property ≡ property_number property.PresentValue →
    read u id (property_number property.PriorityArray) (Some (level_of w.priority)) ≡ Ok w.values

-- Present_Value reads back a value that was commanded while the slots of all higher priorities are empty (19.2)
abbrev pub CommandShows : Type 0 → Type 0
CommandShows A = (t u : PlainTable A) (id : ObjectId) (w : PropertyWrite A) → IsSoundTable t →
    IsSoundPriority w.priority → write t id w ≡ Ok u → w.property ≡ property_number property.PresentValue →
    w.values ≢ value.Null ∷ [] → NoneHigherAt t id (level_of w.priority) → read u id w.property None ≡ Ok w.values

-- every other property reads back what was written (15.9.2)
abbrev pub WriteReadsBack : Type 0 → Type 0
WriteReadsBack A = (t u : PlainTable A) (id : ObjectId) (w : PropertyWrite A) → write t id w ≡ Ok u →
    w.property ≢ property_number property.PresentValue → read u id w.property None ≡ Ok w.values

-- What holds of every spelling of tags and values (20.2).
use Rattle.std.specs.Prelude.{◌≡◌, ℕ, ◌≤◌, List, ◌++◌, length}
use Rattle.std.specs.List.{AllByRecursion}
use Rattle.tags.specs.declared.value.Value.{Value}
use Rattle.tags.specs.declared.value.Value.TheVariants as value
use Rattle.tags.specs.declared.fault.Fault.{Fault}
use Rattle.tags.specs.Number.{AreOctets}
use Rattle.tags.specs.Refusal.{RefusesValue}
use Rattle.tags.specs.Tag.{PlainTag, SpellsTag, TakesTag, NoTag, RefusesTag}
use Rattle.tags.specs.Value.{IsSound, SpellsValue, SpellsValues, TakesValue, NoValue}
use Rattle.tags.specs.Canonical.{IsSoundTag, canonical_tag, canonical, canonicals}

-- the octets of one tag never begin those of another
abbrev pub OneTag : Type 0
OneTag = (a b x y : List ℕ) (t u : PlainTag) → SpellsTag a t → SpellsTag b u → a ++ x ≡ b ++ y → (a ≡ b) × (t ≡ u)

-- the octets of one value never begin those of another
abbrev pub OneValue : Type 0 → Type 0
OneValue A = (a b x y : List ℕ) (v w : Value A) → SpellsValue a v → SpellsValue b w → a ++ x ≡ b ++ y →
    (a ≡ b) × (v ≡ w)

-- octets spell one list of values only
abbrev pub OneList : Type 0 → Type 0
OneList A = (octets : List ℕ) (vs ws : List (Value A)) → SpellsValues octets vs → SpellsValues octets ws → vs ≡ ws

-- the canonical octets of a tag spell it
abbrev pub TagIsSpelled : Type 0
TagIsSpelled = (t : PlainTag) → IsSoundTag t.class t.number t.content →
    SpellsTag (canonical_tag t.class t.number t.content) t

-- the canonical octets of a sound value spell it
abbrev pub ValueIsSpelled : Type 0 → Type 0
ValueIsSpelled A = (v : Value A) → IsSound v → SpellsValue (canonical v) v

-- those of sound values, one after another, spell the list
abbrev pub ListIsSpelled : Type 0 → Type 0
ListIsSpelled A = (vs : List (Value A)) → AllByRecursion IsSound vs → SpellsValues (canonicals vs) vs

-- no octets that spell a tag are fewer than its canonical ones
abbrev pub TagIsShortest : Type 0
TagIsShortest = (octets : List ℕ) (t : PlainTag) → SpellsTag octets t →
    length (canonical_tag t.class t.number t.content) ≤ length octets

-- no octets that spell a value are fewer than its canonical ones
abbrev pub ValueIsShortest : Type 0 → Type 0
ValueIsShortest A = (octets : List ℕ) (v : Value A) → AreOctets octets → SpellsValue octets v →
    length (canonical v) ≤ length octets

-- an element is spelled by itself alone
abbrev pub BuiltIsItself : Type 0 → Type 0
BuiltIsItself A = (octets inner : List ℕ) → SpellsValue {A = A} octets (value.Built inner) → octets ≡ inner

-- what is written of a tag is read as that tag, whatever follows it
abbrev pub TagReadsBack : Type 0
TagReadsBack = (t u : PlainTag) (x y : List ℕ) → IsSoundTag t.class t.number t.content →
    TakesTag (canonical_tag t.class t.number t.content ++ x) u y → (u ≡ t) × (y ≡ x)

-- what is written of a sound value is read as that value, whatever follows it
abbrev pub ValueReadsBack : Type 0 → Type 0
ValueReadsBack A = (v w : Value A) (x y : List ℕ) → IsSound v → TakesValue (canonical v ++ x) w y → (w ≡ v) × (y ≡ x)

-- what is refused begins with no value, and for one cause only
abbrev pub RefusesOnce : Type 0 → Type 0
RefusesOnce A = (octets : List ℕ) (f g : Fault) → RefusesValue f octets → RefusesValue g octets →
    (f ≡ g) × NoValue A octets

-- the same of tags
abbrev pub RefusesTagOnce : Type 0
RefusesTagOnce = (octets : List ℕ) (f g : Fault) → RefusesTag f octets → RefusesTag g octets → (f ≡ g) × NoTag octets

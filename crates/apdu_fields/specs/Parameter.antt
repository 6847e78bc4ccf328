-- One parameter of a service: a tag of the class and number that must stand there (20.2.15).
use Rattle.std.specs.Prelude.{◌≡◌, ℕ, List}
use Rattle.tags.specs.declared.object_id.ObjectId.{ObjectId}
use Rattle.tags.specs.declared.tag.Class.{Class}
use Rattle.tags.specs.declared.tag.Class.TheVariants.{Context}
use Rattle.tags.specs.Number.{SpellsObject}
use Rattle.tags.specs.Tag.{PlainTag, contents, opening, closing, TakesTag}

-- a tag with contents (20.2.1)
abbrev pub carrying : Class → ℕ → List ℕ → PlainTag
carrying class number inner = record { class = class; number = number; content = contents inner }

-- the opening tag of a number (20.2.1.3.2)
abbrev pub opening_tag : ℕ → PlainTag
opening_tag number = record { class = Context; number = number; content = opening }

-- the closing tag of a number (20.2.1.3.2)
abbrev pub closing_tag : ℕ → PlainTag
closing_tag number = record { class = Context; number = number; content = closing }

-- the contents are an Object Identifier (20.2.14)
abbrev pub IsObject : List ℕ → ObjectId → Type 0
IsObject inner object = SpellsObject inner object.object_type object.instance

-- a tag of this class and number stands at the front, its contents say a, and rest is what follows
pub record Takes {A : Type 0} (Says : List ℕ → A → Type 0) (class : Class) (number : ℕ) (octets : List ℕ) (a : A)
    (rest : List ℕ) : Type 0 where
  pub inner : List ℕ
  pub tag : TakesTag octets (carrying class number inner) rest
  pub said : Says inner a

-- the next tag is one that says this, and none that says anything else
pub record Only {A : Type 0} (Says : List ℕ → A → Type 0) (class : Class) (number : ℕ) (octets : List ℕ) (a : A)
    (rest : List ℕ) : Type 0 where
  pub only : (b : A) (after : List ℕ) → Takes Says class number octets b after → (a ≡ b) × (rest ≡ after)

-- no such tag stands at the front
pub record Lacks {A : Type 0} (Says : List ℕ → A → Type 0) (class : Class) (number : ℕ) (octets : List ℕ) : Type 0 where
  pub none : (a : A) (rest : List ℕ) → Takes Says class number octets a rest → ⊥

-- the tag is of another class or number, or has no contents
pub record CarriesOther (class : Class) (number : ℕ) (t : PlainTag) : Type 0 where
  pub other : (inner : List ℕ) → t ≡ carrying class number inner → ⊥

-- no tag of this class and number has contents at the front
pub record NoContents (class : Class) (number : ℕ) (octets : List ℕ) : Type 0 where
  pub none : (inner rest : List ℕ) → TakesTag octets (carrying class number inner) rest → ⊥

-- this opening or closing tag does not stand at the front
pub record NoBracket (t : PlainTag) (octets : List ℕ) : Type 0 where
  pub none : (rest : List ℕ) → TakesTag octets t rest → ⊥

-- Context-tagged elements: a primitive, or all from an opening tag to the closing that balances it (20.2.1.3.2).
use Rattle.std.specs.Prelude.{◌≡◌, ℕ, zero, suc, ◌-◌, ◌⊎◌, List, [], ◌∷◌, ◌++◌}
use Rattle.tags.specs.declared.tag.Class.TheVariants.{Context}
use Rattle.tags.specs.Tag.{PlainTag, PlainContent, contents, opening, closing, SpellsTag, TakesTag}

-- the front of the octets spells these tags one after another, and rest is what follows
abbrev pub TakesTags : List ℕ → List PlainTag → List ℕ → Type 0
TakesTags octets [] rest = octets ≡ rest
TakesTags octets (t ∷ ts) rest = (next : List ℕ) × TakesTag octets t next × TakesTags next ts rest

-- how many opening tags wait for a closing one after a tag, whatever the numbers of both
abbrev pub waiting : PlainContent → ℕ → ℕ
waiting opening n = suc n
waiting closing n = n - 1
waiting _ n = n

-- the tags close the opening tags that wait, the last of them at the end
abbrev pub Closes : List PlainTag → ℕ → Type 0
Closes [] zero = Unit {0}
Closes [] (suc n) = ⊥
Closes (t ∷ ts) zero = ⊥
Closes (t ∷ ts) (suc n) = Closes ts (waiting t.content (suc n))

-- some opening tag still waits after each of the tags
abbrev pub StayOpen : List PlainTag → ℕ → Type 0
StayOpen [] zero = ⊥
StayOpen [] (suc n) = Unit {0}
StayOpen (t ∷ ts) zero = ⊥
StayOpen (t ∷ ts) (suc n) = StayOpen ts (waiting t.content (suc n))

-- behind an opening tag: the tags up to the closing that balances it, and what follows
pub record ClosesBefore (octets rest : List ℕ) : Type 0 where
  pub tags : List PlainTag
  pub taken : TakesTags octets tags rest
  pub balanced : Closes tags 1

-- behind an opening tag: tags that leave it open, and what follows them
pub record OpenBefore (octets rest : List ℕ) : Type 0 where
  pub tags : List PlainTag
  pub taken : TakesTags octets tags rest
  pub left_open : StayOpen tags 1

-- no tags behind an opening tag balance it
pub record NeverCloses (octets : List ℕ) : Type 0 where
  pub none : (rest : List ℕ) → ClosesBefore octets rest → ⊥

-- a tag of the context class
abbrev pub context : ℕ → PlainContent → PlainTag
context number content = record { class = Context; number = number; content = content }

-- one context tag with contents
pub record IsPrimitive (octets : List ℕ) : Type 0 where
  pub number : ℕ
  pub inner : List ℕ
  pub spelled : SpellsTag octets (context number (contents inner))

-- from an opening tag to the closing that balances it by count
pub record IsConstructed (octets : List ℕ) : Type 0 where
  pub number : ℕ
  pub inside : List ℕ
  pub opened : TakesTag octets (context number opening) inside
  pub closed : ClosesBefore inside []

-- the octets are one context-tagged element
abbrev pub IsElement : List ℕ → Type 0
IsElement octets = IsPrimitive octets ⊎ IsConstructed octets

-- the front of the octets is an element, and rest is what follows
abbrev pub TakesElement : List ℕ → List ℕ → List ℕ → Type 0
TakesElement octets front rest = IsElement front × (octets ≡ front ++ rest)

-- no front of the octets is an element
pub record NoElement (octets : List ℕ) : Type 0 where
  pub none : (front rest : List ℕ) → IsElement front → octets ≡ front ++ rest → ⊥

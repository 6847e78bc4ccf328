-- Slots by their levels, and the first filled one.
use Rattle.std.proofs.lemmas.Bool.{cases_eq}
use Rattle.std.proofs.Common.{inl, inr, ◌+◌, ◌≡◌, ◌≢◌, ℕ, zero, suc, ◌-◌, ◌<◌, ◌≤◌, List, [], ◌∷◌, length, Option, Some, None, refl, sym, ◌∙◌, arith}
use Rattle.std.proofs.lemmas.List.{length-set, get_or-set_same, get_or-set_other}
use Rattle.priority.specs.Slots.{slot, put_slot, first_filled}
use Rattle.priority.specs.Laws.{NoneHigher, IsInForce, NoneFilled}

none_some : {T : Type 0} (value : T) → None ≡ Some value → ⊥
none_some value e = cc

pub slot-put_slot : {T : Type 0} (slots : List (Option T)) (level : ℕ) (value : Option T) → 1 ≤ level → level ≤ length slots →
    slot (put_slot slots level value) level ≡ value
slot-put_slot slots level value counted within = get_or-set_same slots (level - 1) value None (omega arith)

pub slot-put_slot_other : {T : Type 0} (slots : List (Option T)) (level other : ℕ) (value : Option T) → 1 ≤ level → 1 ≤ other → other ≢ level →
    slot (put_slot slots level value) other ≡ slot slots other
slot-put_slot_other slots level other value counted other_counted apart =
    get_or-set_other slots (level - 1) (other - 1) value None (λ e. apart (omega arith))

pub length-put_slot : {T : Type 0} (slots : List (Option T)) (level : ℕ) (value : Option T) → length (put_slot slots level value) ≡ length slots
length-put_slot slots level value = length-set slots (level - 1) value

-- behind the first slot each level is one less
slot_behind : {T : Type 0} (first : Option T) (slots : List (Option T)) (level : ℕ) → 1 ≤ level → slot (first ∷ slots) (suc level) ≡ slot slots level
slot_behind first slots zero counted = absurd (omega arith)
slot_behind first slots (suc index) counted =
    let here : suc (suc index) - 1 ≡ suc index = omega arith in
    let behind : suc index - 1 ≡ index = omega arith in
    rw (here, behind) refl

none_higher_behind : {T : Type 0} (slots : List (Option T)) (level : ℕ) → NoneHigher slots level → (higher : ℕ) → 1 ≤ higher → higher < suc level →
    slot (None ∷ slots) higher ≡ None
none_higher_behind slots level none zero counted below = absurd (omega arith)
none_higher_behind slots level none (suc zero) counted below = refl
none_higher_behind slots level none (suc (suc index)) counted below =
    slot_behind None slots (suc index) (omega arith) ∙ none.empty (suc index) (omega arith) (omega (arith, below))

none_higher_before : {T : Type 0} (first : Option T) (slots : List (Option T)) (level : ℕ) → NoneHigher (first ∷ slots) (suc level) → NoneHigher slots level
none_higher_before first slots level none = record {
  empty = λ higher counted below. sym (slot_behind first slots higher counted) ∙ none.empty (suc higher) (omega arith) (omega (arith, below));
}

-- the first filled slot is in force
pub first_in_force : {T : Type 0} (slots : List (Option T)) (value : T) → first_filled slots ≡ Some value → IsInForce slots value
first_in_force [] value first = absurd (none_some value first)
first_in_force (Some held ∷ slots) value first =
    record { level = 1; counted = omega arith; held = first; higher = record { empty = λ higher counted below. absurd (omega (arith, counted, below)) } }
first_in_force (None ∷ slots) value first =
    let behind = first_in_force slots value first in
    record {
      level = suc behind.level;
      counted = omega arith;
      held = slot_behind None slots behind.level behind.counted ∙ behind.held;
      higher = record { empty = none_higher_behind slots behind.level behind.higher };
    }

-- a filled slot is the first where those of all higher priorities are empty
pub highest_first : {T : Type 0} (slots : List (Option T)) (level : ℕ) (value : T) → 1 ≤ level → slot slots level ≡ Some value → NoneHigher slots level →
    first_filled slots ≡ Some value
highest_first [] level value counted held none = held
highest_first (first ∷ slots) zero value counted held none = absurd (omega (arith, counted))
highest_first (Some first ∷ slots) (suc zero) value counted held none = held
highest_first (None ∷ slots) (suc zero) value counted held none = absurd (none_some value held)
highest_first (Some first ∷ slots) (suc (suc index)) value counted held none =
    absurd (none_some first (sym (none.empty 1 (omega arith) (omega arith))))
highest_first (None ∷ slots) (suc (suc index)) value counted held none =
    highest_first slots (suc index) value (omega arith) (sym (slot_behind None slots (suc index) (omega arith)) ∙ held)
    (none_higher_before None slots (suc index) none)

pub in_force_first : {T : Type 0} (slots : List (Option T)) (value : T) → IsInForce slots value → first_filled slots ≡ Some value
in_force_first slots value force = highest_first slots force.level value force.counted force.held force.higher

slot_of_none : {T : Type 0} (slots : List (Option T)) → NoneFilled slots → (level : ℕ) → slot (None ∷ slots) level ≡ None
slot_of_none slots none zero = refl
slot_of_none slots none (suc zero) = refl
slot_of_none slots none (suc (suc index)) = slot_behind None slots (suc index) (omega arith) ∙ none.empty (suc index)

-- where no slot is filled there is no first one
pub no_first_none_filled : {T : Type 0} (slots : List (Option T)) → first_filled slots ≡ None → NoneFilled slots
no_first_none_filled [] none = record { empty = λ level. refl }
no_first_none_filled (Some held ∷ slots) none = absurd (none_some held (sym none))
no_first_none_filled (None ∷ slots) none = record { empty = slot_of_none slots (no_first_none_filled slots none) }

none_behind : {T : Type 0} (slots : List (Option T)) → NoneFilled (None ∷ slots) → (level : ℕ) → slot slots level ≡ None
none_behind slots none zero = sym (slot_behind None slots 1 (omega arith)) ∙ none.empty 2
none_behind slots none (suc index) = sym (slot_behind None slots (suc index) (omega arith)) ∙ none.empty (suc (suc index))

pub none_filled_no_first : {T : Type 0} (slots : List (Option T)) → NoneFilled slots → first_filled slots ≡ None
none_filled_no_first [] none = refl
none_filled_no_first (Some held ∷ slots) none = absurd (none_some held (sym (none.empty 1)))
none_filled_no_first (None ∷ slots) none =
    none_filled_no_first slots (record { empty = none_behind slots none })

-- a value put into a slot is in force where those of all higher priorities are empty
pub put_first : {T : Type 0} (slots : List (Option T)) (level : ℕ) (value : T) → 1 ≤ level → level ≤ length slots → NoneHigher slots level →
    first_filled (put_slot slots level (Some value)) ≡ Some value
put_first slots level value counted within none =
    highest_first (put_slot slots level (Some value)) level value counted (slot-put_slot slots level (Some value) counted within) (record {
      empty = λ higher counted_too below. slot-put_slot_other slots level higher (Some value) counted counted_too (λ e. omega (arith, e, below))
          ∙ none.empty higher counted_too below;
    })

-- as many slots that hold the same at each level are the same
pub same_slots : {T : Type 0} (slots others : List (Option T)) → length slots ≡ length others →
    ((level : ℕ) → 1 ≤ level → level ≤ length slots → slot slots level ≡ slot others level) → slots ≡ others
same_slots [] [] long same = refl
same_slots [] (other ∷ others) long same = absurd (omega (arith, long))
same_slots (first ∷ slots) [] long same = absurd (omega (arith, long))
same_slots (first ∷ slots) (other ∷ others) long same =
    let heads : first ≡ other = same 1 (omega arith) (omega arith) in
    let tails = same_slots slots others (omega (arith, long)) (λ level counted within.
    sym (slot_behind first slots level counted) ∙ same (suc level) (omega arith) (omega (arith, within)) ∙ slot_behind other others level counted) in
    rw (heads, tails) refl

-- slots that are the same below a level are so up to it, once the same is put there
pub same_up_to : {T : Type 0} (slots others : List (Option T)) (level : ℕ) (value : Option T) → 1 ≤ level → level ≤ length slots → value ≡ slot others level →
    ((n : ℕ) → 1 ≤ n → n < level → slot slots n ≡ slot others n) → (n : ℕ) → 1 ≤ n → n < level + 1 → slot (put_slot slots level value) n ≡ slot others n
same_up_to slots others level value counted within there same n one below =
    elim (cases_eq n level) [
      | inl e ↦ rw (e, slot-put_slot slots level value counted within) there
      | inr ne ↦ slot-put_slot_other slots level n value counted one ne ∙ same n one (omega (arith, below, ne))
    ]

pub ruleset put_rules = (put_first)

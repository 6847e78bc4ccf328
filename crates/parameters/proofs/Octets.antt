-- What octets spell is what they are taken for.
use Rattle.std.proofs.Common.{◌≡◌, ◌∙◌, ◌+◌, ◌*◌, ◌/◌, ◌%◌, ◌<◌, ◌≤◌, ◌&&◌, ◌==◌, nat_lt, Some, if◌then◌else◌, ℕ, List, Bool, true, false, refl, sym, ap, length, arith, rules}
use Rattle.byteorder.specs.Endian.{big_number}
use Rattle.tags.specs.Number.{SpellsUnsigned, SpellsObject}
use Rattle.parameters.specs.Position.{has_number, number_in, at_object, at_property}
use Rattle.parameters.specs.declared.position.Position.{Position}

eq_no : (m n : ℕ) → (m ≡ n → ⊥) → (m == n) ≡ false
eq_no m n differ = search (rules, arith)

pub has_some : (octets : List ℕ) (n : ℕ) → SpellsUnsigned octets n → has_number octets ≡ true
has_some octets n s = search (rules, arith)

pub has_none : (octets : List ℕ) → ((0 < length octets) → 4 < length octets) → has_number octets ≡ false
has_none octets e = search (rules, arith)

pub type_in : (octets : List ℕ) (t i : ℕ) → SpellsObject octets t i → big_number 4 octets / 4194304 ≡ t
type_in octets t i s = let e = s.value in let f = s.sound.1 in omega (arith, e, f)

pub instance_in : (octets : List ℕ) (t i : ℕ) → SpellsObject octets t i → big_number 4 octets % 4194304 ≡ i
instance_in octets t i s = let e = s.value in let f = s.sound.1 in omega (arith, e, f)

pub ruleset octets_laws = (has_some, has_none, type_in, instance_in)

pub names_object : (octets : List ℕ) (t i : ℕ) (p : Position) → SpellsObject octets t i →
    at_object octets p ≡ record p { object_type = Some t }
unfolding at_object
names_object octets t i p s = rw (s.four, type_in octets t i s) refl

pub names_none : (octets : List ℕ) (p : Position) → (length octets ≡ 4 → ⊥) → at_object octets p ≡ p
unfolding at_object
names_none octets p differ = rw (eq_no (length octets) 4 differ) refl

pub names_property : (octets : List ℕ) (n : ℕ) (p : Position) → SpellsUnsigned octets n →
    at_property octets p ≡ record p { property = Some n }
unfolding at_property
names_property octets n p s = rw (has_some octets n s, sym s.value) refl

pub names_no_property : (octets : List ℕ) (p : Position) → ((0 < length octets) → 4 < length octets) →
    at_property octets p ≡ p
unfolding at_property
names_no_property octets p long = rw (has_none octets long) refl

pub ruleset position_laws = (names_object, names_none, names_property, names_no_property)

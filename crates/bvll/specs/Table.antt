-- The entries of a table, which lie in octets or in a list.
use Rattle.std.specs.Prelude.{◌≡◌, ℕ, zero, suc, ◌/◌, List, [], ◌∷◌, length, drop, flat_map}
use Rattle.std.specs.List.{AllByRecursion}
use Rattle.bvll.specs.declared.table.Iter.{Iter}
use Rattle.bvll.specs.declared.table.BvllTable.{BvllTable}
use Rattle.bvll.specs.declared.table.BvllTable.TheVariants.{Octets, Entries}

-- the octets, all of them, are those of the entry
pub record SpellsEntry {E : Type 0} (octets_of : E → List ℕ) (IsEntry : E → Type 0) (octets : List ℕ)
    (entry : E) : Type 0 where
  pub fields : IsEntry entry
  pub parts : octets ≡ octets_of entry

-- the octets, all of them, are those of the entries in order
pub record SpellsTable {E : Type 0} (octets_of : E → List ℕ) (IsEntry : E → Type 0) (octets : List ℕ)
    (entries : List E) : Type 0 where
  pub fields : AllByRecursion IsEntry entries
  pub parts : octets ≡ flat_map octets_of entries

-- the first entries of the octets, ten octets each
abbrev pub first_entries : {E : Type 0} → (List ℕ → E) → ℕ → List ℕ → List E
first_entries entry_at zero octets = []
first_entries entry_at (suc n) octets = entry_at octets ∷ first_entries entry_at n (drop 10 octets)

-- as many as they have whole
abbrev pub entries_at : {E : Type 0} → (List ℕ → E) → List ℕ → List E
entries_at entry_at octets = first_entries entry_at (length octets / 10) octets

-- the entries of a table
abbrev pub entries_of : {E : Type 0} → (List ℕ → E) → BvllTable E → List E
entries_of entry_at (Octets octets) = entries_at entry_at octets.now
entries_of entry_at (Entries entries) = entries.now

-- the entries that are still to come
abbrev pub rest_of : {E : Type 0} → (List ℕ → E) → Iter E → List E
rest_of entry_at iter = entries_of entry_at iter.rest

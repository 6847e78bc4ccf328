-- Records in a slab, under keys in order of execution.
use Rattle.std.specs.Prelude.{◌≡◌, ◌≢◌, ℕ, suc, Bool, false, option_map, List, [], ◌∷◌, Option, Some, None}
use Rattle.std.specs.Prelude.{slice_index_or}
use Rattle.std.specs.List.{AllByRecursion}
use Rattle.std.specs.declared.cmp.Ordering.{Ordering}
use Rattle.sorted_map.specs.Entries as map
use Rattle.remembered.specs.contracts.record.AskerOrd.TheImpl as asker_ord
use Rattle.remembered.specs.declared.record.Asker.{Asker}
use Rattle.remembered.specs.declared.record.Record.{Record}
use Rattle.remembered.specs.Records.{AreDistinct, is_of, later_or, some_if}

-- a list with this in front, where there is one
abbrev pub cons_some : {X : Type 0} → Option X → List X → List X
cons_some None xs = xs
cons_some (Some x) xs = x ∷ xs

-- what a slab has at a key
abbrev pub at : {X : Type 0} → List (Option X) → ℕ → Option X
at held k = slice_index_or held k None

-- the records under these keys
abbrev pub listed : {A : Type 0} → List (Option (Record A)) → List ℕ → List (Record A)
listed held [] = []
listed held (k ∷ ks) = cons_some (at held k) (listed held ks)

-- there is a record, and it is of this asker
abbrev pub is_at : {A : Type 0} → Asker → Option (Record A) → Bool
is_at a None = false
is_at a (Some r) = is_of a r

-- the key of the newest record of an asker
abbrev pub key_of : {A : Type 0} → List (Option (Record A)) → Asker → List ℕ → Option ℕ
key_of held a [] = None
key_of held a (k ∷ ks) = later_or (key_of held a ks) (some_if (is_at a (at held k)) k)

-- the key has a record
pub record IsFilled {A : Type 0} (held : List (Option (Record A))) (k : ℕ) : Type 0 where
  pub r : Record A
  pub is : at held k ≡ Some r

-- askers with their keys
abbrev pub Keys : Type 0
Keys = List (Asker × ℕ)

-- the order in which they stand, which is `asker_cmp`
abbrev pub order : Asker → Asker → Ordering
order = (asker_ord.ghosts).cmp

-- the key of an asker
abbrev pub get : Keys → Asker → Option ℕ
get keys a = map.value_of order a keys

-- each key in order has a record and stands once, and the map leads from each asker to its newest
pub record IsKept {A : Type 0} (held : List (Option (Record A))) (keys : Keys) (order : List ℕ) :
    Type 0 where
  pub filled : AllByRecursion (IsFilled held) order
  pub apart : AreDistinct order
  pub found : (a : Asker) → get keys a ≡ key_of held a order

-- the asker has this key or none, and each other what it had
abbrev pub HasNow : Asker → Option ℕ → Keys → Keys → Type 0
HasNow asker key old new = map.HasNow order asker key old new

-- the asker has this key, and each other what it had
abbrev pub IsSet : Asker → ℕ → Keys → Keys → Type 0
IsSet asker key = HasNow asker (Some key)

-- the asker has none, and each other what it had
abbrev pub IsDropped : Asker → Keys → Keys → Type 0
IsDropped asker = HasNow asker None

-- the asker has none where it had this key, and else all is as it was
pub record IsForgotten (asker : Asker) (key : ℕ) (old new : Keys) : Type 0 where
  pub dropped : get old asker ≡ Some key → IsDropped asker old new
  pub left : get old asker ≢ Some key → new ≡ old

-- each asker has the key that it had
abbrev pub IsSameMap : Keys → Keys → Type 0
IsSameMap old new = (q : Asker) → get new q ≡ get old q

-- the oldest
abbrev pub first : {A : Type 0} → List (Record A) → Option (Record A)
first [] = None
first (r ∷ rs) = Some r

-- the place of the newest record of an asker
abbrev pub newest_place : {A : Type 0} → Asker → List (Record A) → Option ℕ
newest_place a [] = None
newest_place a (r ∷ rs) = later_or (option_map suc (newest_place a rs)) (some_if (is_of a r) 0)

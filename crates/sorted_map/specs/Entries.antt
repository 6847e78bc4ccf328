-- Entries in the order of their keys.
use Rattle.std.specs.Prelude.{◌≡◌, ◌≤◌, ℕ, Bool, false, ◌&&◌, cond, List, [], ◌∷◌, length}
use Rattle.std.specs.Prelude.{Option, Some, None, slice_get}
use Rattle.std.specs.BTreeMap.{is_at}
use Rattle.std.specs.List.{AllByRecursion, AllWithin}
use Rattle.std.specs.Map.{lookup, remove_entry}
use Rattle.std.specs.Ordering.{is_eq}
use Rattle.std.specs.declared.cmp.Ordering.{Ordering}
use Rattle.std.specs.declared.cmp.Ordering.TheVariants.{Less, Equal, Greater}

-- there is a value, and it is this one
abbrev pub is_value : {V : Type 0} → (V → V → Bool) → V → Option V → Bool
is_value E v None = false
is_value E v (Some w) = E w v

module _ {K V : Type 0} (R : K → K → Ordering) where
  -- the value of a key
  abbrev pub value_of : K → List (K × V) → Option V
  value_of k es = lookup (is_at (R k)) es

  -- each key comes before those behind it, so it stands once
  abbrev pub AreSorted : List (K × V) → Type 0
  AreSorted [] = Unit {0}
  AreSorted (e ∷ es) = AllByRecursion (λ f. R e.0 f.0 ≡ Less) es × AreSorted es

  -- the key is at this place
  pub record IsAt (es : List (K × V)) (k : K) (i : ℕ) : Type 0 where
    pub entry : K × V
    pub is : slice_get es i ≡ Some entry
    pub equal : R entry.0 k ≡ Equal

  -- the key would go to this place: those before it are less, and those from it on greater
  pub record IsGap (es : List (K × V)) (k : K) (i : ℕ) : Type 0 where
    pub within : i ≤ length es
    pub less : AllWithin (λ e. R e.0 k ≡ Less) es 0 i
    pub greater : AllWithin (λ e. R e.0 k ≡ Greater) es i (length es)

  -- the key has this value
  abbrev pub has : (V → V → Bool) → K → V → List (K × V) → Bool
  has E k v es = is_value E v (value_of k es)

  -- without a key that has this value
  abbrev pub without : (V → V → Bool) → K → V → List (K × V) → List (K × V)
  without E k v es = cond (has E k v es) (remove_entry (is_at (R k)) es) es

  -- the key has this value or none, and each other has what it had
  abbrev pub HasNow : K → Option V → List (K × V) → List (K × V) → Type 0
  HasNow k v old new = (q : K) → value_of q new ≡ cond (is_eq (R k q)) v (value_of q old)

  -- the key has none where it had this one, and each other has what it had
  abbrev pub Updates : (V → V → Bool) → K → V → List (K × V) → List (K × V) → Type 0
  Updates E k v old new =
      (q : K) → value_of q new ≡ cond (has E k v old && is_eq (R k q)) None (value_of q old)

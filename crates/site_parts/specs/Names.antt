-- Names of stations.
use Rattle.std.specs.Prelude.{◌⊎◌, ◌≤◌, ◌<◌, ℕ, List, length}
use Rattle.std.specs.List.{AllByRecursion}
use Rattle.profile.specs.Limits.{MAX_NAME_OCTETS}

-- a letter or a digit
abbrev pub IsSign : ℕ → Type 0
IsSign c = ((48 ≤ c) × (c ≤ 57)) ⊎ (((65 ≤ c) × (c ≤ 90)) ⊎ ((97 ≤ c) × (c ≤ 122)))

-- letters and digits, 1 to 32
pub record IsName (name : List ℕ) : Type 0 where
  pub some : 0 < length name
  pub few : length name ≤ MAX_NAME_OCTETS
  pub signs : AllByRecursion IsSign name

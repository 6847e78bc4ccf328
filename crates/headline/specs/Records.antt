-- Words for the records of a device that are kept in order of execution, for those who keep them so.
use Rattle.std.specs.Prelude.{ℕ, ◌+◌, ◌≤◌, ◌==◌, nat_le, ◌&&◌, Bool, cond, List, [], ◌∷◌, Option, Some, None}
use Rattle.profile.specs.Times.{KEEP_MS}
use Rattle.history.specs.Lists.{last_of_those}
use Rattle.headline.specs.Stations.{Record}

-- the record lives
abbrev pub lives : {S : Type 0} → ℕ → Record S → Bool
lives now k = nat_le now (k.moment + KEEP_MS)

-- the record is for this client and invoke ID
abbrev pub is_of : {S : Type 0} → (S → S → Bool) → S → ℕ → Record S → Bool
is_of same c id k = same k.client c && (k.invoke_id == id)

-- the record is of this request, and lives
abbrev pub is_remembered : {S : Type 0} → (S → S → Bool) → ℕ → S → ℕ → Record S → Bool
is_remembered same now c id k = is_of same c id k && lives now k

-- the last record for this client and invoke ID
abbrev pub newest : {S : Type 0} → (S → S → Bool) → S → ℕ → List (Record S) → Option (Record S)
newest same c id ks = last_of_those (is_of same c id) ks

-- a record, if it lives
abbrev pub if_lives : {S : Type 0} → ℕ → Option (Record S) → Option (Record S)
if_lives now None = None
if_lives now (Some k) = cond (lives now k) (Some k) None

-- moments of execution don't fall from here on
abbrev pub AreAscending : {S : Type 0} → ℕ → List (Record S) → Type 0
AreAscending moment [] = Unit {0}
AreAscending moment (k ∷ ks) = (moment ≤ k.moment) × AreAscending k.moment ks

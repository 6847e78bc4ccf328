-- What holds of lists of records.
use Rattle.std.specs.Prelude.{◌≡◌, ◌≤◌, ℕ, nat_le, List, length, filter}
use Rattle.profile.specs.Limits.{MAX_REMEMBERED}
use Rattle.remembered.specs.declared.record.Asker.{Asker}
use Rattle.remembered.specs.declared.record.Record.{Record}
use Rattle.remembered.specs.Records.{AreAscending, forgotten, is_full, lives, newest, remembered}

-- what is left of ascending records are just the living ones
abbrev pub ForgottenAreDead : Type 0 → Type 0
ForgottenAreDead A = (now : ℕ) (rs : List (Record A)) → AreAscending rs → forgotten now rs ≡ filter (lives now) rs

-- of at most MAX_REMEMBERED ascending records there is no place exactly where so many live
abbrev pub FullIsLiving : Type 0 → Type 0
FullIsLiving A = (now : ℕ) (rs : List (Record A)) → AreAscending rs → length rs ≤ MAX_REMEMBERED →
    is_full now rs ≡ nat_le MAX_REMEMBERED (length (filter (lives now) rs))

-- what is remembered for an asker, of ascending records, is its newest among the living ones
abbrev pub NewestLives : Type 0 → Type 0
NewestLives A = (now : ℕ) (a : Asker) (rs : List (Record A)) → AreAscending rs →
    remembered now a rs ≡ newest a (filter (lives now) rs)

-- What holds for a while.
use Rattle.std.specs.Prelude.{ℕ, ◌<◌}

-- this holds at each moment before one, in milliseconds
pub record Until (end : ℕ) (Holds : ℕ → Type 0) : Type 0 where
  pub holds : (now : ℕ) → now < end → Holds now

-- Whether two are one.
use Rattle.std.specs.Prelude.{◌≡◌, Bool, true}

-- the test tells of any two whether they are one
pub record IsTest {S : Type 0} (same : S → S → Bool) : Type 0 where
  pub exact : (a b : S) → same a b ≡ true → a ≡ b
  pub itself : (a : S) → same a a ≡ true

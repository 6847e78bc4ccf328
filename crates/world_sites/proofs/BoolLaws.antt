-- Tests that hold together.
use Rattle.std.proofs.Common.{◌≡◌, ◌&&◌, refl, Bool, true, false}

-- of two tests that hold, each does
pub first_of : (a b : Bool) → (a && b) ≡ true → a ≡ true
first_of true b e = refl
first_of false b e = absurd (cc e)

pub second_of : (a b : Bool) → (a && b) ≡ true → b ≡ true
second_of true b e = e
second_of false b e = absurd (cc e)

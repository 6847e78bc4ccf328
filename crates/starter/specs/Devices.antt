-- How many devices a first site has.
use Rattle.std.specs.Prelude.{◌≡◌, ◌≤◌, List, ℕ}
use Rattle.std.specs.Str.Parse.{IsNumeral, digits_value, without_leading_plus}

-- the word is a decimal number of 1 to 250, behind a plus or none
pub record SaysDevices (word : List ℕ) (devices : ℕ) : Type 0 where
  pub digits : IsNumeral 10 (without_leading_plus word)
  pub number : devices ≡ digits_value 10 (without_leading_plus word)
  pub least : 1 ≤ devices
  pub most : devices ≤ 250

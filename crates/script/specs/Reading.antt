-- What a script's reader has read (for private functions alone).
use Rattle.std.specs.Prelude.{◌≡◌, ◌≢◌, ◌≤◌, ◌<◌, ◌+◌, ◌++◌, ℕ, List, Option, length, slice_index}
use Rattle.std.specs.List.{AllByRecursion}
use Rattle.script.specs.declared.step.Step.{Step}
use Rattle.script.specs.Lines.{AreSteps, lines, lines_left, size_left, spoken}
use Rattle.script.specs.Steps.{IsFitStep}

-- the lines of a text up to those that are left, how many they are, and the steps that they say
pub record HasRead {A : Type 0} (text : List ℕ) (steps : List (Step A)) (number : ℕ)
    (left : Option (List ℕ)) : Type 0 where
  pub read : List (List ℕ)
  pub parts : lines text ≡ read ++ lines_left left
  pub count : number ≡ length read
  pub room : number + size_left left ≤ length text + 1
  pub said : AreSteps (spoken read) steps
  pub fit : AllByRecursion IsFitStep steps

-- none of so many octets at the front of a text is a line feed
pub record HasNoFeed (text : List ℕ) (count : ℕ) : Type 0 where
  pub none : (k : ℕ) → k < count → slice_index text k ≢ 10

-- Scripts of which faults are told.
use Rattle.std.specs.Prelude.{ℕ, Bool, true, false, List}
use Rattle.std.specs.List.{AllByRecursion}
use Rattle.script.specs.Lines.{IsFirstBad, SaysSteps}
use Rattle.script.specs.Steps.{IsFitStep}
use Rattle.script.specs.declared.step.Step.{Step}

-- each line of a text that is neither empty nor a comment asks for a step that a script may have
pub record IsScript (A : Type 0) (text : List ℕ) : Type 0 where
  pub steps : List (Step A)
  pub said : SaysSteps text steps
  pub fit : AllByRecursion IsFitStep steps

-- a line of a text is bad
pub record HasBadLine (A : Type 0) (text : List ℕ) : Type 0 where
  pub number : ℕ
  pub bad : IsFirstBad A text number

-- faults are told of a text with a bad line, and none of one that is a script
abbrev pub IsTold : (A : Type 0) → List ℕ → Bool → Type 0
IsTold A text true = HasBadLine A text
IsTold A text false = IsScript A text

-- where a live run takes each line of a text, it is a script
abbrev pub IsToldLive : (A : Type 0) → List ℕ → Bool → Type 0
IsToldLive A text true = Unit {0}
IsToldLive A text false = IsScript A text

-- The lines of a script, and the steps that they say one after another.
use Rattle.std.specs.Prelude.{◌≡◌, ◌⊎◌, ◌+◌, ◌-◌, ◌++◌, ◌==◌, ◌||◌, not, ℕ, Bool, true, false, if◌then◌else◌, List, []}
use Rattle.std.specs.Prelude.{◌∷◌, length, map, slice_index, take, Option, None, Some}
use Rattle.std.specs.List.{filter, slice_split}
use Rattle.std.specs.Str.{IsUtf8}
use Rattle.script.specs.declared.script.BadScript.{BadScript}
use Rattle.script.specs.declared.script.BadScript.TheVariants as bad
use Rattle.script.specs.declared.step.Step.{Step}
use Rattle.script.specs.NoSteps.{IsBad}
use Rattle.script.specs.Steps.{IsFitStep, SaysStep}

-- a line without the carriage return that it may end with
abbrev pub without_return : List ℕ → List ℕ
without_return line = if slice_index line (length line - 1) == 13 then take (length line - 1) line else line

-- a text cut at each line feed
abbrev pub cut : List ℕ → List (List ℕ)
cut text = slice_split (λ c. c == 10) text

-- the lines of a text, whose ends are a line feed, or a carriage return and a line feed
abbrev pub lines : List ℕ → List (List ℕ)
lines text = map without_return (cut text)

-- an empty line, or a comment, which begins with `#`
abbrev pub is_skipped : List ℕ → Bool
is_skipped line = (length line == 0) || (slice_index line 0 == 35)

-- the lines that are neither
abbrev pub spoken : List (List ℕ) → List (List ℕ)
spoken ls = filter (λ l. not (is_skipped l)) ls

-- each of the lines says a step, and all these are the steps in their order
abbrev pub AreSteps : {A : Type 0} → List (List ℕ) → List (Step A) → Type 0
AreSteps [] [] = Unit {0}
AreSteps [] (s ∷ ss) = ⊥
AreSteps (l ∷ ls) [] = ⊥
AreSteps (l ∷ ls) (s ∷ ss) = SaysStep l s × AreSteps ls ss

-- the text says the steps, one in each line that is neither empty nor a comment
abbrev pub SaysSteps : {A : Type 0} → List ℕ → List (Step A) → Type 0
SaysSteps text steps = AreSteps (spoken (lines text)) steps

-- the line is neither empty nor a comment, and it is no UTF-8 or says no step that a script may have
pub record IsBadLine (A : Type 0) (line : List ℕ) : Type 0 where
  pub said : is_skipped line ≡ false
  pub bad : (IsUtf8 line → ⊥) ⊎ IsBad A line

-- the line of this number, the first one being 1, is bad, and all lines before it say steps
pub record IsFirstBad (A : Type 0) (text : List ℕ) (number : ℕ) : Type 0 where
  pub before : List (List ℕ)
  pub line : List ℕ
  pub after : List (List ℕ)
  pub parts : lines text ≡ before ++ line ∷ after
  pub count : number ≡ length before + 1
  pub steps : List (Step A)
  pub good : AreSteps (spoken before) steps
  pub bad : IsBadLine A line

-- why the text is no script
abbrev pub IsNoScript : Type 0 → List ℕ → BadScript → Type 0
IsNoScript A text bad.Memory = Unit {0}
IsNoScript A text (bad.Line number unread) = IsFirstBad A text number

-- the lines that are left (for private functions alone)
abbrev pub lines_left : Option (List ℕ) → List (List ℕ)
lines_left None = []
lines_left (Some text) = lines text

-- one more than the octets that are left, if any are (for private functions alone)
abbrev pub size_left : Option (List ℕ) → ℕ
size_left None = 0
size_left (Some text) = length text + 1

-- the step of a line, if it says one, behind others (for private functions alone)
pub record PutsStep {A : Type 0} (line : List ℕ) (old new : List (Step A)) : Type 0 where
  pub said : is_skipped line ≡ false
  pub step : Step A
  pub says : SaysStep line step
  pub fit : IsFitStep step
  pub put : new ≡ old ++ step ∷ []

-- such a step, or nothing for a line that is skipped (for private functions alone)
abbrev pub PutsLine : {A : Type 0} → List ℕ → List (Step A) → List (Step A) → Type 0
PutsLine line old new = ((is_skipped line ≡ true) × (new ≡ old)) ⊎ PutsStep line old new

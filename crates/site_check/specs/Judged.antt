-- How a site file and a script are judged.
use Rattle.std.specs.Prelude.{◌≡◌, ◌⊎◌, ℕ, Bool, true, false, List, Option, None, Some, Result, Ok, Err}
use Rattle.std.specs.List.{AllByRecursion}
use Rattle.script.specs.Lines.{IsFirstBad, SaysSteps}
use Rattle.script.specs.Steps.{IsFitStep}
use Rattle.script.specs.declared.step.Step.{Step}
use Rattle.site.specs.Sound.{IsFaulty, IsSound}
use Rattle.site_parts.specs.declared.parts.Parts.{Parts}
use Rattle.site_text.specs.Document.{IsDocument}
use Rattle.site_text.specs.declared.unread.NoParts.{NoParts}
use Rattle.site_text.specs.declared.unread.NoParts.TheVariants as why

-- each line of a text that is neither empty nor a comment asks for a step that a script may have
pub record IsScript (A : Type 0) (text : List ℕ) : Type 0 where
  pub steps : List (Step A)
  pub said : SaysSteps text steps
  pub fit : AllByRecursion IsFitStep steps

-- a line of a text is bad
pub record HasBadLine (A : Type 0) (text : List ℕ) : Type 0 where
  pub number : ℕ
  pub bad : IsFirstBad A text number

-- these are the steps that the lines of a text ask for, or there are none since a line is bad
abbrev pub AreStepsIfAny : {A : Type 0} → List ℕ → Option (List (Step A)) → Type 0
AreStepsIfAny text (Some steps) = SaysSteps text steps × AllByRecursion IsFitStep steps
AreStepsIfAny {A} text None = HasBadLine A text

-- a text is judged to be a script where it is one, and not to be one where it has a bad line
abbrev pub IsScriptJudged : Type 0 → List ℕ → Bool → Type 0
IsScriptJudged A text true = IsScript A text
IsScriptJudged A text false = HasBadLine A text

-- the same of a script that need not be there
abbrev pub IsScriptIfAnyJudged : Type 0 → Option (List ℕ) → Bool → Type 0
IsScriptIfAnyJudged A (Some text) is_sound = IsScriptJudged A text is_sound
IsScriptIfAnyJudged A None is_sound = is_sound ≡ true

-- what was read of a text: parts, of a document; or why there are none, which is that it is no document, or that the
-- document has a key that says no part
abbrev pub IsRead : {A : Type 0} → List ℕ → Result (Parts A) (NoParts A) → Type 0
IsRead text (Ok parts) = IsDocument text
IsRead text (Err (why.Document error)) = IsDocument text → ⊥
IsRead text (Err (why.Key key)) = IsDocument text
IsRead text (Err why.Memory) = ⊥

-- parts are judged to be a site where they are sound, and not to be one where they have a fault; a text without parts
-- is judged to be none
abbrev pub IsSiteJudged : {A : Type 0} → Result (Parts A) (NoParts A) → Bool → Type 0
IsSiteJudged (Ok parts) true = IsSound parts
IsSiteJudged (Ok parts) false = IsFaulty parts
IsSiteJudged (Err none) is_sound = is_sound ≡ false

-- both have no fault, or one of them has one
abbrev pub IsJudged : (A : Type 0) → Result (Parts A) (NoParts A) → Option (List ℕ) → Bool → Type 0
IsJudged A read script true = IsSiteJudged read true × IsScriptIfAnyJudged A script true
IsJudged A read script false = IsSiteJudged read false ⊎ IsScriptIfAnyJudged A script false

-- the texts of a site and of a script, if there is one, are judged as they are read
pub record AreJudged (A : Type 0) (site : List ℕ) (script : Option (List ℕ)) (is_sound : Bool) : Type 0 where
  pub read : Result (Parts A) (NoParts A)
  pub as_it_stands : IsRead site read
  pub judged : IsJudged A read script is_sound

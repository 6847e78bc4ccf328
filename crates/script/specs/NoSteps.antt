-- Which steps lines of a script don't say.
use Rattle.std.specs.Prelude.{◌≡◌, ◌⊎◌, ℕ, List, Option}
use Rattle.apdu.specs.declared.unconfirmed.Limits.{Limits}
use Rattle.primitives.specs.declared.plain_data.Request.{Request}
use Rattle.script.specs.declared.step.Step.{Step}
use Rattle.script.specs.Steps.{IsFit, IsFitStep, SaysHear, SaysHeard, SaysIssue, SaysLimits, SaysName, SaysStep}
use Rattle.script.specs.Steps.{SaysWhoIs}
use Rattle.words.specs.declared.unread.Unread.{Unread}
use Rattle.words.specs.declared.unread.Unread.TheVariants.{Memory}
use Rattle.words.specs.Quoted.{SaysQuoted}

-- the word is no name
pub record NoName (word : List ℕ) : Type 0 where
  pub none : (name : List ℕ) → SaysName word name → ⊥

-- the words say a request without a spelling, or with a write of no value or of several
pub record SaysUnfit (A : Type 0) (words : List ℕ) : Type 0 where
  pub request : Request A
  pub said : SaysQuoted words request
  pub unfit : IsFit request → ⊥

-- the words say no client, instance and request
pub record NoIssue (A : Type 0) (words : List ℕ) : Type 0 where
  pub none : (client : List ℕ) (instance : ℕ) (request : Request A) →
      SaysIssue words client instance request → ⊥

-- they say such a request behind them
pub record SaysUnfitIssue (A : Type 0) (words : List ℕ) : Type 0 where
  pub client : List ℕ
  pub instance : ℕ
  pub request : Request A
  pub said : SaysIssue words client instance request
  pub unfit : IsFit request → ⊥

-- the words say no limits
pub record NoLimits (words : List ℕ) : Type 0 where
  pub none : (limits : Limits) → SaysLimits words limits → ⊥

-- the words say no client, alone or with limits
pub record NoWhoIs (words : List ℕ) : Type 0 where
  pub none : (client : List ℕ) (limits : Option Limits) → SaysWhoIs words client limits → ⊥

-- the words say neither a silence nor octets
pub record NoHeard (words : List ℕ) : Type 0 where
  pub none : (octets : List ℕ) → SaysHeard words octets → ⊥

-- the words say no network, station and what it hears
pub record NoHear (words : List ℕ) : Type 0 where
  pub none : (network : ℕ) (station octets : List ℕ) → SaysHear words network station octets → ⊥

-- the words say no step
pub record NoStep (A : Type 0) (words : List ℕ) : Type 0 where
  pub none : (s : Step A) → SaysStep words s → ⊥

-- the words say an issue of a request without a spelling, or with a write of no value or of several
pub record SaysUnfitStep (A : Type 0) (words : List ℕ) : Type 0 where
  pub step : Step A
  pub said : SaysStep words step
  pub unfit : IsFitStep step → ⊥

-- the words say no step, or a request that no script may issue
abbrev pub IsBad : Type 0 → List ℕ → Type 0
IsBad A words = NoStep A words ⊎ SaysUnfitStep A words

-- why words are refused
abbrev pub IsRefused : Type 0 → List ℕ → Unread → Type 0
IsRefused A words unread = (unread ≡ Memory) ⊎ IsBad A words

-- Scripts that expect nothing of a run.
use Rattle.std.specs.Prelude.{ℕ, List, [], ◌∷◌}
use Rattle.script.specs.Lines.{SaysSteps}
use Rattle.script.specs.declared.step.Step.{Step}
use Rattle.script.specs.declared.step.Step.TheVariants as step

-- the step expects nothing
abbrev pub ExpectsNothing : {A : Type 0} → Step A → Type 0
ExpectsNothing (step.Expects e) = ⊥
ExpectsNothing (step.Happens e) = Unit {0}
ExpectsNothing (step.Flow n) = Unit {0}
ExpectsNothing (step.Disturbs f) = Unit {0}
ExpectsNothing (step.Shows name) = Unit {0}

-- no step does
abbrev pub ExpectNothing : {A : Type 0} → List (Step A) → Type 0
ExpectNothing [] = Unit {0}
ExpectNothing (s ∷ ss) = ExpectsNothing s × ExpectNothing ss

-- a script expects nothing
pub record HasNoExpectation (A : Type 0) (script : List ℕ) : Type 0 where
  pub none : (steps : List (Step A)) → SaysSteps script steps → ExpectNothing steps

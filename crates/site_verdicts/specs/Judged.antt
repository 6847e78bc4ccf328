-- What a script expects, judged.
use Rattle.std.specs.Prelude.{◌≡◌, ◌⊎◌, ℕ, Bool, true, List, Option}
use Rattle.primitives.specs.declared.plain_data.Reply.{Reply}
use Rattle.site_history.specs.simulator.world_log.Growing.{WorldHistory}
use Rattle.verdicts.specs.Verdicts.{Holds}
use Rattle.verdicts.specs.expectations.declared.expectation.Expectation.{Expectation}

-- an expectation holds of what was seen, and whether one is unmet stays; or it doesn't, and one is
abbrev pub IsJudgedBy : {A : Type 0} → Expectation A → WorldHistory A → (refused : ℕ) → (read : Option (Reply A)) →
    (was now : Bool) → Type 0
IsJudgedBy e h refused read was now =
    (Holds e h refused read × (now ≡ was)) ⊎ ((Holds e h refused read → ⊥) × (now ≡ true))

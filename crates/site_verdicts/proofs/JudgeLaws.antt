-- An expectation, judged.
use Rattle.std.proofs.Common.{◌≡◌, inl, inr, ℕ, Bool, true, false, List, Option}
use Rattle.std.specs.Prelude.{◌⊎◌, ◌↔◌, IsTrue}
use Rattle.primitives.specs.declared.plain_data.Reply.{Reply}
use Rattle.site_history.specs.simulator.world_log.Growing.{WorldHistory}
use Rattle.site_verdicts.specs.Judged.{IsJudgedBy}
use Rattle.verdicts.specs.Verdicts.{Holds}
use Rattle.verdicts.specs.expectations.declared.expectation.Expectation.{Expectation}

not_both : (b : Bool) → b ≡ true → b ≡ false → ⊥
not_both true e f = cc
not_both false e f = cc

pub judged_met : {A : Type 0} (e : Expectation A) (h : WorldHistory A) (refused : ℕ) (read : Option (Reply A))
    (b was now : Bool) → (IsTrue b ↔ Holds e h refused read) → b ≡ true → now ≡ was → IsJudgedBy e h refused read was now
judged_met e h refused read b was now iff t same = inl (iff.0 t, same)

pub judged_unmet : {A : Type 0} (e : Expectation A) (h : WorldHistory A) (refused : ℕ) (read : Option (Reply A))
    (b was now : Bool) → (IsTrue b ↔ Holds e h refused read) → b ≡ false → now ≡ true →
    IsJudgedBy e h refused read was now
judged_unmet e h refused read b was now iff f unmet = inr ((λ holds. not_both b (iff.1 holds) f), unmet)

pub ruleset judge_laws = (judged_met, judged_unmet)

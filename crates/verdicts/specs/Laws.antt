-- What holds of expectations in a legal history (5.4).
use Rattle.std.specs.Prelude.{◌≡◌, ℕ, List, Option, Some}
use Rattle.expectations.specs.declared.expectation.Expectation.TheVariants as expected
use Rattle.expectations.specs.declared.expectation.Outcome.TheVariants as outcome
use Rattle.expectations.specs.declared.expectation.Times.TheVariants.{Once}
use Rattle.history.specs.declared.Entry.{Entry}
use Rattle.history.specs.Legal.{AnswersWereExecuted, AreExecutedOnce}
use Rattle.network_faults.specs.declared.fault.IssueRef.{IssueRef}
use Rattle.primitives.specs.declared.plain_data.Reply.{Reply}
use Rattle.verdicts.specs.Verdicts.{Holds}

-- a request that was answered as expected was executed once, where each answer is that of an execution and no request
-- is executed twice
abbrev pub AnsweredIsExecutedOnce : (S Q A : Type 0) → Type 0
AnsweredIsExecutedOnce S Q A = (h : List (Entry S Q (Reply A))) (i : IssueRef) (r : Option (Reply A))
    (within : Option ℕ) (refused : ℕ) (read : Option (Reply A)) → AreExecutedOnce h → AnswersWereExecuted h →
    Holds (expected.Closed i (outcome.Answered r) within) h refused read →
    Holds (expected.Executed i Once) h refused read

-- a request was answered with one reply
abbrev pub OneAnswer : (S Q A : Type 0) → Type 0
OneAnswer S Q A = (h : List (Entry S Q (Reply A))) (i : IssueRef) (r other : Reply A) (within soon : Option ℕ)
    (refused : ℕ) (read : Option (Reply A)) →
    Holds (expected.Closed i (outcome.Answered (Some r)) within) h refused read →
    Holds (expected.Closed i (outcome.Answered (Some other)) soon) h refused read → r ≡ other

-- The words of an expectation, as they are printed, with the standard's names.
use Rattle.std.specs.Prelude.{ℕ, List, [], ◌∷◌, ◌++◌, Option, None, Some, codes}
use Rattle.std.specs.Fmt.{decimal, signed_decimal}
use Rattle.expectations.specs.declared.expectation.Expectation.{Expectation}
use Rattle.expectations.specs.declared.expectation.Expectation.TheVariants as expected
use Rattle.expectations.specs.declared.expectation.ExpectedEnd.{ExpectedEnd}
use Rattle.expectations.specs.declared.expectation.ExpectedEnd.TheVariants as cause
use Rattle.expectations.specs.declared.expectation.ExpectedValue.{ExpectedValue}
use Rattle.expectations.specs.declared.expectation.ExpectedValue.TheVariants as value
use Rattle.expectations.specs.declared.expectation.Outcome.{Outcome}
use Rattle.expectations.specs.declared.expectation.Outcome.TheVariants as outcome
use Rattle.expectations.specs.declared.expectation.Times.{Times}
use Rattle.expectations.specs.declared.expectation.Times.TheVariants.{Once, Never}
use Rattle.names.specs.Tables.{abort_reasons, reject_reasons}
use Rattle.network_faults.specs.declared.fault.IssueRef.{IssueRef}
use Rattle.network_faults.specs.Printed.{issue_text, spaced}
use Rattle.primitives.specs.declared.plain_data.Reply.{Reply}
use Rattle.words.specs.printing.Printed.{named_text, object_text, reference_text, reply_text, values_text, wording_of}
use Rattle.words.specs.printing.declared.spelling.Spelling.TheVariants.{Names, Numbers}

-- an answer behind a space, where there is one
unfoldable pub reply_part : {A : Type 0} → Option (Reply A) → List ℕ
reply_part None = []
reply_part (Some r) = codes " " ++ reply_text Names r

-- a reason behind a space, where there is one (20.1.8, 20.1.9)
unfoldable pub reason_part : List (ℕ × List ℕ) → Option ℕ → List ℕ
reason_part table None = []
reason_part table (Some n) = codes " " ++ named_text Names table n

-- why a request has no answer (20.1.8, 20.1.9)
unfoldable pub cause_text : ExpectedEnd → List ℕ
cause_text cause.TimedOut = codes "timedout"
cause_text (cause.Rejected reason) = codes "rejected" ++ reason_part reject_reasons reason
cause_text (cause.Aborted reason) = codes "aborted" ++ reason_part abort_reasons reason

-- the same behind a space, where it is said
unfoldable pub end_part : Option ExpectedEnd → List ℕ
end_part None = []
end_part (Some e) = codes " " ++ cause_text e

-- how a request ends: `answered 3 done`, `ended last timedout`
unfoldable pub outcome_text : {A : Type 0} → IssueRef → Outcome A → List ℕ
outcome_text i (outcome.Answered reply) = codes "answered " ++ (issue_text i ++ reply_part reply)
outcome_text i (outcome.Ended why) = codes "ended " ++ (issue_text i ++ end_part why)

-- within how many milliseconds, where that is said
unfoldable pub within_part : Option ℕ → List ℕ
within_part None = []
within_part (Some ms) = codes " within " ++ decimal ms

-- how often
abbrev pub times_text : Times → List ℕ
times_text Once = codes "once"
times_text Never = codes "never"

-- what a property reads
unfoldable pub value_text : {A : Type 0} → ExpectedValue A → List ℕ
value_text (value.Number z) = signed_decimal z
value_text (value.Values values) = values_text (wording_of Numbers) values

-- what is expected, as a script says it: `expect answered 3 done within 2000`, `expect executed last once`
unfoldable pub expectation_text : {A : Type 0} → Expectation A → List ℕ
expectation_text (expected.Closed i o within) = codes "expect " ++ (outcome_text i o ++ within_part within)
expectation_text (expected.Executed i times) =
    spaced (codes "expect executed" ∷ issue_text i ∷ times_text times ∷ [])
expectation_text (expected.Reads station object property v) =
    spaced (codes "expect value" ∷ station ∷ object_text Names object ∷ reference_text Names property
    ∷ codes "=" ∷ value_text v ∷ [])
expectation_text expected.NoneRefused = codes "expect none refused"

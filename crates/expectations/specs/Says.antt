-- Which expectations words say.
use Rattle.std.specs.Prelude.{◌≡◌, ℕ, List, Option, Some, None, codes}
use Rattle.std.specs.Str.{IsUtf8}
use Rattle.expectations.specs.declared.expectation.Expectation.{Expectation}
use Rattle.expectations.specs.declared.expectation.Expectation.TheVariants as expected
use Rattle.expectations.specs.declared.expectation.ExpectedEnd.{ExpectedEnd}
use Rattle.expectations.specs.declared.expectation.Outcome.TheVariants as outcome
use Rattle.expectations.specs.declared.expectation.Times.{Times}
use Rattle.expectations.specs.declared.expectation.Times.TheVariants.{Once, Never}
use Rattle.expectations.specs.Outcomes.{SaysEndIfAny, SaysReplyIfAny}
use Rattle.expectations.specs.Values.{SaysReads}
use Rattle.network_faults.specs.declared.fault.IssueRef.{IssueRef}
use Rattle.network_faults.specs.Says.{SaysIssue}
use Rattle.primitives.specs.declared.plain_data.Reply.{Reply}
use Rattle.words.specs.Marks.{first_part, other_parts}
use Rattle.words.specs.Quoted.{unquoted}
use Rattle.words.specs.Says.{Has, IsOfKind, SaysUnsigned, before, behind, space}

-- a number of milliseconds, if there is a word
abbrev pub SaysWithin : Option (List ℕ) → Option ℕ → Type 0
SaysWithin None None = Unit {0}
SaysWithin (Some word) (Some ms) = SaysUnsigned 64 word ms
SaysWithin None (Some ms) = ⊥
SaysWithin (Some word) None = ⊥

-- what stands before ` within `
abbrev pub before_within : List ℕ → List ℕ
before_within words = first_part (codes " within ") words

-- what stands behind it
abbrev pub behind_within : List ℕ → Option (List ℕ)
behind_within words = other_parts (codes " within ") words

-- a request, its answer if that is said, and how soon it comes, as `3 done within 2000` (5.4.4)
pub record SaysAnswered {A : Type 0} (words : List ℕ) (i : IssueRef) (reply : Option (Reply A)) (within : Option ℕ) :
    Type 0 where
  pub issue_said : SaysIssue (first_part (codes " ") (before_within words)) i
  pub reply_said : SaysReplyIfAny (other_parts (codes " ") (before_within words)) reply
  pub within_said : SaysWithin (behind_within words) within

-- a request, why it has no answer if that is said, and how soon it ends, as `3 timedout within 12000` (5.4.4)
pub record SaysEnded (words : List ℕ) (i : IssueRef) (why : Option ExpectedEnd) (within : Option ℕ) : Type 0 where
  pub issue_said : SaysIssue (first_part (codes " ") (before_within words)) i
  pub why_said : SaysEndIfAny (other_parts (codes " ") (before_within words)) why
  pub within_said : SaysWithin (behind_within words) within

-- `once` or `never`
abbrev pub SaysTimes : List ℕ → Times → Type 0
SaysTimes word Once = word ≡ codes "once"
SaysTimes word Never = word ≡ codes "never"

-- a request, and how often it is executed, as `3 once`
pub record SaysExecuted (words : List ℕ) (i : IssueRef) (times : Times) : Type 0 where
  pub parted : Has space words
  pub issue_said : SaysIssue (before space words) i
  pub times_said : SaysTimes (behind space words) times

-- `refused`
abbrev pub IsRefused : List ℕ → Type 0
IsRefused word = word ≡ codes "refused"

-- the word that an expectation begins with
abbrev pub kind_word : {A : Type 0} → Expectation A → List ℕ
kind_word (expected.Closed i (outcome.Answered reply) within) = codes "answered"
kind_word (expected.Closed i (outcome.Ended why) within) = codes "ended"
kind_word (expected.Executed i times) = codes "executed"
kind_word (expected.Reads station object property v) = codes "value"
kind_word expected.NoneRefused = codes "none"

-- what stands behind that word
abbrev pub SaysRest : {A : Type 0} → List ℕ → Expectation A → Type 0
SaysRest words (expected.Closed i (outcome.Answered reply) within) = SaysAnswered words i reply within
SaysRest words (expected.Closed i (outcome.Ended why) within) = SaysEnded words i why within
SaysRest words (expected.Executed i times) = SaysExecuted words i times
SaysRest words (expected.Reads station object property v) = SaysReads words station object property v
SaysRest words expected.NoneRefused = IsRefused words

-- the words say the expectation, without quotes
abbrev pub SaysPlain : {A : Type 0} → List ℕ → Expectation A → Type 0
SaysPlain words e = IsOfKind words (kind_word e) × SaysRest (behind space words) e

-- the words say the expectation, in which texts may stand in quotes
pub record SaysExpectation {A : Type 0} (words : List ℕ) (e : Expectation A) : Type 0 where
  pub plain : List ℕ
  pub unquotes : unquoted words ≡ Some plain
  pub readable : IsUtf8 plain
  pub said : SaysPlain plain e

-- A part of an expectation that isn't said leaves the whole unsaid.
use Rattle.std.proofs.Common.{◌≡◌, ℕ, List, Option, Some, None, arith}
use Rattle.std.specs.Prelude.{◌≢◌, codes}
use Rattle.expectations.specs.declared.expectation.Times.{Times}
use Rattle.expectations.specs.declared.expectation.Times.TheVariants.{Once, Never}
use Rattle.expectations.specs.Outcomes.{NoEndIfAny, NoReplyIfAny}
use Rattle.expectations.specs.Says.{IsRefused, SaysTimes, SaysWithin, before_within, behind_within}
use Rattle.expectations.specs.Unsaid.{IsNoRefused, IsNoTimes, NoAnswered, NoEnded, NoExecuted, NoWithin}
use Rattle.network_faults.specs.Unsaid.{NoIssue}
use Rattle.words.specs.Marks.{first_part, other_parts}
use Rattle.words.specs.Says.{HasNo, before, behind, space}
use Rattle.words.specs.Unsaid.{NoUnsigned}

no_time_in : (word : List ℕ) (within : Option ℕ) → NoUnsigned 64 word → SaysWithin (Some word) within → ⊥
no_time_in word None none s = s
no_time_in word (Some ms) none s = none.none ms s

pub no_time : (word : List ℕ) → NoUnsigned 64 word → NoWithin (Some word)
no_time word none = record { none = λ w s. no_time_in word w none s }

pub ruleset within_laws = (no_time)

pub answered_no_issue : (A : Type 0) (words : List ℕ) → NoIssue (first_part (codes " ") (before_within words)) →
    NoAnswered A words
answered_no_issue A words none = record { none = λ i r w s. none.none i s.issue_said }

pub answered_no_reply : (A : Type 0) (words : List ℕ) →
    NoReplyIfAny A (other_parts (codes " ") (before_within words)) → NoAnswered A words
answered_no_reply A words none = record { none = λ i r w s. none.none r s.reply_said }

pub answered_no_time : (A : Type 0) (words : List ℕ) → NoWithin (behind_within words) → NoAnswered A words
answered_no_time A words none = record { none = λ i r w s. none.none w s.within_said }

pub ruleset answered_laws = (answered_no_issue, answered_no_reply, answered_no_time)

pub ended_no_issue : (words : List ℕ) → NoIssue (first_part (codes " ") (before_within words)) → NoEnded words
ended_no_issue words none = record { none = λ i e w s. none.none i s.issue_said }

pub ended_no_why : (words : List ℕ) → NoEndIfAny (other_parts (codes " ") (before_within words)) → NoEnded words
ended_no_why words none = record { none = λ i e w s. none.none e s.why_said }

pub ended_no_time : (words : List ℕ) → NoWithin (behind_within words) → NoEnded words
ended_no_time words none = record { none = λ i e w s. none.none w s.within_said }

pub ruleset ended_laws = (ended_no_issue, ended_no_why, ended_no_time)

neither_in : (word : List ℕ) (times : Times) → word ≢ codes "once" → word ≢ codes "never" → SaysTimes word times → ⊥
neither_in word Once no_once no_never s = no_once s
neither_in word Never no_once no_never s = no_never s

pub neither : (word : List ℕ) → word ≢ codes "once" → word ≢ codes "never" → IsNoTimes word
neither word no_once no_never = record { none = λ t s. neither_in word t no_once no_never s }

pub ruleset times_laws = (neither)

pub executed_whole : (words : List ℕ) → HasNo space words → NoExecuted words
executed_whole words whole = record { none = λ i t s. absurd (let k = s.parted in omega (arith, whole, k)) }

pub executed_no_issue : (words : List ℕ) → NoIssue (before space words) → NoExecuted words
executed_no_issue words none = record { none = λ i t s. none.none i s.issue_said }

pub executed_no_times : (words : List ℕ) → IsNoTimes (behind space words) → NoExecuted words
executed_no_times words none = record { none = λ i t s. none.none t s.times_said }

pub ruleset executed_laws = (executed_whole, executed_no_issue, executed_no_times)

pub other : (word : List ℕ) → word ≢ codes "refused" → IsNoRefused word
other word none = record { none = none }

pub ruleset refused_laws = (other)

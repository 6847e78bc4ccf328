-- Which issue of a history is meant (5.4).
use Rattle.std.specs.Prelude.{ℕ, List, [], ◌∷◌, Option, Some, None}
use Rattle.history.specs.declared.Entry.{Entry}
use Rattle.history.specs.declared.Entry.TheVariants as entry
use Rattle.history.specs.Lists.{first_of}
use Rattle.network_faults.specs.declared.fault.IssueRef.{IssueRef}
use Rattle.network_faults.specs.declared.fault.IssueRef.TheVariants as issue

module _ {S Q R : Type 0} where
  -- the number of an entry that is an issue
  abbrev pub issue_in : Entry S Q R → Option ℕ
  issue_in (entry.Issue number client instance request moment) = Some number
  issue_in e = None

  -- the number of the latest issue, if there is one
  abbrev pub latest_issue : List (Entry S Q R) → Option ℕ
  latest_issue [] = None
  latest_issue (e ∷ h) = first_of (latest_issue h) (issue_in e)

  -- the number of the issue that is meant
  abbrev pub issue_number : IssueRef → List (Entry S Q R) → Option ℕ
  issue_number (issue.Number n) h = Some n
  issue_number issue.Last h = latest_issue h

-- How long clients waited for answers.
use Rattle.std.specs.Prelude.{ℕ, ◌-◌, ◌==◌, cond, not, max, List, [], ◌∷◌, ◌++◌, Option, None, Some, flat_map, slice_get}
use Rattle.std.specs.List.{filter}
use Rattle.history.specs.declared.Entry.{Entry}
use Rattle.history.specs.declared.Entry.TheVariants as entry
use Rattle.npdu.specs.declared.mac.Station.{Station}
use Rattle.primitives.specs.declared.plain_data.Reply.{Reply}
use Rattle.primitives.specs.declared.plain_data.Request.{Request}
use Rattle.site_storm.specs.declared.waits.OpenIssue.{OpenIssue}
use Rattle.storm.specs.world_log.Growing.{WorldHistory}

-- an entry of the history of a site
abbrev pub WorldEntry : Type 0 → Type 0
WorldEntry A = Entry Station (Request A) (Reply A)

-- the moment of an entry that is an issue
abbrev pub issued_at : {A : Type 0} → WorldEntry A → Option ℕ
issued_at (entry.Issue number client instance request moment) = Some moment
issued_at e = None

-- one, if there is one
abbrev pub at_most_one : Option ℕ → List ℕ
at_most_one None = []
at_most_one (Some m) = m ∷ []

-- the moments of all issues, by their numbers
abbrev pub issue_moments : {A : Type 0} → WorldHistory A → List ℕ
issue_moments h = flat_map (λ e. at_most_one (issued_at e)) h

-- the time from an issue, if there is one, to a moment
abbrev pub since : Option ℕ → ℕ → ℕ
since None moment = 0
since (Some issued) moment = moment - issued

-- how long a client waited for this entry, if it is an answer (5.4.4)
abbrev pub wait_for : {A : Type 0} → List ℕ → WorldEntry A → ℕ
wait_for moments (entry.Answered number reply moment) = since (slice_get moments number) moment
wait_for moments e = 0

-- the greatest of the waits for these entries
abbrev pub greatest_of : {A : Type 0} → List ℕ → WorldHistory A → ℕ
greatest_of moments [] = 0
greatest_of moments (e ∷ es) = max (wait_for moments e) (greatest_of moments es)

-- the longest time from an issue to its answer
abbrev pub greatest_wait : {A : Type 0} → WorldHistory A → ℕ
greatest_wait h = greatest_of (issue_moments h) h

-- what is counted entry by entry: the issues that have no closing entry yet, and the longest wait so far. For private
-- functions alone
pub record WaitsState : Type 0 where
  pub issues : List OpenIssue
  pub greatest : ℕ

abbrev pub no_waits : WaitsState
no_waits = record { issues = []; greatest = 0 }

-- the moment of the issue of this number among these
abbrev pub moment_of : ℕ → List OpenIssue → Option ℕ
moment_of n [] = None
moment_of n (o ∷ os) = cond (o.number == n) (Some o.moment) (moment_of n os)

-- those that have another number
abbrev pub without : ℕ → List OpenIssue → List OpenIssue
without n os = filter (λ o. not (o.number == n)) os

-- a request is issued; is answered; ends without an answer
abbrev pub with_issue : (number moment : ℕ) → WaitsState → WaitsState
with_issue number moment w = record w { issues = w.issues ++ record { number = number; moment = moment } ∷ [] }

abbrev pub with_answer : (number moment : ℕ) → WaitsState → WaitsState
with_answer number moment w = record {
  issues = without number w.issues;
  greatest = max (since (moment_of number w.issues) moment) w.greatest;
}

abbrev pub with_end : (number : ℕ) → WaitsState → WaitsState
with_end number w = record w { issues = without number w.issues }

-- .. by an entry
abbrev pub waits_after : {A : Type 0} → WorldEntry A → WaitsState → WaitsState
waits_after (entry.Issue number client instance request moment) w = with_issue number moment w
waits_after (entry.Answered number reply moment) w = with_answer number moment w
waits_after (entry.Ended number why moment) w = with_end number w
waits_after e w = w

-- .. by entries, in order
abbrev pub all_waits : {A : Type 0} → WorldHistory A → WaitsState → WaitsState
all_waits [] w = w
all_waits (e ∷ es) w = all_waits es (waits_after e w)

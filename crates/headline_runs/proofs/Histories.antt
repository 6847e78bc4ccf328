-- Histories that keep each rule, and one that breaks it. Requests, replies and tables are numbers; the reply is the sum of
-- table and request, the request is the next table.
use Rattle.std.proofs.Common.{◌≡◌, ◌⊎◌, refl, subst, inl, inr, ⊎_elim, ℕ, zero, suc, ◌+◌, ◌≤◌, ◌<◌, List, [], ◌∷◌, Some, arith}
use Rattle.std.specs.Prelude.{slice_get}
use Rattle.history.specs.declared.End.TheVariants.{TimedOut}
use Rattle.history.specs.declared.Entry.{Entry}
use Rattle.history.specs.declared.Entry.TheVariants.{Issue, Executed, Answered, Ended, Restarted}
use Rattle.history.specs.Legal.{AreNumbered, StandAfterIssue, AreExecutedOnce, AnswersWereExecuted, AreClosedOnce, IsWhatExecutionsLeave}

abbrev issue : ℕ → Entry ℕ ℕ ℕ
issue i = Issue i 0 10 5 0

-- a. a second issue that has the first number
numbers_breached : AreNumbered (issue 0 ∷ issue 0 ∷ []) → ⊥
numbers_breached h = let e = h 1 0 0 10 5 0 refl in absurd (cc)

-- .. and an execution before its issue
order_breached : StandAfterIssue (Executed 0 5 0 ∷ issue 0 ∷ []) → ⊥
order_breached h = let a = h 0 0 (Executed 0 5 0) refl refl in let l = a.before in absurd (omega arith)

-- b. two executions
once_breached : AreExecutedOnce (issue 0 ∷ Executed 0 5 0 ∷ Executed 0 10 1 ∷ []) → ⊥
once_breached h = let l : 2 ≤ 1 = h 0 in absurd (omega arith)

-- c. an answer before the execution, and one with another reply
order_of_answer_breached : AnswersWereExecuted (issue 0 ∷ Answered 0 5 1 ∷ Executed 0 5 2 ∷ []) → ⊥
order_of_answer_breached h =
    let a = h 1 0 5 1 refl in
    let l = a.before in
    let first : a.there.place ≡ 0 = omega arith in
    let e = subst (λ n. slice_get (issue 0 ∷ Answered 0 5 1 ∷ Executed 0 5 2 ∷ []) n ≡ Some (Executed 0 5 a.moment)) first a.there.at_place in
    absurd (cc)

below_two : (k : ℕ) → k < 2 → (k ≡ 0) ⊎ (k ≡ 1)
below_two zero l = inl refl
below_two (suc zero) l = inr refl
below_two (suc (suc k)) l = absurd (omega arith)

reply_breached : AnswersWereExecuted (issue 0 ∷ Executed 0 5 0 ∷ Answered 0 6 1 ∷ []) → ⊥
reply_breached h =
    let a = h 2 0 6 1 refl in
    ⊎_elim
    (λ (z : a.there.place ≡ 0). let e = subst (λ n. slice_get (issue 0 ∷ Executed 0 5 0 ∷ Answered 0 6 1 ∷ []) n ≡ Some (Executed 0 6 a.moment)) z
    a.there.at_place in absurd (cc))
    (λ (o : a.there.place ≡ 1). let e = subst (λ n. slice_get (issue 0 ∷ Executed 0 5 0 ∷ Answered 0 6 1 ∷ []) n ≡ Some (Executed 0 6 a.moment)) o
    a.there.at_place in absurd (cc))
    (below_two a.there.place a.before)

-- d. answered and ended
closed_breached : AreClosedOnce (issue 0 ∷ Executed 0 5 0 ∷ Answered 0 5 1 ∷ Ended 0 TimedOut 12000 ∷ []) → ⊥
closed_breached h = let l : 2 ≤ 1 = h 0 in absurd (omega arith)

-- e. two executions at the device 10, one at another, and one after a restart
abbrev Leaves : ℕ → List (Entry ℕ ℕ ℕ) → Type 0
Leaves final h = IsWhatExecutionsLeave (λ t q. t + q) (λ t q. q) 10 0 final h

abbrev past : ℕ → List (Entry ℕ ℕ ℕ)
past last = Issue 0 0 10 5 0 ∷ Issue 1 0 11 6 0 ∷ Issue 2 0 10 7 0 ∷ Executed 0 5 0 ∷ Executed 1 6 0 ∷ Executed 2 12 0 ∷ Restarted 11 1 ∷ Restarted 10 2 ∷
    Issue 3 0 10 8 3 ∷ Executed 3 last 3 ∷ []

tables_kept : Leaves 8 (past 8)
tables_kept = (refl, (refl, (refl, refl)))

-- .. whose reply is of the table before the restart
restart_breached : Leaves 8 (past 15) → ⊥
restart_breached h = let e = h.1.1.0 in absurd (cc)

-- .. which leaves another table
table_breached : Leaves 7 (past 8) → ⊥
table_breached h = let e = h.1.1.1 in absurd (cc)

-- Expectations of a legal history.
use Rattle.std.proofs.Common.{◌≡◌, ◌∙◌, refl, sym, subst, ℕ, ◌≤◌, true, List, Option, Some, None, arith}
use Rattle.std.proofs.lemmas.Bool.{eq-eqb, eqb-true}
use Rattle.std.specs.Prelude.{IsSomeAnd, slice_get}
use Rattle.expectations.specs.declared.expectation.Outcome.TheVariants as outcome
use Rattle.history.proofs.Lists.{last_has, one_counted}
use Rattle.history.specs.declared.Entry.{Entry}
use Rattle.history.specs.declared.Entry.TheVariants as entry
use Rattle.history.specs.Legal.{AnswersWereExecuted, AreExecutedOnce, closes, executes}
use Rattle.history.specs.Lists.{count}
use Rattle.network_faults.specs.Issued.{issue_number}
use Rattle.primitives.specs.declared.plain_data.Reply.{Reply}
use Rattle.verdicts.specs.Laws.{AnsweredIsExecutedOnce, OneAnswer}
use Rattle.verdicts.specs.Verdicts.{IsOutcome, closing_of, issued_at}

some_more : {X : Type 0} (o : Option X) (P Q : X → Type 0) → ((x : X) → P x → Q x) → IsSomeAnd o P → IsSomeAnd o Q
some_more None P Q f s = s
some_more (Some x) P Q f s = f x s

module _ {S Q A : Type 0} where
  executed_once : (h : List (Entry S Q (Reply A))) (n j k moment : ℕ) (r : Reply A) → AreExecutedOnce h →
      AnswersWereExecuted h → slice_get h k ≡ Some (entry.Answered j r moment) → j ≡ n → count (executes n) h ≡ 1
  executed_once h n j k moment r once answers there is =
      let before = answers k j r moment there in
      let some : 1 ≤ count (executes j) h =
      one_counted (executes j) h before.there.place (entry.Executed j r before.moment) before.there.at_place
      (eq-eqb j j refl) in
      let few : count (executes j) h ≤ 1 = once j in
      subst (λ (m : ℕ). count (executes m) h ≡ 1) is (omega (arith, some, few))

  closed_once : (h : List (Entry S Q (Reply A))) (n : ℕ) (r : Option (Reply A)) (within issued : Option ℕ)
      (c : Option (Entry S Q (Reply A))) → AreExecutedOnce h → AnswersWereExecuted h → closing_of n h ≡ c →
      IsSomeAnd c (IsOutcome (outcome.Answered r) within issued) → count (executes n) h ≡ 1
  closed_once h n r within issued None once answers e s = absurd s
  closed_once h n r within issued (Some (entry.Answered j given moment)) once answers e s =
      let found = last_has (closes n) h (entry.Answered j given moment) e in
      executed_once h n j found.0.place moment given once answers found.0.at_place (eqb-true j n found.1)
  closed_once h n r within issued (Some (entry.Issue j c i q moment)) once answers e s = absurd s
  closed_once h n r within issued (Some (entry.Executed j given moment)) once answers e s = absurd s
  closed_once h n r within issued (Some (entry.Ended j given moment)) once answers e s = absurd s
  closed_once h n r within issued (Some (entry.Restarted i moment)) once answers e s = absurd s

  one_of : (c : Option (Entry S Q (Reply A))) (r other : Reply A) (within soon issued : Option ℕ) →
      IsSomeAnd c (IsOutcome (outcome.Answered (Some r)) within issued) →
      IsSomeAnd c (IsOutcome (outcome.Answered (Some other)) soon issued) → r ≡ other
  one_of None r other within soon issued s t = absurd s
  one_of (Some (entry.Answered j given moment)) r other within soon issued s t = sym (s.0) ∙ t.0
  one_of (Some (entry.Issue j c i q moment)) r other within soon issued s t = absurd s
  one_of (Some (entry.Executed j given moment)) r other within soon issued s t = absurd s
  one_of (Some (entry.Ended j given moment)) r other within soon issued s t = absurd s
  one_of (Some (entry.Restarted i moment)) r other within soon issued s t = absurd s

  one_at : (h : List (Entry S Q (Reply A))) (number : Option ℕ) (r other : Reply A) (within soon : Option ℕ) →
      IsSomeAnd number (λ n. IsSomeAnd (closing_of n h) (IsOutcome (outcome.Answered (Some r)) within (issued_at n h))) →
      IsSomeAnd number (λ n. IsSomeAnd (closing_of n h) (IsOutcome (outcome.Answered (Some other)) soon (issued_at n h))) →
      r ≡ other
  one_at h None r other within soon s t = absurd s
  one_at h (Some n) r other within soon s t = one_of (closing_of n h) r other within soon (issued_at n h) s t

  pub answered_once : AnsweredIsExecutedOnce S Q A
  answered_once = λ h i r within refused read once answers s.
      some_more (issue_number i h)
      (λ n. IsSomeAnd (closing_of n h) (IsOutcome (outcome.Answered r) within (issued_at n h)))
      (λ n. count (executes n) h ≡ 1)
      (λ n t. closed_once h n r within (issued_at n h) (closing_of n h) once answers refl t) s

  pub one_reply : OneAnswer S Q A
  one_reply = λ h i r other within soon refused read s t. one_at h (issue_number i h) r other within soon s t

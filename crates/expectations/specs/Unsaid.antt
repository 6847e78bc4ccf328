-- What words don't say of expectations.
use Rattle.std.specs.Prelude.{ℕ, List, Option}
use Rattle.expectations.specs.declared.expectation.Expectation.{Expectation}
use Rattle.expectations.specs.declared.expectation.ExpectedEnd.{ExpectedEnd}
use Rattle.expectations.specs.declared.expectation.Times.{Times}
use Rattle.expectations.specs.Says.{IsRefused, SaysAnswered, SaysEnded, SaysExecuted, SaysExpectation, SaysPlain}
use Rattle.expectations.specs.Says.{SaysTimes, SaysWithin}
use Rattle.network_faults.specs.declared.fault.IssueRef.{IssueRef}
use Rattle.primitives.specs.declared.plain_data.Reply.{Reply}

-- there is a word, and it is no number of milliseconds
pub record NoWithin (word : Option (List ℕ)) : Type 0 where
  pub none : (within : Option ℕ) → SaysWithin word within → ⊥

-- the words say no request and its answer
pub record NoAnswered (A : Type 0) (words : List ℕ) : Type 0 where
  pub none : (i : IssueRef) (reply : Option (Reply A)) (within : Option ℕ) → SaysAnswered words i reply within → ⊥

-- the words say no request and why it has no answer
pub record NoEnded (words : List ℕ) : Type 0 where
  pub none : (i : IssueRef) (why : Option ExpectedEnd) (within : Option ℕ) → SaysEnded words i why within → ⊥

-- the word is neither `once` nor `never`
pub record IsNoTimes (word : List ℕ) : Type 0 where
  pub none : (times : Times) → SaysTimes word times → ⊥

-- the words say no request and how often it is executed
pub record NoExecuted (words : List ℕ) : Type 0 where
  pub none : (i : IssueRef) (times : Times) → SaysExecuted words i times → ⊥

-- the word is not `refused`
pub record IsNoRefused (word : List ℕ) : Type 0 where
  pub none : IsRefused word → ⊥

-- the words say no expectation without quotes
pub record NoPlain (A : Type 0) (words : List ℕ) : Type 0 where
  pub none : (e : Expectation A) → SaysPlain words e → ⊥

-- the words say no expectation
pub record NoExpectation (A : Type 0) (words : List ℕ) : Type 0 where
  pub none : (e : Expectation A) → SaysExpectation words e → ⊥

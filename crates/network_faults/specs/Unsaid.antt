-- What words don't say of faults.
use Rattle.std.specs.Prelude.{◌≡◌, ℕ, List}
use Rattle.network_faults.specs.declared.fault.FaultyMessage.{FaultyMessage}
use Rattle.network_faults.specs.declared.fault.IssueRef.{IssueRef}
use Rattle.network_faults.specs.declared.fault.NetworkFault.{NetworkFault}
use Rattle.last_hop.specs.declared.part.RequestOrAnswer.{RequestOrAnswer}
use Rattle.network_faults.specs.Says.{SaysDelay, SaysFor, SaysIssue, SaysLose, SaysMessage, SaysOn, SaysSeveral}
use Rattle.network_faults.specs.Says.{SaysSome, SaysStation, SaysTo, which_word}

-- the word is neither `request` nor `answer`
pub record IsNoWhich (word : List ℕ) : Type 0 where
  pub none : (which : RequestOrAnswer) → word ≡ which_word which → ⊥

-- the word says no issue
pub record NoIssue (word : List ℕ) : Type 0 where
  pub none : (i : IssueRef) → SaysIssue word i → ⊥

-- the words say no message of a request
pub record NoMessage (words : List ℕ) : Type 0 where
  pub none : (m : FaultyMessage) → SaysMessage words m → ⊥

-- the word says no number but 0
pub record NoSome (word : List ℕ) : Type 0 where
  pub none : (n : ℕ) → SaysSome word n → ⊥

-- the words say no message and how many of it
pub record NoSeveral (words : List ℕ) : Type 0 where
  pub none : (count : ℕ) (m : FaultyMessage) → SaysSeveral words count m → ⊥

-- the words say no message and by how much it is late
pub record NoDelay (words : List ℕ) : Type 0 where
  pub none : (m : FaultyMessage) (ms : ℕ) → SaysDelay words m ms → ⊥

-- the words say no time
pub record NoFor (words : List ℕ) : Type 0 where
  pub none : (ms : ℕ) → SaysFor words ms → ⊥

-- the word is no name
pub record NoStation (word : List ℕ) : Type 0 where
  pub none : (name : List ℕ) → SaysStation word name → ⊥

-- the words say no station for a while
pub record NoTo (words : List ℕ) : Type 0 where
  pub none : (station : List ℕ) (ms : ℕ) → SaysTo words station ms → ⊥

-- the words say no network for a while
pub record NoOn (words : List ℕ) : Type 0 where
  pub none : (network ms : ℕ) → SaysOn words network ms → ⊥

-- the words say nothing that is lost
pub record NoLose (A : Type 0) (words : List ℕ) : Type 0 where
  pub none : (f : NetworkFault A) → SaysLose words f → ⊥

-- Which faults of the network words say.
use Rattle.std.specs.Prelude.{◌≡◌, ◌⊎◌, ◌≤◌, ℕ, List, codes}
use Rattle.network_faults.specs.declared.fault.FaultyMessage.{FaultyMessage}
use Rattle.network_faults.specs.declared.fault.IssueRef.{IssueRef}
use Rattle.network_faults.specs.declared.fault.IssueRef.TheVariants as issue
use Rattle.network_faults.specs.declared.fault.NetworkFault.{NetworkFault}
use Rattle.network_faults.specs.declared.fault.NetworkFault.TheVariants as fault
use Rattle.last_hop.specs.declared.part.RequestOrAnswer.{RequestOrAnswer}
use Rattle.last_hop.specs.declared.part.RequestOrAnswer.TheVariants.{Request, Answer}
use Rattle.profile.specs.Times.{LIFE_MS}
use Rattle.site_parts.specs.Names.{IsName}
use Rattle.words.specs.Says.{Has, before, behind, space, IsOfKind, SaysUnsigned}

-- the word for it
abbrev pub which_word : RequestOrAnswer → List ℕ
which_word Request = codes "request"
which_word Answer = codes "answer"

-- a number in the history, or the latest one
abbrev pub SaysIssue : List ℕ → IssueRef → Type 0
SaysIssue word (issue.Number n) = SaysUnsigned 64 word n
SaysIssue word issue.Last = word ≡ codes "last"

-- the message of a request, as `answer 3`
pub record SaysMessage (words : List ℕ) (m : FaultyMessage) : Type 0 where
  pub which_said : IsOfKind words (which_word m.which)
  pub issue_said : SaysIssue (behind space words) m.issue

-- a number that isn't 0
pub record SaysSome (word : List ℕ) (n : ℕ) : Type 0 where
  pub number_said : SaysUnsigned 64 word n
  pub least : 1 ≤ n

-- how many of which message, as `3 answer 1`
pub record SaysSeveral (words : List ℕ) (count : ℕ) (m : FaultyMessage) : Type 0 where
  pub parted : Has space words
  pub count_said : SaysSome (before space words) count
  pub message_said : SaysMessage (behind space words) m

-- which message comes late, and by how many milliseconds: what is older than LIFE_MS is never received
pub record SaysDelay (words : List ℕ) (m : FaultyMessage) (ms : ℕ) : Type 0 where
  pub which_said : IsOfKind words (which_word m.which)
  pub parted : Has space (behind space words)
  pub issue_said : SaysIssue (before space (behind space words)) m.issue
  pub time_said : SaysSome (behind space (behind space words)) ms
  pub greatest : ms ≤ LIFE_MS

-- for so many milliseconds, as `for 2000`
pub record SaysFor (words : List ℕ) (ms : ℕ) : Type 0 where
  pub kind : IsOfKind words (codes "for")
  pub time_said : SaysSome (behind space words) ms

-- the word is the name of a station
pub record SaysStation (word name : List ℕ) : Type 0 where
  pub formed : IsName word
  pub same : name ≡ word

-- a station for a while, as `to ahu1 for 2000`
pub record SaysTo (words station : List ℕ) (ms : ℕ) : Type 0 where
  pub kind : IsOfKind words (codes "to")
  pub parted : Has space (behind space words)
  pub station_said : SaysStation (before space (behind space words)) station
  pub time_said : SaysFor (behind space (behind space words)) ms

-- a network for a while, as `on 5 for 2000`
pub record SaysOn (words : List ℕ) (network ms : ℕ) : Type 0 where
  pub kind : IsOfKind words (codes "on")
  pub parted : Has space (behind space words)
  pub network_said : SaysUnsigned 16 (before space (behind space words)) network
  pub time_said : SaysFor (behind space (behind space words)) ms

-- one sending of a message, or several
abbrev pub SaysLoss : List ℕ → ℕ → FaultyMessage → Type 0
SaysLoss words count m = ((count ≡ 1) × SaysMessage words m) ⊎ SaysSeveral words count m

-- what is lost
abbrev pub SaysLose : {A : Type 0} → List ℕ → NetworkFault A → Type 0
SaysLose words (fault.Lose count m) = SaysLoss words count m
SaysLose words (fault.LoseTo station ms) = SaysTo words station ms
SaysLose words (fault.LoseOn network ms) = SaysOn words network ms
SaysLose words (fault.Repeat m) = ⊥
SaysLose words (fault.Delay m ms) = ⊥
SaysLose words (fault.Damage m) = ⊥

-- the word that a fault begins with
abbrev pub fault_word : {A : Type 0} → NetworkFault A → List ℕ
fault_word (fault.Lose count m) = codes "lose"
fault_word (fault.LoseTo station ms) = codes "lose"
fault_word (fault.LoseOn network ms) = codes "lose"
fault_word (fault.Repeat m) = codes "repeat"
fault_word (fault.Delay m ms) = codes "delay"
fault_word (fault.Damage m) = codes "damage"

-- what stands behind that word
abbrev pub SaysFault : {A : Type 0} → List ℕ → NetworkFault A → Type 0
SaysFault words (fault.Lose count m) = SaysLoss words count m
SaysFault words (fault.LoseTo station ms) = SaysTo words station ms
SaysFault words (fault.LoseOn network ms) = SaysOn words network ms
SaysFault words (fault.Repeat m) = SaysMessage words m
SaysFault words (fault.Delay m ms) = SaysDelay words m ms
SaysFault words (fault.Damage m) = SaysMessage words m

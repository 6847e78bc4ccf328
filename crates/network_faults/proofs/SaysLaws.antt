-- A part of a fault that isn't said leaves the whole unsaid.
use Rattle.std.proofs.Common.{◌≡◌, refl, sym, ap, inl, inr, ℕ, List, length, arith}
use Rattle.std.specs.Prelude.{◌≢◌, ◌⊎◌, ◌≤◌, ◌<◌, codes}
use Rattle.network_faults.specs.Says.{SaysDelay, SaysFor, SaysIssue, SaysLose, SaysMessage, SaysOn, SaysSeveral, SaysSome, SaysStation, SaysTo, which_word}
use Rattle.network_faults.specs.Unsaid.{IsNoWhich, NoDelay, NoFor, NoIssue, NoLose, NoMessage, NoOn, NoSeveral, NoSome, NoStation, NoTo}
use Rattle.network_faults.specs.declared.fault.FaultyMessage.{FaultyMessage}
use Rattle.network_faults.specs.declared.fault.IssueRef.{IssueRef}
use Rattle.network_faults.specs.declared.fault.IssueRef.TheVariants as issue
use Rattle.network_faults.specs.declared.fault.NetworkFault.{NetworkFault}
use Rattle.network_faults.specs.declared.fault.NetworkFault.TheVariants as fault
use Rattle.last_hop.specs.declared.part.RequestOrAnswer.{RequestOrAnswer}
use Rattle.last_hop.specs.declared.part.RequestOrAnswer.TheVariants.{Request, Answer}
use Rattle.profile.specs.Times.{LIFE_MS}
use Rattle.site_parts.specs.Names.{IsName}
use Rattle.words.specs.Says.{Has, HasNo, before, behind, space, SaysUnsigned}
use Rattle.words.specs.Unsaid.{NoUnsigned}

neither_in : (word : List ℕ) (which : RequestOrAnswer) → word ≢ codes "request" → word ≢ codes "answer" →
    word ≡ which_word which → ⊥
neither_in word Request no_request no_answer e = no_request e
neither_in word Answer no_request no_answer e = no_answer e

pub neither : (word : List ℕ) → word ≢ codes "request" → word ≢ codes "answer" → IsNoWhich word
neither word no_request no_answer = record { none = λ which e. neither_in word which no_request no_answer e }

pub ruleset which_laws = (neither)

no_issue_in : (word : List ℕ) (i : IssueRef) → word ≢ codes "last" → NoUnsigned 64 word → SaysIssue word i → ⊥
no_issue_in word (issue.Number n) other none s = none.none n s
no_issue_in word issue.Last other none s = other s

pub no_issue : (word : List ℕ) → word ≢ codes "last" → NoUnsigned 64 word → NoIssue word
no_issue word other none = record { none = λ i s. no_issue_in word i other none s }

pub ruleset issue_laws = (no_issue)

pub no_number : (word : List ℕ) → NoUnsigned 64 word → NoSome word
no_number word none = record { none = λ n s. none.none n s.number_said }

pub only_zero : (word : List ℕ) (n : ℕ) → SaysUnsigned 64 word n → n ≡ 0 → NoSome word
only_zero word n said zero = record {
  none = λ m s. let a = said.number in let b = s.number_said.number in let l = s.least in absurd (omega (arith, a, b, l, zero));
}

pub ruleset some_laws = (no_number, only_zero)

pub message_whole : (words : List ℕ) → HasNo space words → NoMessage words
message_whole words whole = record { none = λ m s. absurd (let p = s.which_said.parted in omega (arith, whole, p)) }

pub message_no_which : (words : List ℕ) → IsNoWhich (before space words) → NoMessage words
message_no_which words none = record { none = λ m s. none.none m.which s.which_said.kind_is }

pub message_no_issue : (words : List ℕ) → NoIssue (behind space words) → NoMessage words
message_no_issue words none = record { none = λ m s. none.none m.issue s.issue_said }

pub ruleset message_laws = (message_whole, message_no_which, message_no_issue)

pub delay_whole : (words : List ℕ) → HasNo space words → NoDelay words
delay_whole words whole = record { none = λ m ms s. absurd (let p = s.which_said.parted in omega (arith, whole, p)) }

pub delay_alone : (words : List ℕ) → HasNo space (behind space words) → NoDelay words
delay_alone words whole = record { none = λ m ms s. absurd (let p = s.parted in omega (arith, whole, p)) }

pub delay_no_which : (words : List ℕ) → IsNoWhich (before space words) → NoDelay words
delay_no_which words none = record { none = λ m ms s. none.none m.which s.which_said.kind_is }

pub delay_no_issue : (words : List ℕ) → NoIssue (before space (behind space words)) → NoDelay words
delay_no_issue words none = record { none = λ m ms s. none.none m.issue s.issue_said }

pub delay_no_time : (words : List ℕ) → NoSome (behind space (behind space words)) → NoDelay words
delay_no_time words none = record { none = λ m ms s. none.none ms s.time_said }

pub delay_too_late : (words : List ℕ) (n : ℕ) → SaysSome (behind space (behind space words)) n → LIFE_MS < n → NoDelay words
delay_too_late words n said late = record {
  none = λ m ms s. let a = said.number_said.number in let b = s.time_said.number_said.number in let g = s.greatest in
      absurd (omega (arith, a, b, g, late));
}

pub ruleset delay_laws = (delay_whole, delay_alone, delay_no_which, delay_no_issue, delay_no_time, delay_too_late)

pub several_whole : (words : List ℕ) → HasNo space words → NoSeveral words
several_whole words whole = record { none = λ n m s. absurd (let p = s.parted in omega (arith, whole, p)) }

pub several_no_count : (words : List ℕ) → NoSome (before space words) → NoSeveral words
several_no_count words none = record { none = λ n m s. none.none n s.count_said }

pub several_no_message : (words : List ℕ) → NoMessage (behind space words) → NoSeveral words
several_no_message words none = record { none = λ n m s. none.none m s.message_said }

pub ruleset several_laws = (several_whole, several_no_count, several_no_message)

pub for_whole : (words : List ℕ) → HasNo space words → NoFor words
for_whole words whole = record { none = λ ms s. absurd (let p = s.kind.parted in omega (arith, whole, p)) }

pub for_other : (words : List ℕ) → before space words ≢ codes "for" → NoFor words
for_other words other = record { none = λ ms s. other s.kind.kind_is }

pub for_no_time : (words : List ℕ) → NoSome (behind space words) → NoFor words
for_no_time words none = record { none = λ ms s. none.none ms s.time_said }

pub ruleset for_laws = (for_whole, for_other, for_no_time)

pub no_station : (word : List ℕ) → (IsName word → ⊥) → NoStation word
no_station word none = record { none = λ name s. none s.formed }

pub ruleset station_laws = (no_station)

pub to_whole : (words : List ℕ) → HasNo space words → NoTo words
to_whole words whole = record { none = λ n ms s. absurd (let p = s.kind.parted in omega (arith, whole, p)) }

pub to_other : (words : List ℕ) → before space words ≢ codes "to" → NoTo words
to_other words other = record { none = λ n ms s. other s.kind.kind_is }

pub to_alone : (words : List ℕ) → HasNo space (behind space words) → NoTo words
to_alone words whole = record { none = λ n ms s. absurd (let p = s.parted in omega (arith, whole, p)) }

pub to_no_time : (words : List ℕ) → NoFor (behind space (behind space words)) → NoTo words
to_no_time words none = record { none = λ n ms s. none.none ms s.time_said }

pub to_no_station : (words : List ℕ) → NoStation (before space (behind space words)) → NoTo words
to_no_station words none = record { none = λ n ms s. none.none n s.station_said }

pub ruleset to_laws = (to_whole, to_other, to_alone, to_no_time, to_no_station)

pub on_whole : (words : List ℕ) → HasNo space words → NoOn words
on_whole words whole = record { none = λ n ms s. absurd (let p = s.kind.parted in omega (arith, whole, p)) }

pub on_other : (words : List ℕ) → before space words ≢ codes "on" → NoOn words
on_other words other = record { none = λ n ms s. other s.kind.kind_is }

pub on_alone : (words : List ℕ) → HasNo space (behind space words) → NoOn words
on_alone words whole = record { none = λ n ms s. absurd (let p = s.parted in omega (arith, whole, p)) }

pub on_no_time : (words : List ℕ) → NoFor (behind space (behind space words)) → NoOn words
on_no_time words none = record { none = λ n ms s. none.none ms s.time_said }

pub on_no_network : (words : List ℕ) → NoUnsigned 16 (before space (behind space words)) → NoOn words
on_no_network words none = record { none = λ n ms s. none.none n s.network_said }

pub ruleset on_laws = (on_whole, on_other, on_alone, on_no_time, on_no_network)

nothing_lost_in : {A : Type 0} (words : List ℕ) (f : NetworkFault A) → NoMessage words → NoSeveral words → NoOn words →
    NoTo words → SaysLose words f → ⊥
nothing_lost_in words (fault.Lose count m) no_message no_several no_on no_to (inl s) = no_message.none m s.1
nothing_lost_in words (fault.Lose count m) no_message no_several no_on no_to (inr s) = no_several.none count m s
nothing_lost_in words (fault.LoseTo station ms) no_message no_several no_on no_to s = no_to.none station ms s
nothing_lost_in words (fault.LoseOn network ms) no_message no_several no_on no_to s = no_on.none network ms s
nothing_lost_in words (fault.Repeat m) no_message no_several no_on no_to s = s
nothing_lost_in words (fault.Delay m ms) no_message no_several no_on no_to s = s
nothing_lost_in words (fault.Damage m) no_message no_several no_on no_to s = s

pub nothing_lost : (A : Type 0) (words : List ℕ) → NoMessage words → NoSeveral words → NoOn words → NoTo words → NoLose A words
nothing_lost A words no_message no_several no_on no_to = record {
  none = λ f s. nothing_lost_in words f no_message no_several no_on no_to s;
}

pub ruleset lose_laws = (nothing_lost)

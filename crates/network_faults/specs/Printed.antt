-- The words of a fault, as they are printed.
use Rattle.std.specs.Prelude.{ℕ, ◌==◌, if◌then◌else◌, List, [], ◌∷◌, codes}
use Rattle.std.specs.Fmt.{decimal}
use Rattle.std.specs.List.{join_with_byte}
use Rattle.network_faults.specs.declared.fault.FaultyMessage.{FaultyMessage}
use Rattle.network_faults.specs.declared.fault.IssueRef.{IssueRef}
use Rattle.network_faults.specs.declared.fault.IssueRef.TheVariants as issue
use Rattle.network_faults.specs.declared.fault.NetworkFault.{NetworkFault}
use Rattle.network_faults.specs.declared.fault.NetworkFault.TheVariants as fault
use Rattle.network_faults.specs.Says.{which_word}

-- words with a space between them
abbrev pub spaced : List (List ℕ) → List ℕ
spaced words = join_with_byte 32 words

-- a number in the history, or the latest one
abbrev pub issue_text : IssueRef → List ℕ
issue_text (issue.Number n) = decimal n
issue_text issue.Last = codes "last"

-- the message of a request: `answer 3`
abbrev pub message_text : FaultyMessage → List ℕ
message_text m = spaced (which_word m.which ∷ issue_text m.issue ∷ [])

-- a fault: `lose 3 answer 1`, `delay answer last 700`, `lose to ahu1 for 2000`
unfoldable pub fault_text : {A : Type 0} → NetworkFault A → List ℕ
fault_text (fault.Lose count m) =
    if count == 1 then spaced (codes "lose" ∷ message_text m ∷ [])
    else spaced (codes "lose" ∷ decimal count ∷ message_text m ∷ [])
fault_text (fault.Repeat m) = spaced (codes "repeat" ∷ message_text m ∷ [])
fault_text (fault.Delay m ms) = spaced (codes "delay" ∷ message_text m ∷ decimal ms ∷ [])
fault_text (fault.Damage m) = spaced (codes "damage" ∷ message_text m ∷ [])
fault_text (fault.LoseTo station ms) =
    spaced (codes "lose" ∷ codes "to" ∷ station ∷ codes "for" ∷ decimal ms ∷ [])
fault_text (fault.LoseOn network ms) =
    spaced (codes "lose" ∷ codes "on" ∷ decimal network ∷ codes "for" ∷ decimal ms ∷ [])

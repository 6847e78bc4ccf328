-- Findings whose packets were read, as more are read and found.
use Rattle.std.proofs.Common.{◌≤◌, ◌++◌, ◌∷◌, [], ℕ, List, le_trans}
use Rattle.findings.specs.Packets.{AreIn, AreWithin}
use Rattle.findings.specs.declared.finding.Finding.{Finding}

within_more : (r s : ℕ) (f : Finding) → r ≤ s → AreWithin r f.packets → AreWithin s f.packets
within_more r s f le w = record { first = le_trans w.first le; second = le_trans w.second le; third = le_trans w.third le; fourth = le_trans w.fourth le }

pub are_in_more : (r s : ℕ) (fs : List Finding) → r ≤ s → AreIn r fs → AreIn s fs
are_in_more r s [] le a = tt
are_in_more r s (f ∷ fs) le a = (within_more r s f le a.0, are_in_more r s fs le a.1)

pub are_in_push : (r : ℕ) (fs : List Finding) (f : Finding) → AreIn r fs → AreWithin r f.packets → AreIn r (fs ++ f ∷ [])
are_in_push r [] f a w = (w, tt)
are_in_push r (g ∷ fs) f a w = (a.0, are_in_push r fs f a.1 w)

pub ruleset are_in_rules = (are_in_push)

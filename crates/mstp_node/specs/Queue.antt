-- What waits in a node (9.5.2).
use Rattle.std.specs.Prelude.{◌≤◌, List, length}
use Rattle.std.specs.List.{AllByRecursion}
use Rattle.profile.specs.LinkKind.{max_npdu}
use Rattle.profile.specs.declared.link_kind.LinkKind.TheVariants.{MsTp}
use Rattle.mstp_table.specs.declared.waiting.Waiting.{Waiting}

-- it is no longer than a frame carries (9.1.1)
abbrev pub Fits : {A : Type 0} → Waiting A → Type 0
Fits w = length w.npdu ≤ max_npdu MsTp

-- .. so is each of these
abbrev pub AllFit : {A : Type 0} → List (Waiting A) → Type 0
AllFit ws = AllByRecursion (λ w. Fits w) ws

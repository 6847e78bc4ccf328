use Rattle.std.proofs.Common.{◌≡◌, length}
use Rattle.std.specs.List.{list_all}
use Rattle.bus_traffic.specs.Settling.{is_done_at}
use Rattle.bus_traffic.proofs.settling.is_done.Given as goal

-- what is done at the rest is done at all
abbrev pub invariant-loop-left : goal.invariant-loop-left
invariant-loop-left g l = list_all (λ e. is_done_at l.recent e) l.left ≡ list_all (λ e. is_done_at l.recent e) l.ears

abbrev pub decreases-loop-left : goal.decreases-loop-left
decreases-loop-left g l = length l.left

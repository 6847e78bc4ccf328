use Rattle.std.proofs.Common.{◌≡◌, ◌≤◌, None}
use Rattle.faulty_flow.proofs.flow.next_turn.Given as goal
use Rattle.simulator.specs.Flows.{left_of}

-- no milliseconds passed yet, and nothing comes once more
abbrev pub invariant-loop-event : goal.invariant-loop-event
invariant-loop-event g l =
    (l.again ≡ None) × (l.flow.left ≡ l.fn.flow.left) × (left_of l.flow ≤ left_of l.fn.flow)

abbrev pub decreases-loop-event : goal.decreases-loop-event
decreases-loop-event g l = left_of l.flow

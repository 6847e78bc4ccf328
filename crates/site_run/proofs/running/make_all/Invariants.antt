use Rattle.std.proofs.Common.{◌≡◌, IfOk, IfErr}
use Rattle.site_history.specs.simulator.world.Step.{IsSoundIfAny}
use Rattle.site_run.proofs.RunLaws.{IsNextOf, IsUnderWay, left_behind, to_go}
use Rattle.site_run.proofs.running.make_all.Given as goal
use Rattle.tags.specs.declared.fault.Fault.TheVariants.{Memory}

-- what further events lead to, all lead to
abbrev pub invariant-loop-next : goal.invariant-loop-next
invariant-loop-next g l =
    IfOk l.next IsSoundIfAny
    × IfOk l.next (IsNextOf l.flow)
    × IfErr l.next (λ fault. fault ≡ Memory)
    × IsUnderWay l.telling l.n (to_go l.next l.flow) l.fn.world l.world
    (g.W.Write.contents l.fn.out) (g.W.Write.contents l.out)

abbrev pub decreases-loop-next : goal.decreases-loop-next
decreases-loop-next g l = left_behind l.next l.flow

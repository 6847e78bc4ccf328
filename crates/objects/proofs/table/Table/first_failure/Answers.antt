use Rattle.std.proofs.Common.{◌∙◌, sym, rules}
use Rattle.objects.proofs.FailureLaws.{group_fails, group_passes, not_done}
use Rattle.objects.proofs.table.Table.first_failure.Goals as goal

pub returns-then-not-is_done : goal.returns-then-not-is_done
returns-then-not-is_done g c =
    rw (c.first_failure_of-reply.ensures, c.as_slice.ensures)
    (sym (group_fails c.args.self.now c.args.asked.now c.loop-group.group-index c.group-item.result c.loop-group-test.true c.group-item.is
    (not_done c.first_failure_of-reply.result _ c.is_done.result (rw (← c.as_slice.ensures) c.first_failure_of-reply.ensures) c.is_done.ensures.1
    (search rules)))
    ∙ c.loop-group.invariant)

pub loop-group-preserved : goal.loop-group-preserved
loop-group-preserved g c =
    sym (group_passes c.args.self.now c.args.asked.now c.loop-group.group-index c.group-item.result c.loop-group-test.true c.group-item.is
    (rw (← c.as_slice.ensures) (sym c.first_failure_of-reply.ensures ∙ c.is_done.ensures.0 (search rules))))
    ∙ c.loop-group.invariant

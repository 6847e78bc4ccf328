use Rattle.std.proofs.Common.{◌∙◌, sym}
use Rattle.objects.proofs.FailureLaws.{fails_at, passes_at}
use Rattle.objects.proofs.table.Table.first_failure_of.Goals as goal

pub returns-in-Some : goal.returns-in-Some
returns-in-Some g c =
    sym (fails_at c.args.self.now c.args.object c.args.writes.now c.loop-write.write-index c.write-item.result (c.in-Some.class, c.in-Some.code)
    c.loop-write-test.true c.write-item.is
    (rw (← c.as_slice.ensures) (sym c.refusal.ensures.refused ∙ c.in-Some.is)))
    ∙ c.loop-write.invariant

pub loop-write-preserved : goal.loop-write-preserved
loop-write-preserved g c =
    sym (passes_at c.args.self.now c.args.object c.args.writes.now c.loop-write.write-index c.write-item.result c.loop-write-test.true c.write-item.is
    (rw (← c.as_slice.ensures) (sym c.refusal.ensures.refused ∙ c.in_default.is)))
    ∙ c.loop-write.invariant

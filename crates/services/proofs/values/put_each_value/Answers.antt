use Rattle.services.proofs.RequestOctets.{on_err, extends_by, extends_same, put_value_step}
use Rattle.services.proofs.values.put_each_value.Goals as goal

pub returns-in_err-write_value-clause-err : goal.returns-in_err-write_value-clause-err
returns-in_err-write_value-clause-err g c = on_err c.from_residual.result _ (extends_same _ _ _ c.loop-value.invariant.1 c.in_err-write_value.ensures.unchanged)

pub loop-value-preserved : goal.loop-value-preserved
loop-value-preserved g c = (
  put_value_step c.args.values.now c.loop-value.value-index c.value-item.result c.args.out.now.items c.loop-value.out.items
      c.write_value.new.out.items c.loop-value-test.true c.value-item.is c.loop-value.invariant.0 c.in_ok-write_value.ensures.written,
  extends_by _ _ _ _ c.loop-value.invariant.1 c.in_ok-write_value.ensures.written,
)

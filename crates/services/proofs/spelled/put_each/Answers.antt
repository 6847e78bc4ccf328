use Rattle.services.proofs.RequestOctets.{on_err, extends_more, extends_by, put_step}
use Rattle.services.proofs.spelled.put_each.Goals as goal

pub returns-in_err-put-clause-err : goal.returns-in_err-put-clause-err
returns-in_err-put-clause-err g c = on_err c.from_residual.result _ (extends_more _ _ _ c.loop-part.invariant.1 c.in_err-put.ensures.err)

pub loop-part-preserved : goal.loop-part-preserved
loop-part-preserved g c = (
  put_step g.P.Spelled.octets c.args.parts.now c.loop-part.part-index c.part-item.result c.args.out.now.items c.loop-part.out.items
      c.put.new.out.items c.loop-part-test.true c.part-item.is c.loop-part.invariant.0 c.in_ok-put.ensures.put,
  extends_by _ _ _ _ c.loop-part.invariant.1 c.in_ok-put.ensures.put,
)

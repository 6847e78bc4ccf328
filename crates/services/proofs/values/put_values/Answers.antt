use Rattle.services.proofs.RequestOctets.{on_err, extends_none, extends_more}
use Rattle.services.proofs.values.put_values.Goals as goal

pub returns-in_err-write_tag-clause-err : goal.returns-in_err-write_tag-clause-err
returns-in_err-write_tag-clause-err g c = on_err c.from_residual.result _ (extends_none _ _ c.in_err-write_tag.ensures.unchanged)

pub returns-in_err-put_each_value-clause-err : goal.returns-in_err-put_each_value-clause-err
returns-in_err-put_each_value-clause-err g c =
    on_err c.from_residual-in_err-put_each_value.result _
    (extends_more _ _ _ record { more = _; parts = c.in_ok-write_tag.ensures.written } c.in_err-put_each_value.ensures.err)

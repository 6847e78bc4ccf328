use Rattle.site_live.proofs.ExpectLaws.{marked}
use Rattle.site_live.proofs.running.expect_something.Goals as goal

pub returns-in-Some : goal.returns-in-Some
returns-in-Some g c = marked c.mark_in.result c.as_slice.result.now c.args.steps.now c.in-Some.field-0 c.in-Some.is
    c.mark_in.ensures c.as_slice.ensures

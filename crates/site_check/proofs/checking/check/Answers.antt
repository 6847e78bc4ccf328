use Rattle.site_check.proofs.JudgedLaws.{judged_of}
use Rattle.site_check.proofs.checking.check.Goals as goal

pub returns-in-Ok : goal.returns-in-Ok
returns-in-Ok g c = judged_of c.args.site.now c.in-Ok.parts _ c.check_parts.result c.in-Ok.ensures.document c.check_parts.ensures

use Rattle.std.proofs.Common.{ap, rules, subst, sym}
use Rattle.client.proofs.HearLaws.{marked_by}
use Rattle.client.specs.Hearing.{ClientHears}
use Rattle.client.specs.Plan.{left_by, told_by}
use Rattle.client.specs.declared.plan.ClientPlan.{ClientPlan}
use Rattle.unitdata.specs.Heard.{content_of, heard_of}
use Rattle.client.proofs.client.Client.plan_npdu.Goals as goal

pub returns-in-Rejected-clause-step : goal.returns-in-Rejected-clause-step
returns-in-Rejected-clause-step g c =
    subst (λ (p : ClientPlan _). ClientHears c.args.now c.args.from c.args.to c.args.npdu.now c.args.self.now (told_by p)
    (left_by c.args.now p c.args.self.now))
    (sym c.quiet-in-Rejected.ensures)
    (marked_by c.args.now c.args.from c.args.to c.args.npdu.now (heard_of c.in-Some.heard) c.in-Rejected.rejected c.args.self.now
    (search rules) (ap content_of c.in-Rejected.is))

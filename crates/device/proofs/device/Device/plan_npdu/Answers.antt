use Rattle.std.proofs.Common.{ap, refl, rules, subst, sym}
use Rattle.device.proofs.ServeLaws.{ignored}
use Rattle.device.specs.Hearing.{DeviceHears, silence}
use Rattle.device.specs.Plan.{left_by, told_by}
use Rattle.device.specs.declared.plan.DevicePlan.{DevicePlan}
use Rattle.unitdata.specs.Heard.{content_of, heard_of}
use Rattle.device.proofs.device.Device.plan_npdu.Goals as goal

pub returns-in-Rejected-clause-step : goal.returns-in-Rejected-clause-step
returns-in-Rejected-clause-step g c =
    subst (λ (p : DevicePlan _). DeviceHears c.args.now c.args.from c.args.to c.args.npdu.now c.args.self.now (told_by p)
    (left_by c.args.now p c.args.self.now))
    (sym c.silence-in-Rejected.ensures)
    (ignored c.args.now c.args.from c.args.to c.args.npdu.now (heard_of c.in-Some.heard) c.in-Rejected.field-0 c.args.self.now
    silence (search rules) (ap content_of c.in-Rejected.is) refl)

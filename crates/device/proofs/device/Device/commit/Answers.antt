use Rattle.std.proofs.Common.{subst, sym}
use Rattle.std.specs.Prelude.{IfSome, Option}
use Rattle.device.specs.Device.{DeviceState}
use Rattle.server_tsm.specs.server_answers.Plan.{ServerPlan}
use Rattle.server_tsm.specs.Steps as server
use Rattle.device.proofs.device.Device.commit.Goals as goal

pub commit-requires-clause-planned : goal.commit-requires-clause-planned
commit-requires-clause-planned g c =
    let own = subst (λ (d : DeviceState _). IfSome c.args.plan.server (server.IsPlanned c.args.now d.server)) (sym c.self.view_is) c.requires.planned in
    subst (λ (o : Option (ServerPlan _)). IfSome o (server.IsPlanned c.args.now c.self.inside.server)) c.in-Some.is own

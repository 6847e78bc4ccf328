use Rattle.std.proofs.Common.{subst, sym}
use Rattle.client.specs.Client.{ClientState}
use Rattle.client.specs.Plan.{IsPlannedChange}
use Rattle.client.specs.declared.plan.ClientChange.{ClientChange}
use Rattle.client_tsm.specs.Planned as tsm
use Rattle.client.proofs.client.Client.change.Goals as goal

pub commit-requires-clause-planned : goal.commit-requires-clause-planned
commit-requires-clause-planned g c =
    let planned = subst (λ (x : ClientChange _). IsPlannedChange c.args.now c.args.self.now x) c.in-Transacts.is c.requires.planned in
    subst (λ (d : ClientState _). tsm.IsPlanned c.args.now d.machine c.in-Transacts.change) (sym c.self.view_is) planned

use Rattle.std.proofs.Common.{rules, ◌≡◌}
use Rattle.std.specs.Prelude.{None}
use Rattle.client_tsm.proofs.Apart.{issue_is_planned}
use Rattle.client_tsm.specs.Issuing.{issued, refusal}
use Rattle.client_tsm.proofs.client.ClientTsm.plan_issue.Goals as goal

pub returns-clause-planned : goal.returns-clause-planned
returns-clause-planned g c =
    let free : refusal c.args.now c.args.request.now c.args.to.now c.args.self.now ≡ None = search rules in
    let is : c.in_ok-opening.field-0 ≡ issued c.args.now c.args.request.now c.args.to.now c.args.self.now = search rules in
    issue_is_planned c.args.now c.args.request.now c.args.to.now c.args.self.now c.in_ok-opening.field-0 free is

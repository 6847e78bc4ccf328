use Rattle.std.proofs.Common.{rules, ◌≤◌, sym, subst}
use Rattle.server_tsm.proofs.Kept.{kept_executed}
use Rattle.server_tsm.specs.Server.{HasPlace, ServerTsmState}
use Rattle.server_tsm.proofs.server.ServerTsm.execute.Goals as goal

pub invariant_of-self-2 : goal.invariant_of-self-2
invariant_of-self-2 g c =
    let order : c.self.inside.moment ≤ c.args.now = search rules in
    let place : HasPlace c.args.now c.args.kept.asker c.self.inside.records =
    subst (λ (s : ServerTsmState g.row.A.Denot). HasPlace c.args.now c.args.kept.asker s.records) (sym c.self.view_is) c.requires.place in
    rw (c.forget_dead.ensures.forgotten, c.in_ok-execute.ensures.added)
    (kept_executed c.self.inside.moment c.args.now c.self.inside.records c.args.kept order c.self.invariant place)

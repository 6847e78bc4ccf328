use Rattle.std.proofs.Common.{arith, List, [], subst, sym}
use Rattle.bvll.specs.declared.address.Address.{Address}
use Rattle.bbmd.specs.Reach.{IsReached}
use Rattle.bbmd.proofs.Reached.{reaches}
use Rattle.bbmd.proofs.spreading.spread.Goals as goal

pub returns-clause-reached : goal.returns-clause-reached
returns-clause-reached g c full station =
    subst (λ (xs : List Address). IsReached c.args.tables.now.moment c.args.origin c.args.tables.now.subnets xs)
    (sym c.in_ok-all.ensures)
    (reaches c.args.tables.now.moment c.args.origin [] c.args.tables.now.subnets (omega arith) full station)

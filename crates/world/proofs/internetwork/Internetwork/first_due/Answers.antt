use Rattle.std.proofs.Common.{subst, length}
use Rattle.std.specs.Prelude.{IfNone, IfSome}
use Rattle.due_times.specs.Times.{IsFirstDue, NoneIsDue}
use Rattle.world.proofs.Dues.{found_none, found_rest, found_there}
use Rattle.world.proofs.internetwork.Internetwork.first_due.Goals as goal
use Rattle.world.specs.Dues.{AreDues}
use Rattle.world.specs.World.{WorldState}

pub returns-clause-there : goal.returns-clause-there
returns-clause-there g c = found_there c.first_due.result c.self.inside.dues c.args.from c.args.self.now
    (subst (λ (w : WorldState _). AreDues c.self.inside.dues w.nodes) c.self.view_is c.self.invariant.2)
    (subst (λ (w : WorldState _). IfSome c.first_due.result
    (λ place. IsFirstDue c.args.from w.moment c.self.inside.dues place)) c.self.view_is c.first_due.ensures.first)

pub returns-clause-rest : goal.returns-clause-rest
returns-clause-rest g c = found_rest c.first_due.result c.self.inside.dues c.args.from c.args.self.now
    (subst (λ (w : WorldState _). AreDues c.self.inside.dues w.nodes) c.self.view_is c.self.invariant.2)
    (subst (λ (w : WorldState _). IfSome c.first_due.result
    (λ place. IsFirstDue c.args.from w.moment c.self.inside.dues place)) c.self.view_is c.first_due.ensures.first)

pub returns-clause-none : goal.returns-clause-none
returns-clause-none g c = found_none c.first_due.result c.self.inside.dues c.args.from c.args.self.now
    (subst (λ (w : WorldState _). AreDues c.self.inside.dues w.nodes) c.self.view_is c.self.invariant.2)
    (subst (λ (w : WorldState _). IfNone c.first_due.result
    (NoneIsDue c.args.from (length c.self.inside.dues) w.moment c.self.inside.dues)) c.self.view_is
    c.first_due.ensures.none)

use Rattle.std.proofs.Common.{subst, []}
use Rattle.site_live.proofs.live.Live.pass_until.Goals as goal
use Rattle.site_live.specs.Running.{LiveState, Lives}

-- the clock is no part of what is seen
pub returns : goal.returns
returns g c = subst (λ (l : LiveState _). Lives c.args.spelling [] l c.pass.new.self (g.O.Write.contents c.args.out.now)
    (g.O.Write.contents c.pass.new.out)) c.self.view_is c.in_ok-pass.ensures

use Rattle.std.proofs.Common.{◌≡◌, length}
use Rattle.router.specs.Routes.{learned}
use Rattle.router.proofs.routes.keeps.Given as goal

-- the rest leads where all lead
abbrev pub invariant-loop-net : goal.invariant-loop-net
invariant-loop-net g l = learned l.ports l.route l.rest l.routes ≡ learned l.ports l.route l.contents l.routes

abbrev pub decreases-loop-net : goal.decreases-loop-net
decreases-loop-net g l = length l.rest

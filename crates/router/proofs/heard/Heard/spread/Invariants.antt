use Rattle.std.proofs.Common.{◌≡◌, ◌++◌, drop}
use Rattle.router.specs.Passing.{spread_there}
use Rattle.router.specs.Plan.{heard_of}
use Rattle.router.specs.Sending.{of_others, of_others_from}
use Rattle.router.proofs.heard.Heard.spread.Given as goal

abbrev pub invariant-loop-number : goal.invariant-loop-number
invariant-loop-number g l =
    l.out ++ of_others_from (spread_there (heard_of l.self)) l.number l.self.port (drop l.number l.ports)
    ≡ of_others (spread_there (heard_of l.self)) l.self.port l.ports

use Rattle.std.proofs.Common.{◌≡◌, ◌++◌, drop}
use Rattle.router.specs.Messages.{named_on_each}
use Rattle.router.proofs.router.Router.named_on_each.Given as goal

abbrev pub invariant-loop-number : goal.invariant-loop-number
invariant-loop-number g l =
    l.out ++ named_on_each l.now l.number (drop l.number l.ports) l.self ≡ named_on_each l.now 0 l.ports l.self

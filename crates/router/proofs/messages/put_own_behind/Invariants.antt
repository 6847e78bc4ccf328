use Rattle.std.proofs.Common.{◌≡◌, ◌++◌, drop}
use Rattle.router.specs.Messages.{net_there}
use Rattle.router.specs.Sending.{of_others, of_others_from}
use Rattle.router.proofs.messages.put_own_behind.Given as goal

abbrev pub invariant-loop-number : goal.invariant-loop-number
invariant-loop-number g l =
    l.out.items ++ of_others_from net_there l.number l.port (drop l.number l.ports)
    ≡ l.fn.out.items ++ of_others net_there l.port l.ports

use Rattle.std.proofs.Common.{◌≡◌, ◌++◌, drop}
use Rattle.router.specs.Messages.{learned_behind}
use Rattle.router.proofs.messages.put_learned_behind.Given as goal

abbrev pub invariant-loop-net : goal.invariant-loop-net
invariant-loop-net g l =
    l.out.items ++ learned_behind l.port (drop l.net-index l.routes) ≡ l.fn.out.items ++ learned_behind l.port l.routes

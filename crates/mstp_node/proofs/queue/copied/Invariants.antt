use Rattle.std.proofs.Common.{◌≡◌, take}
use Rattle.mstp_node.proofs.queue.copied.Given as goal

abbrev pub invariant-loop-waiting : goal.invariant-loop-waiting
invariant-loop-waiting g l = l.all.items ≡ take l.waiting-index l.queue

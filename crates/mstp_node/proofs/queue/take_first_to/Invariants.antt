use Rattle.std.proofs.Common.{◌≡◌, take, drop}
use Rattle.mstp_table.specs.Node.{first_to}
use Rattle.mstp_node.proofs.Queues.{with_all}
use Rattle.mstp_node.proofs.queue.take_first_to.Given as goal

-- what is picked of the rest is what is picked of all
abbrev pub invariant-loop-place : goal.invariant-loop-place
invariant-loop-place g l = (l.queue ≡ l.fn.queue)
    × (first_to l.fn.address l.fn.queue.items
    ≡ with_all (take l.place l.fn.queue.items) (first_to l.fn.address (drop l.place l.fn.queue.items)))

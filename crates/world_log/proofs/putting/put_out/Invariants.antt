use Rattle.std.proofs.Common.{◌≡◌, ◌≤◌, ◌-◌, ◌++◌, length, take}
use Rattle.node_laws.specs.site_node.Node.{node_places}
use Rattle.world_log.specs.Growing.{frames_at, frames_behind, items_at}
use Rattle.world_log.proofs.putting.put_out.Given as goal

-- what is left stands behind
abbrev pub invariant-loop-sent : goal.invariant-loop-sent
invariant-loop-sent g l =
    let places = node_places l.node in
    (l.items.items ++ items_at l.now places l.sent-iterator.rest.items ≡ l.fn.items.items ++ items_at l.now places l.fn.all)
    × (l.frames.items ++ frames_behind (length l.items.items - l.first) places l.sent-iterator.rest.items
    ≡ frames_at places l.fn.all)
    × (take (length l.fn.items.items) l.items.items ≡ l.fn.items.items)
    × (l.first ≤ length l.items.items)
    × (l.items.first ≡ l.fn.items.first)

use Rattle.std.proofs.Common.{◌≤◌, ◌-◌, vec_len}
use Rattle.captures.proofs.chunks.ChunkReader.next_item.Given as goal

abbrev pub invariant-loop-item : goal.invariant-loop-item
invariant-loop-item g l = vec_len l.self-inside.kept - l.self-inside.read ≤ l.fn.self

abbrev pub decreases-loop-item : goal.decreases-loop-item
decreases-loop-item g l = vec_len l.self-inside.kept - l.self-inside.read

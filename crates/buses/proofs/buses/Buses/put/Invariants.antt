use Rattle.std.proofs.Common.{◌≡◌, length}
use Rattle.buses.specs.Buses.{HaveRoom, buses_of}
use Rattle.buses.specs.Puts.{put_on}
use Rattle.buses.proofs.buses.Buses.put.Given as goal

-- the rest leads where all lead, and there is room for it
abbrev pub invariant-loop-put : goal.invariant-loop-put
invariant-loop-put g l =
    (put_on l.now l.items l.put-iterator.rest.items (buses_of l.self)
    ≡ put_on l.now l.fn.puts.items l.fn.puts.frames (buses_of l.fn.self))
    × HaveRoom (length l.put-iterator.rest.items) l.self

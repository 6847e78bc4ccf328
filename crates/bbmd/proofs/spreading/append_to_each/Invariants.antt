use Rattle.std.proofs.Common.{◌≡◌, ◌++◌}
use Rattle.std.specs.Prelude.{drop, map}
use Rattle.bvll.specs.Datagram.{datagram_of}
use Rattle.bbmd.specs.Passing.{going_of}
use Rattle.bbmd.specs.Reach.{going_to}
use Rattle.bbmd.proofs.spreading.append_to_each.Given as goal

abbrev pub invariant-loop-address : goal.invariant-loop-address
invariant-loop-address g l =
    map going_of l.out.items ++ going_to l.from (datagram_of l.what) (drop l.address-index l.to)
    ≡ map going_of l.fn.out.items ++ going_to l.from (datagram_of l.what) l.to

use Rattle.std.proofs.Common.{◌≡◌, ◌++◌}
use Rattle.std.specs.Prelude.{drop}
use Rattle.bvll.specs.Datagram.{datagram_of}
use Rattle.bbmd_manager.specs.Manager.{sent_to}
use Rattle.bbmd_manager.proofs.saying.say_to.Given as goal

-- the octets, what is said so far, and what is left
abbrev pub invariant-loop-address : goal.invariant-loop-address
invariant-loop-address g l =
    l.all ++ sent_to (drop l.address-index l.to) (datagram_of l.what) ≡ sent_to l.to (datagram_of l.what)

use Rattle.std.proofs.Common.{◌≡◌, length}
use Rattle.runner.proofs.StrayLaws.{AreNone}
use Rattle.wire.specs.Datagrams.{datagram_of}
use Rattle.runner.proofs.straying.take_stray.Given as goal

-- no network so far
abbrev pub invariant-loop-place : goal.invariant-loop-place
invariant-loop-place g l = (l.world ≡ l.fn.world) × (l.count ≡ length l.fn.world.site.networks)
    × AreNone (datagram_of l.got) l.fn.world l.place

-- Datagrams on their way, as the code keeps them: for its private functions alone.
use Rattle.bvll.specs.declared.address.Address.{Address}
use Rattle.bvll.specs.Datagram.{Datagram, datagram_of}
use Rattle.bvll.specs.Datagram as bvll
use Rattle.bbmd.specs.declared.spreading.Passing.{Passing}
use Rattle.bbmd.specs.Reach.{Going}

-- a datagram on its way, without where its octets lie
abbrev pub going_of : Passing → Going
going_of p = record { from = p.from; to = p.to; what = datagram_of p.what }

-- as what a manager forwards a datagram: with who sent it as the origin, where it names none (J.2.5)
abbrev pub onward : Address → Datagram → Datagram
onward from (bvll.broadcast npdu) = bvll.forwarded from npdu
onward from (bvll.distribute npdu) = bvll.forwarded from npdu
onward from d = d

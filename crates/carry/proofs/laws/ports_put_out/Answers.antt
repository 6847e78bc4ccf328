use Rattle.carry.proofs.Datagrams.{datagram_reaches, other_datagram_passes_on}
use Rattle.carry.proofs.Passed.{waiting_puts_out}
use Rattle.carry.proofs.Ports.{port_puts_out}
use Rattle.carry.proofs.laws.ports_put_out.Goals as goal

pub returns : goal.returns
returns g c = record { puts = port_puts_out; waits = waiting_puts_out; reaches = datagram_reaches; other = other_datagram_passes_on }

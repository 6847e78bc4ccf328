-- Six octets are an address.
use Rattle.npdu.proofs.Stations.{six_at, six_octets}
use Rattle.npdu.proofs.mac.Mac.from_octets.Goals as goal

pub returns-in-len6-clause-octets : goal.returns-in-len6-clause-octets
returns-in-len6-clause-octets c = six_at c.args.octets.now c.in-len6.len_at_least c.in-len6.len_below

pub returns-in-len6-clause-is : goal.returns-in-len6-clause-is
returns-in-len6-clause-is c =
    six_octets c.args.octets.now _ c.in-len6.len_at_least c.in-len6.len_below (six_at c.args.octets.now c.in-len6.len_at_least c.in-len6.len_below)

use Rattle.node_laws.proofs.Staying.{stands_later, stays_at_asking, stays_at_counting, stays_at_frame, stays_at_hearing}
use Rattle.node_laws.proofs.Staying.{stays_at_issue, stays_at_registering, stays_at_restart, stays_at_wake}
use Rattle.node_laws.proofs.nodes_stay.Goals as goal

pub returns : goal.returns
returns g c = record {
  heard = stays_at_hearing _;
  framed = stays_at_frame _;
  told = stays_at_counting _;
  woken = stays_at_wake _;
  issued = stays_at_issue _;
  asked = stays_at_asking _;
  registered = stays_at_registering _;
  restarted = stays_at_restart _;
  later = stands_later _;
}

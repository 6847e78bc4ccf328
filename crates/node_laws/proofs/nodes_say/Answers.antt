use Rattle.node_laws.proofs.Saying.{says_at_asking, says_at_counting, says_at_frame, says_at_hearing, says_at_issue}
use Rattle.node_laws.proofs.Saying.{says_at_registering, says_at_restart, says_at_wake}
use Rattle.node_laws.proofs.nodes_say.Goals as goal

pub returns : goal.returns
returns g c = record {
  heard = says_at_hearing _;
  framed = says_at_frame _;
  told = says_at_counting _;
  woken = says_at_wake _;
  issued = says_at_issue _;
  asked = says_at_asking _;
  registered = says_at_registering _;
  restarted = says_at_restart _;
}

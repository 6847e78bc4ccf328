use Rattle.node_laws.proofs.Passing.{asking_passes_on, counting_passes_on, frame_passes_on, hearing_passes_on}
use Rattle.node_laws.proofs.Passing.{issue_passes_on, registering_passes_on, restart_passes_on, wake_passes_on}
use Rattle.node_laws.proofs.nodes_pass_on.Goals as goal

pub returns : goal.returns
returns g c = record {
  heard = hearing_passes_on _;
  framed = frame_passes_on _;
  told = counting_passes_on _;
  woken = wake_passes_on _;
  issued = issue_passes_on _;
  asked = asking_passes_on _;
  registered = registering_passes_on _;
  restarted = restart_passes_on _;
}

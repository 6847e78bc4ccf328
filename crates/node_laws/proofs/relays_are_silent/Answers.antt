use Rattle.node_laws.proofs.Saying.{relay_is_silent_at_frame, relay_is_silent_at_hearing, relay_is_silent_at_wake}
use Rattle.node_laws.proofs.relays_are_silent.Goals as goal

pub returns : goal.returns
returns g c = record {
  heard = relay_is_silent_at_hearing _;
  framed = relay_is_silent_at_frame _;
  woken = relay_is_silent_at_wake _;
}

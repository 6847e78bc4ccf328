-- What a wire of UDP keeps where it does nothing that is counted.
use Rattle.std.specs.Prelude.{◌≡◌}
use Rattle.wire.specs.declared.udp.UdpWire.{UdpWire}

-- nothing was counted, nor noted as what came last
pub record KeepsCounts {A : Type 0} (old new : UdpWire A) : Type 0 where
  pub faults : new.faults ≡ old.faults
  pub sends : new.sends ≡ old.sends
  pub recvs : new.recvs ≡ old.recvs
  pub arrival : new.arrival ≡ old.arrival

-- .. and the octets of what came last stay
pub record KeepsLatest {A : Type 0} (old new : UdpWire A) : Type 0 where
  pub counts : KeepsCounts old new
  pub buffer : new.buffer ≡ old.buffer

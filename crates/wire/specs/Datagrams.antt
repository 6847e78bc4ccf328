-- Datagrams as a wire brings them (J.1.2).
use Rattle.std.specs.Prelude.{ℕ, ◌<◌, List, length}
use Rattle.npdu.specs.declared.mac.Mac.{Mac}
use Rattle.profile.specs.Limits.{MAX_DATAGRAM_OCTETS}
use Rattle.wire.specs.declared.wire.Got.{Got}

-- a datagram and its ends
pub record Datagram : Type 0 where
  pub from : Mac
  pub to : Mac
  pub octets : List ℕ

abbrev pub datagram_of : Got → Datagram
datagram_of g = record { from = g.from; to = g.to; octets = g.octets.now }

-- a datagram that fills the buffer may have been cut
abbrev pub IsWhole : Datagram → Type 0
IsWhole d = length d.octets < MAX_DATAGRAM_OCTETS

-- The numbers of destination networks.
use Rattle.std.specs.Prelude.{ℕ, ◌<◌}
use Rattle.npdu.specs.declared.view.Dnet.{Dnet}
use Rattle.npdu.specs.declared.view.Dnet.TheVariants.{Network, Global}

-- DNET as it stands in the header; FFFF is the global broadcast (6.2.2)
abbrev pub dnet_number : Dnet → ℕ
dnet_number (Network number) = number
dnet_number Global = 65535

-- networks are numbered from 1 to 65534 (6.2.2)
abbrev pub IsDnet : Dnet → Type 0
IsDnet (Network number) = (0 < number) × (number < 65535)
IsDnet Global = Unit {0}

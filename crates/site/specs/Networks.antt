-- The networks of a site.
use Rattle.std.specs.Prelude.{◌≤◌, ◌<◌, List, length}
use Rattle.std.specs.List.{AllByRecursion}
use Rattle.profile.specs.Limits.{MAX_NETWORKS}
use Rattle.site_parts.specs.declared.parts.Network.{Network}

-- a network's number is 1 to 65534 (6.2.2)
abbrev pub IsNetwork : Network → Type 0
IsNetwork n = (0 < n.number) × (n.number < 65535)

-- there is a network, and there are at most MAX_NETWORKS
abbrev pub AreFewNetworks : List Network → Type 0
AreFewNetworks ns = (0 < length ns) × (length ns ≤ MAX_NETWORKS)

-- a few networks, their numbers in range
pub record AreNetworks (ns : List Network) : Type 0 where
  pub few : AreFewNetworks ns
  pub range : AllByRecursion IsNetwork ns

-- What octets on a bus change that end no frame which may be heard.
use Rattle.std.specs.Prelude.{◌≡◌, ◌⊎◌, ℕ, List, [], Some, slice_get, slice_set}
use Rattle.world.specs.link_site.declared.port.SitePort.{SitePort}
use Rattle.world.specs.site_node.Node.{NodeState}
use Rattle.world.specs.Hearing.{Hears, Keeps}
use Rattle.world.specs.World.{WorldState}
use Rattle.world.specs.declared.listener.Listener.{Listener}

-- nothing of a world has changed but one port of a node
pub record OnePortIsOther {A : Type 0} (l : Listener) (w v : WorldState A) : Type 0 where
  pub n : NodeState A
  pub port : SitePort A
  pub there : slice_get w.nodes l.place ≡ Some n
  pub is : v ≡ record w {
    nodes = slice_set w.nodes l.place (record n { ports = slice_set n.ports l.port port });
  }

-- .. if anything has
abbrev pub PortAlone : {A : Type 0} → Listener → (w v : WorldState A) → Type 0
PortAlone l w v = (v ≡ w) ⊎ OnePortIsOther l w v

-- nothing of a world has changed but what a port was told of, and what the ear at these places keeps
pub record PortAndEarAlone {A : Type 0} (l : Listener) (bus_place ear_place : ℕ) (octets : List ℕ)
    (w v : WorldState A) : Type 0 where
  pub told : WorldState A
  pub port : PortAlone l w told
  pub kept : List ℕ
  pub ear : Keeps bus_place ear_place octets kept told v

-- octets that end no frame which may be heard change a port and the ear at which they are heard, and nothing else:
-- nothing is put out, said, executed or told (9.5.2, 9.5.4)
abbrev pub QuietHears : Type 0 → Type 0
QuietHears A = (network place : ℕ) (octets : List ℕ) (w v : WorldState A) (h : Hears network place octets w v) →
    h.at.hearing.frames ≡ [] → PortAndEarAlone h.listener h.at.bus h.at.ear octets w v

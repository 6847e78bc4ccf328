use Rattle.std.proofs.Common.{◌≡◌, ◌++◌, drop}
use Rattle.world_sites.specs.Opening as spec
use Rattle.world_sites.proofs.ports.ports_at.Given as goal

abbrev pub invariant-loop-link : goal.invariant-loop-link
invariant-loop-link g l =
    l.ports.items ++ spec.ports_at l.all (drop l.link-index l.links) ≡ spec.ports_at l.all l.links

use Rattle.std.proofs.Common.{rules}
use Rattle.std.specs.Prelude.{map}
use Rattle.site_parts.specs.Places.{network_of}
use Rattle.site_parts.specs.Roles.{ports_in}
use Rattle.site.specs.Apart.{AreApart}
use Rattle.site.specs.Roles.{ArePortsApart}
use Rattle.site.proofs.RestLaws.{rest_told}
use Rattle.site.proofs.roles.have_ports_apart.Goals as goal

pub loop-left-preserved : goal.loop-left-preserved
loop-left-preserved g c = rest_told (λ s. AreApart (map network_of (ports_in s.role))) (ArePortsApart c.args.stations.now) _ c.loop-left.left.now c.first-item.result c.first-item.is c.in-len1-up.len_at_least (c.has_ports_apart.ensures.0 (search rules)) c.loop-left.invariant

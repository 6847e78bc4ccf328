use Rattle.std.proofs.Common.{rules}
use Rattle.site.specs.Roles.{AreRoles, IsRole}
use Rattle.site.proofs.RestLaws.{rest_told}
use Rattle.site.proofs.roles.are_roles.Goals as goal

pub loop-left-preserved : goal.loop-left-preserved
loop-left-preserved g c = rest_told (λ s. IsRole s.role) (AreRoles c.args.stations.now) _ c.loop-left.left.now c.first-item.result c.first-item.is c.in-len1-up.len_at_least (c.is_role.ensures.0 (search rules)) c.loop-left.invariant

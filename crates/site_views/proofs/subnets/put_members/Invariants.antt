use Rattle.std.proofs.Common.{◌≡◌, ◌++◌, drop, length}
use Rattle.std.specs.List.{flat_map}
use Rattle.site_views.specs.Views as spec
use Rattle.site_views.proofs.subnets.put_members.Given as goal

abbrev pub invariant-loop-link : goal.invariant-loop-link
invariant-loop-link g l = l.out ++ flat_map (spec.member_at l.subnet) (drop l.link-index l.links) ≡ l.fn.out ++ flat_map (spec.member_at l.subnet) l.links

use Rattle.std.proofs.Common.{rules}
use Rattle.site.specs.Apart.{AreApart}
use Rattle.site.specs.Named.{names}
use Rattle.site.proofs.RestLaws.{apart_told_map}
use Rattle.site.proofs.named.have_names_apart.Goals as goal

pub loop-left-preserved : goal.loop-left-preserved
loop-left-preserved g c = apart_told_map (λ s. s.name) (AreApart (names c.args.stations.now)) _ c.loop-left.left.now c.first-item.result c.first-item.is c.in-len1-up.len_at_least (c.is_new_name.ensures.0 (search rules)) c.loop-left.invariant

use Rattle.std.proofs.Common.{rules}
use Rattle.std.specs.List.{AllByRecursion}
use Rattle.site_parts.specs.Names.{IsName}
use Rattle.site.specs.Named.{names}
use Rattle.site.proofs.RestLaws.{none_told_map, rest_told_map}
use Rattle.site.proofs.named.have_names.Goals as goal

pub loop-left-preserved : goal.loop-left-preserved
loop-left-preserved g c = rest_told_map IsName (λ s. s.name) (AllByRecursion IsName (names c.args.stations.now)) _ c.loop-left.left.now c.first-item.result c.first-item.is c.in-len1-up.len_at_least (c.has_name.ensures.0 (search rules)) c.loop-left.invariant

pub returns-then-not-has_name : goal.returns-then-not-has_name
returns-then-not-has_name g c = (
  λ t. absurd (cc t),
  λ each. absurd (none_told_map IsName (λ s. s.name) (AllByRecursion IsName (names c.args.stations.now)) _ c.loop-left.left.now c.first-item.result c.first-item.is c.in-len1-up.len_at_least (λ n. cc (c.has_name.ensures.1 n, c.if-not-has_name.true)) c.loop-left.invariant each),
)

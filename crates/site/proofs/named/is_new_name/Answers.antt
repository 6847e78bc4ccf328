use Rattle.std.proofs.Common.{rules}
use Rattle.std.specs.List.{AllByRecursion}
use Rattle.site.specs.Apart.{IsOther}
use Rattle.site.specs.Named.{names}
use Rattle.site.proofs.RestLaws.{rest_told_map}
use Rattle.site.proofs.named.is_new_name.Goals as goal

pub loop-left-preserved : goal.loop-left-preserved
loop-left-preserved g c = rest_told_map (IsOther c.args.station.now.name) (λ s. s.name)
    (AllByRecursion (IsOther c.args.station.now.name) (names c.args.others.now)) _ c.loop-left.left.now c.first-item.result c.first-item.is c.in-len1-up.len_at_least (c.have_other_names.ensures.0 (search rules)) c.loop-left.invariant

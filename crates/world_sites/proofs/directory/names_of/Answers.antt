use Rattle.std.proofs.Common.{◌∙◌, map}
use Rattle.world_sites.proofs.DirectoryLaws.{all_made, name_put, one_more}
use Rattle.world_sites.proofs.directory.names_of.Goals as goal

pub loop-left-preserved : goal.loop-left-preserved
loop-left-preserved g c = one_more (λ n. n.name) (map (λ n. n.items) c.loop-left.all.items)
    (map (λ n. n.items) c.push.new.self.items) (map (λ n. n.name) c.args.nodes.now) _ c.loop-left.left.now
    c.first-item.result c.first-item.is c.in-len1-up.len_at_least
    (name_put c.loop-left.all.items c.push.new.self.items c.in_ok-from_slice.field-0 c.first-item.result.name
    c.in_ok-push.ensures.items (c.in_ok-from_slice.ensures.items ∙ c.name.ensures))
    c.loop-left.invariant

pub returns : goal.returns
returns g c = all_made (λ n. n.name) (map (λ n. n.items) c.loop-left.all.items) (map (λ n. n.name) c.args.nodes.now)
    c.loop-left.left.now c.in_default.len_below c.loop-left.invariant

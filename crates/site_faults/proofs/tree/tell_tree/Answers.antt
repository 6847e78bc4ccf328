use Rattle.std.proofs.Common.{rules}
use Rattle.site.proofs.LinkLaws.{ports_there}
use Rattle.site_faults.proofs.tree.tell_tree.Goals as goal

pub is_one_tree-requires : goal.is_one_tree-requires
is_one_tree-requires g c = record { there = ports_there c.args.networks.now c.args.stations.now (search rules) }

pub returns-else-not-is_sound : goal.returns-else-not-is_sound
returns-else-not-is_sound g c = (
  λ t. record { links = search rules; tree = c.in_ok-is_sound.ensures.0 t },
  λ f. c.in_ok-is_sound.ensures.1 f.tree,
)

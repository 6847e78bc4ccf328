use Rattle.std.proofs.Common.{rules}
use Rattle.site.proofs.LinkLaws.{ports_there}
use Rattle.site.proofs.site.fits.Goals as goal

pub is_one_tree-requires : goal.is_one_tree-requires
is_one_tree-requires g c = record { there = ports_there c.args.networks.now c.args.stations.now c.requires.plain.stations.links }

pub returns : goal.returns
returns g c = (
  λ t. record {
    apart = c.in_ok-has_marks_apart.ensures.0 (search rules);
    managed = c.in_ok-are_managed.ensures.0 (search rules);
    tree = c.in_ok-tree.ensures.0 t;
  },
  λ f. c.in_ok-tree.ensures.1 f.tree,
)

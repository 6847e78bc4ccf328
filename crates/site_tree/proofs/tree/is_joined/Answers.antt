use Rattle.std.specs.Prelude.{IsTrue}
use Rattle.site_tree.proofs.TreeLaws.{first_of}
use Rattle.site_tree.proofs.tree.is_joined.Goals as goal

pub returns-in_ok-joined-in-len1-up : goal.returns-in_ok-joined-in-len1-up
returns-in_ok-joined-in-len1-up g c =
    first_of (IsTrue c.in_ok-joined-in-len1-up.joined) c.args.stations.now _ c.args.networks.now
    c.in-len1-up.len_at_least c.in_ok-joined-in-len1-up.ensures

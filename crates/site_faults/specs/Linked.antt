-- Trees of networks that are there.
use Rattle.std.specs.Prelude.{◌≡◌, true, List}
use Rattle.site.specs.Links.{are_linked}
use Rattle.site_parts.specs.declared.parts.Network.{Network}
use Rattle.site_parts.specs.declared.parts.Station.{Station}
use Rattle.site_tree.specs.Tree.{IsOneTree}

-- each place is on a network that is there, and networks and routers form one tree (3.2)
pub record IsLinkedTree {A : Type 0} (ns : List Network) (ss : List (Station A)) : Type 0 where
  pub links : are_linked ns ss ≡ true
  pub tree : IsOneTree ns ss

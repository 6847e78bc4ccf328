use Rattle.std.proofs.Common.{◌∙◌, ap, sym, subst}
use Rattle.world_log.specs.site_node.Node.{home_of}
use Rattle.world.proofs.EventLaws.{err_map, only_memory}
use Rattle.world.proofs.internetwork.Internetwork.opening_of.Goals as goal
use Rattle.world.specs.World.{WorldState}
use Rattle.world_sites.specs.Nodes.{IsOfSite}
use Rattle.world_sites.specs.Opening.{object_site}

-- a device of the world is one of its site
pub returns-clause-cause : goal.returns-clause-cause
returns-clause-cause g c = err_map c.opening_of.result
    (λ fault cause. only_memory (object_site c.self.inside.site) c.args.node.now.part c.home.result fault
    (c.home.ensures ∙ ap (λ p. home_of p) c.part.ensures) c.requires.device
    (subst (λ (w : WorldState _). IsOfSite (object_site w.site) c.args.node.now.part) (sym c.self.view_is)
    c.requires.steady.of_site) cause)
    c.opening_of.ensures.cause

use Rattle.std.proofs.Common.{◌∙◌, sym, ap, subst, ◌<◌, length, List}
use Rattle.std.specs.Prelude.{slice_get}
use Rattle.buses.specs.Buses.{buses_of}
use Rattle.traffic.specs.Recent.{RecentState}
use Rattle.traffic.specs.declared.item.Item.{Item}
use Rattle.world.proofs.ActingLaws.{seen}
use Rattle.world.proofs.Standing.{steady_marked}
use Rattle.world.proofs.internetwork.Internetwork.mark.Goals as goal
use Rattle.world.specs.Laws.{AreSteady}
use Rattle.world.specs.Step.{delivered}
use Rattle.world.specs.World.{WorldState}
use Rattle.world_log.specs.Log.{log_of}

-- there is such an item
pub mark-requires : goal.mark-requires
mark-requires g c = subst (λ (w : WorldState _). c.args.number < length w.items) (sym c.self.view_is) c.requires

pub returns : goal.returns
returns g c = record {
  item = c.mark.ensures.item;
  there = ap (λ (w : WorldState _). slice_get w.items c.args.number) (sym c.self.view_is) ∙ c.mark.ensures.there;
  is = ap (λ (s : RecentState _). seen c.self.inside.site c.self.inside.moment c.self.inside.nodes.items
      (record (log_of c.self.inside.log) { first_item = s.first; items = s.items }) (buses_of c.self.inside.buses))
      c.mark.ensures.is
      ∙ ap (λ (w : WorldState _). delivered c.args.number c.mark.ensures.item w) c.self.view_is;
}

-- it is from where it was
pub invariant_of-self : goal.invariant_of-self
invariant_of-self g c = (
  subst (λ (is : List (Item _)). AreSteady c.self.inside.site c.self.inside.moment c.self.inside.nodes.items is)
      (sym (ap (λ (s : RecentState _). s.items) c.mark.ensures.is))
      (steady_marked c.self.inside.site c.self.inside.moment c.self.inside.nodes.items c.self.inside.log.items.items
      c.args.number c.mark.ensures.item c.mark.ensures.there c.self.invariant.0),
  c.self.invariant.1,
  c.self.invariant.2,
)

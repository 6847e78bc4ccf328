use Rattle.buses.specs.Buses.{buses_of}
use Rattle.world.proofs.PastLaws.{forgotten_so, forgotten_stands}
use Rattle.world.proofs.internetwork.Internetwork.forget.Goals as goal
use Rattle.world_log.specs.Log.{log_of}

-- all nodes stand
pub invariant_of-self : goal.invariant_of-self
invariant_of-self g c = (
  forgotten_stands c.self.inside.site c.self.inside.moment c.self.inside.nodes.items (log_of c.self.inside.log)
      (log_of c.forget.new.self) (buses_of c.self.inside.buses) (buses_of c.forget-2.new.self) c.args.self.now
      c.self.view_is c.self.invariant.0 c.forget.ensures,
  c.self.invariant.1,
  c.self.invariant.2,
)

-- what is left is kept, by its numbers
pub returns : goal.returns
returns g c = forgotten_so c.self.inside.site c.self.inside.moment c.self.inside.nodes.items (log_of c.self.inside.log)
    (log_of c.forget.new.self) (buses_of c.self.inside.buses) (buses_of c.forget-2.new.self) c.args.self.now
    c.self.view_is c.self.invariant.0 c.forget.ensures c.forget-2.ensures

use Rattle.link.specs.Up.{parcel_of}
use Rattle.site_node.proofs.Nodes.{routed}
use Rattle.site_node.proofs.part.Part.plan_message.Goals as goal

pub returns-in_ok-route-in-Router-clause-hears : goal.returns-in_ok-route-in-Router-clause-hears
returns-in_ok-route-in-Router-clause-hears g c = routed c.args.now c.args.port (parcel_of c.args.up) c.args.self.now
    c.in-Router.router c.in_ok-route-in-Router.field-0 c.in-Router.is c.in_ok-route-in-Router.ensures.hears

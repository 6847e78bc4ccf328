use Rattle.std.proofs.Common.{rules}
use Rattle.site.proofs.site.are_stations.Goals as goal

pub returns : goal.returns
returns g c = (
  λ t. record {
    roles = c.are_roles.ensures.0 (search rules);
    ports = c.have_ports_apart.ensures.0 (search rules);
    order = c.are_in_order.ensures.0 (search rules);
    links = cc (c.are_linked.ensures, t);
  },
  λ p. cc (c.are_linked.ensures, p.links),
)

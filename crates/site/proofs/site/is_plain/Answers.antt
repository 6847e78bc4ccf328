use Rattle.std.proofs.Common.{rules}
use Rattle.site.proofs.site.is_plain.Goals as goal

pub returns : goal.returns
returns g c = (
  λ t. record {
    networks = c.are_networks.ensures.0 (search rules);
    named = c.are_named.ensures.0 (search rules);
    stations = c.are_stations.ensures.0 (search rules);
    devices = c.have_objects.ensures.0 t;
  },
  λ p. c.have_objects.ensures.1 p.devices,
)

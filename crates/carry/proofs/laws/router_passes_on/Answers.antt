use Rattle.carry.proofs.Passed.{put_out_passes_on}
use Rattle.carry.proofs.Routers.{routed_is_passed_on, router_passes_on}
use Rattle.carry.proofs.laws.router_passes_on.Goals as goal

pub returns : goal.returns
returns g c = record { routed = routed_is_passed_on; out = router_passes_on; port = put_out_passes_on }

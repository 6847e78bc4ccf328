use Rattle.carry.proofs.Passed.{carried_still, passed_on_is_carried, put_out_is_carried}
use Rattle.carry.proofs.laws.passing_is_carried.Goals as goal

pub returns : goal.returns
returns g c = record { passed = passed_on_is_carried; put = put_out_is_carried; still = carried_still }

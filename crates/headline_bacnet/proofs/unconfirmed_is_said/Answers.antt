use Rattle.headline_bacnet.proofs.Speaking.{i_am_is_said, who_is_is_said}
use Rattle.headline_bacnet.proofs.unconfirmed_is_said.Goals as goal

pub returns : goal.returns
returns c = record { i_am = i_am_is_said; who_is = who_is_is_said }

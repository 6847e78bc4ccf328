use Rattle.headline_bacnet.proofs.Speaking.{error_is_said, written_is_said}
use Rattle.headline_bacnet.proofs.written_is_said.Goals as goal

pub returns : goal.returns
returns c = record { written = written_is_said; error = error_is_said }

use Rattle.carry.proofs.Frames.{frame_passes_on, frame_reaches, other_frame_passes_on}
use Rattle.carry.proofs.laws.frames_pass_on.Goals as goal

pub returns : goal.returns
returns g c = record { framed = frame_passes_on; reaches = frame_reaches; other = other_frame_passes_on }

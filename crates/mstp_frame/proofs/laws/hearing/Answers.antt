use Rattle.mstp_frame.proofs.HearingLaws.{each_stream, one_stream, frame_first}
use Rattle.mstp_frame.proofs.laws.hearing.Goals as goal

pub returns : goal.returns
returns c = record { each = each_stream; once = one_stream; first = frame_first }

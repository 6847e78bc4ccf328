use Rattle.mstp_frame.proofs.Cuts.{given_is_heard, cuts_are_one}
use Rattle.mstp_frame.proofs.laws.cuts_are_one.Goals as goal

pub returns : goal.returns
returns c = record { heard = given_is_heard; one = cuts_are_one }

use Rattle.mstp_frame.proofs.Spellings.{one_frame, one_spelling, canonical_spells}
use Rattle.mstp_frame.proofs.laws.spelling.Goals as goal

pub returns : goal.returns
returns c = record { one = one_frame; once = one_spelling; canonical = canonical_spells }

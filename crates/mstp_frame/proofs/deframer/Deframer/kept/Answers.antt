use Rattle.std.proofs.Common.{[], subst}
use Rattle.mstp_frame.specs.Heard.{Hears}
use Rattle.mstp_frame.proofs.Taking.{kept_silent}
use Rattle.mstp_frame.proofs.deframer.Deframer.kept.Goals as goal

pub returns-clause-silent : goal.returns-clause-silent
returns-clause-silent c = subst (λ octets. Hears octets []) c.self.view_is (kept_silent c.self.inside.buffer c.self.invariant)

use Rattle.services.proofs.Exits.{exit_stop}
use Rattle.services.proofs.NoReply.{no_values_under}
use Rattle.std.proofs.Common.{refl}
use Rattle.tags.specs.Tag.{plain_tag}
use Rattle.services.proofs.acknowledgement.read_under.Goals as goal

pub returns-in_err-values-clause-none : goal.returns-in_err-values-clause-none
returns-in_err-values-clause-none g c =
    exit_stop _ _ c.from_residual.result _ c.from_residual.ensures.1 c.in_err-values.ensures.rejected
    (λ reason h. no_values_under _ reason (plain_tag c.args.tag) c.args.reader.now (c.if-is_opening.ensures.0 refl) h)

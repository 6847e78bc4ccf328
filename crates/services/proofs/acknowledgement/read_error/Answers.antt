use Rattle.services.proofs.RequestOctets.{on_err}
use Rattle.services.proofs.NoReply.{no_error_of_none, no_error_unclosed}
use Rattle.primitives.specs.Errors.{class_number, code_number}
use Rattle.services.proofs.acknowledgement.read_error.Goals as goal

pub returns-in_default-clause-none : goal.returns-in_default-clause-none
returns-in_default-clause-none c = no_error_of_none c.args.reader.now c.in_default.ensures.refused

pub returns-in_err-read_closing-clause-none : goal.returns-in_err-read_closing-clause-none
returns-in_err-read_closing-clause-none c =
    on_err c.from_residual.result _ (no_error_unclosed c.args.reader.now (class_number c.in-Some.error.0) (code_number c.in-Some.error.1)
    c.class_and_code_from.new.reader c.in-Some.ensures.only c.in_err-read_closing.ensures.rejected.1)

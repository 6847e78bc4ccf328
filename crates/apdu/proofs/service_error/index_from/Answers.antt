use Rattle.apdu.proofs.ServiceErrors.{no_closing_behind_index}
use Rattle.apdu.proofs.service_error.index_from.Goals as goal

pub returns-in_err-closing_from-clause-refused : goal.returns-in_err-closing_from-clause-refused
returns-in_err-closing_from-clause-refused c =
    rw (c.from_residual-in_err-closing_from.ensures)
    (no_closing_behind_index c.args.reader.now _ c.in_ok-contents.contents.now _ (rw c.in-Ok-Some.field-0-is at c.in-Ok-Some.ensures.only)
    c.in_ok-contents.ensures.some c.in_err-closing_from.ensures.refused)

use Rattle.std.specs.Prelude.{codes}
use Rattle.header_lines.proofs.LineLaws.{named_so}
use Rattle.header_lines.proofs.lines.print_type.Goals as goal

pub returns : goal.returns
returns g c =
    named_so c.print_named.result _ _ (codes "apdu ") c.args.spelling _ _ _ _ c.pdu_types.ensures
    c.from-number.ensures c.print_named.ensures

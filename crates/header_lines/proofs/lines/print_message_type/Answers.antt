use Rattle.std.specs.Prelude.{codes}
use Rattle.header_lines.proofs.LineLaws.{named_so}
use Rattle.header_lines.proofs.lines.print_message_type.Goals as goal

pub returns : goal.returns
returns g c =
    named_so c.print_named.result _ _ (codes "message ") c.args.spelling _ _ _ _ c.network_messages.ensures
    c.from-number.ensures c.print_named.ensures

use Rattle.header_lines.proofs.LineLaws.{other_printed, vendor_printed}
use Rattle.header_lines.proofs.lines.print_message.Goals as goal

pub returns-in_ok-writeln-in-Proprietary : goal.returns-in_ok-writeln-in-Proprietary
returns-in_ok-writeln-in-Proprietary g c =
    vendor_printed c.args.spelling c.print_octets.result _ _ _ c.args.message c.in-Proprietary.kind c.in-Proprietary.vendor c.to_be_bytes.result c.args.body.now
    c.in-Proprietary.is c.to_be_bytes.ensures c.in_ok-writeln-in-Proprietary.ensures.bytes c.print_octets.ensures

pub returns-in_ok-print_message_type-in_default : goal.returns-in_ok-print_message_type-in_default
returns-in_ok-print_message_type-in_default g c =
    other_printed c.args.spelling c.writeln-in_default.result _ _ _ c.args.message c.args.body.now c.in_default.not-Proprietary
    c.in_ok-print_message_type-in_default.ensures c.writeln-in_default.ensures.bytes

use Rattle.std.proofs.Common.{rules, ◌++◌, codes}
use Rattle.std.proofs.Output.{has_written_append}
use Rattle.printing.specs.Printed.{writes_text}
use Rattle.printing.proofs.Printing.{one_more}
use Rattle.printing.proofs.request.fmt_more_groups.Goals as goal

pub loop-group-preserved : goal.loop-group-preserved
loop-group-preserved g c = λ p.
    let sofar = c.loop-group.invariant p in
    let parted = c.write_str.ensures.writes sofar.plain (search rules) in
    let written = rw c.as_slice.ensures at c.fmt_writes.ensures in
    one_more g.W.Write.write_str_gives (λ h. codes "; " ++ writes_text c.args.spelling h.object h.writes) c.args.groups.now
    c.loop-group.group-index c.group-item.result c.args.f.now c.loop-group.f c.fmt_writes.new.f (search rules)
    c.group-item.is sofar
    (has_written_append _ _ _ _ _ _ parted (written parted.plain (search rules)))

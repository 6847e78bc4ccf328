use Rattle.std.proofs.Common.{rules, ◌++◌, codes}
use Rattle.std.proofs.Output.{has_written_append}
use Rattle.printing.specs.Printed.{result_text}
use Rattle.printing.proofs.Printing.{one_more}
use Rattle.printing.proofs.reply.fmt_more_results.Goals as goal

pub loop-read-preserved : goal.loop-read-preserved
loop-read-preserved g c = λ p.
    let sofar = c.loop-read.invariant p in
    let parted = c.write_str.ensures.writes sofar.plain (search rules) in
    one_more g.W.Write.write_str_gives (λ r. codes "; " ++ result_text c.args.spelling c.args.object_type r) c.args.results.now c.loop-read.read-index
    c.read-item.result c.args.f.now c.loop-read.f c.fmt_result.new.f (search rules) c.read-item.is sofar
    (has_written_append _ _ _ _ _ _ parted (c.fmt_result.ensures parted.plain (search rules)))

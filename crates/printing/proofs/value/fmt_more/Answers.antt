use Rattle.std.proofs.Common.{rules, ◌++◌, codes, get_or}
use Rattle.printing.specs.Printed.{value_text}
use Rattle.printing.proofs.Printing.{one_more}
use Rattle.printing.proofs.value.fmt_more.Goals as goal

pub loop-value-preserved : goal.loop-value-preserved
loop-value-preserved g c = λ p.
    let sofar = c.loop-value.invariant p in
    one_more g.W.Write.write_str_gives (λ v. codes ", " ++ value_text c.args.wording v) c.args.values.now c.loop-value.value-index c.value-item.result
    c.args.f.now c.loop-value.f c.write.new.self (search rules) c.value-item.is sofar (c.write.ensures.writes sofar.plain (search rules))

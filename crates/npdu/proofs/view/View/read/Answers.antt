use Rattle.std.proofs.Common.{rules, arith, ◌-◌, length, take, drop, slice_index_or}
use Rattle.std.proofs.lemmas.Result.{IfOk-weaker, on_err_weaker}
use Rattle.npdu.specs.Header.{header_of}
use Rattle.npdu.proofs.SpellingLaws.{only_header}
use Rattle.std.proofs.lemmas.Grind.{common_steps}
use Rattle.npdu.proofs.HeaderLaws.{no_header, cut_none, cut_version}
use Rattle.npdu.proofs.view.View.read.Goals as goal

pub returns-in-1-clause-only : goal.returns-in-1-clause-only
returns-in-1-clause-only c = IfOk-weaker c.view_from.result _ _
    (λ view s. only_header c.args.octets.now (slice_index_or c.args.octets.now 1 0) (take (length c.args.octets.now - 2) (drop 2 c.args.octets.now))
    (header_of view) (grind (arith, common_steps)) s) c.view_from.ensures.read

pub returns-in-1-clause-refused : goal.returns-in-1-clause-refused
returns-in-1-clause-refused c = on_err_weaker c.view_from.result
    (no_header c.args.octets.now (slice_index_or c.args.octets.now 1 0) (take (length c.args.octets.now - 2) (drop 2 c.args.octets.now))
    (grind (arith, common_steps))) c.view_from.ensures.refused

pub returns-in-empty-clause-fault : goal.returns-in-empty-clause-fault
returns-in-empty-clause-fault c = cut_none c.args.octets.now (omega arith)

pub returns-in-1-2-clause-fault : goal.returns-in-1-2-clause-fault
returns-in-1-2-clause-fault c = cut_version c.args.octets.now c.in-1-2.len_at_least c.in-1-2.len_below (search rules)

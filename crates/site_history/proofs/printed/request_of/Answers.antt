use Rattle.std.proofs.Common.{rules, ◌≡◌, ◌∙◌, ap, sym, length, take, ◌-◌}
use Rattle.site_history.proofs.AskedLaws.{last_first}
use Rattle.site_history.proofs.printed.request_of.Goals as goal
use Rattle.site_history.specs.Printed.{or_else, request_of}

pub returns-in-Some : goal.returns-in-Some
returns-in-Some g c =
    let left = c.loop-left.left.now in
    sym (c.loop-left.invariant ∙ last_first c.args.number left c.last-item.result c.in-len1-up.len_at_least c.last-item.is
    ∙ ap (λ x. or_else x (request_of c.args.number (take (length left - 1) left))) (sym c.in-Some.ensures))

pub loop-left-preserved : goal.loop-left-preserved
loop-left-preserved g c =
    let left = c.loop-left.left.now in
    c.loop-left.invariant ∙ last_first c.args.number left c.last-item.result c.in-len1-up.len_at_least c.last-item.is
    ∙ ap (λ x. or_else x (request_of c.args.number (take (length left - 1) left))) (sym c.in_default-request_in.ensures)

use Rattle.std.proofs.Common.{arith}
use Rattle.words.proofs.Groups.{added_more, grouped_more}
use Rattle.words.proofs.request.add_to_last.Goals as goal

pub returns-in_ok-push-clause-added : goal.returns-in_ok-push-clause-added
returns-in_ok-push-clause-added g c = λ object is.
    added_more c.args.groups.now c.index-groups-groups.result c.push.new.self object c.args.write (omega (arith, c.in-len1-up.len_at_least)) is
    c.in_ok-push.ensures.pushed

pub returns-in_ok-push-clause-grouped : goal.returns-in_ok-push-clause-grouped
returns-in_ok-push-clause-grouped g c = λ grouped.
    grouped_more c.args.groups.now c.index-groups-groups.result c.push.new.self c.args.write (omega (arith, c.in-len1-up.len_at_least))
    c.in_ok-push.ensures.pushed grouped

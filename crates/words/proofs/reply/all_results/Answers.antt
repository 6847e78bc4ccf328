use Rattle.std.proofs.Common.{rules, option_map, Some}
use Rattle.words.proofs.Replies.{objects_more}
use Rattle.words.proofs.reply.all_results.Goals as goal

pub loop-rest-preserved : goal.loop-rest-preserved
loop-rest-preserved g c =
    objects_more (Some c.args.words.now) c.loop-rest.all c.push.new.self (option_map (λ w. w.now) c.loop-rest.rest)
    (option_map (λ w. w.now) c.cut_first.result.1) c.in-Some.here.now c.cut_first.result.0.now c.in_ok-results.field-0
    c.loop-rest.invariant
    (search rules) c.cut_first.ensures.front c.cut_first.ensures.rest c.in_ok-results.ensures.read
    c.in_ok-push.ensures.pushed

use Rattle.std.proofs.Common.{rules, ap, ◌∙◌}
use Rattle.words.specs.Requests.{all_writes}
use Rattle.words.proofs.Groups.{added_new, back_added, grouped_own, is_end, is_no_end, on_ok}
use Rattle.words.proofs.request.add_write.Goals as goal

pub returns-then-ends_with_object-clause-added : goal.returns-then-ends_with_object-clause-added
returns-then-ends_with_object-clause-added g c =
    let is = is_end c.ends_with_object.result c.args.object c.as_slice.result.now c.args.groups.now.items c.if-ends_with_object.true c.as_slice.ensures.value
    c.ends_with_object.ensures in
    on_ok c.add_to_last.result (back_added c.args.groups.now.items c.as_mut_slice.result.now c.add_to_last.new.groups c.args.groups.now.len c.args.object
    c.args.write
    (search rules) c.add_to_last.ensures.kept c.as_mut_slice.ensures.value is) c.add_to_last.ensures.added

pub returns-in_ok-push-clause-added : goal.returns-in_ok-push-clause-added
returns-in_ok-push-clause-added g c =
    ap all_writes c.in_ok-push.ensures.items ∙
    added_new c.args.groups.now.items c.in_ok-first_write.field-0 c.args.object c.args.write c.in_ok-first_write.ensures.0 c.in_ok-first_write.ensures.1

pub returns-in_ok-push-clause-grouped : goal.returns-in_ok-push-clause-grouped
returns-in_ok-push-clause-grouped g c = λ grouped.
    let other = is_no_end c.ends_with_object.result c.args.object c.as_slice.result.now c.args.groups.now.items c.if-ends_with_object.false
    c.as_slice.ensures.value c.ends_with_object.ensures in
    rw (c.in_ok-push.ensures.items) (grouped_own c.args.groups.now.items c.in_ok-first_write.field-0 c.args.object c.args.write c.in_ok-first_write.ensures.0
    c.in_ok-first_write.ensures.1 other grouped)

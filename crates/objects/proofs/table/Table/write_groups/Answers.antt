use Rattle.std.proofs.Common.{◌∙◌, refl, sym, ap, List, rules}
use Rattle.primitives.specs.declared.plain_data.ObjectWrites.{ObjectWrites}
use Rattle.object_model.specs.Writing.{write_all, in_order}
use Rattle.objects.proofs.FailureLaws.{not_done}
use Rattle.objects.proofs.WriteLaws.{group_stops, group_goes, reply_done}
use Rattle.objects.proofs.table.Table.write_groups.Goals as goal

pub returns-then-not-is_done : goal.returns-then-not-is_done
returns-then-not-is_done g c =
    sym c.loop-group.invariant
    ∙ ap (λ (gs : List (ObjectWrites _)). write_all c.loop-group.self (in_order gs)) c.in-Some.ensures.steps.0
    ∙ group_stops c.loop-group.self c.write_group-reply.new.self c.write_group-reply.result c.in-Some.group c.next.new.self.rest.items
    c.write_group-reply.ensures
    (not_done c.write_group-reply.result _ c.is_done.result refl c.is_done.ensures.1 (search rules))

pub loop-group-preserved-else-not-is_done : goal.loop-group-preserved-else-not-is_done
loop-group-preserved-else-not-is_done g c =
    sym (group_goes c.loop-group.self c.write_group-reply.new.self c.in-Some.group c.next.new.self.rest.items
    (reply_done _ _ _ c.write_group-reply.ensures (c.is_done.ensures.0 (search rules))))
    ∙ ap (λ (gs : List (ObjectWrites _)). write_all c.loop-group.self (in_order gs)) (sym c.in-Some.ensures.steps.0)
    ∙ c.loop-group.invariant

pub loop-group-preserved : goal.loop-group-preserved
loop-group-preserved g c =
    sym (group_goes c.loop-group.self c.write_group-reply.new.self c.in-Some.group c.next.new.self.rest.items
    (reply_done _ _ _ c.write_group-reply.ensures (c.is_done.ensures.0 (search rules))))
    ∙ ap (λ (gs : List (ObjectWrites _)). write_all c.loop-group.self (in_order gs)) (sym c.in-Some.ensures.steps.0)
    ∙ c.loop-group.invariant

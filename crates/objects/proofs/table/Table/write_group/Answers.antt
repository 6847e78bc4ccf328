use Rattle.std.proofs.Common.{◌∙◌, sym, ap, List}
use Rattle.primitives.specs.declared.plain_data.PropertyWrite.{PropertyWrite}
use Rattle.object_model.specs.Writing.{write_all, writes_to}
use Rattle.objects.proofs.WriteLaws.{stops, goes}
use Rattle.objects.proofs.table.Table.write_group.Goals as goal

pub returns-in-Err : goal.returns-in-Err
returns-in-Err g c =
    sym c.loop-write.invariant
    ∙ ap (λ (ws : List (PropertyWrite _)). write_all c.loop-write.self (writes_to c.args.object ws)) c.in-Some.ensures.steps.0
    ∙ stops c.loop-write.self c.write.new.self c.args.object c.in-Some.write c.next.new.self.rest.items (c.in-Err.class, c.in-Err.code)
    c.in-Err.ensures.refused c.in-Err.ensures.unchanged

pub loop-write-preserved : goal.loop-write-preserved
loop-write-preserved g c =
    sym (goes c.loop-write.self c.write.new.self c.args.object c.in-Some.write c.next.new.self.rest.items c.in_default.ensures.done)
    ∙ ap (λ (ws : List (PropertyWrite _)). write_all c.loop-write.self (writes_to c.args.object ws)) (sym c.in-Some.ensures.steps.0)
    ∙ c.loop-write.invariant

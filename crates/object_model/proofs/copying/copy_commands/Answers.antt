use Rattle.std.proofs.Common.{◌∙◌, ◌+◌, sym, arith}
use Rattle.priority.proofs.SlotLaws.{same_slots, same_up_to, length-put_slot}
use Rattle.object_model.proofs.LevelLaws.{put_level_is}
use Rattle.object_model.proofs.copying.copy_commands.Goals as goal

pub loop-place-preserved : goal.loop-place-preserved
loop-place-preserved g c =
    let put = c.put.ensures ∙ put_level_is c.loop-place.all (c.loop-place.place + 1) c.in_ok-value.value (omega arith)
    (omega (arith, c.loop-place-test.true, c.len-place-end.ensures.count)) in
    rw put (
      length-put_slot c.loop-place.all (c.loop-place.place + 1) c.in_ok-value.value ∙ c.loop-place.invariant.0,
      c.loop-place.invariant.1,
      same_up_to c.loop-place.all c.args.slots.now (c.loop-place.place + 1) c.in_ok-value.value (omega arith)
          (omega (arith, c.loop-place.invariant.0, c.loop-place-test.true, c.len-place-end.ensures.count)) (c.in_ok-value.ensures ∙ c.at.ensures.held)
          c.loop-place.invariant.2,
    )

pub returns : goal.returns
returns g c =
    same_slots c.loop-place.all c.args.slots.now (c.loop-place.invariant.0 ∙ sym c.loop-place.invariant.1)
    (λ n one within. c.loop-place.invariant.2 n one (omega (arith, within, c.loop-place.invariant.0, c.loop-place-test.false, c.len-place-end.ensures.count)))

use Rattle.std.proofs.Common.{◌+◌, ◌-◌, ◌*◌, ◌^◌, arith}
use Rattle.world.proofs.EventLaws.{before_end, if_ok_map}
use Rattle.simulator.proofs.FlowLaws.{less_more}
use Rattle.simulator.proofs.flow.next_frame.Goals as goal
use Rattle.simulator.specs.Flows.{left_to_tell}

-- stations are fewer than 2^64
pub returns-in_default-clause-less : goal.returns-in_default-clause-less
returns-in_default-clause-less g c = λ told behind. if_ok_map c.next_wake.result
    (λ o less. less_more (c.args.flow.now.left * 2 ^ 130) ((c.args.before - c.args.from) + left_to_tell told c.args.frames) c.next_wake.new.flow o less)
    c.next_wake.ensures.most

-- .. and so are ears
pub overflow_add-told : goal.overflow_add-told
overflow_add-told g c =
    let lt = before_end c.args.next.bus.now.ears.items c.args.next.ear_place c.args.next.ear.now c.requires.there in
    omega (arith, lt, c.args.next.bus.now.ears.ok.0, c.args.next.bus.now.ears.ok.1, c.args.next.bus.now.ears.small)

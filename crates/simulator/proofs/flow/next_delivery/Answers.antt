use Rattle.std.proofs.Common.{◌+◌, ◌-◌, ◌*◌, ◌^◌}
use Rattle.world.proofs.EventLaws.{if_ok_map}
use Rattle.simulator.proofs.FlowLaws.{less_more}
use Rattle.simulator.proofs.flow.next_delivery.Goals as goal
use Rattle.simulator.specs.Flows.{left_to_tell}

-- stations are fewer than 2^64
pub returns-in_default-item-clause-less : goal.returns-in_default-item-clause-less
returns-in_default-item-clause-less g c = if_ok_map c.next_wake.result
    (λ o less. less_more (c.args.flow.now.left * 2 ^ 130) ((c.args.before - c.args.from) + left_to_tell c.args.told c.args.frames) c.next_wake.new.flow o less)
    c.next_wake.ensures.most

-- the frame is behind what was told
pub returns-then-is_first-clause-less : goal.returns-then-is_first-clause-less
returns-then-is_first-clause-less g c = c.next_frame.ensures.less c.args.told c.in-Some.ensures.next.waits.due.behind

use Rattle.std.proofs.Common.{◌≡◌, subst}
use Rattle.device.specs.Device.{DeviceState}
use Rattle.console.specs.Respond.{Responds}
use Rattle.console.proofs.RespondLaws.{answers, stays}
use Rattle.console.proofs.builtin.respond.Goals as goal

pub invariant_of-device : goal.invariant_of-device
invariant_of-device g c =
    let there = stays _ _ _ _ _ _ c.in_ok-said.ensures.says c.in_ok-next.ensures c.device.invariant.0 c.device.invariant.1 in
    (there.0, there.1, c.device.invariant.2)

pub returns-clause-responds : goal.returns-clause-responds
returns-clause-responds g c =
    let is : c.device.inside.device ≡ c.args.device.now = c.device.view_is in
    let brought = rw c.in-Some.is at c.in_ok-parcel.ensures.up in
    let came = answers _ c.args.from c.args.datagram.now c.in-Some.parcel c.device.inside.device _ c.say_to.new.device c.in_ok-said.said
    brought.0 brought.1 c.in_ok-said.ensures.says c.in_ok-next.ensures c.device.invariant.1 in
    subst (λ (d : DeviceState _). Responds c.args.from c.args.datagram.now d c.say_to.new.device c.in_ok-said.said) is came

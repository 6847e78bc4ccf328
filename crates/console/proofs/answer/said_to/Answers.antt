use Rattle.std.proofs.Common.{subst}
use Rattle.device.specs.Device.{DeviceState}
use Rattle.console.specs.Answer.{sender}
use Rattle.console.specs.Builtin.{builtin_device}
use Rattle.console.specs.Respond.{Responds}
use Rattle.console.proofs.AnswerLaws.{some_response}
use Rattle.console.proofs.answer.said_to.Goals as goal

pub returns-clause-responds : goal.returns-clause-responds
returns-clause-responds g c =
    some_response c.args.datagram.now builtin_device c.respond.new.device c.in_ok-said.said
    (subst (λ (d : DeviceState _). Responds sender c.args.datagram.now d c.respond.new.device c.in_ok-said.said) c.in_ok-device.ensures.opened
    c.in_ok-said.ensures.responds)

use Rattle.std.proofs.Common.{refl, length}
use Rattle.std.proofs.lemmas.Option.{slice_get_read}
use Rattle.site_ports.proofs.Drafts.{left_count}
use Rattle.site_ports.proofs.PortSteps.{wake_begin, wake_end, wake_step}
use Rattle.site_ports.specs.Drafts.{drafted}
use Rattle.site_ports.proofs.ports.wake_all.Goals as goal

pub loop-port-init : goal.loop-port-init
loop-port-init g c = (
  c.requires.order,
  wake_begin c.args.now (length c.args.ports.now) (drafted c.args.now c.args.ports.now c.args.draft.now)
      (left_count c.args.now c.args.ports.now c.args.draft.now.changes.items),
)

pub wake_one-requires-clause-there : goal.wake_one-requires-clause-there
wake_one-requires-clause-there g c = slice_get_read c.args.ports.now (length c.args.ports.now) c.loop-port.port
    c.index-ports-port.result refl c.loop-port-test.true c.index-ports-port.is

pub loop-port-preserved : goal.loop-port-preserved
loop-port-preserved g c = (
  c.in_ok-wake_one.ensures.order,
  wake_step c.args.now c.loop-port.port (length c.args.ports.now) (drafted c.args.now c.args.ports.now c.args.draft.now)
      (drafted c.args.now c.args.ports.now c.loop-port.draft) (drafted c.args.now c.args.ports.now c.wake_one.new.draft)
      c.loop-port-test.true (c.loop-port.invariant.1) c.in_ok-wake_one.ensures.wakes,
)

pub returns-clause-wakes : goal.returns-clause-wakes
returns-clause-wakes g c = wake_end c.args.now c.loop-port.port (length c.args.ports.now)
    (drafted c.args.now c.args.ports.now c.args.draft.now) (drafted c.args.now c.args.ports.now c.loop-port.draft)
    c.loop-port-test.false (c.loop-port.invariant.1)

use Rattle.std.proofs.Common.{◌∙◌}
use Rattle.client_tsm.proofs.Places.{more}
use Rattle.client_tsm.specs.Waking.{said_of, told_of}
use Rattle.client_tsm.proofs.client.ClientTsm.plan_tick.Goals as goal

pub loop-transaction-preserved : goal.loop-transaction-preserved
loop-transaction-preserved g c =
    let items = c.deref-transaction-items.result.now in
    let place = c.loop-transaction.transaction-index in
    let here = c.transaction-item.result in (
      more items place here c.loop-transaction-test.true c.transaction-item.is (said_of c.args.now) c.loop-transaction.said c.wake_one.new.said
          c.in_ok-wake_one.ensures.said ∙ c.loop-transaction.invariant.0,
      more items place here c.loop-transaction-test.true c.transaction-item.is (told_of c.args.now) c.loop-transaction.told c.wake_one.new.told
          c.in_ok-wake_one.ensures.told ∙ c.loop-transaction.invariant.1,
    )

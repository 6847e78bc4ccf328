use Rattle.std.proofs.Common.{sym}
use Rattle.server_tsm.proofs.Places.{flat_step_ok}
use Rattle.server_tsm.specs.Waking.{said_on_wake, saying_on_wake}
use Rattle.server_tsm.proofs.waking.wake_at.Goals as goal

pub returns-in-Some-clause-said : goal.returns-in-Some-clause-said
returns-in-Some-clause-said g c =
    flat_step_ok c.wake_one.result (said_on_wake c.args.now) c.args.said.now c.wake_one.new.said c.args.records.now c.args.place c.in-Some.entry.now
    (sym c.in-Some.ensures.there) c.wake_one.ensures.said

pub returns-in-Some-clause-sayings : goal.returns-in-Some-clause-sayings
returns-in-Some-clause-sayings g c =
    flat_step_ok c.wake_one.result (saying_on_wake c.args.now) c.args.sayings.now c.wake_one.new.sayings c.args.records.now c.args.place c.in-Some.entry.now
    (sym c.in-Some.ensures.there) c.wake_one.ensures.sayings

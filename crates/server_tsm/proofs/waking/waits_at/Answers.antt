use Rattle.std.proofs.Common.{◌∙◌, ap, sym}
use Rattle.segments.specs.Sender.{waits}
use Rattle.segments.specs.declared.step.Turn.{Turn}
use Rattle.server_tsm.proofs.Quiet.{quiet_none, quiet_step}
use Rattle.server_tsm.proofs.waking.waits_at.Goals as goal

pub returns-in-None : goal.returns-in-None
returns-in-None g c = quiet_none c.args.now c.args.records.now c.args.place (sym c.in-None.ensures.there)

pub returns-in-Some : goal.returns-in-Some
returns-in-Some g c = quiet_step c.args.now c.args.records.now c.args.place c.in-Some.entry.now c.waits.result
    (sym c.in-Some.ensures.there) (c.waits.ensures ∙ ap (λ (t : Turn). waits t) c.turn_of.ensures)

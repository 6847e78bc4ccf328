use Rattle.std.proofs.Common.{◌∙◌, ap, sym, None}
use Rattle.std.specs.Prelude.{is_some}
use Rattle.world_log.proofs.NumberLaws.{absent, is_put, is_there, same_of_none}
use Rattle.world_log.proofs.last_numbers.make_room.Goals as goal

-- a client that wasn't there is known without a number
pub returns-clause-made : goal.returns-clause-made
returns-clause-made g c = is_there c.args.client None c.args.clients.now c.insert.new.self
    (is_put c.args.client None c.args.clients.now c.insert.new.self c.in_ok-insert.ensures.set)

pub returns-clause-same : goal.returns-clause-same
returns-clause-same g c = same_of_none c.args.client c.args.clients.now c.insert.new.self
    (absent c.args.clients.now c.args.client
    (ap is_some (sym c.get.ensures.value) ∙ sym c.is_some.ensures ∙ c.if-is_some.false))
    (is_put c.args.client None c.args.clients.now c.insert.new.self c.in_ok-insert.ensures.set)

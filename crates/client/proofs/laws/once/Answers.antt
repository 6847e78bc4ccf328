use Rattle.client.proofs.BindingLaws as laws
use Rattle.client.proofs.laws.once.Goals as goal

pub returns-clause-put : goal.returns-clause-put
returns-clause-put c = laws.put_is_once

pub returns-clause-marked : goal.returns-clause-marked
returns-clause-marked c = laws.marked_is_once

use Rattle.client.proofs.BindingLaws as laws
use Rattle.client.proofs.laws.put_is_held.Goals as goal

pub returns-clause-held : goal.returns-clause-held
returns-clause-held c = laws.put_is_held

pub returns-clause-others : goal.returns-clause-others
returns-clause-others c = laws.others_stay

use Rattle.client.proofs.BindingLaws as laws
use Rattle.client.proofs.laws.marked_alone.Goals as goal

pub returns : goal.returns
returns c = laws.marked_alone

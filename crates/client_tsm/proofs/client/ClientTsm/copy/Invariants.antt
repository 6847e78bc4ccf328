use Rattle.std.proofs.Common.{◌≡◌, take}
use Rattle.client_tsm.proofs.client.ClientTsm.copy.Given as goal

abbrev pub invariant-loop-transaction : goal.invariant-loop-transaction
invariant-loop-transaction g l = l.open_ones.items ≡ take l.transaction-index l.transaction-items

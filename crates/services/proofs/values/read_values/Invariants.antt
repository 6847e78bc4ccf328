use Rattle.std.proofs.Common.{length}
use Rattle.services.proofs.ValueLists.{Progress}
use Rattle.services.proofs.values.read_values.Given as goal

abbrev pub invariant-loop-values : goal.invariant-loop-values
invariant-loop-values g l = Progress l.initial.reader l.values l.reader

abbrev pub decreases-loop-values : goal.decreases-loop-values
decreases-loop-values g l = length l.reader

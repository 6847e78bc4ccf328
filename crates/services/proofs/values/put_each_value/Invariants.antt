use Rattle.std.proofs.Common.{◌≡◌, ◌++◌, drop}
use Rattle.tags.specs.Canonical.{canonicals, Extends}
use Rattle.services.proofs.values.put_each_value.Given as goal

abbrev pub invariant-loop-value : goal.invariant-loop-value
invariant-loop-value g l = (l.out.items ++ canonicals (drop l.value-index l.values) ≡ l.fn.out.items ++ canonicals l.values) ×
    Extends l.fn.out.items l.out.items

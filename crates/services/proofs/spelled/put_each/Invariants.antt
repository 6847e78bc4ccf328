use Rattle.std.proofs.Common.{◌≡◌, ◌++◌, drop}
use Rattle.tags.specs.Canonical.{Extends}
use Rattle.services.specs.CanonicalRequest.{in_turn}
use Rattle.services.proofs.spelled.put_each.Given as goal

-- what was written, and what is left to be written
abbrev pub invariant-loop-part : goal.invariant-loop-part
invariant-loop-part g l = (l.out.items ++ in_turn g.P.Spelled.octets (drop l.part-index l.parts) ≡ l.fn.out.items ++ in_turn g.P.Spelled.octets l.parts) ×
    Extends l.fn.out.items l.out.items

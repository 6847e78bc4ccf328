use Rattle.std.proofs.Common.{◌≡◌, ◌-◌, ◌+◌, length}
use Rattle.site_ports.specs.Drafts.{SameLeft}
use Rattle.site_ports.proofs.draft.Draft.reach.Given as goal

abbrev pub invariant-loop-self : goal.invariant-loop-self
invariant-loop-self g l = SameLeft l.fn.self.changes.items l.self.changes.items × (l.self.out ≡ l.fn.self.out)

abbrev pub decreases-loop-self : goal.decreases-loop-self
decreases-loop-self g l = l.port + 1 - length l.self.changes.items

use Rattle.std.proofs.Common.{rules}
use Rattle.site_ports.proofs.Drafts.{same_more}
use Rattle.site_ports.proofs.draft.Draft.reach.Goals as goal

pub loop-self-preserved : goal.loop-self-preserved
loop-self-preserved g c =
    (same_more _ _ _ (c.loop-self.invariant.0) c.in_ok-push.ensures.items, c.loop-self.invariant.1)

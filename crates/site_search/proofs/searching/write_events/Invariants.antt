use Rattle.std.proofs.Common.{length}
use Rattle.std.specs.Io.KnownBytes.{Appends}
use Rattle.site_storm.specs.site_run.site_history.Printed.{Known}
use Rattle.site_storm.specs.Lines.{events_text}
use Rattle.site_search.proofs.searching.write_events.Given as goal

-- what the rest leads to, all lead to
abbrev pub invariant-loop-left : goal.invariant-loop-left
invariant-loop-left g l =
    (new : Known) → Appends (g.W.Write.contents l.out) new (events_text l.spelling l.left) →
    Appends (g.W.Write.contents l.fn.out) new (events_text l.spelling l.events)

abbrev pub decreases-loop-left : goal.decreases-loop-left
decreases-loop-left g l = length l.left

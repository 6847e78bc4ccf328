use Rattle.std.proofs.Common.{ℕ, List, Option, drop}
use Rattle.std.specs.Prelude.{flat_map}
use Rattle.std.specs.Io.KnownBytes.{Appends}
use Rattle.site_trace.specs.Lines.{text_behind}
use Rattle.site_trace.proofs.tracing.print_bus.Given as goal

-- what the rest leads to, all lead to
abbrev pub invariant-loop-held : goal.invariant-loop-held
invariant-loop-held g l =
    (new : Option (List ℕ)) →
    Appends (g.W.Write.contents l.out) new
    (flat_map (text_behind l.stations l.before l.bus.net l.moment) (drop l.held-index l.bus.recent.items)) →
    Appends (g.W.Write.contents l.fn.out) new
    (flat_map (text_behind l.stations l.before l.bus.net l.moment) l.bus.recent.items)

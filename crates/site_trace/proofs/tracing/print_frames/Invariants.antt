use Rattle.std.proofs.Common.{ℕ, List, Option, drop}
use Rattle.std.specs.Prelude.{flat_map}
use Rattle.std.specs.Io.KnownBytes.{Appends}
use Rattle.bus_traffic.specs.Bus.{bus_of}
use Rattle.site_trace.specs.Lines.{bus_text}
use Rattle.site_trace.proofs.tracing.print_frames.Given as goal

-- what the rest leads to, all lead to
abbrev pub invariant-loop-bus : goal.invariant-loop-bus
invariant-loop-bus g l =
    (new : Option (List ℕ)) →
    Appends (g.W.Write.contents l.out) new
    (flat_map (λ b. bus_text l.stations l.before l.moment (bus_of b)) (drop l.bus-index l.buses)) →
    Appends (g.W.Write.contents l.fn.out) new
    (flat_map (λ b. bus_text l.stations l.before l.moment (bus_of b)) l.buses)

use Rattle.std.proofs.Common.{◌≡◌, ◌+◌, ℕ, List, Option, drop}
use Rattle.std.specs.Io.KnownBytes.{Appends}
use Rattle.site_trace.specs.Lines.{items_text}
use Rattle.site_trace.proofs.tracing.print_items.Given as goal

-- what the rest leads to, all lead to
abbrev pub invariant-loop-item : goal.invariant-loop-item
invariant-loop-item g l =
    (l.number ≡ l.fn.number + l.item-index)
    × ((new : Option (List ℕ)) →
    Appends (g.W.Write.contents l.out) new (items_text l.stations l.number (drop l.item-index l.items) l.moment) →
    Appends (g.W.Write.contents l.fn.out) new (items_text l.stations l.fn.number l.items l.moment))

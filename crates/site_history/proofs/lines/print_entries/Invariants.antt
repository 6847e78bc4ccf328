use Rattle.std.proofs.Common.{drop}
use Rattle.std.specs.Io.KnownBytes.{Appends}
use Rattle.site_history.specs.Printed.{Known, entries_text}
use Rattle.site_history.proofs.lines.print_entries.Given as goal

-- what the rest leads to, all lead to
abbrev pub invariant-loop-entry : goal.invariant-loop-entry
invariant-loop-entry g l =
    (new : Known) → Appends (g.W.Write.contents l.out) new (entries_text l.spelling l.stations l.history (drop l.entry-index l.entries)) →
    Appends (g.W.Write.contents l.fn.out) new (entries_text l.spelling l.stations l.history l.entries)

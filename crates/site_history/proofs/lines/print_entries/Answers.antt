use Rattle.std.proofs.Common.{rules, arith, ◌≡◌, sym, subst, drop, List, []}
use Rattle.std.proofs.lemmas.Grind.{common_steps}
use Rattle.std.specs.Io.KnownBytes.{Appends}
use Rattle.site_history.specs.Printed.{entries_text, entry_text, line}
use Rattle.site_history.proofs.PrintLaws.{appends_nothing, texts_from}
use Rattle.site_history.proofs.lines.print_entries.Goals as goal

pub loop-entry-preserved : goal.loop-entry-preserved
loop-entry-preserved g c = λ new q. c.loop-entry.invariant new
    (texts_from (λ e. line (entry_text c.args.spelling c.args.stations.now c.args.history.now e)) c.args.entries.now c.loop-entry.entry-index c.entry-item.result
    (g.W.Write.contents c.loop-entry.out) (g.W.Write.contents c.print_entry.new.out) new (search rules) c.entry-item.is
    c.in_ok-print_entry.ensures q)

pub returns : goal.returns
returns g c =
    let none : drop c.loop-entry.entry-index c.args.entries.now ≡ [] = grind (arith, common_steps) in
    let k = g.W.Write.contents c.loop-entry.out in
    c.loop-entry.invariant k (subst (λ (l : List _). Appends k k (entries_text c.args.spelling c.args.stations.now c.args.history.now l)) (sym none)
    (appends_nothing k))

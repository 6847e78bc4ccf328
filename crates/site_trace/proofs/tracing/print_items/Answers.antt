use Rattle.std.proofs.Common.{rules, arith, ◌≡◌, sym, subst, drop, List, []}
use Rattle.std.proofs.lemmas.Grind.{common_steps}
use Rattle.std.specs.Io.KnownBytes.{Appends}
use Rattle.site_trace.specs.Lines.{items_text}
use Rattle.site_trace.proofs.TraceLaws.{appends_nothing, items_from}
use Rattle.site_trace.proofs.tracing.print_items.Goals as goal

pub loop-item-preserved : goal.loop-item-preserved
loop-item-preserved g c = (
  search rules,
  λ new q. c.loop-item.invariant.1 new
      (items_from c.args.stations.now c.loop-item.number c.args.items.now c.loop-item.item-index c.item-item.result
      c.args.moment (g.W.Write.contents c.loop-item.out) (g.W.Write.contents c.print_item.new.out) new (search rules)
      c.item-item.is c.in_ok-print_item.ensures q),
)

pub returns : goal.returns
returns g c =
    let none : drop c.loop-item.item-index c.args.items.now ≡ [] = grind (arith, common_steps) in
    let k = g.W.Write.contents c.loop-item.out in
    c.loop-item.invariant.1 k (subst
    (λ (l : List _). Appends k k (items_text c.args.stations.now c.loop-item.number l c.args.moment)) (sym none)
    (appends_nothing k))

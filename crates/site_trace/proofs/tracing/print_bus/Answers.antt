use Rattle.std.proofs.Common.{rules, arith, ◌≡◌, ◌∙◌, ap, sym, subst, drop, get_or, List, []}
use Rattle.std.proofs.lemmas.Grind.{common_steps}
use Rattle.std.specs.Prelude.{flat_map}
use Rattle.std.specs.Io.KnownBytes.{Appends}
use Rattle.site_trace.specs.Lines.{text_behind}
use Rattle.site_trace.proofs.TraceLaws.{appends_nothing, texts_from}
use Rattle.site_trace.proofs.tracing.print_bus.Goals as goal

pub loop-held-preserved : goal.loop-held-preserved
loop-held-preserved g c = λ new q. c.loop-held.invariant new
    (texts_from (text_behind c.args.stations.now c.args.before c.args.bus.now.net c.args.moment)
    c.args.bus.now.recent.items c.loop-held.held-index c.held-item.result (g.W.Write.contents c.loop-held.out)
    (g.W.Write.contents c.print_behind.new.out) new (search rules)
    (c.held-item.is ∙ ap (λ (l : List _). get_or l c.loop-held.held-index c.held-item.result)
    c.deref-held-items.ensures.value)
    (subst (λ r. Appends (g.W.Write.contents c.loop-held.out) (g.W.Write.contents c.print_behind.new.out)
    (text_behind c.args.stations.now c.args.before c.args.bus.now.net c.args.moment r)) c.recent.ensures
    c.in_ok-print_behind.ensures) q)

pub returns : goal.returns
returns g c =
    let none : drop c.loop-held.held-index c.args.bus.now.recent.items ≡ [] = grind (arith, common_steps) in
    let k = g.W.Write.contents c.loop-held.out in
    c.loop-held.invariant k (subst (λ (l : List _). Appends k k
    (flat_map (text_behind c.args.stations.now c.args.before c.args.bus.now.net c.args.moment) l)) (sym none)
    (appends_nothing k))

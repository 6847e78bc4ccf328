use Rattle.std.proofs.Common.{rules, arith, ◌≡◌, sym, subst, drop, ℕ, List, []}
use Rattle.std.proofs.lemmas.Grind.{common_steps}
use Rattle.std.specs.Prelude.{flat_map}
use Rattle.std.specs.Io.KnownBytes.{Appends}
use Rattle.bus_traffic.specs.Bus.{bus_of}
use Rattle.site_trace.specs.Lines.{bus_text}
use Rattle.site_trace.proofs.TraceLaws.{appends_nothing, texts_from, texts_of_map}
use Rattle.site_trace.proofs.tracing.print_frames.Goals as goal

pub loop-bus-preserved : goal.loop-bus-preserved
loop-bus-preserved g c = λ new q. c.loop-bus.invariant new
    (texts_from (λ b. bus_text c.args.stations.now c.args.before c.args.moment (bus_of b)) c.args.buses.now
    c.loop-bus.bus-index c.bus-item.result (g.W.Write.contents c.loop-bus.out)
    (g.W.Write.contents c.print_bus.new.out) new (search rules) c.bus-item.is c.in_ok-print_bus.ensures q)

pub returns : goal.returns
returns g c =
    let none : drop c.loop-bus.bus-index c.args.buses.now ≡ [] = grind (arith, common_steps) in
    let k = g.W.Write.contents c.loop-bus.out in
    subst (λ (t : List ℕ). Appends (g.W.Write.contents c.args.out.now) k t)
    (sym (texts_of_map (bus_text c.args.stations.now c.args.before c.args.moment) (λ b. bus_of b) c.args.buses.now))
    (c.loop-bus.invariant k (subst (λ (l : List _). Appends k k
    (flat_map (λ b. bus_text c.args.stations.now c.args.before c.args.moment (bus_of b)) l)) (sym none)
    (appends_nothing k)))

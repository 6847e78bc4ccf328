use Rattle.std.proofs.Common.{◌∙◌, ap, drop, map, List}
use Rattle.bus_traffic.specs.Bus.{bus_of}
use Rattle.buses.specs.Puts.{BusesState}
use Rattle.site_run.proofs.RunLaws.{trace_printed}
use Rattle.site_run.proofs.running.print_trace.Goals as goal

pub returns : goal.returns
returns g c = trace_printed c.print_frames.result c.args.items c.args.frames c.args.world.now
    c.stations-stations.result.now c.behind.result.now (map (λ b. bus_of b) c.as_slice.result.now)
    c.moment-moment.result (g.W.Write.contents c.args.out.now) (g.W.Write.contents c.print_items.new.out)
    (g.W.Write.contents c.print_frames.new.out)
    (c.stations-stations.ensures.stations ∙ ap (λ s. s.stations) c.site.ensures)
    (c.behind.ensures ∙ ap (λ (l : List _). drop c.args.items l) c.items.ensures.items)
    (ap (λ (l : List _). map (λ b. bus_of b) l) c.as_slice.ensures.value
    ∙ ap (λ (b : BusesState _). b.buses) c.buses.ensures)
    c.moment-moment.ensures c.in_ok-print_items.ensures c.print_frames.ensures

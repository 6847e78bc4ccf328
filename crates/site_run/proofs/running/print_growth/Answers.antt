use Rattle.std.proofs.Common.{◌∙◌, ap}
use Rattle.site_run.proofs.RunLaws.{growth_printed}
use Rattle.site_run.proofs.running.print_growth.Goals as goal

pub returns : goal.returns
returns g c = growth_printed c.print_entries.result c.args.telling c.args.items c.args.frames c.args.entries
    c.args.world.now c.stations.result.now c.history-history.result.now c.behind.result.now (g.W.Write.contents c.args.out.now)
    (g.W.Write.contents c.print_told.new.out) (g.W.Write.contents c.print_entries.new.out)
    (c.stations.ensures.stations ∙ ap (λ s. s.stations) c.site.ensures)
    c.history-history.ensures.history c.behind.ensures
    c.in_ok-print_told.ensures c.print_entries.ensures

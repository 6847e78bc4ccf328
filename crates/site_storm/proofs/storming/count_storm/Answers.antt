use Rattle.std.proofs.lemmas.Result.{on_ok_weaker}
use Rattle.site_storm.proofs.CountedLaws.{whole_counted}
use Rattle.site_storm.proofs.storming.count_storm.Goals as goal

-- what was counted is of the whole
pub returns : goal.returns
returns g c = on_ok_weaker c.print_storm-printed.result
    (whole_counted c.args.weather.steps c.args.world c.new-counted.result (g.L.Write.contents c.args.lines.now)
    (g.L.Write.contents c.print_storm-printed.new.lines) (g.W.Write.contents c.args.out.now)
    (g.W.Write.contents c.print_storm-printed.new.out) c.requires.led c.new-counted.ensures)
    c.print_storm-printed.ensures

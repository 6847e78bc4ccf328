use Rattle.site_storm.proofs.CountedLaws.{counts_behind}
use Rattle.site_storm.proofs.storming.run_counted.Goals as goal

-- a storm was counted behind the script
pub returns-in-Ok : goal.returns-in-Ok
returns-in-Ok g c = counts_behind c.count_storm.result c.args.opened.lines c.args.opened.steps c.args.weather.steps
    c.args.opened.world c.take_script.new.world c.into_internetwork.result (g.L.Write.contents c.args.lines.now)
    (g.L.Write.contents c.count_storm.new.lines) (g.W.Write.contents c.args.out.now)
    (g.W.Write.contents c.count_storm.new.out) c.count_storm.ensures c.into_internetwork.ensures.same c.in-Ok.ensures

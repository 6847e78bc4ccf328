use Rattle.std.proofs.Common.{◌-◌, arith}
use Rattle.site_storm.proofs.RageLaws.{none_leads, one_leads}
use Rattle.site_storm.proofs.raging.rage.Goals as goal

pub loop-left-preserved : goal.loop-left-preserved
loop-left-preserved g c =
    one_leads c.args.spelling c.args.weather.steps c.loop-left.left (c.loop-left.left - 1) c.args.world.now c.loop-left.world
    c.rage_once.new.world (g.L.Write.contents c.args.lines.now) (g.L.Write.contents c.loop-left.lines)
    (g.L.Write.contents c.rage_once.new.lines) (g.W.Write.contents c.args.out.now) (g.W.Write.contents c.loop-left.out)
    (g.W.Write.contents c.rage_once.new.out) (omega (arith, c.loop-left-test.true)) c.loop-left.invariant
    c.in_ok-rage_once.ensures

pub returns : goal.returns
returns g c =
    none_leads c.args.spelling c.args.weather.steps c.loop-left.left c.args.world.now c.loop-left.world
    (g.L.Write.contents c.args.lines.now) (g.L.Write.contents c.loop-left.lines) (g.W.Write.contents c.args.out.now)
    (g.W.Write.contents c.loop-left.out) (omega (arith, c.loop-left-test.false)) c.loop-left.invariant

use Rattle.std.proofs.Common.{◌-◌, arith}
use Rattle.site_storm.proofs.CountedLaws.{none_leads, one_leads}
use Rattle.site_storm.proofs.counted.Counted.rage.Goals as goal

pub loop-left-preserved : goal.loop-left-preserved
loop-left-preserved g c =
    one_leads c.args.weather.steps c.loop-left.left (c.loop-left.left - 1) c.args.self.now c.loop-left.self
    c.rage_once.new.self (g.L.Write.contents c.args.lines.now) (g.L.Write.contents c.loop-left.lines)
    (g.L.Write.contents c.rage_once.new.lines) (omega (arith, c.loop-left-test.true)) c.loop-left.invariant
    c.in_ok-rage_once.ensures

pub returns : goal.returns
returns g c =
    none_leads c.args.weather.steps c.loop-left.left c.args.self.now c.loop-left.self
    (g.L.Write.contents c.args.lines.now) (g.L.Write.contents c.loop-left.lines)
    (omega (arith, c.loop-left-test.false)) c.loop-left.invariant

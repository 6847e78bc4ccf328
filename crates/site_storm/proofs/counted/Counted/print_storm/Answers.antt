use Rattle.std.proofs.lemmas.Result.{on_ok_weaker}
use Rattle.site_storm.proofs.counted.Counted.print_storm.Goals as goal

pub returns : goal.returns
returns g c = on_ok_weaker c.print_line.result
    (λ printed. record {
      at_end = c.rage.new.self;
      rages = c.in_ok-rage.ensures;
      left = c.let_go.new.self;
      lets_go = c.in_ok-let_go.ensures;
      counts = c.counts.result;
      has = c.counts.ensures;
      printed = printed;
    })
    c.print_line.ensures

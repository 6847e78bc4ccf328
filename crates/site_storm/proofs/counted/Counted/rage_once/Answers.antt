use Rattle.std.proofs.lemmas.Result.{on_ok_weaker}
use Rattle.site_storm.proofs.counted.Counted.rage_once.Goals as goal

pub returns : goal.returns
returns g c = on_ok_weaker c.let_go_at.result
    (λ p. record {
      event = c.in_ok-event.event;
      one = record {
        sound = c.in_ok-event.ensures.sound;
        made = c.make.new.self;
        makes = c.make.ensures;
        lets_go = p;
      };
      put_down = c.in_ok-put_down.ensures;
    })
    c.let_go_at.ensures

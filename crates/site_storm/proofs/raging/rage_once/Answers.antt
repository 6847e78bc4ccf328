use Rattle.std.proofs.lemmas.Result.{on_ok_weaker}
use Rattle.site_storm.proofs.raging.rage_once.Goals as goal

pub returns : goal.returns
returns g c =
    on_ok_weaker c.make.result
    (λ printed. record {
      event = c.in_ok-event.event;
      sound = c.in_ok-event.ensures.sound;
      printed = printed;
      put_down = c.in_ok-put_down.ensures;
    })
    (rw c.entries.ensures at c.make.ensures)

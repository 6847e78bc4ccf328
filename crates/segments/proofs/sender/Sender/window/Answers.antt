use Rattle.std.proofs.Common.{rules, ◌+◌, ◌-◌}
use Rattle.segments.specs.contracts.sender.Sender.{the_view}
use Rattle.segments.proofs.PieceLaws.{window_is}
use Rattle.segments.proofs.sender.Sender.window.Goals as goal

pub returns : goal.returns
returns c =
    let s = c.self.inside in
    rw (← c.self.view_is) (window_is c.args.body.now (the_view s) c.piece_count-count.result (s.acknowledged + c.min.result - s.acknowledged) (search rules)
    (search rules))

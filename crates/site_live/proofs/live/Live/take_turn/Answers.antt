use Rattle.std.proofs.Common.{ap, length, option_map, refl, subst, sym}
use Rattle.site_live.proofs.LapLaws.{lap_left}
use Rattle.site_live.proofs.LiveLaws.{told_turn}
use Rattle.site_live.proofs.live.Live.take_turn.Goals as goal
use Rattle.site_live.specs.Laps.{GoesOn}
use Rattle.site_live.specs.Running.{LiveState}

-- a turn was taken and printed, and then what was printed is let go of
pub returns-clause-lives : goal.returns-clause-lives
returns-clause-lives g c =
    told_turn c.let_go.result c.args.spelling c.args.next c.args.asked (option_map (λ a. a.now) c.as_ref.result)
    (g.W.Wire.latest c.turn-answer.new.wire) c.turn-answer.result (length c.history-entries.result.now)
    c.turn-answer.new.self c.args.lap c.args.self.now
    (record { runner = c.self.inside.runner; counts = c.self.inside.counts; lap = c.self.inside.lap })
    (record { runner = c.turn-answer.new.self; counts = c.self.inside.counts; lap = c.args.lap }) c.let_go.new.self
    (g.O.Write.contents c.args.out.now) (g.O.Write.contents c.print_turn.new.out) (sym c.self.view_is) c.requires.sound
    (subst (λ (l : LiveState _). GoesOn c.args.next l.lap c.args.lap l.runner.world) (sym c.self.view_is)
    c.requires.goes_on) c.requires.told c.turn-answer.ensures.turns (ap length c.history-entries.ensures.history)
    c.as_ref.ensures.value c.in_ok-print_turn.ensures refl c.let_go.ensures

-- where it has come to
pub returns-clause-lap : goal.returns-clause-lap
returns-clause-lap g c = lap_left c.let_go.result c.args.spelling
    (record { runner = c.turn-answer.new.self; counts = c.self.inside.counts; lap = c.args.lap }) c.let_go.new.self
    c.args.lap refl c.let_go.ensures

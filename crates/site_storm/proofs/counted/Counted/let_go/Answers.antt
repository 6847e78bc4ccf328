use Rattle.std.proofs.Common.{subst}
use Rattle.site_storm.proofs.counted.Counted.let_go.Goals as goal
use Rattle.site_storm.specs.Counted.{CountedState, CountsMessages}

pub returns : goal.returns
returns g c = record {
  counted = c.count_messages.new.self;
  messages = subst (λ (s : CountedState _). CountsMessages s c.count_messages.new.self) c.in_ok-count_entries.ensures
      c.in_ok-count_messages.ensures;
  forgets = c.forget.ensures;
}

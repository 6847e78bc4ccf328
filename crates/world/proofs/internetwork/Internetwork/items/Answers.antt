use Rattle.std.proofs.Common.{◌∙◌, ap, sym, drop, ℕ}
use Rattle.world.proofs.internetwork.Internetwork.items.Goals as goal
use Rattle.world.specs.World.{WorldState}

-- where the first is kept all are
pub returns-clause-all : goal.returns-clause-all
returns-clause-all g c = λ whole. c.kept.ensures
    ∙ ap (λ (w : WorldState _). drop w.first_item w.items) c.self.view_is
    ∙ ap (λ (n : ℕ). drop n c.args.self.now.items) whole

use Rattle.std.proofs.Common.{arith, ◌+◌, refl, ap, subst, ℕ}
use Rattle.world.proofs.Standing.{steady_later}
use Rattle.world.proofs.internetwork.Internetwork.tick.Goals as goal
use Rattle.world.specs.Refusals.{IsNoTick}
use Rattle.world.specs.Step.{PassesNow}
use Rattle.world.specs.World.{WorldState}

-- so many don't pass
pub returns-then-not-may_pass-clause-cause : goal.returns-then-not-may_pass-clause-cause
returns-then-not-may_pass-clause-cause g c = (
  refl,
  subst (λ (m : ℕ). IsNoTick c.args.n m) (ap (λ (w : WorldState _). w.moment) c.self.view_is)
      (c.if-not-may_pass.ensures.refused refl),
)

pub overflow_add-self : goal.overflow_add-self
overflow_add-self g c = let passes = c.if-not-may_pass.ensures.passes refl in omega (arith, passes.greatest)

-- all stand at that moment
pub invariant_of-self : goal.invariant_of-self
invariant_of-self g c =
    let passes = c.if-not-may_pass.ensures.passes refl in (
      steady_later c.self.inside.site c.self.inside.moment (c.self.inside.moment + c.args.n) c.self.inside.nodes.items
          c.self.inside.log.items.items (omega arith) passes.greatest c.self.invariant.0,
      c.self.invariant.1,
      c.self.invariant.2,
    )

pub returns-clause-ticks : goal.returns-clause-ticks
returns-clause-ticks g c = record {
  passes = subst (λ (m : ℕ). PassesNow c.args.n m) (ap (λ (w : WorldState _). w.moment) c.self.view_is)
      (c.if-not-may_pass.ensures.passes refl);
  is = ap (λ (w : WorldState _). record w { moment = w.moment + c.args.n }) c.self.view_is;
}

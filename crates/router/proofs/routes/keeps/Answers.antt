use Rattle.std.proofs.Common.{inl, inr}
use Rattle.router.proofs.RouteLaws.{news_change}
use Rattle.router.proofs.routes.keeps.Goals as goal

-- one network has news
pub returns-then-not-keeps_one : goal.returns-then-not-keeps_one
returns-then-not-keeps_one g c = (
  λ no. absurd (cc no),
  λ same. elim c.if-not-keeps_one.ensures.news [
    | inl known ↦ absurd (cc known)
    | inr news ↦ absurd (news_change c.args.ports.now c.args.route c.loop-net.rest.now c.in-Some.behind.now c.in-Some.net _ _ c.in-Some.ensures.front news c.loop-net.invariant same)
  ],
)

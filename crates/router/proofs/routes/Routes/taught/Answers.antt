use Rattle.std.proofs.Common.{◌∙◌, inl, inr}
use Rattle.std.proofs.lemmas.Result.{err_from_is_err_and}
use Rattle.router.proofs.RouteLaws.{few_fits, kept_fits, many_overfull, news_teach}
use Rattle.router.proofs.routes.Routes.taught.Goals as goal

-- the routes stay
pub returns-then-keeps-clause-fits : goal.returns-then-keeps-clause-fits
returns-then-keeps-clause-fits g c =
    rw (← c.self.view_is)
    (kept_fits c.args.ports.now c.args.route c.args.contents.now c.self.inside.held (c.keeps.ensures.0 c.if-keeps.true) c.self.invariant)

-- there are no more than a router knows
pub returns-clause-fits : goal.returns-clause-fits
returns-clause-fits g c = few_fits c.args.ports.now c.args.route c.args.contents.now c.args.self.now c.in_ok-routes.ensures.fits

-- it teaches something
pub returns-clause-copied : goal.returns-clause-copied
returns-clause-copied g c =
    news_teach c.args.ports.now c.args.route c.args.contents.now c.args.self.now
    (λ same. absurd (cc (c.if-keeps.ensures.1 (rw c.self.view_is same))))

-- they are too many
pub returns-in_err-routes-clause-cause : goal.returns-in_err-routes-clause-cause
returns-in_err-routes-clause-cause g c =
    let p = err_from_is_err_and c.from_residual.result c.from_residual.ensures.1 in
    rw (p.1) (elim c.in_err-routes.ensures.cause [
      | inl memory ↦ inl (p.2 ∙ memory)
      | inr full ↦ inr (
        p.2 ∙ full.0,
        many_overfull c.args.ports.now c.args.route c.args.contents.now c.args.self.now
            (λ same. absurd (cc (c.if-keeps.ensures.1 (rw c.self.view_is same)))) full.1,
      )
    ])

use Rattle.std.proofs.Common.{◌≡◌, ◌∙◌, sym, ap, subst, inl, inr, true, List}
use Rattle.std.specs.Prelude.{IfSome}
use Rattle.npdu.specs.declared.mac.Station.{Station}
use Rattle.router.specs.Plan.{heard_of}
use Rattle.router.specs.Router.{RouterState}
use Rattle.router.specs.Routes.{teaches}
use Rattle.router.specs.Said.{route_back}
use Rattle.router.proofs.RouteLaws.{overfull_same}
use Rattle.router.proofs.router.Router.learns.Goals as goal

pub returns-in-Ok-None-clause-fits : goal.returns-in-Ok-None-clause-fits
returns-in-Ok-None-clause-fits g c =
    let kept = ap (λ (r : RouterState). r.routes) c.self.view_is in
    let same = overfull_same _ _ (route_back (heard_of c.args.heard.now)) c.args.heard.now.view.body.now _ _ c.ports.ensures kept in
    sym same ∙ c.in-Ok-None.ensures.fits

pub returns-in-Ok-Some-clause-fits : goal.returns-in-Ok-Some-clause-fits
returns-in-Ok-Some-clause-fits g c =
    let kept = ap (λ (r : RouterState). r.routes) c.self.view_is in
    let same = overfull_same _ _ (route_back (heard_of c.args.heard.now)) c.args.heard.now.view.body.now _ _ c.ports.ensures kept in
    sym same ∙ c.in-Ok-Some.ensures.fits

pub returns-in-Ok-Some-clause-copied : goal.returns-in-Ok-Some-clause-copied
returns-in-Ok-Some-clause-copied g c = λ u.
    sym (ap (λ (ps : List Station). teaches ps c.args.heard.now.view.body.now) c.ports.ensures)
    ∙ subst (λ (o : _). IfSome o (λ r. teaches c.ports.result.now c.args.heard.now.view.body.now ≡ true))
    c.in-Ok-Some.field-0-is c.in-Ok-Some.ensures.copied

-- they are too many
pub returns-in-Err-clause-cause : goal.returns-in-Err-clause-cause
returns-in-Err-clause-cause g c =
    let kept = ap (λ (r : RouterState). r.routes) c.self.view_is in
    let same = overfull_same _ _ (route_back (heard_of c.args.heard.now)) c.args.heard.now.view.body.now _ _ c.ports.ensures kept in
    elim c.in-Err.ensures.cause [
      | inl memory ↦ inl memory
      | inr full ↦ inr (full.0, sym same ∙ full.1)
    ]

use Rattle.std.proofs.Common.{◌∙◌, subst, inl, inr}
use Rattle.std.proofs.lemmas.Result.{err_from_is_err_and}
use Rattle.object_model.specs.declared.site.SiteObjects.{SiteObjects}
use Rattle.object_model.specs.Site.{IsFaultySite}
use Rattle.console.proofs.SiteLaws.{not_faulty}
use Rattle.console.proofs.builtin.Builtin.new.Goals as goal

pub returns-in_err-device-clause-memory : goal.returns-in_err-device-clause-memory
returns-in_err-device-clause-memory g c =
    let p = err_from_is_err_and c.from_residual-in_err-device.result c.from_residual-in_err-device.ensures.1 in
    rw (p.1) (elim c.in_err-device.ensures.refused [
      | inl memory ↦ p.2 ∙ memory
      | inr faulty ↦ absurd (not_faulty (subst (λ (s : SiteObjects _). IsFaultySite s) c.in_ok-builtin_site.ensures faulty.1))
    ])

use Rattle.std.proofs.Common.{◌∙◌}
use Rattle.std.proofs.lemmas.Result.{err_from_is_err_and}
use Rattle.world_sites.proofs.FitLaws.{only_memory}
use Rattle.world_sites.proofs.relays.put_manager.Goals as goal

-- a manager that is fit is made, if there is memory
pub returns-in_err-manager-clause-cause : goal.returns-in_err-manager-clause-cause
returns-in_err-manager-clause-cause g c =
    let p = err_from_is_err_and c.from_residual-in_err-manager.result c.from_residual-in_err-manager.ensures.1 in
    rw (p.1) (p.2 ∙ only_memory c.args.all.now c.args.link c.in-Ip.network c.in-Ip.subnet c.in-Ip.address
    c.as_slice-2.result.now c.in_err-manager.field-0.0 c.in-Ip.is (c.as_slice-2.ensures ∙ c.in_ok-managers.ensures)
    c.requires.fit c.in_err-manager.ensures.cause)

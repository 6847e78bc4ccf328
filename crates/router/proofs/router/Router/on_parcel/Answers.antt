use Rattle.std.proofs.Common.{◌≡◌, inl, inr, rules, IfErr}
use Rattle.std.specs.Prelude.{◌⊎◌}
use Rattle.router.specs.Hearing.{IsOverfull}
use Rattle.router.specs.Plan.{parcel_of}
use Rattle.router.proofs.HearLaws.{if_err, parts_overfull}
use Rattle.router.proofs.router.Router.on_parcel.Goals as goal
use Rattle.tags.specs.declared.fault.Fault.TheVariants.{Memory, TableFull}

-- the parts of a parcel are refused as it is
pub returns-in_err-plan-clause-cause : goal.returns-in_err-plan-clause-cause
returns-in_err-plan-clause-cause g c =
    let p = c.args.parcel.now in
    let st = c.args.self.now in
    let cause : IfErr c.from_residual.result (λ fault. (fault ≡ Memory) ⊎ ((fault ≡ TableFull) ×
    IsOverfull c.args.port (parcel_of {A = g.row.A.Denot} p.from p.to c.as_slice-npdu.result.now p.stamp) st)) = search rules in
    if_err c.from_residual.result (λ fault why. elim why [
      | inl memory ↦ inl memory
      | inr full ↦ inr (full.0, parts_overfull c.args.port p c.as_slice-npdu.result.now st c.as_slice-npdu.ensures full.1)
    ]) cause

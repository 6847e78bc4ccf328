use Rattle.std.proofs.Common.{◌≡◌, ◌⊎◌, subst, ℕ}
use Rattle.std.proofs.lemmas.Result.{err_from_is_err_and}
use Rattle.buses.specs.Finding.{HasEarAt, HasEarOf, HasNoEarOf}
use Rattle.buses.specs.Hearing.{HearsAt}
use Rattle.world.proofs.EventLaws.{err_map}
use Rattle.world.proofs.HearingLaws.{ear_found, hearing_refused, octets_refused}
use Rattle.world.proofs.internetwork.Internetwork.hear.Goals as goal
use Rattle.world.specs.World.{WorldState}
use Rattle.tags.specs.declared.fault.Fault.TheVariants.{Memory, NoSuch}

-- its ear hears nothing
pub returns-in_err-at-clause-cause : goal.returns-in_err-at-clause-cause
returns-in_err-at-clause-cause g c =
    let p = err_from_is_err_and c.from_residual-in_err-at.result c.from_residual-in_err-at.ensures.1 in
    rw (p.1) (rw (p.2) (hearing_refused c.args.self.now c.args.network c.args.place c.args.octets.now
    c.in_ok-listener.listener c.in_ok-listener.ensures.listens c.in_err-at.field-0.0
    (subst (λ (w : WorldState _).
    ((c.in_err-at.field-0.0 ≡ NoSuch) × HasNoEarOf c.args.network c.in_ok-listener.listener.mac w.buses.buses)
    ⊎ ((c.in_err-at.field-0.0 ≡ Memory) × HasEarOf c.args.network c.in_ok-listener.listener.mac w.buses.buses))
    c.self.view_is c.in_err-at.ensures.cause)))

-- the ear is there
pub settle-requires-clause-ear : goal.settle-requires-clause-ear
settle-requires-clause-ear g c =
    subst (λ (w : WorldState _). HasEarAt c.in_ok-at.at.bus c.in_ok-at.at.ear w.buses.buses) c.self.view_is
    (ear_found c.now-now.result c.args.network c.in_ok-listener.listener.mac c.args.octets.now _ c.in_ok-at.at
    c.in_ok-at.ensures.heard)

-- what it hears is refused
pub returns-clause-cause : goal.returns-clause-cause
returns-clause-cause g c =
    err_map c.settle.result (λ fault why. octets_refused c.args.self.now c.args.network c.args.place
    c.args.octets.now c.in_ok-listener.listener c.in_ok-listener.ensures.listens fault c.in_ok-at.at
    (subst (λ (m : ℕ). HearsAt m c.args.network c.in_ok-listener.listener.mac c.args.octets.now
    c.args.self.now.buses.buses c.in_ok-at.at) c.now-now.ensures.moment
    (subst (λ (w : WorldState _). HearsAt c.now-now.result c.args.network c.in_ok-listener.listener.mac
    c.args.octets.now w.buses.buses c.in_ok-at.at) c.self.view_is c.in_ok-at.ensures.heard)) why)
    c.settle.ensures.cause

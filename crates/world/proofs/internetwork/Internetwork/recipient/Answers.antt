use Rattle.std.proofs.Common.{◌≡◌, ◌∙◌, sym, ap, subst, false}
use Rattle.std.proofs.lemmas.Result.{err_from_is_err_and}
use Rattle.std.specs.Prelude.{slice_get}
use Rattle.npdu.specs.declared.mac.Station.{Station}
use Rattle.traffic.specs.Seeking.{is_young}
use Rattle.world.proofs.FindingLaws.{nowhere_at, too_old}
use Rattle.world.proofs.internetwork.Internetwork.recipient.Goals as goal
use Rattle.world.specs.World.{WorldState}
use Rattle.world_sites.specs.Finding.{IsNobodyAt, IsNodeAt}

-- it goes to nobody
pub returns-in_default-clause-cause : goal.returns-in_default-clause-cause
returns-in_default-clause-cause g c =
    nowhere_at c.args.number c.args.self.now c.in_ok-item.item.now
    (ap (λ (w : WorldState _). slice_get w.items c.args.number) (sym c.self.view_is) ∙ c.in_ok-item.ensures.item)
    (subst (λ (x : Station). IsNobodyAt x c.args.self.now.nodes) c.addressee_of.ensures c.in_default.ensures.none)

-- it is too old
pub returns-in_err-in_time-clause-cause : goal.returns-in_err-in_time-clause-cause
returns-in_err-in_time-clause-cause g c =
    let p = err_from_is_err_and c.from_residual-in_err-in_time.result c.from_residual-in_err-in_time.ensures.1 in
    let young : is_young c.args.self.now.moment c.in_ok-item.item.now ≡ false =
    ap (λ (w : WorldState _). is_young w.moment c.in_ok-item.item.now) (sym c.self.view_is) ∙ c.in_err-in_time.ensures.old in
    rw (p.1) (rw (p.2) (too_old c.args.number c.args.self.now c.in_ok-item.item.now c.in-Some.field-0.place
    c.in-Some.field-0.port c.in-Some.field-0.node.now _ c.in_err-in_time.ensures.cause
    (ap (λ (w : WorldState _). slice_get w.items c.args.number) (sym c.self.view_is) ∙ c.in_ok-item.ensures.item)
    (subst (λ (x : Station). IsNodeAt x c.args.self.now.nodes c.in-Some.field-0.place c.in-Some.field-0.port
    c.in-Some.field-0.node.now) c.addressee_of.ensures c.in-Some.ensures.there) young))

use Rattle.std.proofs.Common.{◌≡◌, ◌⊎◌, inl, subst, ℕ, List}
use Rattle.std.proofs.lemmas.Result.{err_from_is_err_and}
use Rattle.world_log.specs.site_node.Plan.{left_by}
use Rattle.world_log.specs.site_node.Refusals.{HearingIsRefused}
use Rattle.world_log.specs.site_node.Steps.{NodeHears}
use Rattle.tags.specs.declared.fault.Fault.TheVariants.{Memory}
use Rattle.world.proofs.EventLaws.{delivers_done, delivery_refused, item_within, may_hear}
use Rattle.world.proofs.internetwork.Internetwork.deliver.Goals as goal
use Rattle.world.specs.Doing.{told_of}

-- its addressee refuses it
pub returns-in_err-plan-clause-cause : goal.returns-in_err-plan-clause-cause
returns-in_err-plan-clause-cause g c =
    let p = err_from_is_err_and c.from_residual-in_err-plan.result c.from_residual-in_err-plan.ensures.1 in
    rw (p.1) (rw (p.2) (delivery_refused c.args.number c.args.self.now c.in_ok-item.field-0.item.now c.in_ok-item.field-0.place c.in_ok-item.field-0.port c.in_ok-item.field-0.node.now
    c.in_ok-item.ensures.item c.in_ok-item.ensures.addressee c.in_ok-item.ensures.young c.now-now.result
    c.in_err-plan.field-0.0 c.now-now.ensures.moment (subst (λ (os : List ℕ). (c.in_err-plan.field-0.0 ≡ Memory)
    ⊎ HearingIsRefused c.now-now.result c.in_ok-item.field-0.port c.in_ok-item.field-0.item.now.from os c.in_ok-item.field-0.item.now.stamp c.in_ok-item.field-0.node.now
    c.in_err-plan.field-0.0) c.as_slice-octets.ensures c.in_err-plan.ensures.cause)))

-- what it planned may be done
pub carry_out-requires : goal.carry_out-requires
carry_out-requires g c =
    let heard = subst (λ (os : List ℕ). NodeHears c.now-now.result c.in_ok-item.field-0.port c.in_ok-item.field-0.item.now.from os c.in_ok-item.field-0.item.now.stamp
    c.in_ok-item.field-0.node.now (told_of c.in_ok-plan.plan c.plan_hears.new.draft)
    (left_by c.now-now.result c.in_ok-plan.plan c.plan_hears.new.draft.changes.items c.in_ok-item.field-0.node.now))
    c.as_slice-octets.ensures c.in_ok-plan.ensures.hears in
    record {
      planned = may_hear c.args.self.now c.in_ok-item.field-0.place c.now-now.result c.now-now.ensures.moment c.in_ok-item.field-0.node.now
          c.in_ok-item.ensures.addressee.there c.in_ok-plan.plan c.plan_hears.new.draft c.in_ok-item.ensures.steady.stands
          c.in_ok-plan.ensures.planned c.in_ok-item.field-0.port c.in_ok-item.field-0.item.now.from c.in_ok-item.field-0.item.now.octets c.in_ok-item.field-0.item.now.stamp
          heard;
    }

-- memory is wanted
pub returns-in_err-carry_out-clause-cause : goal.returns-in_err-carry_out-clause-cause
returns-in_err-carry_out-clause-cause g c =
    let p = err_from_is_err_and c.from_residual-in_err-carry_out.result c.from_residual-in_err-carry_out.ensures.1 in
    rw (p.1) (rw (p.2) (delivery_refused c.args.number c.args.self.now c.in_ok-item.field-0.item.now c.in_ok-item.field-0.place c.in_ok-item.field-0.port c.in_ok-item.field-0.node.now
    c.in_ok-item.ensures.item c.in_ok-item.ensures.addressee c.in_ok-item.ensures.young c.now-now.result
    c.in_err-carry_out.field-0.0 c.now-now.ensures.moment (inl c.in_err-carry_out.ensures.cause)))

-- the item is there still
pub mark-requires : goal.mark-requires
mark-requires g c = item_within c.args.self.now c.carry_out.new.self c.carry_out.new.self c.args.number c.in_ok-item.field-0.place c.in_ok-item.field-0.port
    c.now-now.result c.now-now.ensures.moment c.in_ok-item.field-0.item.now c.in_ok-item.ensures.item c.in_ok-item.field-0.node.now
    c.in_ok-item.ensures.addressee c.in_ok-plan.plan c.plan_hears.new.draft c.in_ok-carry_out.ensures.done

-- it was handed over
pub returns-clause-delivers : goal.returns-clause-delivers
returns-clause-delivers g c =
    let heard = subst (λ (os : List ℕ). NodeHears c.now-now.result c.in_ok-item.field-0.port c.in_ok-item.field-0.item.now.from os c.in_ok-item.field-0.item.now.stamp
    c.in_ok-item.field-0.node.now (told_of c.in_ok-plan.plan c.plan_hears.new.draft)
    (left_by c.now-now.result c.in_ok-plan.plan c.plan_hears.new.draft.changes.items c.in_ok-item.field-0.node.now))
    c.as_slice-octets.ensures c.in_ok-plan.ensures.hears in
    delivers_done c.args.self.now c.carry_out.new.self c.mark.new.self c.args.number c.in_ok-item.field-0.place
    c.in_ok-item.field-0.port c.now-now.result c.now-now.ensures.moment c.in_ok-item.field-0.item.now c.in_ok-item.ensures.item c.in_ok-item.field-0.node.now
    c.in_ok-item.ensures.addressee c.in_ok-plan.plan c.plan_hears.new.draft c.in_ok-carry_out.ensures.done
    c.in_ok-item.ensures.young heard c.mark.ensures

use Rattle.std.proofs.Common.{rules}
use Rattle.std.proofs.lemmas.Result.{err_from_is_err_and}
use Rattle.site_node.proofs.Planning.{answer_is_stopped, heard_in_vain, heard_is_answered, part_is_refused, port_refuses}
use Rattle.site_node.specs.Part.{downs_of, left_by, told_by}
use Rattle.site_ports.specs.Drafts.{drafted}
use Rattle.site_node.proofs.drafting.hear_on.Goals as goal

pub returns-in_default-clause-hears : goal.returns-in_default-clause-hears
returns-in_default-clause-hears g c = heard_in_vain c.args.now c.args.port c.args.from c.args.octets.now c.args.stamp
    (drafted c.args.now c.args.ports.now c.args.draft.now) (drafted c.args.now c.args.ports.now c.heard_at.new.draft)
    c.args.part.now c.in_ok-up.field-0 c.in_ok-up.ensures.heard c.in_default.is

pub returns-in_err-plan-clause-cause : goal.returns-in_err-plan-clause-cause
returns-in_err-plan-clause-cause g c =
    let p = err_from_is_err_and c.from_residual-in_err-plan.result c.from_residual-in_err-plan.ensures.1 in
    rw (p.1) (rw (p.2) (part_is_refused c.args.now c.args.port c.args.from c.args.octets.now c.args.stamp
    (drafted c.args.now c.args.ports.now c.args.draft.now) (drafted c.args.now c.args.ports.now c.heard_at.new.draft)
    c.args.part.now c.in_ok-up.field-0 c.in_ok-up.ensures.heard c.in-Some.up c.in-Some.is c.in_err-plan.field-0.0 c.in_err-plan.ensures.cause))

pub returns-in_err-go_down-clause-cause : goal.returns-in_err-go_down-clause-cause
returns-in_err-go_down-clause-cause g c =
    let p = err_from_is_err_and c.from_residual-in_err-go_down.result c.from_residual-in_err-go_down.ensures.1 in
    rw (p.1) (rw (p.2) (answer_is_stopped c.args.now c.args.port c.args.from c.args.octets.now c.args.stamp
    (drafted c.args.now c.args.ports.now c.args.draft.now) (drafted c.args.now c.args.ports.now c.heard_at.new.draft)
    c.args.part.now c.in_ok-up.field-0 c.in_ok-up.ensures.heard c.in-Some.up c.in-Some.is (told_by c.in_ok-plan.plan)
    (downs_of c.in_ok-plan.plan) (left_by c.args.now c.in_ok-plan.plan c.args.part.now) c.in_err-go_down.field-0.0
    c.in_ok-up.ensures.places c.in_ok-plan.ensures.hears c.in_err-go_down.ensures.cause))

pub returns-clause-hears : goal.returns-clause-hears
returns-clause-hears g c = heard_is_answered c.args.now c.args.port c.args.from c.args.octets.now c.args.stamp
    (drafted c.args.now c.args.ports.now c.args.draft.now) (drafted c.args.now c.args.ports.now c.heard_at.new.draft)
    c.args.part.now c.in_ok-up.field-0 c.in_ok-up.ensures.heard c.in-Some.up c.in-Some.is (told_by c.in_ok-plan.plan)
    (downs_of c.in_ok-plan.plan) (left_by c.args.now c.in_ok-plan.plan c.args.part.now)
    (drafted c.args.now c.args.ports.now c.go_down.new.draft) c.in_ok-plan.ensures.hears c.in_ok-go_down.ensures.downs

pub returns-in_err-up-clause-cause : goal.returns-in_err-up-clause-cause
returns-in_err-up-clause-cause g c =
    let p = err_from_is_err_and c.from_residual.result c.from_residual.ensures.1 in
    rw (p.1) (rw (p.2) (port_refuses c.args.now c.args.port c.args.from c.args.octets.now c.args.stamp
    (drafted c.args.now c.args.ports.now c.args.draft.now) c.args.part.now c.in_err-up.field-0.0
    c.in_err-up.ensures.cause))

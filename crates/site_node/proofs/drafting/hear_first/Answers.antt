use Rattle.std.proofs.Common.{⊎_elim, ◌≡◌, ◌⊎◌, ap, inl, inr, subst}
use Rattle.std.proofs.lemmas.Result.{IfErr-weaker, IfOk-weaker, on_ok_weaker}
use Rattle.npdu.specs.declared.mac.Station.{Station}
use Rattle.site_node.proofs.Planning.{begun_before, drafted_none}
use Rattle.site_ports.specs.Drafts.{PortsState, drafted}
use Rattle.site_node.specs.Part.{left_by, told_by}
use Rattle.site_node.specs.Refusals.{RefusesOn}
use Rattle.site_node.specs.Steps.{HearsOn}
use Rattle.tags.specs.declared.fault.Fault.TheVariants.{Memory}
use Rattle.site_node.proofs.drafting.hear_first.Goals as goal

pub hear_on-requires-clause-order : goal.hear_on-requires-clause-order
hear_on-requires-clause-order g c = begun_before c.args.now c.args.ports.now c.clear.new.self c.clear.ensures.changes c.requires.order

pub returns-clause-hears : goal.returns-clause-hears
returns-clause-hears g c = IfOk-weaker c.hear_on.result _ _
    (λ plan done. subst (λ (s : PortsState _). HearsOn c.args.now c.args.port c.args.from c.args.octets.now c.args.stamp s
    c.args.part.now (told_by plan) (left_by c.args.now plan c.args.part.now) (drafted c.args.now c.args.ports.now c.hear_on.new.draft))
    (drafted_none c.args.now c.args.ports.now c.clear.new.self c.clear.ensures.changes c.clear.ensures.out) done)
    c.hear_on.ensures.hears

pub returns-clause-cause : goal.returns-clause-cause
returns-clause-cause g c = IfErr-weaker c.hear_on.result _ _
    (λ fault why. subst (λ (s : PortsState _). (fault ≡ Memory) ⊎ RefusesOn c.args.now c.args.port c.args.from
    c.args.octets.now c.args.stamp s.ports c.args.part.now fault)
    (drafted_none c.args.now c.args.ports.now c.clear.new.self c.clear.ensures.changes c.clear.ensures.out) why)
    c.hear_on.ensures.cause

use Rattle.std.proofs.Common.{⊎_elim, ◌≡◌, ◌⊎◌, ap, inl, inr, subst}
use Rattle.std.proofs.lemmas.Result.{IfErr-weaker, IfOk-weaker, on_ok_weaker}
use Rattle.npdu.specs.declared.mac.Station.{Station}
use Rattle.site_node.proofs.Planning.{begun_before, drafted_none}
use Rattle.site_ports.specs.Drafts.{PortsState, drafted}
use Rattle.site_node.specs.Part.{downs_of}
use Rattle.site_ports.specs.Ports.{DownsEach, IsOneTooLong, places_of}
use Rattle.tags.specs.declared.fault.Fault.TheVariants.{Memory, TooLong}
use Rattle.site_node.proofs.drafting.down_first.Goals as goal

pub go_down-requires-clause-order : goal.go_down-requires-clause-order
go_down-requires-clause-order g c = begun_before c.args.now c.args.ports.now c.clear.new.self c.clear.ensures.changes c.requires.order

pub returns-clause-downs : goal.returns-clause-downs
returns-clause-downs g c = on_ok_weaker c.go_down.result
    (λ done. subst (λ (s : PortsState _). DownsEach c.args.now (downs_of c.args.plan.now) s (drafted c.args.now c.args.ports.now c.go_down.new.draft))
    (drafted_none c.args.now c.args.ports.now c.clear.new.self c.clear.ensures.changes c.clear.ensures.out) done)
    c.go_down.ensures.downs

pub returns-clause-cause : goal.returns-clause-cause
returns-clause-cause g c = IfErr-weaker c.go_down.result _ _
    (λ fault why. subst (λ (s : PortsState _). (fault ≡ Memory) ⊎
    ((fault ≡ TooLong) × IsOneTooLong (places_of s.ports) (downs_of c.args.plan.now)))
    (drafted_none c.args.now c.args.ports.now c.clear.new.self c.clear.ensures.changes c.clear.ensures.out) why)
    c.go_down.ensures.cause

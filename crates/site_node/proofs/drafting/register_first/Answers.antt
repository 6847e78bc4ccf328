use Rattle.std.proofs.Common.{⊎_elim, ◌≡◌, ◌⊎◌, ap, inl, inr, subst}
use Rattle.std.proofs.lemmas.Result.{IfErr-weaker, IfOk-weaker, on_ok_weaker}
use Rattle.npdu.specs.declared.mac.Station.{Station}
use Rattle.site_node.proofs.Planning.{begun_before, drafted_none}
use Rattle.site_ports.specs.Drafts.{PortsState, drafted}
use Rattle.site_node.specs.Part.{ITS_PORT}
use Rattle.site_ports.specs.Ports.{RegistersAt}
use Rattle.site_node.proofs.drafting.register_first.Goals as goal

pub register_at-requires-clause-order : goal.register_at-requires-clause-order
register_at-requires-clause-order g c = begun_before c.args.now c.args.ports.now c.clear.new.self c.clear.ensures.changes c.requires.order

pub returns-clause-registers : goal.returns-clause-registers
returns-clause-registers g c = on_ok_weaker c.register_at.result
    (λ done. subst (λ (s : PortsState _). RegistersAt c.args.now ITS_PORT s (drafted c.args.now c.args.ports.now c.register_at.new.draft))
    (drafted_none c.args.now c.args.ports.now c.clear.new.self c.clear.ensures.changes c.clear.ensures.out) done)
    c.register_at.ensures.registers

use Rattle.std.proofs.Common.{⊎_elim, ◌≡◌, ◌⊎◌, ap, inl, inr, subst}
use Rattle.std.proofs.lemmas.Result.{IfErr-weaker, IfOk-weaker, on_ok_weaker}
use Rattle.npdu.specs.declared.mac.Station.{Station}
use Rattle.site_node.proofs.Planning.{begun_before, drafted_none}
use Rattle.site_ports.specs.Drafts.{PortsState, drafted}
use Rattle.site_ports.specs.Ports.{CountsAt}
use Rattle.site_node.proofs.drafting.count_first.Goals as goal

pub count_at-requires-clause-order : goal.count_at-requires-clause-order
count_at-requires-clause-order g c = begun_before c.args.now c.args.ports.now c.clear.new.self c.clear.ensures.changes c.requires.order

pub returns-clause-counts : goal.returns-clause-counts
returns-clause-counts g c = on_ok_weaker c.count_at.result
    (λ done. subst (λ (s : PortsState _). CountsAt c.args.count c.args.now c.args.port s (drafted c.args.now c.args.ports.now c.count_at.new.draft))
    (drafted_none c.args.now c.args.ports.now c.clear.new.self c.clear.ensures.changes c.clear.ensures.out) done)
    c.count_at.ensures.counts

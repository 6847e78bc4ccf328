use Rattle.std.proofs.Common.{rules, ap, length, refl, subst, sym, ◌<◌, ◌≤◌, ◌∙◌}
use Rattle.std.proofs.lemmas.Option.{get_or_from_slice_get, slice_get_read}
use Rattle.link_site.specs.Port.{moment_of, restarted}
use Rattle.link_site.specs.declared.port.SitePort.{SitePort}
use Rattle.site_ports.proofs.PortSteps.{restarted_before, restarted_next, still_before}
use Rattle.site_ports.proofs.ports.restart_all.Goals as goal

pub loop-port-preserved : goal.loop-port-preserved
loop-port-preserved g c =
    let lt : c.loop-port.port < length c.loop-port.ports.items = search rules in (
      still_before c.args.now c.loop-port.ports.items c.loop-port.port c.restart.new.self (c.loop-port.invariant.0)
          (subst (λ (m : SitePort _). moment_of m ≤ c.args.now) (sym c.restart.ensures)
          (restarted_before c.args.now c.index_mut.result.now)),
      restarted_next c.args.now c.args.ports.now.items c.loop-port.ports.items c.loop-port.port c.restart.new.self
          lt (c.loop-port.invariant.1)
          (c.restart.ensures ∙ ap (λ (m : SitePort _). restarted c.args.now m)
          (sym (get_or_from_slice_get c.loop-port.ports.items c.loop-port.port c.index_mut.result.now c.restart.new.self
          (slice_get_read c.loop-port.ports.items (length c.loop-port.ports.items) c.loop-port.port c.index_mut.result.now
          refl lt c.index_mut.ensures.value)))),
    )

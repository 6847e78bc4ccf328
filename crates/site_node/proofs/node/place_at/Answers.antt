use Rattle.std.proofs.Common.{◌∙◌, refl, sym, ap, length, Option, Some}
use Rattle.std.proofs.lemmas.Option.{slice_get-map, slice_get_past, slice_get_read}
use Rattle.std.specs.Prelude.{option_map}
use Rattle.site_ports.specs.link_site.Port.{station_of}
use Rattle.site_ports.specs.link_site.declared.port.SitePort.{SitePort}
use Rattle.npdu.specs.declared.mac.Station.{Station}
use Rattle.site_node.proofs.node.place_at.Goals as goal

-- where this port is
pub returns-in-Some : goal.returns-in-Some
returns-in-Some g c = ap (λ (x : Station). Some x) c.station.ensures
    ∙ sym (slice_get-map (λ l. station_of l) c.args.ports.now c.args.port
    ∙ ap (λ (o : Option (SitePort _)). option_map (λ l. station_of l) o)
    (slice_get_read c.args.ports.now (length c.args.ports.now) c.args.port c.in-Some.port.now refl
    c.in-Some.ensures.lookup.3.0 c.in-Some.ensures.lookup.1))

-- there is no such port
pub returns-in-None : goal.returns-in-None
returns-in-None g c = sym (slice_get-map (λ l. station_of l) c.args.ports.now c.args.port
    ∙ ap (λ (o : Option (SitePort _)). option_map (λ l. station_of l) o)
    (slice_get_past c.args.ports.now c.args.port c.in-None.ensures.lookup.3))

use Rattle.std.proofs.Common.{◌∙◌, ap, List}
use Rattle.world.proofs.CopyLaws.{refused_for_memory}
use Rattle.world.proofs.EventLaws.{err_map}
use Rattle.world.proofs.copying.site_of.Goals as goal
use Rattle.site_parts.specs.declared.parts.Network.{Network}
use Rattle.site_parts.specs.declared.parts.Station.{Station}

-- equal parts are as sound
pub returns-clause-cause : goal.returns-clause-cause
returns-clause-cause g c =
    err_map c.new.result (λ fault why. refused_for_memory c.args.site.now
    (record { networks = c.in_ok-networks.networks; stations = c.in_ok-stations.stations }) fault
    c.stations.ensures.sound
    (ap (λ (ns : List Network). record { networks = ns; stations = c.in_ok-stations.stations })
    (c.in_ok-networks.ensures ∙ c.networks.ensures)
    ∙ ap (λ (ss : List (Station _)). record { networks = c.args.site.now.networks; stations = ss })
    (c.in_ok-stations.ensures ∙ c.stations.ensures.stations)) why) c.new.ensures.refused

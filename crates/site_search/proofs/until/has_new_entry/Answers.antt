use Rattle.std.proofs.Common.{◌≡◌, ◌∙◌, ap, subst, IfOk, List, true}
use Rattle.site_storm.specs.site_run.simulator.world_log.Growing.{WorldHistory}
use Rattle.site_parts.specs.declared.parts.Parts.{Parts}
use Rattle.site_parts.specs.declared.parts.Station.{Station}
use Rattle.site_search.specs.Words.{HasEntry}
use Rattle.site_search.proofs.until.has_new_entry.Goals as goal

pub returns : goal.returns
returns g c =
    let words = c.args.words.now in
    let entries = c.args.entries in
    let world = c.args.world.now in
    let stations = c.stations.ensures.stations ∙ ap (λ (p : Parts _). p.stations) c.site.ensures in
    subst (λ (h : WorldHistory _). IfOk c.has_entry.result (λ b. b ≡ true → HasEntry words world.site.stations entries h))
    c.history.ensures.history
    (subst (λ (ss : List (Station _)). IfOk c.has_entry.result
    (λ b. b ≡ true → HasEntry words ss entries c.history.result.now)) stations c.has_entry.ensures)

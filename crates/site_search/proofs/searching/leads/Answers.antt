use Rattle.std.proofs.Common.{rules, ◌∙◌, ap, subst, List, length, ℕ}
use Rattle.site_storm.specs.site_run.simulator.carry_world.Laws.{IsLegal}
use Rattle.site_storm.specs.site_run.simulator.Judged.{instances_of, judged_of}
use Rattle.site_storm.specs.site_run.simulator.world_log.Growing.{WorldHistory}
use Rattle.site_parts.specs.declared.parts.Parts.{Parts}
use Rattle.site_parts.specs.declared.parts.Station.{Station}
use Rattle.site_search.specs.Words.{HasEntry}
use Rattle.site_search.proofs.searching.leads.Goals as goal

pub returns : goal.returns
returns g c =
    let words = c.args.words.now in
    let left = c.make_all.new.world in
    let stations = c.stations.ensures.stations ∙ ap (λ (p : Parts _). p.stations) c.site.ensures in
    record {
      leads = λ e. record {
        few = search rules;
        sound = c.requires.sound;
        happen = c.in_ok-make_all.ensures.happen;
        entry =
            subst (λ (n : ℕ). HasEntry words left.site.stations n left.history)
            (ap (λ (h : WorldHistory _). length h) c.history-entries.ensures.history)
            (subst (λ (h : WorldHistory _). HasEntry words left.site.stations (length c.history-entries.result.now) h)
            c.history-history.ensures.history
            (subst (λ (ss : List (Station _)). HasEntry words ss (length c.history-entries.result.now)
            c.history-history.result.now) stations (c.in_ok-has_entry.ensures e)));
        legal =
            subst (λ (h : WorldHistory _). IsLegal (instances_of left.site) h (judged_of left))
            c.history-history.ensures.history c.history-history.ensures.legal;
      };
    }

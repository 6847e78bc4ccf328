-- What is kept of a world that events alone led to: it is legal, and stays so.
use Rattle.std.proofs.Common.{◌≡◌, sym, subst, List}
use Rattle.simulator.proofs.HeardLaws.{has_brought}
use Rattle.simulator.proofs.LedLaws.{led_on, legal_of}
use Rattle.simulator.specs.Judged.{instances_of, judged}
use Rattle.simulator.specs.Laws.{IsLed}
use Rattle.simulator.specs.carry_world.Laws.{IsLegal}
use Rattle.simulator.specs.world.Keeping.{Keeps}
use Rattle.simulator.specs.world.World.{WorldState}
use Rattle.simulator.specs.world.site_node.Node.{NodeState}
use Rattle.simulator.specs.world_log.Growing.{WorldHistory}
use Rattle.simulator.specs.world_sites.Nodes.{devices_of}
use Rattle.simulator.specs.world_sites.Opening.{devices_in}
use Rattle.site_parts.specs.declared.parts.Parts.{Parts}
use Rattle.world_kept.specs.Kept.{EventsBring, EventsKeep, ForgettingKeeps, HandingOutKeeps, IsLegalOf, KeptIsLegal, LedIsKept}
use Rattle.world_past.proofs.KeepingLaws.{keeps_all}
use Rattle.world_past.proofs.RunningLaws.{keeps_forgotten, keeps_handed}
use Rattle.world_past.proofs.SteppingLaws.{keeps_stands, keeps_steps}

pub led_is_kept : {A : Type 0} → LedIsKept A
led_is_kept w led = record { whole = w; led = led; keeps = keeps_all w }

-- the same history is judged of the same nodes of the same site
same_judged : {A : Type 0} (p q : Parts A) (ns ms : List (NodeState A)) (h : WorldHistory A) → q ≡ p → ms ≡ ns →
    IsLegal (instances_of p) h (judged (devices_in p.stations) (devices_of ns)) →
    IsLegal (instances_of q) h (judged (devices_in q.stations) (devices_of ms))
same_judged {A} p q ns ms h site nodes legal =
    subst (λ (x : Parts A). IsLegal (instances_of x) h (judged (devices_in x.stations) (devices_of ms))) (sym site)
    (subst (λ (x : List (NodeState A)). IsLegal (instances_of p) h (judged (devices_in p.stations) (devices_of x)))
    (sym nodes) legal)

pub legal_behind : {A : Type 0} (past : WorldHistory A) (w k : WorldState A) → IsLed w → Keeps past w k →
    IsLegalOf w.history k
legal_behind past w k led p = same_judged w.site k.site w.nodes k.nodes w.history p.site p.nodes (legal_of w led)

pub kept_is_legal : {A : Type 0} → KeptIsLegal A
kept_is_legal past k kept = subst (λ (h : WorldHistory _). IsLegalOf h k) kept.keeps.history
    (legal_behind past kept.whole k kept.led kept.keeps)

pub events_bring : {A : Type 0} → EventsBring A
events_bring e k sound stands = record {
  brought = λ past w v led p s. has_brought e w v (keeps_stands past w k p stands) led;
  led = λ past w v led p s. led_on e w v (keeps_stands past w k p stands) sound s led;
}

pub events_keep : {A : Type 0} → EventsKeep A
events_keep e past k l brings kept s =
    let on = keeps_steps e past kept.whole k l kept.keeps s in record {
      whole = on.middle;
      led = brings.led past kept.whole on.middle kept.led kept.keeps on.first;
      keeps = on.rest;
    }

pub handing_out_keeps : {A : Type 0} → HandingOutKeeps A
handing_out_keeps past k kept =
    record { whole = kept.whole; led = kept.led; keeps = keeps_handed past kept.whole k kept.keeps }

pub forgetting_keeps : {A : Type 0} → ForgettingKeeps A
forgetting_keeps past k l kept f =
    record { whole = kept.whole; led = kept.led; keeps = keeps_forgotten past kept.whole k l kept.keeps f }

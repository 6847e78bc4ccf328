-- What a client that has woken leaves of its issues.
use Rattle.std.specs.Prelude.{◌≡◌, ◌≤◌, ℕ, ◌+◌, List}
use Rattle.history.specs.Lists.{Has}
use Rattle.history.specs.declared.Entry.TheVariants.{Issue}
use Rattle.primitives.specs.declared.plain_data.Request.{Request}
use Rattle.profile.specs.Times.{DEADLINE_MS}
use Rattle.world.specs.carry_ends.headline_ends.Ends.{IsClosed}
use Rattle.world.specs.client.Client.{ClientState}
use Rattle.world.specs.site_node.Node.{NodeState, home_of}
use Rattle.world.specs.site_node.declared.part.Part.TheVariants.{Client}
use Rattle.world.specs.World.{WorldState}
use Rattle.world.specs.site_events.declared.event.Event.{Event}
use Rattle.world.specs.site_events.declared.event.Event.TheVariants as event
use Rattle.world.specs.world_sites.Finding.{IsNamed}

-- once the client of a name has woken, each of its issues that is DEADLINE_MS old was answered or ended, once, whatever
-- was lost, repeated or late before (5.4.4.2, 5.4.4.3, 5.4.4.4)
pub record EndsOverdue {A : Type 0} (name : List ℕ) (w v : WorldState A) : Type 0 where
  pub ends : (place : ℕ) (n : NodeState A) (c : ClientState A) → IsNamed name w.nodes place n → n.part ≡ Client c →
      (i instance : ℕ) (request : Request A) (moment : ℕ) →
      Has v.history (Issue i (home_of n.part) instance request moment) → moment + DEADLINE_MS ≤ w.moment →
      IsClosed v.history i

-- so it is where the event is a wake
abbrev pub OverdueAreEnded : {A : Type 0} → Event A → WorldState A → WorldState A → Type 0
OverdueAreEnded (event.Wake name) w v = EndsOverdue name w v
OverdueAreEnded e w v = Unit {0}

-- A datagram that no node of the site sent, at one of its addresses.
use Rattle.std.specs.Prelude.{◌≡◌, ◌⊎◌, ℕ, false, List}
use Rattle.npdu.specs.declared.mac.Mac.{Mac}
use Rattle.npdu.specs.declared.mac.Station.{Station}
use Rattle.world_log.specs.site_node.Node.{NodeState}
use Rattle.world_log.specs.site_node.Refusals.{HearingIsRefused}
use Rattle.world_log.specs.site_node.Steps.{NodeHears, NodeTold}
use Rattle.tags.specs.declared.fault.Fault.{Fault}
use Rattle.tags.specs.declared.fault.Fault.TheVariants.{Memory, NoSuch}
use Rattle.traffic.specs.declared.item.Item.{Item}
use Rattle.world.specs.Acting.{Acts}
use Rattle.world.specs.Step.{addressee_of}
use Rattle.world.specs.World.{WorldState}
use Rattle.world_sites.specs.Finding.{IsNobodyAt, IsNodeAt}

-- it is heard as an item that is said at the moment at which it comes (J.2)
abbrev pub stray_item : {A : Type 0} → (from : Mac) → (to : Station) → (octets : List ℕ) → (now : ℕ) → Item A
stray_item from to octets now = record {
  net = to.net;
  from = from;
  to = to.mac;
  octets = octets;
  stamp = now;
  put_out = now;
  is_delivered = false;
}

-- what it leaves: the node at its address hears it (6.5, J.4.5)
pub record Strays {A : Type 0} (i : Item A) (w v : WorldState A) : Type 0 where
  pub place : ℕ
  pub at : ℕ
  pub n : NodeState A
  pub next : NodeState A
  pub told : NodeTold A
  pub addressee : IsNodeAt (addressee_of i) w.nodes place at n
  pub hears : NodeHears w.moment at i.from i.octets i.stamp n told next
  pub acts : Acts w v place n next told

-- the node at its address refuses it
pub record RefusesStrayThere {A : Type 0} (i : Item A) (w : WorldState A) (fault : Fault) : Type 0 where
  pub place : ℕ
  pub at : ℕ
  pub n : NodeState A
  pub addressee : IsNodeAt (addressee_of i) w.nodes place at n
  pub refuses : HearingIsRefused w.moment at i.from i.octets i.stamp n fault

-- why it is refused, other than for want of memory
abbrev pub RefusesStray : {A : Type 0} → Item A → WorldState A → Fault → Type 0
RefusesStray i w fault =
    ((fault ≡ NoSuch) × IsNobodyAt (addressee_of i) w.nodes) ⊎ RefusesStrayThere i w fault

-- why it is refused
abbrev pub StrayIsRefused : {A : Type 0} → Item A → WorldState A → Fault → Type 0
StrayIsRefused i w fault = (fault ≡ Memory) ⊎ RefusesStray i w fault

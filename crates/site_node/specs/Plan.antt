-- A node as a plan and a draft leave it.
use Rattle.std.specs.Prelude.{ℕ, Bool, true, false, List, map}
use Rattle.bbmd_manager.specs.State.{ManagerState}
use Rattle.link.specs.Step.{PortSent}
use Rattle.link.specs.declared.step.Change.{Change}
use Rattle.site_ports.specs.link_site.Port.{restarted}
use Rattle.site_ports.specs.link_site.declared.port.SitePort.{SitePort}
use Rattle.npdu.specs.declared.mac.Mac.{Mac}
use Rattle.site_node.specs.Manager.{HearsOctets}
use Rattle.site_node.specs.Node.{NodeState}
use Rattle.site_node.specs.Part as part
use Rattle.site_node.specs.declared.plan.PartPlan.{PartPlan}
use Rattle.site_node.specs.declared.plan.PartPlan.TheVariants as plan
use Rattle.site_ports.specs.Drafts.{left_of}

-- a plan is a device's restart
abbrev pub is_restart : {A : Type 0} → PartPlan A → Bool
is_restart (plan.Restarts opening) = true
is_restart p = false

-- the ports as a plan leaves them: at a restart nothing waits in them, else each is as its change leaves it
abbrev pub ports_by : {A : Type 0} → (restarts : Bool) → ℕ → List (Change (SitePort A)) → List (SitePort A) →
    List (SitePort A)
ports_by true now cs ports = map (λ l. restarted now l) ports
ports_by false now cs ports = left_of now ports cs

-- a node as a plan that is carried out at this moment, with these changes of its ports, leaves it
abbrev pub left_by : {A : Type 0} → ℕ → PartPlan A → List (Change (SitePort A)) → NodeState A → NodeState A
left_by now p cs n = record n {
  ports = ports_by (is_restart p) now cs n.ports;
  part = part.left_by now p n.part;
}

-- a manager that hears octets from an address puts this out, by this plan: for private functions alone
abbrev pub Manages : {A : Type 0} → (now : ℕ) → Mac → List ℕ → (stamp : ℕ) → ManagerState → List (PortSent A) →
    PartPlan A → Type 0
Manages now from octets stamp m out (plan.Manages left) = HearsOctets now from octets stamp m out left
Manages now from octets stamp m out plan.Nothing = HearsOctets now from octets stamp m out m
Manages now from octets stamp m out p = ⊥

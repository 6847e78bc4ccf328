-- What is planned of a node as a whole, by what is planned of its part and its ports.
use Rattle.std.proofs.Common.{◌≡◌, ◌≢◌, ◌⊎◌, ◌∙◌, ◌≤◌, inl, inr, refl, sym, ap, subst, ℕ, Bool, true, false, List, [], map, Option, Some}
use Rattle.apdu.specs.declared.unconfirmed.Limits.{Limits}
use Rattle.bbmd_manager.specs.State.{ManagerState}
use Rattle.link.specs.declared.step.Change.{Change}
use Rattle.site_ports.specs.link_site.declared.port.SitePort.{SitePort}
use Rattle.npdu.specs.declared.mac.Mac.{Mac}
use Rattle.device.specs.Device.{DeviceState}
use Rattle.npdu.specs.declared.mac.Station.{Station}
use Rattle.npdu.specs.declared.parcel.Parcel.{Parcel}
use Rattle.router.specs.Hearing.{RouterHears}
use Rattle.router.specs.Plan as router
use Rattle.router.specs.Router.{RouterState}
use Rattle.router.specs.declared.plan.RouterPlan.{RouterPlan}
use Rattle.object_model.specs.Objects.{PlainTable}
use Rattle.primitives.specs.declared.plain_data.Request.{Request}
use Rattle.router.specs.declared.plan.PortParcel.{PortParcel}
use Rattle.site_node.proofs.Planning.{IsStopped}
use Rattle.site_node.specs.Manager.{IsTooLong}
use Rattle.site_node.specs.Node.{IsBefore, NodeState}
use Rattle.site_node.specs.Part.{ITS_PORT, IsClient, IsDevice, IsNoDevice, PartAsks, PartHears, PartIssues}
use Rattle.site_node.specs.Part.{awake, downs_awake, downs_of, silence, told_awake, told_by}
use Rattle.site_node.specs.Part as part
use Rattle.site_node.specs.Plan.{Manages, is_restart, left_by, ports_by}
use Rattle.site_node.specs.Refusals.{AskingIsRefused, FrameIsRefused, HearingIsRefused, IssueIsRefused, RefusesAs, RefusesOn}
use Rattle.site_node.specs.Refusals.{WakeIsRefused}
use Rattle.site_node.specs.Steps.{HearsAs, HearsOn, IsNotForeign, NodeAsks, NodeCounts, NodeHears, NodeHearsFrame}
use Rattle.site_node.specs.Steps.{NodeHearsOn, NodeIssues, NodeRegisters, NodeRestarts, NodeTold, NodeWakes, PortsWake}
use Rattle.site_node.specs.declared.part.Part.{Part}
use Rattle.site_node.specs.declared.part.Part.TheVariants.{Device, Client, Router, Manager}
use Rattle.site_node.specs.declared.plan.PartPlan.{PartPlan}
use Rattle.site_node.specs.declared.plan.PartPlan.TheVariants as plan
use Rattle.site_node.specs.declared.told.PartTold.{PartTold}
use Rattle.site_ports.proofs.Drafts.{none_left}
use Rattle.site_ports.specs.Drafts.{PortsState, drafted, left_of}
use Rattle.site_ports.specs.Ports.{AreBefore, CountsAt, DownsEach, IsOneTooLong, NothingIsDue, RegistersAt, over, places_of}
use Rattle.site_ports.specs.declared.draft.Draft.{Draft}
use Rattle.tags.specs.declared.fault.Fault.{Fault}
use Rattle.tags.specs.declared.fault.Fault.TheVariants.{Memory, TooLong}

-- a manager alone hears as one
hears_as : {A : Type 0} (p : Part A) → ((net : ℕ) (m : ManagerState) → p ≡ Manager net m → ⊥) → (now port : ℕ)
    (from : Mac) (octets : List ℕ) (stamp : ℕ) (old : NodeState A) (t : NodeTold A) (new : NodeState A) →
    NodeHearsOn now port from octets stamp old t new → HearsAs p now port from octets stamp old t new
hears_as (Device d) other now port from octets stamp old t new h = h
hears_as (Client c) other now port from octets stamp old t new h = h
hears_as (Router r) other now port from octets stamp old t new h = h
hears_as (Manager net m) other now port from octets stamp old t new h = absurd (other net m refl)

refuses_as : {A : Type 0} (p : Part A) → ((net : ℕ) (m : ManagerState) → p ≡ Manager net m → ⊥) → (now port : ℕ)
    (from : Mac) (octets : List ℕ) (stamp : ℕ) (n : NodeState A) (fault : Fault) →
    RefusesOn now port from octets stamp n.ports n.part fault → RefusesAs p now port from octets stamp n fault
refuses_as (Device d) other now port from octets stamp n fault r = r
refuses_as (Client c) other now port from octets stamp n fault r = r
refuses_as (Router r) other now port from octets stamp n fault w = w
refuses_as (Manager net m) other now port from octets stamp n fault r = absurd (other net m refl)

-- what issues a request is a client
issuer_is_client : {A : Type 0} (now instance : ℕ) (request : Request A) (p left : Part A) (id : ℕ)
    (told : PartTold A) → PartIssues now instance request p id told left → IsClient p
issuer_is_client now instance request (Client c) left id told does = tt
issuer_is_client now instance request (Device d) left id told does = absurd does
issuer_is_client now instance request (Router r) left id told does = absurd does
issuer_is_client now instance request (Manager net m) left id told does = absurd does

-- .. and what asks who is there
asker_is_client : {A : Type 0} (now : ℕ) (limits : Option Limits) (p left : Part A) (told : PartTold A) →
    PartAsks now limits p told left → IsClient p
asker_is_client now limits (Client c) left told does = tt
asker_is_client now limits (Device d) left told does = absurd does
asker_is_client now limits (Router r) left told does = absurd does
asker_is_client now limits (Manager net m) left told does = absurd does

module _ {A : Type 0} (name : List ℕ) (ports : List (SitePort A)) (p : Part A) (self : NodeState A)
    (is : record { name = name; ports = ports; part = p } ≡ self) where
  -- .. whatever lends its ports
  pub with_ports : (ls : List (SitePort A)) → ls ≡ ports → record { name = name; ports = ls; part = p } ≡ self
  with_ports ls e = ap (λ (xs : List (SitePort A)). record { name = name; ports = xs; part = p }) e ∙ is

  abbrev whole : NodeState A
  whole = record { name = name; ports = ports; part = p }

  pub ports_before : (now : ℕ) → IsBefore now self → AreBefore now ports
  ports_before now before = subst (λ (s : NodeState A). AreBefore now s.ports) (sym is) before.ports

  -- but at a restart each port is as its change leaves it
  settled : (now : ℕ) (q : PartPlan A) (cs : List (Change (SitePort A))) → is_restart q ≡ false →
      record { name = name; ports = left_of now ports cs; part = part.left_by now q p } ≡ left_by now q cs whole
  settled now q cs none = ap (λ (b : Bool). record {
    name = name;
    ports = ports_by b now cs ports;
    part = part.left_by now q p;
  }) (sym none)

  -- octets are counted
  pub octets_counted : (now port count : ℕ) (d : Draft A) →
      CountsAt count now port (record { ports = ports; out = [] }) (drafted now ports d) →
      NodeCounts now port count self (record { told = silence; out = d.out })
      (left_by now plan.Nothing d.changes.items self)
  octets_counted now port count d c = subst (λ (s : NodeState A). NodeCounts now port count s
      (record { told = silence; out = d.out }) (left_by now plan.Nothing d.changes.items s)) is
      (record { name = refl; silent = refl; same = refl; ports = c })

  -- a frame that they end is heard
  pub frame_heard : (now port count : ℕ) (from : Mac) (octets : List ℕ) (stamp : ℕ) (counted d : Draft A)
      (q : PartPlan A) → is_restart q ≡ false →
      CountsAt count now port (record { ports = ports; out = [] }) (drafted now ports counted) →
      HearsOn now port from octets stamp (drafted now ports counted) p (told_by q) (part.left_by now q p)
      (drafted now ports d) → NodeHearsFrame now port count from octets stamp self
      (record { told = told_by q; out = d.out }) (left_by now q d.changes.items self)
  frame_heard now port count from octets stamp counted d q none c h =
      subst (λ (s : NodeState A). NodeHearsFrame now port count from octets stamp s
      (record { told = told_by q; out = d.out }) (left_by now q d.changes.items s)) is
      (subst (λ (new : NodeState A). NodeHearsFrame now port count from octets stamp whole
      (record { told = told_by q; out = d.out }) new) (settled now q d.changes.items none)
      (record { name = refl; counted = drafted now ports counted; told = c; heard = h }))

  -- .. or refused
  pub frame_refused : (now port count : ℕ) (from : Mac) (octets : List ℕ) (stamp : ℕ) (counted : Draft A)
      (fault : Fault) → CountsAt count now port (record { ports = ports; out = [] }) (drafted now ports counted) →
      (fault ≡ Memory) ⊎ RefusesOn now port from octets stamp (drafted now ports counted).ports p fault →
      (fault ≡ Memory) ⊎ FrameIsRefused now port count from octets stamp self fault
  frame_refused now port count from octets stamp counted fault c (inl memory) = inl memory
  frame_refused now port count from octets stamp counted fault c (inr r) =
      inr (subst (λ (s : NodeState A). FrameIsRefused now port count from octets stamp s fault) is
      (record { counted = drafted now ports counted; told = c; refused = r }))

  -- octets are heard, but by a manager
  pub octets_heard : ((net : ℕ) (m : ManagerState) → p ≡ Manager net m → ⊥) → (now port : ℕ) (from : Mac)
      (octets : List ℕ) (stamp : ℕ) (d : Draft A) (q : PartPlan A) → is_restart q ≡ false →
      HearsOn now port from octets stamp (record { ports = ports; out = [] }) p (told_by q) (part.left_by now q p)
      (drafted now ports d) → NodeHears now port from octets stamp self (record { told = told_by q; out = d.out })
      (left_by now q d.changes.items self)
  octets_heard other now port from octets stamp d q none h =
      subst (λ (s : NodeState A). NodeHears now port from octets stamp s (record { told = told_by q; out = d.out })
      (left_by now q d.changes.items s)) is
      (subst (λ (new : NodeState A). NodeHears now port from octets stamp whole
      (record { told = told_by q; out = d.out }) new) (settled now q d.changes.items none)
      (hears_as p other now port from octets stamp whole (record { told = told_by q; out = d.out })
      (record { name = name; ports = left_of now ports d.changes.items; part = part.left_by now q p })
      (record { name = refl; hears = h })))

  pub octets_refused : ((net : ℕ) (m : ManagerState) → p ≡ Manager net m → ⊥) → (now port : ℕ) (from : Mac)
      (octets : List ℕ) (stamp : ℕ) (fault : Fault) →
      (fault ≡ Memory) ⊎ RefusesOn now port from octets stamp ports p fault →
      (fault ≡ Memory) ⊎ HearingIsRefused now port from octets stamp self fault
  octets_refused other now port from octets stamp fault (inl memory) = inl memory
  octets_refused other now port from octets stamp fault (inr r) =
      inr (subst (λ (s : NodeState A). HearingIsRefused now port from octets stamp s fault) is
      (refuses_as p other now port from octets stamp whole fault r))

  module _ (net : ℕ) (m : ManagerState) (manages : p ≡ Manager net m) where
    abbrev managed : NodeState A
    managed = record { name = name; ports = ports; part = Manager net m }

    -- .. and by a manager
    pub manager_heard : (now port : ℕ) (from : Mac) (octets : List ℕ) (stamp : ℕ) (d : Draft A) (q : PartPlan A) →
        d.changes.items ≡ [] → Manages now from octets stamp m d.out q →
        NodeHears now port from octets stamp self (record { told = told_by q; out = d.out })
        (left_by now q d.changes.items self)
    manager_heard now port from octets stamp d q none h =
        subst (λ (s : NodeState A). NodeHears now port from octets stamp s (record { told = told_by q; out = d.out })
        (left_by now q d.changes.items s))
        (ap (λ (x : Part A). record { name = name; ports = ports; part = x }) (sym manages) ∙ is) (by_plan q h)
      where
        stay : (left : ManagerState) →
            record { name = name; ports = left_of now ports d.changes.items; part = Manager net left }
            ≡ record managed { part = Manager net left }
        stay left = ap (λ (ls : List (SitePort A)). record { name = name; ports = ls; part = Manager net left })
            (ap (λ cs. left_of now ports cs) none ∙ none_left now ports)

        by_plan : (r : PartPlan A) → Manages now from octets stamp m d.out r →
            NodeHears now port from octets stamp managed (record { told = told_by r; out = d.out })
            (left_by now r d.changes.items managed)
        by_plan (plan.Manages left) h = record { silent = refl; left = left; is = stay left; hears = h }
        by_plan plan.Nothing h = record { silent = refl; left = m; is = stay m; hears = h }
        by_plan (plan.Device r) h = absurd h
        by_plan (plan.Client r) h = absurd h
        by_plan (plan.Router r) h = absurd h
        by_plan plan.Forgets h = absurd h
        by_plan (plan.Restarts r) h = absurd h
        by_plan (plan.Says r) h = absurd h

    pub manager_refused : (now port : ℕ) (from : Mac) (octets : List ℕ) (stamp : ℕ) (fault : Fault) →
        (fault ≡ Memory) ⊎ ((fault ≡ TooLong) × IsTooLong now from octets m) →
        (fault ≡ Memory) ⊎ HearingIsRefused now port from octets stamp self fault
    manager_refused now port from octets stamp fault (inl memory) = inl memory
    manager_refused now port from octets stamp fault (inr r) =
        inr (subst (λ (s : NodeState A). HearingIsRefused now port from octets stamp s fault)
        (ap (λ (x : Part A). record { name = name; ports = ports; part = x }) (sym manages) ∙ is) r)

  module _ (now : ℕ) (d : Draft A) (q : PartPlan A) (told : told_by q ≡ told_awake now p)
      (downs : downs_of q ≡ downs_awake now p) (left : part.left_by now q p ≡ awake now p)
      (none : is_restart q ≡ false) where
    -- its part wakes, and its ports do
    pub node_woken : PortsWake now (downs_of q) (record { ports = ports; out = [] }) (drafted now ports d) →
        NodeWakes now self (record { told = told_by q; out = d.out }) (left_by now q d.changes.items self)
    node_woken w = subst (λ (s : NodeState A). NodeWakes now s (record { told = told_by q; out = d.out })
        (left_by now q d.changes.items s)) is
        (subst (λ (new : NodeState A). NodeWakes now whole (record { told = told_by q; out = d.out }) new)
        (settled now q d.changes.items none)
        (record {
          name = refl;
          told = told;
          part = left;
          ports = inl (subst (λ (ds : List (PortParcel A)).
              PortsWake now ds (record { ports = ports; out = [] }) (drafted now ports d)) downs w);
        }))

    -- .. or nothing is due
    pub node_rested : downs_of q ≡ [] → NothingIsDue now ports →
        drafted now ports d ≡ record { ports = ports; out = [] } →
        NodeWakes now self (record { told = told_by q; out = d.out }) (left_by now q d.changes.items self)
    node_rested silent quiet same = subst (λ (s : NodeState A). NodeWakes now s (record { told = told_by q; out = d.out })
        (left_by now q d.changes.items s)) is
        (subst (λ (new : NodeState A). NodeWakes now whole (record { told = told_by q; out = d.out }) new)
        (settled now q d.changes.items none)
        (record {
          name = refl;
          told = told;
          part = left;
          ports = inr (record { silent = sym downs ∙ silent; none = quiet; same = same });
        }))

    pub wake_refused : (fault : Fault) → IsStopped (places_of ports) (downs_of q) fault →
        (fault ≡ Memory) ⊎ WakeIsRefused now self fault
    wake_refused fault (inl memory) = inl memory
    wake_refused fault (inr long) = inr (subst (λ (s : NodeState A). WakeIsRefused now s fault) is
        (long.0, subst (λ (ds : List (PortParcel A)). IsOneTooLong (places_of ports) ds) downs (long.1)))

  module _ (now instance : ℕ) (request : Request A) (id : ℕ) (q : PartPlan A)
      (issues : PartIssues now instance request p id (told_by q) (part.left_by now q p))
      (downs : downs_of q ≡ over ITS_PORT (told_by q).said) where
    -- a client issues
    pub node_issued : (d : Draft A) → is_restart q ≡ false →
        DownsEach now (downs_of q) (record { ports = ports; out = [] }) (drafted now ports d) →
        NodeIssues now instance request id self (record { told = told_by q; out = d.out })
        (left_by now q d.changes.items self)
    node_issued d none down = subst (λ (s : NodeState A). NodeIssues now instance request id s
        (record { told = told_by q; out = d.out }) (left_by now q d.changes.items s)) is
        (subst (λ (new : NodeState A). NodeIssues now instance request id whole
        (record { told = told_by q; out = d.out }) new) (settled now q d.changes.items none)
        (record {
          name = refl;
          issues = issues;
          goes_down = subst (λ (ds : List (PortParcel A)).
              DownsEach now ds (record { ports = ports; out = [] }) (drafted now ports d)) downs down;
        }))

    pub issue_refused : (fault : Fault) → IsStopped (places_of ports) (downs_of q) fault →
        ((fault ≡ Memory) × IsClient self.part) ⊎ IssueIsRefused now instance request self fault
    issue_refused fault (inl memory) = inl (
      memory,
      subst (λ (s : NodeState A). IsClient s.part) is
          (issuer_is_client now instance request p (part.left_by now q p) id (told_by q) issues),
    )
    issue_refused fault (inr long) = inr (subst (λ (s : NodeState A). IssueIsRefused now instance request s fault) is
        (inr (
          long.0,
          record {
            id = id;
            told = told_by q;
            left = part.left_by now q p;
            issues = issues;
            long = subst (λ (ds : List (PortParcel A)). IsOneTooLong (places_of ports) ds) downs (long.1);
          },
        )))

  module _ (now : ℕ) (limits : Option Limits) (q : PartPlan A)
      (asks : PartAsks now limits p (told_by q) (part.left_by now q p))
      (downs : downs_of q ≡ over ITS_PORT (told_by q).said) where
    -- a client asks
    pub node_asked : (d : Draft A) → is_restart q ≡ false →
        DownsEach now (downs_of q) (record { ports = ports; out = [] }) (drafted now ports d) →
        NodeAsks now limits self (record { told = told_by q; out = d.out }) (left_by now q d.changes.items self)
    node_asked d none down = subst (λ (s : NodeState A). NodeAsks now limits s
        (record { told = told_by q; out = d.out }) (left_by now q d.changes.items s)) is
        (subst (λ (new : NodeState A). NodeAsks now limits whole
        (record { told = told_by q; out = d.out }) new) (settled now q d.changes.items none)
        (record {
          name = refl;
          asks = asks;
          goes_down = subst (λ (ds : List (PortParcel A)).
              DownsEach now ds (record { ports = ports; out = [] }) (drafted now ports d)) downs down;
        }))

    pub asking_refused : (fault : Fault) → IsStopped (places_of ports) (downs_of q) fault →
        ((fault ≡ Memory) × IsClient self.part) ⊎ AskingIsRefused now limits self fault
    asking_refused fault (inl memory) = inl (
      memory,
      subst (λ (s : NodeState A). IsClient s.part) is
          (asker_is_client now limits p (part.left_by now q p) (told_by q) asks),
    )
    asking_refused fault (inr long) = inr (subst (λ (s : NodeState A). AskingIsRefused now limits s fault) is
        (inr (
          long.0,
          record {
            told = told_by q;
            left = part.left_by now q p;
            asks = asks;
            long = subst (λ (ds : List (PortParcel A)). IsOneTooLong (places_of ports) ds) downs (long.1);
          },
        )))

  -- a foreign node registers
  pub node_registered : (now : ℕ) (d : Draft A) →
      RegistersAt now ITS_PORT (record { ports = ports; out = [] }) (drafted now ports d) → d.out ≢ [] →
      NodeRegisters now self (record { told = silence; out = d.out }) (left_by now plan.Nothing d.changes.items self)
  node_registered now d r says = subst (λ (s : NodeState A). NodeRegisters now s (record { told = silence; out = d.out })
      (left_by now plan.Nothing d.changes.items s)) is
      (record { name = refl; silent = refl; same = refl; ports = r; says = says })

  pub none_registered : (now : ℕ) (d : Draft A) →
      RegistersAt now ITS_PORT (record { ports = ports; out = [] }) (drafted now ports d) → d.out ≡ [] →
      IsNotForeign now self
  none_registered now d r silent = subst (λ (s : NodeState A). IsNotForeign now s) is (record {
    left = left_of now ports d.changes.items;
    silent = subst (λ (o : List _). RegistersAt now ITS_PORT (record { ports = ports; out = [] })
        (record { ports = left_of now ports d.changes.items; out = o })) silent r;
  })

  -- a device restarts
  pub node_restarted : (now : ℕ) (opening : PlainTable A) (d : Draft A) → IsDevice p → d.out ≡ [] →
      NodeRestarts now opening self (record { told = silence; out = d.out })
      (left_by now (plan.Restarts opening) d.changes.items self)
  node_restarted now opening d device silent =
      by_part self (subst (λ (s : NodeState A). IsDevice s.part) is device)
    where
      by_part : (s : NodeState A) → IsDevice s.part → NodeRestarts now opening s (record { told = silence; out = d.out })
          (left_by now (plan.Restarts opening) d.changes.items s)
      by_part s device = record { name = refl; part = restarts s.part device; ports = refl; silent = silent }
        where
          restarts : (x : Part A) → IsDevice x →
              part.PartRestarts now opening x silence (part.left_by now (plan.Restarts opening) x)
          restarts (Device dev) y = (refl, refl)
          restarts (Client c) y = absurd y
          restarts (Router r) y = absurd y
          restarts (Manager net m) y = absurd y

  -- what isn't a device's doesn't restart
  pub none_restarted : IsNoDevice p → IsNoDevice self.part
  none_restarted none = subst (λ (s : NodeState A). IsNoDevice s.part) is none

-- what isn't a device's stays as it was
pub stays_so : {A : Type 0} (now : ℕ) (opening : PlainTable A) (p : Part A) → ((d : DeviceState A) → p ≡ Device d → ⊥) →
    part.left_by now (plan.Restarts opening) p ≡ p
stays_so now opening (Device d) other = absurd (other d refl)
stays_so now opening (Client c) other = refl
stays_so now opening (Router r) other = refl
stays_so now opening (Manager net m) other = refl

-- a router hears what comes up
pub routed : {A : Type 0} (now port : ℕ) (u : Parcel A) (p : Part A) (r : RouterState) (q : RouterPlan A) →
    p ≡ Router r → RouterHears now port u r q.out (router.left_by now q r) →
    PartHears now port u p silence q.out (part.left_by now (plan.Router q) p)
routed now port u p r q is h =
    subst (λ (x : Part _). PartHears now port u x silence q.out (part.left_by now (plan.Router q) x)) (sym is) (refl, h)

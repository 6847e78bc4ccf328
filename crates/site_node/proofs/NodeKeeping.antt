-- What goes out over the ports of a node, and what waits in them, on each of its inputs: it is good where all that waited
-- and all that goes down is. `Good` is what the layer above knows of each parcel on a network.
use Rattle.std.proofs.Common.{◌≡◌, ◌⊎◌, inl, inr, sym, subst, ℕ, List, [], length, Option, Some, None}
use Rattle.history.specs.Lists.{Has}
use Rattle.npdu.specs.declared.mac.Mac.{Mac}
use Rattle.npdu.specs.declared.mac.Station.{Station}
use Rattle.npdu.specs.declared.parcel.Parcel.{Parcel}
use Rattle.router.specs.declared.plan.PortParcel.{PortParcel}
use Rattle.site_node.specs.Node.{NodeState, begun, ended}
use Rattle.site_node.specs.Part.{ITS_PORT, PartHears, downs_awake}
use Rattle.site_node.specs.Steps.{AnswersIf, HearsOn, NodeAsks, NodeCounts, NodeHearsFrame, NodeHearsOn, NodeIssues}
use Rattle.site_node.specs.Steps.{NodeRegisters, NodeTold, NodeWakes, PortsRest, PortsWake}
use Rattle.site_node.specs.declared.part.Part.{Part}
use Rattle.site_node.specs.declared.told.PartTold.{PartTold}
use Rattle.site_ports.proofs.Keeping.{AreGood, ComesUp, Keeps, counts_keep, each_keeps, heard_comes_up, heard_keeps}
use Rattle.site_ports.proofs.Keeping.{registers_keep, wakes_keep}
use Rattle.site_ports.specs.Drafts.{PortsState}
use Rattle.site_ports.specs.Ports.{HearsAt, over}
use Rattle.primitives.specs.declared.plain_data.Request.{Request}
use Rattle.apdu.specs.declared.unconfirmed.Limits.{Limits}

module _ {A : Type 0} (Good : Station → Parcel A → Type 0) (places : List Station) (now : ℕ) where
  -- all that a part which tells this says to what comes up is good
  abbrev pub AnswersAreGood : (port : ℕ) → Mac → List ℕ → (stamp : ℕ) → Part A → PartTold A → Type 0
  AnswersAreGood port from octets stamp part told = (p : Parcel A) (downs : List (PortParcel A)) (left : Part A) →
      ComesUp places port from octets stamp p → PartHears now port p part told downs left → AreGood Good places downs

  -- octets are heard on a port
  on_keeps : (port : ℕ) (from : Mac) (octets : List ℕ) (stamp : ℕ) (start : PortsState A) (part : Part A)
      (told : PartTold A) (left : Part A) (end : PortsState A) → Keeps Good now places start →
      AnswersAreGood port from octets stamp part told → HearsOn now port from octets stamp start part told left end →
      Keeps Good now places end
  on_keeps port from octets stamp start part told left end k good h = by_up h.up h.heard
      (heard_keeps Good places now port from octets stamp start h.up h.middle k h.heard) h.answers
    where
      by_up : (up : Option (Parcel A)) → HearsAt now port from octets stamp start up h.middle →
          Keeps Good now places h.middle → AnswersIf now port up part h.middle told left end →
          Keeps Good now places end
      by_up None heard kept a = subst (λ (s : PortsState A). Keeps Good now places s) (sym (a.2)) kept
      by_up (Some p) heard kept a = each_keeps Good places now a.downs h.middle end kept
          (good p a.downs left (heard_comes_up places now port from octets stamp start h.middle p k.places_are heard)
          a.hears) a.goes_down

  module _ (old : NodeState A) (t : NodeTold A) (new : NodeState A) (k : Keeps Good now places (begun old)) where
    -- .. of a node
    pub hears_keep : (port : ℕ) (from : Mac) (octets : List ℕ) (stamp : ℕ) →
        AnswersAreGood port from octets stamp old.part t.told → NodeHearsOn now port from octets stamp old t new →
        Keeps Good now places (ended t.out new)
    hears_keep port from octets stamp good h = on_keeps port from octets stamp (begun old) old.part t.told new.part
        (ended t.out new) k good h.hears

    -- a port is told of octets
    pub octets_keep : (port count : ℕ) → NodeCounts now port count old t new → Keeps Good now places (ended t.out new)
    octets_keep port count c = counts_keep Good places count now port (begun old) (ended t.out new) k c.ports

    -- .. and its node hears the frame that they end
    pub frame_keeps : (port count : ℕ) (from : Mac) (octets : List ℕ) (stamp : ℕ) →
        AnswersAreGood port from octets stamp old.part t.told → NodeHearsFrame now port count from octets stamp old t new →
        Keeps Good now places (ended t.out new)
    frame_keeps port count from octets stamp good h = on_keeps port from octets stamp h.counted old.part t.told new.part
        (ended t.out new) (counts_keep Good places count now port (begun old) h.counted k h.told) good h.heard

    -- a node wakes
    pub node_wakes_keep : AreGood Good places (downs_awake now old.part) → NodeWakes now old t new →
        Keeps Good now places (ended t.out new)
    node_wakes_keep good w = by_case w.ports
      where
        by_case : PortsWake now (downs_awake now old.part) (begun old) (ended t.out new)
            ⊎ PortsRest now (downs_awake now old.part) (begun old) (ended t.out new) →
            Keeps Good now places (ended t.out new)
        by_case (inl woken) = wakes_keep Good places now 0 (length woken.middle.ports) woken.middle (ended t.out new)
            (each_keeps Good places now (downs_awake now old.part) (begun old) woken.middle k good woken.goes_down)
            woken.wake
        by_case (inr rest) = subst (λ (s : PortsState A). Keeps Good now places s) (sym rest.same) k

    -- a client issues, or asks
    pub issues_keep : (instance : ℕ) (request : Request A) (id : ℕ) → AreGood Good places (over ITS_PORT t.told.said) →
        NodeIssues now instance request id old t new → Keeps Good now places (ended t.out new)
    issues_keep instance request id good i =
        each_keeps Good places now (over ITS_PORT t.told.said) (begun old) (ended t.out new) k good i.goes_down

    pub asks_keep : (limits : Option Limits) → AreGood Good places (over ITS_PORT t.told.said) →
        NodeAsks now limits old t new → Keeps Good now places (ended t.out new)
    asks_keep limits good a =
        each_keeps Good places now (over ITS_PORT t.told.said) (begun old) (ended t.out new) k good a.goes_down

    -- a foreign node registers
    pub node_registers_keep : NodeRegisters now old t new → Keeps Good now places (ended t.out new)
    node_registers_keep r = registers_keep Good places now ITS_PORT (begun old) (ended t.out new) k r.ports

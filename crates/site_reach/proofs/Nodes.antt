-- Whatever a node does, it has its table still, and what it puts out is rightful.
use Rattle.std.proofs.Common.{◌≡◌, ◌∙◌, ◌⊎◌, inl, inr, refl, sym, ap, subst, ℕ, true, List, [], ◌∷◌, length, map, Option, Some, None}
use Rattle.std.specs.Prelude.{slice_get}
use Rattle.std.specs.List.{AllByRecursion}
use Rattle.apdu.specs.declared.unconfirmed.Limits.{Limits}
use Rattle.bbmd_manager.specs.State.{ManagerState}
use Rattle.bbmd_tables.specs.Tables.{is_among}
use Rattle.bvll.specs.Address.{address_at}
use Rattle.bvll.specs.Datagram.{Spells, register}
use Rattle.history.proofs.Lists.{none_has}
use Rattle.history.specs.Lists.{Has}
use Rattle.link.specs.Step.{PortSent}
use Rattle.link_site.specs.Port.{restarted}
use Rattle.link_site.specs.declared.port.SitePort.{SitePort}
use Rattle.npdu.specs.declared.mac.Mac.{Mac}
use Rattle.npdu.specs.declared.mac.Mac.TheVariants.{Six}
use Rattle.npdu.specs.declared.mac.Station as npdu
use Rattle.npdu.specs.declared.parcel.Parcel.{Parcel}
use Rattle.object_model.specs.Objects.{PlainTable}
use Rattle.primitives.specs.declared.plain_data.Request.{Request}
use Rattle.router.specs.declared.plan.PortParcel.{PortParcel}
use Rattle.site_node.specs.Manager.{ManagerHears}
use Rattle.site_node.specs.Node.{NodeState, begun, ended, node_places, places_by}
use Rattle.site_node.specs.Part.{ITS_PORT, PartAsks, PartHears, PartIssues, PartRestarts, awake, downs_awake}
use Rattle.site_node.specs.Steps.{AnswersIf, HearsAs, HearsOn, NodeAsks, NodeCounts, NodeHears, NodeHearsFrame, NodeHearsOn}
use Rattle.site_node.specs.Steps.{NodeIssues, NodeRegisters, NodeRestarts, NodeTold, NodeWakes, PortsRest, PortsWake}
use Rattle.site_node.specs.declared.part.Part.{Part}
use Rattle.site_node.specs.declared.part.Part.TheVariants.{Device, Client, Router, Manager}
use Rattle.site_node.specs.declared.told.PartTold.{PartTold}
use Rattle.site_parts.specs.declared.parts.Station.{Station}
use Rattle.site_ports.specs.Drafts.{PortsState}
use Rattle.site_ports.specs.Ports.{DownsEach, over, places_of}
use Rattle.site_reach.proofs.Managers.{heard_has, manager_quiet, woken_has}
use Rattle.site_reach.proofs.Ports.{ArePlaced, IsRightfulFrom, counted_stay, each_stays, heard_stay, items_rightful, quiet_rightful, registered_stay, restarted_stay, woken_stay}
use Rattle.site_reach.specs.Tables.{HasItsTable, HasItsTableIfAny, IsInOrder, IsPlaced, IsRightful}
use Rattle.site_views.specs.Laws.{foreigns_on, subnet_of}
use Rattle.world.proofs.Standing.{some_same}
use Rattle.world_log.specs.Growing.{items_at}

none_there : {A : Type 0} (ls : List (SitePort A)) → places_of ls ≡ [] → ls ≡ []
none_there [] e = refl
none_there (l ∷ ls) e = absurd (cc e)

no_place : (port : ℕ) (x : npdu.Station) → slice_get [] port ≡ Some x → ⊥
no_place port x e = cc e

module _ {A : Type 0} (ss : List (Station A)) (now : ℕ) where
  -- a node has its table then, and what it put out is rightful
  pub record StaysInOrder (n next : NodeState A) (out : List (PortSent A)) : Type 0 where
    pub in_order : IsInOrder ss next
    pub items : AllByRecursion (IsRightful ss) (items_at now (node_places n) out)

  -- a part has its table then where it had it
  abbrev HasStill : Part A → Part A → Type 0
  HasStill p q = (old new : List (SitePort A)) → (old ≡ [] → new ≡ []) → HasItsTableIfAny ss p old →
      HasItsTableIfAny ss q new

  itself : (p : Part A) → HasStill p p
  itself (Device d) old new none has = tt
  itself (Client c) old new none has = tt
  itself (Router r) old new none has = tt
  itself (Manager net m) old new none has = (has.0, none has.1)

  same_part : (p q : Part A) → q ≡ p → HasStill p q
  same_part p q e = subst (λ (x : Part A). HasStill p x) (sym e) (itself p)

  part_hears : (port : ℕ) (p : Parcel A) (part : Part A) (told : PartTold A) (downs : List (PortParcel A))
      (left : Part A) → PartHears now port p part told downs left → HasStill part left
  part_hears port p (Manager net m) told downs left h = same_part (Manager net m) left h.2
  part_hears port p (Device d) told downs (Manager n o) h = absurd h
  part_hears port p (Client c) told downs (Manager n o) h = absurd h
  part_hears port p (Router r) told downs (Manager n o) h = absurd h
  part_hears port p part told downs (Device e) h = λ old new none has. tt
  part_hears port p part told downs (Client c) h = λ old new none has. tt
  part_hears port p part told downs (Router r) h = λ old new none has. tt

  part_issues : (instance : ℕ) (request : Request A) (id : ℕ) (part : Part A) (told : PartTold A) (left : Part A) →
      PartIssues now instance request part id told left → HasStill part left
  part_issues instance request id (Client c) told (Client d) i = λ old new none has. tt
  part_issues instance request id (Client c) told (Device d) i = absurd i
  part_issues instance request id (Client c) told (Router r) i = absurd i
  part_issues instance request id (Client c) told (Manager n o) i = absurd i
  part_issues instance request id (Device d) told left i = absurd i
  part_issues instance request id (Router r) told left i = absurd i
  part_issues instance request id (Manager net m) told left i = absurd i

  part_asks : (limits : Option Limits) (part : Part A) (told : PartTold A) (left : Part A) →
      PartAsks now limits part told left → HasStill part left
  part_asks limits (Client c) told left a = same_part (Client c) left a.1
  part_asks limits (Device d) told left a = absurd a
  part_asks limits (Router r) told left a = absurd a
  part_asks limits (Manager net m) told left a = absurd a

  part_restarts : (opening : PlainTable A) (part : Part A) (told : PartTold A) (left : Part A) →
      PartRestarts now opening part told left → HasStill part left
  part_restarts opening (Device d) told left r = λ old new none has.
      subst (λ (x : Part A). HasItsTableIfAny ss x new) (sym r.1) tt
  part_restarts opening (Client c) told left r = absurd r
  part_restarts opening (Router q) told left r = absurd r
  part_restarts opening (Manager net m) told left r = absurd r

  part_wakes : (p : Part A) → HasStill p (awake now p)
  part_wakes (Device d) old new none has = tt
  part_wakes (Client c) old new none has = tt
  part_wakes (Router r) old new none has = tt
  part_wakes (Manager net m) old new none has = (woken_has ss net m has.0 now, none has.1)

  -- octets are heard on a port
  heard_on : (places : List npdu.Station) (port : ℕ) (from : Mac) (octets : List ℕ) (stamp : ℕ) (start : PortsState A)
      (part : Part A) (told : PartTold A) (left : Part A) (end : PortsState A) → ArePlaced ss now places start →
      HearsOn now port from octets stamp start part told left end → ArePlaced ss now places end × HasStill part left
  heard_on places port from octets stamp start part told left end k h =
      by_up h.up (heard_stay ss now places port from octets stamp start h.up h.middle k h.heard) h.answers
    where
      by_up : (up : Option (Parcel A)) → ArePlaced ss now places h.middle →
          AnswersIf now port up part h.middle told left end → ArePlaced ss now places end × HasStill part left
      by_up None kept a =
          (subst (λ (s : PortsState A). ArePlaced ss now places s) (sym a.2) kept, same_part part left a.1)
      by_up (Some p) kept a = (
        each_stays ss now places a.downs h.middle end kept a.goes_down,
        part_hears port p part told a.downs left a.hears,
      )

  module _ (n next : NodeState A) (t : NodeTold A) (has : IsInOrder ss n) where
    abbrev Placed : PortsState A → Type 0
    Placed s = ArePlaced ss now (places_of n.ports) s

    begins : Placed (begun n)
    begins = record { are_there = refl; placed = has.ports; puts = λ o h. absurd (none_has h) }

    -- over the ports of a node goes what is rightful: a manager has none
    put_rightful : Placed (ended t.out next) → (p : Part A) → HasItsTableIfAny ss p n.ports → (o : PortSent A)
        (x : npdu.Station) → Has t.out o → slice_get (places_by p n.ports) o.port ≡ Some x →
        IsRightfulFrom ss now x o.sent
    put_rightful k p table o x h e = by_part p table e
      where
        over_port : slice_get (places_of n.ports) o.port ≡ Some x → IsRightfulFrom ss now x o.sent
        over_port at = let put = k.puts o h in
            subst (λ (y : npdu.Station). IsRightfulFrom ss now y o.sent) (some_same put.at x (sym put.there ∙ at))
            put.rightful

        by_part : (q : Part A) → HasItsTableIfAny ss q n.ports → slice_get (places_by q n.ports) o.port ≡ Some x →
            IsRightfulFrom ss now x o.sent
        by_part (Device d) none at = over_port at
        by_part (Client c) none at = over_port at
        by_part (Router r) none at = over_port at
        by_part (Manager net m) has_it at = let put = k.puts o h in absurd (no_place o.port put.at
            (ap (λ (ls : List (SitePort A)). slice_get (places_of ls) o.port) (sym has_it.1) ∙ put.there))

    stays : HasStill n.part next.part → Placed (ended t.out next) → StaysInOrder n next t.out
    stays still k = record {
      in_order = record {
        table = still n.ports next.ports (λ e. none_there next.ports
            (k.are_there ∙ ap (λ (ls : List (SitePort A)). places_of ls) e)) has.table;
        ports = k.placed;
      };
      items = items_rightful ss now (node_places n) t.out (put_rightful k n.part has.table);
    }

    stays_on : (port : ℕ) (from : Mac) (octets : List ℕ) (stamp : ℕ) (start : PortsState A) → Placed start →
        HearsOn now port from octets stamp start n.part t.told next.part (ended t.out next) → StaysInOrder n next t.out
    stays_on port from octets stamp start k h =
        let on = heard_on (places_of n.ports) port from octets stamp start n.part t.told next.part (ended t.out next) k h in
        stays on.1 on.0

    pub stays_at_frame : (port count : ℕ) (from : Mac) (octets : List ℕ) (stamp : ℕ) →
        NodeHearsFrame now port count from octets stamp n t next → StaysInOrder n next t.out
    stays_at_frame port count from octets stamp h = stays_on port from octets stamp h.counted
        (counted_stay ss now (places_of n.ports) port count (begun n) h.counted begins h.told) h.heard

    pub stays_at_counting : (port count : ℕ) → NodeCounts now port count n t next → StaysInOrder n next t.out
    stays_at_counting port count c = stays (same_part n.part next.part c.same)
        (counted_stay ss now (places_of n.ports) port count (begun n) (ended t.out next) begins c.ports)

    pub stays_at_wake : NodeWakes now n t next → StaysInOrder n next t.out
    stays_at_wake w = stays (subst (λ (q : Part A). HasStill n.part q) (sym w.part) (part_wakes n.part)) (by_ports w.ports)
      where
        by_ports : PortsWake now (downs_awake now n.part) (begun n) (ended t.out next)
            ⊎ PortsRest now (downs_awake now n.part) (begun n) (ended t.out next) → Placed (ended t.out next)
        by_ports (inl k) =
            woken_stay ss now (places_of n.ports) 0 (length k.middle.ports) k.middle (ended t.out next)
            (each_stays ss now (places_of n.ports) (downs_awake now n.part) (begun n) k.middle begins k.goes_down) k.wake
        by_ports (inr r) = subst (λ (s : PortsState A). Placed s) (sym r.same) begins

    said_down : DownsEach now (over ITS_PORT t.told.said) (begun n) (ended t.out next) → Placed (ended t.out next)
    said_down d = each_stays ss now (places_of n.ports) (over ITS_PORT t.told.said) (begun n) (ended t.out next) begins d

    pub stays_at_issue : (instance : ℕ) (request : Request A) (id : ℕ) → NodeIssues now instance request id n t next →
        StaysInOrder n next t.out
    stays_at_issue instance request id i =
        stays (part_issues instance request id n.part t.told next.part i.issues) (said_down i.goes_down)

    pub stays_at_asking : (limits : Option Limits) → NodeAsks now limits n t next → StaysInOrder n next t.out
    stays_at_asking limits a = stays (part_asks limits n.part t.told next.part a.asks) (said_down a.goes_down)

    pub stays_at_registering : NodeRegisters now n t next → StaysInOrder n next t.out
    stays_at_registering r = stays (same_part n.part next.part r.same)
        (registered_stay ss now (places_of n.ports) ITS_PORT (begun n) (ended t.out next) begins r.ports)

    pub stays_at_restart : (opening : PlainTable A) → NodeRestarts now opening n t next → StaysInOrder n next t.out
    stays_at_restart opening r = record {
      in_order = record {
        table = part_restarts opening n.part t.told next.part r.part n.ports next.ports
            (λ e. r.ports ∙ ap (λ (ls : List (SitePort A)). map (λ l. restarted now l) ls) e) has.table;
        ports = subst (λ (ls : List (SitePort A)). AllByRecursion (IsPlaced ss) ls) (sym r.ports)
            (restarted_stay ss now n.ports has.ports);
      };
      items = subst (λ (os : List (PortSent A)). AllByRecursion (IsRightful ss) (items_at now (node_places n) os))
          (sym r.silent) tt;
    }

    -- octets are heard which, where they spell a registration with a manager, are those of a foreign device of its own
    pub stays_at_hearing : (port : ℕ) (from : Mac) (octets : List ℕ) (stamp : ℕ) →
        ((net : ℕ) (m : ManagerState) (table : HasItsTable ss net m) → n.part ≡ Manager net m → (seconds : ℕ)
        (six : List ℕ) → from ≡ Six six → Spells octets (register seconds) →
        is_among (address_at six) (foreigns_on (subnet_of net table.subnet) ss) ≡ true) →
        NodeHears now port from octets stamp n t next → StaysInOrder n next t.out
    stays_at_hearing port from octets stamp rightful h = by_part n.part refl h
      where
        on : NodeHearsOn now port from octets stamp n t next → StaysInOrder n next t.out
        on d = stays_on port from octets stamp (begun n) begins d.hears

        manager : (net : ℕ) (m : ManagerState) → n.part ≡ Manager net m →
            ManagerHears now from octets stamp net m n t.told t.out next → StaysInOrder n next t.out
        manager net m e d =
            let table = subst (λ (p : Part A). HasItsTableIfAny ss p n.ports) e has.table in record {
              in_order = subst (λ (x : NodeState A). IsInOrder ss x) (sym d.is) (record {
                table = (
                  heard_has ss net m table.0 now from octets stamp t.out d.left d.hears
                      (rightful net m table.0 e),
                  table.1,
                );
                ports = has.ports;
              });
              items = items_rightful ss now (node_places n) t.out (λ o x there at.
                  quiet_rightful ss now x o.sent (manager_quiet now from octets stamp m d.left t.out d.hears o there));
            }

        by_part : (p : Part A) → n.part ≡ p → HearsAs p now port from octets stamp n t next → StaysInOrder n next t.out
        by_part (Device d) e k = on k
        by_part (Client c) e k = on k
        by_part (Router r) e k = on k
        by_part (Manager net m) e k = manager net m e k

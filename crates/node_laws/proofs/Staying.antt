-- Whatever a node does, it stands as it must, and is where it was.
use Rattle.std.proofs.Common.{◌≡◌, ◌∙◌, refl, sym, ap, subst, arith, ℕ, ◌≤◌, List, [], ◌∷◌, map}
use Rattle.std.specs.Prelude.{slice_get}
use Rattle.bbmd_manager.specs.State.{ManagerState}
use Rattle.bvll.specs.declared.address.Address.{Address}
use Rattle.site_node.specs.carry.Datagrams.{mac_at}
use Rattle.carry_said.specs.headline_site.headline_device.Devices.{IsItself}
use Rattle.site_node.specs.client.Client.{ClientState}
use Rattle.site_node.specs.device.Device.{DeviceState}
use Rattle.history.proofs.HasLaws.{all_has, has_all}
use Rattle.history.proofs.Lists.{none_has}
use Rattle.inside.proofs.Insides.{some_same}
use Rattle.site_node.specs.link_site.CarryLaws.{forgets}
use Rattle.site_node.specs.link_site.Port.{moment_of, restarted, station_of}
use Rattle.site_node.specs.link_site.declared.port.SitePort.{SitePort}
use Rattle.node_laws.proofs.Following.{Follows, answers, hears_as, idles, node_wakes, part_asks, part_issues}
use Rattle.node_laws.proofs.Following.{part_restarts}
use Rattle.node_laws.specs.Stands.{IsAt, IsAtItsPort, IsAtItsPorts, SamePart, Stands, StandsLater, Stays}
use Rattle.node_laws.specs.Stands.{StaysAtAsking, StaysAtCounting, StaysAtFrame, StaysAtHearing, StaysAtIssue}
use Rattle.node_laws.specs.Stands.{StaysAtRegistering, StaysAtRestart, StaysAtWake}
use Rattle.npdu.specs.declared.mac.Mac.{Mac}
use Rattle.npdu.specs.declared.mac.Station.{Station}
use Rattle.npdu.specs.declared.parcel.Parcel.{Parcel}
use Rattle.router.specs.Router.{AreNumbered, RouterState}
use Rattle.site_node.proofs.NodeKeeping.{asks_keep, frame_keeps, hears_keep, issues_keep, node_registers_keep}
use Rattle.site_node.proofs.NodeKeeping.{node_wakes_keep, octets_keep}
use Rattle.site_node.specs.Node.{NodeState, begun, ended, home_of, manager_place, places_by}
use Rattle.site_node.specs.Steps.{HearsAs, NodeHearsOn, NodeTold}
use Rattle.site_node.specs.declared.part.Part.{Part}
use Rattle.site_node.specs.declared.part.Part.TheVariants.{Device, Client, Router, Manager}
use Rattle.site_node.specs.declared.told.PartTold.{PartTold}
use Rattle.site_node.proofs.site_ports.Keeping.{Keeps}
use Rattle.site_node.specs.site_ports.Ports.{AreBefore, places_of}

same_place : (a b : ℕ) (x y : Mac) → a ≡ b → x ≡ y →
    ◌≡◌ {A = Station} (record { net = a; mac = x }) (record { net = b; mac = y })
same_place a b x y e g = rw (e, g) refl

module _ {A : Type 0} where
  -- what holds of two parts of each kind holds of a part and the same one
  pub by_same : (P : Part A → Part A → Type 0) →
      ((d e : DeviceState A) → IsItself d e → P (Device d) (Device e)) →
      ((c d : ClientState A) → home_of (Client d) ≡ home_of (Client c) → P (Client c) (Client d)) →
      ((r q : RouterState) → q.ports ≡ r.ports → P (Router r) (Router q)) →
      ((net n : ℕ) (m o : ManagerState) → manager_place n o ≡ manager_place net m → P (Manager net m) (Manager n o)) →
      (p q : Part A) → SamePart p q → P p q
  by_same P device client router manager (Device d) (Device e) same = device d e same
  by_same P device client router manager (Client c) (Client d) same = client c d same
  by_same P device client router manager (Router r) (Router q) same = router r q same
  by_same P device client router manager (Manager net m) (Manager n o) same = manager net n m o
      (same_place n net (mac_at o.tables.own) (mac_at m.tables.own) (same.0) (ap (λ (a : Address). mac_at a) (same.1)))
  by_same P device client router manager (Device d) (Client q) same = absurd same
  by_same P device client router manager (Device d) (Router q) same = absurd same
  by_same P device client router manager (Device d) (Manager n o) same = absurd same
  by_same P device client router manager (Client c) (Device q) same = absurd same
  by_same P device client router manager (Client c) (Router q) same = absurd same
  by_same P device client router manager (Client c) (Manager n o) same = absurd same
  by_same P device client router manager (Router r) (Device q) same = absurd same
  by_same P device client router manager (Router r) (Client q) same = absurd same
  by_same P device client router manager (Router r) (Manager n o) same = absurd same
  by_same P device client router manager (Manager net m) (Device q) same = absurd same
  by_same P device client router manager (Manager net m) (Client q) same = absurd same
  by_same P device client router manager (Manager net m) (Router q) same = absurd same

  -- one port, at a place
  its_port : (x y : Station) (ls ms : List (SitePort A)) → y ≡ x → places_of ms ≡ places_of ls → IsAtItsPort x ls →
      IsAtItsPort y ms
  its_port x y ls [] e places at = absurd (cc (places ∙ ap (λ (ks : List (SitePort A)). places_of ks) at.one))
  its_port x y ls (m ∷ []) e places at = record {
    port = m;
    one = refl;
    place = some_same (station_of m) (station_of at.port) (ap (λ (xs : List Station). slice_get xs 0)
        (places ∙ ap (λ (ks : List (SitePort A)). places_of ks) at.one)) ∙ at.place ∙ sym e;
  }
  its_port x y ls (m ∷ k ∷ ms) e places at =
      absurd (cc (places ∙ ap (λ (ks : List (SitePort A)). places_of ks) at.one))

  its_ports : (xs ys : List Station) (ls ms : List (SitePort A)) → ys ≡ xs → places_of ms ≡ places_of ls →
      IsAtItsPorts xs ls → IsAtItsPorts ys ms
  its_ports xs ys ls ms e places at = record {
    places = places ∙ at.places ∙ sym e;
    numbered = subst (λ (zs : List Station). AreNumbered zs) (sym e) at.numbered;
  }

  none_there : (ms : List (SitePort A)) → places_of ms ≡ [] → ms ≡ []
  none_there [] e = refl
  none_there (m ∷ ms) e = absurd (cc e)

  -- the same part is where its ports are, where those stay where they are
  module _ (ls ms : List (SitePort A)) (places : places_of ms ≡ places_of ls) where
    still_at : (p q : Part A) → SamePart p q → IsAt p ls → IsAt q ms
    still_at = by_same (λ p q. IsAt p ls → IsAt q ms)
        (λ d e same at. its_port (home_of (Device d)) (home_of (Device e)) ls ms same.station places at)
        (λ c d same at. its_port (home_of (Client c)) (home_of (Client d)) ls ms same places at)
        (λ r q same at. its_ports r.ports q.ports ls ms same places at)
        (λ net n m o same none. none_there ms (places ∙ ap (λ (ks : List (SitePort A)). places_of ks) none))

    still_there : (p q : Part A) → SamePart p q → places_by q ms ≡ places_by p ls
    still_there = by_same (λ p q. places_by q ms ≡ places_by p ls) (λ d e same. places) (λ c d same. places)
        (λ r q same. places) (λ net n m o same. ap (λ (x : Station). x ∷ []) same)

  still_home : (p q : Part A) → SamePart p q → home_of q ≡ home_of p
  still_home = by_same (λ p q. home_of q ≡ home_of p) (λ d e same. same.station) (λ c d same. same) (λ r q same. refl)
      (λ net n m o same. refl)

  -- a node stays where its ports and its part do
  stays_so : (now : ℕ) (old new : NodeState A) → Stands now old → new.name ≡ old.name →
      places_of new.ports ≡ places_of old.ports → AreBefore now new.ports → (told : PartTold A) →
      Follows now old.part told new.part → Stays now old new
  stays_so now old new stands name places before told follows = record {
    stands = record {
      at = still_at old.ports new.ports places old.part new.part follows.same stands.at;
      before = record { ports = before; part = follows.before stands.before.part };
    };
    name = name;
    same = still_there old.ports new.ports places old.part new.part follows.same;
    home = still_home old.part new.part follows.same;
    part = follows.same;
  }

  -- whatever is said over a port is good enough where only its place is asked for
  abbrev Anything : Station → Parcel A → Type 0
  Anything x p = Unit {0}

  module _ (now : ℕ) (old new : NodeState A) (t : NodeTold A) (stands : Stands now old) where
    begins : Keeps Anything now (places_of old.ports) (begun old)
    begins = record {
      places_are = refl;
      before = λ l there. all_has (λ m. moment_of m ≤ now) old.ports l stands.before.ports there;
      waits = λ l there p waits. tt;
      puts = λ o there. absurd (none_has there);
    }

    kept : (port : ℕ) (from : Mac) (octets : List ℕ) (stamp : ℕ) → NodeHearsOn now port from octets stamp old t new →
        Keeps Anything now (places_of old.ports) (ended t.out new)
    kept port from octets stamp h = hears_keep Anything (places_of old.ports) now old t new begins port from octets
        stamp (λ p downs left up hears o there x at. tt) h

    stays : new.name ≡ old.name → Keeps Anything now (places_of old.ports) (ended t.out new) →
        Follows now old.part t.told new.part → Stays now old new
    stays name kept follows = stays_so now old new stands name kept.places_are
        (has_all (λ m. moment_of m ≤ now) new.ports kept.before) t.told follows

    hears : (p : Part A) (port : ℕ) (from : Mac) (octets : List ℕ) (stamp : ℕ) →
        Follows now old.part t.told new.part → HearsAs p now port from octets stamp old t new → Stays now old new
    hears (Device d) port from octets stamp follows h = stays h.name (kept port from octets stamp h) follows
    hears (Client c) port from octets stamp follows h = stays h.name (kept port from octets stamp h) follows
    hears (Router r) port from octets stamp follows h = stays h.name (kept port from octets stamp h) follows
    hears (Manager net m) port from octets stamp follows h = stays_so now old new stands
        (ap (λ (n : NodeState A). n.name) h.is) (ap (λ (n : NodeState A). places_of n.ports) h.is)
        (subst (λ (n : NodeState A). AreBefore now n.ports) (sym h.is) stands.before.ports) t.told follows

  -- ports that restart are where they were, at this moment
  restarted_places : (now : ℕ) (ls : List (SitePort A)) → places_of (map (λ l. restarted now l) ls) ≡ places_of ls
  restarted_places now [] = refl
  restarted_places now (l ∷ ls) =
      rw ((forgets now l).place, restarted_places now ls) refl

  restarted_before : (now : ℕ) (ls : List (SitePort A)) → AreBefore now (map (λ l. restarted now l) ls)
  restarted_before now [] = tt
  restarted_before now (l ∷ ls) = (omega (arith, (forgets now l).at), restarted_before now ls)

  -- what is before this moment is before a later one
  before_later : (now later : ℕ) (ls : List (SitePort A)) → now ≤ later → AreBefore now ls → AreBefore later ls
  before_later now later [] le before = tt
  before_later now later (l ∷ ls) le before =
      (omega (arith, le, before.0), before_later now later ls le (before.1))

pub stands_later : (A : Type 0) → StandsLater A
stands_later A now later n le stands = record {
  at = stands.at;
  before = record {
    ports = before_later now later n.ports le stands.before.ports;
    part = omega (arith, le, stands.before.part);
  };
}

pub stays_at_hearing : (A : Type 0) → StaysAtHearing A
stays_at_hearing A now port from octets stamp old new t stands h = hears now old new t stands old.part port from octets
    stamp (hears_as now old.part port from octets stamp old new t refl h) h

pub stays_at_frame : (A : Type 0) → StaysAtFrame A
stays_at_frame A now port count from octets stamp old new t stands h = stays now old new t stands h.name
    (frame_keeps Anything (places_of old.ports) now old t new (begins now old new t stands) port count from octets stamp
    (λ p downs left up hears o there x at. tt) h)
    (answers now port h.heard.up old.part new.part h.heard.middle _ t.told h.heard.answers)

pub stays_at_counting : (A : Type 0) → StaysAtCounting A
stays_at_counting A now port count old new t stands c = stays now old new t stands c.name
    (octets_keep Anything (places_of old.ports) now old t new (begins now old new t stands) port count c)
    (idles now old.part new.part t.told c.silent c.same)

pub stays_at_wake : (A : Type 0) → StaysAtWake A
stays_at_wake A now old new t stands w = stays now old new t stands w.name
    (node_wakes_keep Anything (places_of old.ports) now old t new (begins now old new t stands)
    (λ o there x at. tt) w) (node_wakes now old new t w)

pub stays_at_issue : (A : Type 0) → StaysAtIssue A
stays_at_issue A now instance request id old new t stands i = stays now old new t stands i.name
    (issues_keep Anything (places_of old.ports) now old t new (begins now old new t stands) instance request id
    (λ o there x at. tt) i) (part_issues now instance request old.part id t.told new.part i.issues)

pub stays_at_asking : (A : Type 0) → StaysAtAsking A
stays_at_asking A now limits old new t stands a = stays now old new t stands a.name
    (asks_keep Anything (places_of old.ports) now old t new (begins now old new t stands) limits
    (λ o there x at. tt) a) (part_asks now limits old.part t.told new.part a.asks)

pub stays_at_registering : (A : Type 0) → StaysAtRegistering A
stays_at_registering A now old new t stands r = stays now old new t stands r.name
    (node_registers_keep Anything (places_of old.ports) now old t new (begins now old new t stands) r)
    (idles now old.part new.part t.told r.silent r.same)

pub stays_at_restart : (A : Type 0) → StaysAtRestart A
stays_at_restart A now opening old new t stands r = stays_so now old new stands r.name
    (ap (λ (ls : List (SitePort A)). places_of ls) r.ports ∙ restarted_places now old.ports)
    (subst (λ (ls : List (SitePort A)). AreBefore now ls) (sym r.ports) (restarted_before now old.ports))
    t.told (part_restarts now opening old.part t.told new.part r.part)

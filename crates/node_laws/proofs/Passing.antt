-- What a node puts out passes on what it heard, what waited in its ports, or what it says itself.
use Rattle.std.proofs.Common.{◌≡◌, ◌∙◌, ◌⊎◌, ⊎_elim, inl, inr, refl, sym, ap, subst, ℕ, zero, suc, ◌<◌, Bool, true, false, List, [], ◌∷◌, length, map, Option, Some, None}
use Rattle.std.specs.Prelude.{slice_get}
use Rattle.apdu.specs.declared.unconfirmed.Limits.{Limits}
use Rattle.bbmd_manager.specs.State.{ManagerState}
use Rattle.site_node.proofs.carry.Passed.{none_some}
use Rattle.site_node.specs.carry.Frames.{carried_if, is_data}
use Rattle.site_node.specs.carry.Passing.{IsInsideOne, PassesOn}
use Rattle.site_node.specs.carry.Things.{Bears, Thing, Waiting, net_of}
use Rattle.history.proofs.HasLaws.{all_has, map_has}
use Rattle.history.proofs.Lists.{none_has}
use Rattle.history.specs.Lists.{Has}
use Rattle.inside.proofs.Insides.{some_same}
use Rattle.inside.proofs.Routing.{routed_is_inside}
use Rattle.inside.specs.Inside.{HasInside, HasNothingInside, Inside}
use Rattle.inside.specs.Routed.{IsRouted}
use Rattle.link.specs.Step.{LinkStep, PortSent}
use Rattle.site_node.proofs.link_site.Things.{carried_is_borne, is_on_its_network}
use Rattle.site_node.specs.link_site.CarryLaws.{forgets}
use Rattle.site_node.specs.link_site.Port.{restarted, station_of, waiting_in}
use Rattle.site_node.specs.link_site.Steps as site
use Rattle.site_node.specs.link_site.Things.{Carries, thing_at, thing_of}
use Rattle.site_node.specs.link_site.declared.port.SitePort.{SitePort}
use Rattle.mstp_frame.specs.Frame.{PlainFrame}
use Rattle.node_laws.proofs.Addresses.{datagram_from, ip_is_address}
use Rattle.node_laws.proofs.Managers.{manager_passes}
use Rattle.node_laws.specs.Laws.{AskingPassesOn, CountingPassesOn, FramePassesOn, HearingPassesOn, IssuePassesOn}
use Rattle.node_laws.specs.Laws.{RegisteringPassesOn, RestartPassesOn, WakePassesOn}
use Rattle.node_laws.specs.Out.{IsMac, IsWaitingIn, Passes, SaysAmong, WaitsAmong}
use Rattle.node_laws.specs.Stands.{IsAt, IsAtItsPort, Stands}
use Rattle.npdu.specs.Mac.{is_address}
use Rattle.npdu.specs.declared.mac.Mac.{Mac}
use Rattle.npdu.specs.declared.mac.Mac.TheVariants.{One, Six}
use Rattle.npdu.specs.declared.mac.Station.{Station}
use Rattle.npdu.specs.declared.parcel.Parcel.{Parcel}
use Rattle.router.proofs.PassLaws.{announces, passes_on}
use Rattle.router.specs.Laws.{IsOwn, IsPassedOn}
use Rattle.router.specs.Messages.{announced}
use Rattle.router.specs.Router.{AreNumbered, IsNumbered, RouterState}
use Rattle.router.specs.declared.plan.PortParcel.{PortParcel}
use Rattle.primitives.specs.declared.plain_data.Request.{Request}
use Rattle.site_node.proofs.NodeKeeping.{AnswersAreGood, asks_keep, frame_keeps, hears_keep, issues_keep}
use Rattle.site_node.proofs.NodeKeeping.{node_registers_keep, node_wakes_keep, octets_keep}
use Rattle.site_node.specs.Manager.{HearsOctets}
use Rattle.site_node.specs.Node.{NodeState, begun, ended, home_of, manager_place, node_places, places_by}
use Rattle.site_node.specs.Part.{ITS_PORT, PartAsks, PartIssues, downs_awake, told_awake}
use Rattle.site_node.specs.Steps.{AnswersIf, HearsAs, NodeAsks, NodeCounts, NodeHearsFrame, NodeHearsOn, NodeIssues}
use Rattle.site_node.specs.Steps.{NodeRegisters, NodeTold, NodeWakes, PortsRest, PortsWake}
use Rattle.site_node.specs.declared.part.Part.{Part}
use Rattle.site_node.specs.declared.part.Part.TheVariants.{Device, Client, Router, Manager}
use Rattle.site_node.specs.declared.told.PartTold.{PartTold}
use Rattle.site_node.proofs.site_ports.Keeping.{AreGood, Keeps}
use Rattle.site_node.specs.site_ports.Drafts.{PortsState}
use Rattle.site_node.specs.site_ports.Ports.{AreBefore, CountsAt, DownsEach, HearsAt, Misses, Steps, WakesFrom, over, places_of}

-- what a frame carries is from an address of one octet
frame_from : {A : Type 0} (carries : Bool) (stamp : ℕ) (f : PlainFrame) (p : Parcel A) →
    carried_if carries stamp f ≡ Some p → is_address p.from ≡ true
frame_from {A} true stamp f p e = ap (λ (q : Parcel A). is_address q.from) (sym (some_same _ p e))
frame_from false stamp f p e = absurd (none_some p e)

-- octets that are on their way to a place bear what they carry, from an address
bears_it : {A : Type 0} (from : Mac) (at : Station) (octets : List ℕ) (stamp : ℕ) → IsMac from → (p : Parcel A) →
    Carries from at.mac octets stamp p →
    Bears (thing_at at.net from at.mac octets stamp) p × (is_address p.from ≡ true)
bears_it (Six from) at octets stamp mac p c =
    (c, datagram_from (Six from) at.mac octets stamp p (ip_is_address (Six from) mac) c)
bears_it (One from) at octets stamp mac p c = (c, frame_from (is_data c.frame.frame_type) stamp c.frame p c.carries)

the_same : (x y : Station) (n : ℕ) → slice_get (x ∷ []) n ≡ Some y → y ≡ x
the_same x y zero e = sym (some_same x y e)
the_same x y (suc n) e = absurd (cc e)

module _ {A : Type 0} (ts : List (Thing A)) where
  -- whatever is inside a parcel at a place is inside one of these things, and was said at the same moment
  abbrev IsWithin : Station → Parcel A → Type 0
  IsWithin x p = (i : Inside) → HasInside x.net p.from p.to p.npdu i → IsInsideOne ts i p.stamp

  -- what a router makes of what one of these things bears is within
  routed_within : (u : Thing A) (net : ℕ) (p q : Parcel A) (x : Station) → Has ts u → net_of u ≡ net → Bears u p →
      is_address p.from ≡ true → 0 < net → net < 65535 → IsRouted net x.net p q ⊎ HasNothingInside x.net q → IsWithin x q
  routed_within u net p q x there same bears address low high made i has = ⊎_elim
      (λ (r : IsRouted net x.net p q). record {
        thing = u;
        there = there;
        parcel = p;
        bears = bears;
        has = subst (λ (n : ℕ). HasInside n p.from p.to p.npdu i) (sym same)
            (routed_is_inside net x.net p q i address low high r has);
        same = sym r.stamp;
      })
      (λ (nothing : HasNothingInside x.net q). absurd (nothing.none i has))
      made

  -- all that a router says of itself where it wakes is within: there is nothing inside
  announced_is_within : (now : ℕ) (r : RouterState) → AreGood IsWithin r.ports (announced now r)
  announced_is_within now r o there x at i has =
      let own = all_has (IsOwn r.ports) (announced now r) o (announces A now r) there in
      let same : own.station ≡ x = some_same own.station x (sym own.leaves.there ∙ at) in
      absurd ((subst (λ (z : Station). HasNothingInside z.net o.parcel) same own.inside).none i has)

  module _ (now port : ℕ) (from : Mac) (octets : List ℕ) (stamp : ℕ) (at : Station) (mac : IsMac from)
      (there : Has ts (thing_at at.net from at.mac octets stamp)) where
    -- all that a router says to what comes up of them is within
    router_answers : (r : RouterState) → slice_get r.ports port ≡ Some at → AreNumbered r.ports → (told : PartTold A) →
        AnswersAreGood IsWithin r.ports now port from octets stamp (Router r) told
    router_answers r is numbered told p downs (Router left) up hears o said x leaves i has =
        let at_port : at ≡ up.place = some_same at up.place (sym is ∙ up.at_port) in
        let carried = subst (λ (z : Station). Carries from z.mac octets stamp p) (sym at_port) up.handed.carried in
        let borne = bears_it from at octets stamp mac p carried in
        let low_high = all_has IsNumbered r.ports at numbered (record { place = port; at_place = is }) in
        let passed = all_has (IsPassedOn r.ports at.net p) downs o (passes_on A now port p r left downs at is (hears.1)) said in
        let same : passed.station ≡ x = some_same passed.station x (sym passed.leaves.there ∙ leaves) in
        routed_within (thing_at at.net from at.mac octets stamp) at.net p o.parcel x there
        (is_on_its_network A at.net from at.mac octets stamp) (borne.0) (borne.1) (low_high.0) (low_high.1)
        (subst (λ (z : Station). IsRouted at.net z.net p o.parcel ⊎ HasNothingInside z.net o.parcel) same passed.inside) i has
    router_answers r is numbered told p downs (Device left) up hears o said x leaves i has = absurd hears
    router_answers r is numbered told p downs (Client left) up hears o said x leaves i has = absurd hears
    router_answers r is numbered told p downs (Manager net left) up hears o said x leaves i has = absurd hears

  -- all that a device or a client says over its one port is within
  said_is_within : (x : Station) (ports : List (SitePort A)) (ps : List (Parcel A)) → IsAtItsPort x ports →
      ((p : Parcel A) → Has ps p → Has ts (Waiting x.net p)) → AreGood IsWithin (places_of ports) (over ITS_PORT ps)
  said_is_within x ports ps at among o said y leaves i has =
      let found = map_has (λ (p : Parcel A). record { port = ITS_PORT; parcel = p }) ps o said in
      let places : places_of ports ≡ x ∷ [] =
      ap (λ (ls : List (SitePort A)). places_of ls) at.one ∙ ap (λ (z : Station). z ∷ []) at.place in
      let here : x ≡ y = some_same x y (ap (λ (xs : List Station). slice_get xs ITS_PORT) (sym places)
      ∙ ap (λ (q : PortParcel A). slice_get (places_of ports) q.port) found.2 ∙ leaves) in
      let inside = subst (λ (q : PortParcel A). HasInside y.net q.parcel.from q.parcel.to q.parcel.npdu i) (sym found.2) has in
      subst (λ (q : PortParcel A). IsInsideOne ts i q.parcel.stamp) found.2 (record {
        thing = Waiting x.net found.0;
        there = among found.0 found.1;
        parcel = found.0;
        bears = refl;
        has = subst (λ (z : Station). HasInside z.net found.0.from found.0.to found.0.npdu i) (sym here) inside;
        same = refl;
      })

  -- before it does something a node has put out nothing, and all that waits in it is within
  begins : (now : ℕ) (n : NodeState A) → AreBefore now n.ports → WaitsAmong ts n →
      Keeps IsWithin now (places_of n.ports) (begun n)
  begins now n before among = record {
    places_are = refl;
    before = λ l there. all_has _ n.ports l before there;
    waits = λ l there p waits i has. record {
      thing = Waiting (station_of l).net p;
      there = among (station_of l) p (record { port = l; there = there; place = refl; waits = waits });
      parcel = p;
      bears = refl;
      has = has;
      same = refl;
    };
    puts = λ o there. absurd (none_has there);
  }

  -- what waits then, in the words of what is on its way
  waits_then : (now : ℕ) (places : List Station) (s : PortsState A) → Keeps IsWithin now places s → (x : Station)
      (p : Parcel A) → IsWaitingIn s.ports x p → PassesOn ts (Waiting x.net p)
  waits_then now places s kept x p waiting = record {
    passes = λ q i bears has.
        let inside = subst (λ (z : Parcel A). HasInside x.net z.from z.to z.npdu i) bears has in
        subst (λ (z : Parcel A). IsInsideOne ts i z.stamp) (sym bears) (kept.waits waiting.port waiting.there p waiting.waits i
        (subst (λ (y : Station). HasInside y.net p.from p.to p.npdu i) (sym waiting.place) inside));
  }

  -- .. and what was put out
  puts_then : (now : ℕ) (places : List Station) (s : PortsState A) → Keeps IsWithin now places s → (o : PortSent A)
      (x : Station) → Has s.out o → slice_get places o.port ≡ Some x → PassesOn ts (thing_of x o.sent)
  puts_then now places s kept o x there at = record {
    passes = λ p i bears has. (kept.puts o there).good x at p
        ((carried_is_borne A x.net x.mac o.sent.to o.sent.octets o.sent.stamp p).1 bears) i
        (subst (λ n. HasInside n p.from p.to p.npdu i)
        (is_on_its_network A x.net x.mac o.sent.to o.sent.octets o.sent.stamp) has);
  }

  -- a node without ports puts out nothing at a step of its ports
  silent : (old new : NodeState A) (out : List (PortSent A)) → new.ports ≡ [] → out ≡ [] → Passes ts old out new
  silent old new out none e = record {
    puts = λ o x there at. absurd (none_has (subst (λ (os : List (PortSent A)). Has os o) e there));
    waits = λ x p waiting. absurd (none_has
        (subst (λ (ls : List (SitePort A)). Has ls waiting.port) none waiting.there));
  }

  -- what a part says is among these things
  abbrev Says : Part A → List (Parcel A) → Type 0
  Says part ps = (p : Parcel A) → Has ps p → Has ts (Waiting (home_of part).net p)

  -- a node is where its ports are, or has none
  is_ported : (p : Part A) (ports : List (SitePort A)) → IsAt p ports →
      (places_by p ports ≡ places_of ports) ⊎ (ports ≡ [])
  is_ported (Device d) ports at = inl refl
  is_ported (Client c) ports at = inl refl
  is_ported (Router r) ports at = inl refl
  is_ported (Manager net m) ports at = inr at

  module _ (now : ℕ) (old new : NodeState A) (t : NodeTold A) (stands : Stands now old) (among : WaitsAmong ts old) where
    start : Keeps IsWithin now (places_of old.ports) (begun old)
    start = begins now old stands.before.ports among

    -- what is within goes out of it and waits there
    kept_passes : node_places old ≡ places_of old.ports → Keeps IsWithin now (places_of old.ports) (ended t.out new) →
        Passes ts old t.out new
    kept_passes are kept = record {
      puts = λ o x there at. puts_then now (places_of old.ports) (ended t.out new) kept o x there
          (ap (λ (xs : List Station). slice_get xs o.port) (sym are) ∙ at);
      waits = λ x p waiting. waits_then now (places_of old.ports) (ended t.out new) kept x p waiting;
    }

    -- .. where it has ports: else nothing does
    either_passes : Keeps IsWithin now (places_of old.ports) (ended t.out new) → (old.ports ≡ [] → Passes ts old t.out new) →
        Passes ts old t.out new
    either_passes kept silent_one = ⊎_elim
        (λ (are : node_places old ≡ places_of old.ports). kept_passes are kept)
        (λ (none : old.ports ≡ []). silent_one none) (is_ported old.part old.ports stands.at)

    -- one port makes a step: there is none where there are no ports
    none_steps : (does : SitePort A → LinkStep A → SitePort A → Type 0) (port : ℕ) →
        Steps does port (begun old) (ended t.out new) ⊎ Misses port (begun old) (ended t.out new) → old.ports ≡ [] →
        Passes ts old t.out new
    none_steps does port (inl s) none = absurd (none_some s.link
        (sym (ap (λ (ls : List (SitePort A)). slice_get ls port) none) ∙ s.there))
    none_steps does port (inr m) none = silent old new t.out (ap (λ (s : PortsState A). s.ports) m.same ∙ none)
        (ap (λ (s : PortsState A). s.out) m.same)

    -- it is told of octets, or registers
    told_passes : (port count : ℕ) → NodeCounts now port count old t new → Passes ts old t.out new
    told_passes port count c = either_passes
        (octets_keep IsWithin (places_of old.ports) now old t new start port count c)
        (none_steps (site.Counts count now) port c.ports)

    registering_passes : NodeRegisters now old t new → Passes ts old t.out new
    registering_passes r = either_passes (node_registers_keep IsWithin (places_of old.ports) now old t new start r)
        (none_steps (site.Registers now) ITS_PORT r.ports)

    -- .. or hears octets on their way to one of its places, where this is what it says to them
    module _ (port : ℕ) (from : Mac) (octets : List ℕ) (stamp : ℕ) (at : Station) (mac : IsMac from)
        (is : slice_get (node_places old) port ≡ Some at)
        (there : Has ts (thing_at at.net from at.mac octets stamp)) where
      answers : (part : Part A) → IsAt part old.ports → Says part t.told.said →
          slice_get (places_by part old.ports) port ≡ Some at →
          AnswersAreGood IsWithin (places_of old.ports) now port from octets stamp part t.told
      answers (Device d) its says here p downs (Device left) up h =
          subst (λ (os : List (PortParcel A)). AreGood IsWithin (places_of old.ports) os)
          (ap (λ (u : PartTold A). over ITS_PORT u.said) h.told_is ∙ sym h.downs_are)
          (said_is_within (home_of (Device d)) old.ports t.told.said its says)
      answers (Client c) its says here p downs (Client left) up h =
          subst (λ (os : List (PortParcel A)). AreGood IsWithin (places_of old.ports) os)
          (ap (λ (u : PartTold A). over ITS_PORT u.said) h.told_is ∙ sym h.downs_are)
          (said_is_within (home_of (Client c)) old.ports t.told.said its says)
      answers (Router r) its says here p downs left up h =
          (subst (λ (xs : List Station). AnswersAreGood IsWithin xs now port from octets stamp (Router r) t.told)
          (sym its.places) (router_answers now port from octets stamp at mac there r
          (ap (λ (xs : List Station). slice_get xs port) (sym its.places) ∙ here) its.numbered t.told)) p downs left up h
      answers (Manager net m) its says here p downs left up h =
          λ o said. absurd (none_has (subst (λ (os : List (PortParcel A)). Has os o) (h.1) said))
      answers (Device d) its says here p downs left up h = absurd h
      answers (Client c) its says here p downs left up h = absurd h

      -- a node without ports hears nothing of a frame
      unheard : (count : ℕ) → NodeHearsFrame now port count from octets stamp old t new → old.ports ≡ [] →
          Passes ts old t.out new
      unheard count h none = by_count h.told
        where
          misses : slice_get (begun old).ports port ≡ None
          misses = ap (λ (ls : List (SitePort A)). slice_get ls port) none

          by_up : (up : Option (Parcel A)) → up ≡ None → h.heard.middle ≡ begun old →
              AnswersIf now port up old.part h.heard.middle t.told new.part (ended t.out new) → Passes ts old t.out new
          by_up (Some p) e same a = absurd (cc e)
          by_up None e same a =
              let all = a.2 ∙ same in
              silent old new t.out (ap (λ (s : PortsState A). s.ports) all ∙ none)
              (ap (λ (s : PortsState A). s.out) all)

          by_heard : h.counted ≡ begun old → HearsAt now port from octets stamp h.counted h.heard.up h.heard.middle →
              Passes ts old t.out new
          by_heard same (inl s) = absurd (none_some s.link (sym misses
              ∙ sym (ap (λ (q : PortsState A). slice_get q.ports port) same) ∙ s.there))
          by_heard same (inr m) = by_up h.heard.up (m.1) (m.0.same ∙ same) h.heard.answers

          by_count : CountsAt count now port (begun old) h.counted → Passes ts old t.out new
          by_count (inl s) = absurd (none_some s.link (sym misses ∙ s.there))
          by_count (inr m) = by_heard m.same h.heard.heard

      frame_passes : (count : ℕ) → SaysAmong ts old t → NodeHearsFrame now port count from octets stamp old t new →
          Passes ts old t.out new
      frame_passes count says h = either_passes (frame_keeps IsWithin (places_of old.ports) now old t new start port count
          from octets stamp (answers old.part stands.at says is) h) (unheard count h)

      -- a manager hears a datagram that is on its way to it, and drops what comes from a bus
      managed_passes : (net : ℕ) (m left : ManagerState) → node_places old ≡ manager_place net m ∷ [] → new.ports ≡ [] →
          HearsOctets now from octets stamp m t.out left → Passes ts old t.out new
      managed_passes net m left its none h = record {
        puts = λ o x said at_it.
            let here : x ≡ manager_place net m = the_same (manager_place net m) x o.port
            (ap (λ (xs : List Station). slice_get xs o.port) (sym its) ∙ at_it) in
            subst (λ (y : Station). PassesOn ts (thing_of y o.sent)) (sym here) (by_mac from refl o said);
        waits = λ x p waiting. absurd (none_has (subst (λ (ls : List (SitePort A)). Has ls waiting.port) none
            waiting.there));
      }
        where
          at_it : at ≡ manager_place net m
          at_it = the_same (manager_place net m) at port (ap (λ (xs : List Station). slice_get xs port) (sym its) ∙ is)

          by_mac : (f : Mac) → from ≡ f → (o : PortSent A) → Has t.out o →
              PassesOn ts (thing_of (manager_place net m) o.sent)
          by_mac (One n) g o said = absurd (none_has (subst (λ (os : List (PortSent A)). Has os o)
              (subst (λ (f : Mac). HearsOctets now f octets stamp m t.out left) g h).0 said))
          by_mac (Six six) g o said = manager_passes ts now net (Six six) octets stamp m left t.out
              (subst (λ (f : Mac). IsMac f) g mac)
              (subst (λ (x : Station). Has ts (thing_at x.net (Six six) x.mac octets stamp)) at_it
              (subst (λ (f : Mac). Has ts (thing_at at.net f at.mac octets stamp)) g there))
              (subst (λ (f : Mac). HearsOctets now f octets stamp m t.out left) g h) o said

      on_ports_passes : SaysAmong ts old t → node_places old ≡ places_of old.ports →
          NodeHearsOn now port from octets stamp old t new → Passes ts old t.out new
      on_ports_passes says are h = kept_passes are (hears_keep IsWithin (places_of old.ports) now old t new start port from
          octets stamp (answers old.part stands.at says is) h)

      hearing_passes : SaysAmong ts old t → (part : Part A) → IsAt part old.ports →
          node_places old ≡ places_by part old.ports → HearsAs part now port from octets stamp old t new →
          Passes ts old t.out new
      hearing_passes says (Device d) its are h = on_ports_passes says are h
      hearing_passes says (Client c) its are h = on_ports_passes says are h
      hearing_passes says (Router r) its are h = on_ports_passes says are h
      hearing_passes says (Manager net m) its are h =
          managed_passes net m h.left are (ap (λ (n : NodeState A). n.ports) h.is ∙ its) h.hears

    -- what goes down where it wakes is within
    awake_is_within : (part : Part A) → IsAt part old.ports → Says part (told_awake now part).said →
        AreGood IsWithin (places_of old.ports) (downs_awake now part)
    awake_is_within (Device d) its says = said_is_within (home_of (Device d)) old.ports _ its says
    awake_is_within (Client c) its says = said_is_within (home_of (Client c)) old.ports _ its says
    awake_is_within (Router r) its says = subst (λ (xs : List Station). AreGood IsWithin xs (announced now r))
        (sym its.places) (announced_is_within now r)
    awake_is_within (Manager net m) its says = λ o said. absurd (none_has said)

    -- ports of which there are none do nothing where nothing goes down
    nothing_wakes : old.ports ≡ [] → downs_awake now old.part ≡ [] →
        PortsWake now (downs_awake now old.part) (begun old) (ended t.out new)
        ⊎ PortsRest now (downs_awake now old.part) (begun old) (ended t.out new) → ended t.out new ≡ begun old
    nothing_wakes none mute (inr rest) = rest.same
    nothing_wakes none mute (inl woken) =
        let same : woken.middle ≡ begun old = subst (λ (ds : List (PortParcel A)). DownsEach now ds (begun old) woken.middle)
        mute woken.goes_down in
        let count : length woken.middle.ports ≡ 0 = ap (λ (s : PortsState A). length s.ports) same
        ∙ ap (λ (ls : List (SitePort A)). length ls) none in
        subst (λ (n : ℕ). WakesFrom now 0 n woken.middle (ended t.out new)) count woken.wake ∙ same

    wake_passes : SaysAmong ts old t → NodeWakes now old t new → (part : Part A) → old.part ≡ part →
        IsAt part old.ports → node_places old ≡ places_by part old.ports → Passes ts old t.out new
    wake_passes says w = by_part
      where
        kept : node_places old ≡ places_of old.ports → Passes ts old t.out new
        kept are = kept_passes are (node_wakes_keep IsWithin (places_of old.ports) now old t new start
            (awake_is_within old.part stands.at (subst (λ (u : PartTold A). Says old.part u.said) w.told says)) w)

        by_part : (part : Part A) → old.part ≡ part → IsAt part old.ports → node_places old ≡ places_by part old.ports →
            Passes ts old t.out new
        by_part (Device d) e its are = kept are
        by_part (Client c) e its are = kept are
        by_part (Router r) e its are = kept are
        by_part (Manager net m) e its are =
            let same = nothing_wakes its (ap (λ (q : Part A). downs_awake now q) e) w.ports in
            silent old new t.out (ap (λ (s : PortsState A). s.ports) same ∙ its) (ap (λ (s : PortsState A). s.out) same)

    -- .. or a client issues or asks
    issuing_passes : (instance : ℕ) (request : Request A) (id : ℕ) → NodeIssues now instance request id old t new →
        (part left : Part A) → IsAt part old.ports → node_places old ≡ places_by part old.ports → Says part t.told.said →
        PartIssues now instance request part id t.told left → Passes ts old t.out new
    issuing_passes instance request id i (Client c) (Client left) its are says h = kept_passes are (issues_keep IsWithin
        (places_of old.ports) now old t new start instance request id
        (said_is_within (home_of (Client c)) old.ports t.told.said its says) i)
    issuing_passes instance request id i part left its are says h = absurd h

    asking_passes : (limits : Option Limits) → NodeAsks now limits old t new → (part left : Part A) → IsAt part old.ports →
        node_places old ≡ places_by part old.ports → Says part t.told.said → PartAsks now limits part t.told left →
        Passes ts old t.out new
    asking_passes limits a (Client c) left its are says h = kept_passes are (asks_keep IsWithin (places_of old.ports) now old
        t new start limits (said_is_within (home_of (Client c)) old.ports t.told.said its says) a)
    asking_passes limits a part left its are says h = absurd h

  -- nothing waits in ports that restarted
  restarted_waits : (now : ℕ) (ports new : List (SitePort A)) → new ≡ map (λ l. restarted now l) ports → (x : Station)
      (p : Parcel A) → IsWaitingIn new x p → ⊥
  restarted_waits now ports new is x p waiting =
      let found = map_has (λ (l : SitePort A). restarted now l) ports waiting.port
      (subst (λ (ls : List (SitePort A)). Has ls waiting.port) is waiting.there) in
      none_has (subst (λ (ps : List (Parcel A)). Has ps p) (forgets now found.0).none
      (subst (λ (l : SitePort A). Has (waiting_in l) p) (sym found.2) waiting.waits))

pub hearing_passes_on : (A : Type 0) → HearingPassesOn A
hearing_passes_on A ts now port from octets stamp old new t at stands among says mac is there h =
    hearing_passes ts now old new t stands among port from octets stamp at mac is there says old.part stands.at refl h

pub frame_passes_on : (A : Type 0) → FramePassesOn A
frame_passes_on A ts now port count from octets stamp old new t at stands among says mac is there h =
    frame_passes ts now old new t stands among port from octets stamp at mac is there count says h

pub counting_passes_on : (A : Type 0) → CountingPassesOn A
counting_passes_on A ts now port count old new t stands among c = told_passes ts now old new t stands among port count c

pub wake_passes_on : (A : Type 0) → WakePassesOn A
wake_passes_on A ts now old new t stands among says w =
    wake_passes ts now old new t stands among says w old.part refl stands.at refl

pub issue_passes_on : (A : Type 0) → IssuePassesOn A
issue_passes_on A ts now instance request id old new t stands among says i = issuing_passes ts now old new t stands among
    instance request id i old.part new.part stands.at refl says i.issues

pub asking_passes_on : (A : Type 0) → AskingPassesOn A
asking_passes_on A ts now limits old new t stands among says a =
    asking_passes ts now old new t stands among limits a old.part new.part stands.at refl says a.asks

pub registering_passes_on : (A : Type 0) → RegisteringPassesOn A
registering_passes_on A ts now old new t stands among r = registering_passes ts now old new t stands among r

pub restart_passes_on : (A : Type 0) → RestartPassesOn A
restart_passes_on A ts now opening old new t r = record {
  puts = λ o x there at. absurd (none_has (subst (λ (os : List (PortSent A)). Has os o) r.silent there));
  waits = λ x p waiting. absurd (restarted_waits ts now old.ports new.ports r.ports x p waiting);
}

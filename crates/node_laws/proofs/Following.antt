-- Whatever a part does, it stays the one that it was and has seen no later moment; what it tells is its own.
use Rattle.std.proofs.Common.{◌≡◌, ◌∙◌, ⊎_elim, inl, inr, refl, sym, ap, subst, arith, ℕ, ◌≤◌, List, [], ◌∷◌}
use Rattle.std.specs.Prelude.{Option, Some, None}
use Rattle.apdu.specs.Apdu.{PlainApdu, abort_pdu, complex_ack, confirmed, error_pdu, reject_pdu, segment_ack}
use Rattle.apdu.specs.Apdu.{simple_ack, unconfirmed}
use Rattle.apdu.specs.declared.unconfirmed.Limits.{Limits}
use Rattle.bbmd_manager.specs.Manager.{left_of}
use Rattle.bbmd_manager.specs.State.{ManagerState}
use Rattle.bvll.specs.Datagram.{Datagram}
use Rattle.bvll.specs.declared.address.Address.{Address}
use Rattle.carry_said.proofs.Clients.{client_hearing_says, client_says_something, who_is_says_something}
use Rattle.carry_said.proofs.Devices.{device_hearing_says, device_says_something}
use Rattle.carry_said.proofs.Parcels.{saying_each}
use Rattle.carry_said.proofs.headline_site.headline_device.Itself.{itself_hearing, itself_restarting, itself_waking}
use Rattle.carry_said.specs.Said.{IsSaying, IsSayingEach}
use Rattle.carry_said.specs.headline_site.headline_device.Devices.{serves}
use Rattle.site_node.specs.client.Client.{ClientState}
use Rattle.site_node.specs.client.ClientTold.{ClientTold}
use Rattle.site_node.specs.client.Hearing as clients
use Rattle.site_node.specs.client.Hearing.{ClientHears}
use Rattle.site_node.specs.client.Saying.{who_is_parcel}
use Rattle.site_node.specs.client.client_tsm.Client as client_tsm
use Rattle.site_node.specs.client.client_tsm.Client.{ClientTsmState}
use Rattle.site_node.specs.client.client_tsm.Issuing.{issued}
use Rattle.site_node.specs.client.client_tsm.Waking as client_waking
use Rattle.site_node.specs.client.client_tsm.declared.plan.ClientTsmChange.{ClientTsmChange}
use Rattle.site_node.specs.client.client_tsm.declared.plan.ClientTsmChange.TheVariants as client_change
use Rattle.site_node.specs.device.Device.{DeviceState}
use Rattle.site_node.specs.device.DeviceTold.{DeviceTold}
use Rattle.site_node.specs.device.Hearing as devices
use Rattle.site_node.specs.device.Hearing.{DeviceHears}
use Rattle.site_node.specs.device.server_answers.Plan as server_change
use Rattle.site_node.specs.device.server_answers.Plan.{ServerChange}
use Rattle.site_node.specs.device.server_answers.declared.asked.Origin.{Origin}
use Rattle.site_node.specs.device.server_tsm.Server as server_tsm
use Rattle.site_node.specs.device.server_tsm.Server.{ServerTsmState}
use Rattle.site_node.specs.device.server_tsm.Steps as server_tsm_steps
use Rattle.site_node.specs.device.server_tsm.Waking as server_waking
use Rattle.history.proofs.Lists.{has_cons, none_has}
use Rattle.history.specs.Lists.{Has}
use Rattle.node_laws.specs.Laws.{IsRelay}
use Rattle.node_laws.specs.Stands.{SamePart}
use Rattle.npdu.specs.declared.mac.Mac.{Mac}
use Rattle.npdu.specs.declared.mac.Mac.TheVariants.{One, Six}
use Rattle.npdu.specs.declared.mac.Station.{Station}
use Rattle.npdu.specs.declared.mac.Target.{Target}
use Rattle.npdu.specs.declared.mac.Way.{Way}
use Rattle.npdu.specs.declared.parcel.Parcel.{Parcel}
use Rattle.object_model.specs.Objects.{PlainTable}
use Rattle.primitives.specs.declared.plain_data.Request.{Request}
use Rattle.router.specs.Hearing.{RouterHears}
use Rattle.router.specs.Router.{RouterState}
use Rattle.router.specs.declared.plan.PortParcel.{PortParcel}
use Rattle.site_node.specs.Manager.{HearsOctets}
use Rattle.site_node.specs.Node.{NodeState, home_of, moment_of}
use Rattle.site_node.specs.Part.{PartAsks, PartHears, PartIssues, PartRestarts, awake, silence, told_awake}
use Rattle.site_node.specs.Steps.{AnswersIf, HearsAs, NodeTold, NodeWakes}
use Rattle.site_node.specs.declared.part.Part.{Part}
use Rattle.site_node.specs.declared.part.Part.TheVariants.{Device, Client, Router, Manager}
use Rattle.site_node.specs.declared.told.PartTold.{PartTold}
use Rattle.site_node.specs.site_ports.Drafts.{PortsState}
use Rattle.unitdata.specs.Hearing.{HeardContent, refuses, says}

-- a part is the one that it was, has seen no later moment, and what it tells is its own; a router or a manager tells
-- nothing
pub record Follows {A : Type 0} (now : ℕ) (old : Part A) (told : PartTold A) (new : Part A) : Type 0 where
  pub same : SamePart old new
  pub before : moment_of old ≤ now → moment_of new ≤ now
  pub own : IsSayingEach (home_of old) now told.said
  pub silent : IsRelay old → told ≡ silence

server_is_at : {A : Type 0} (now : ℕ) (x : ServerChange A) (st : ServerTsmState A) →
    (server_tsm.committed now x st).moment ≡ now
server_is_at now server_change.Stays st = refl
server_is_at now (server_change.Says saying) st = refl
server_is_at now (server_change.Gathers asked segment octets) st = refl
server_is_at now (server_change.GivesUp asker) st = refl
server_is_at now (server_change.Executes request r) st = refl
server_is_at now (server_change.Wakes sayings) st = refl

client_is_at : {A : Type 0} (now : ℕ) (x : ClientTsmChange A) (st : ClientTsmState A) →
    (client_tsm.committed now x st).moment ≡ now
client_is_at now client_change.Stays st = refl
client_is_at now (client_change.Opens o) st = refl
client_is_at now (client_change.Sends place sending) st = refl
client_is_at now (client_change.Gathers place s octets) st = refl
client_is_at now (client_change.Renews place) st = refl
client_is_at now (client_change.Ends place) st = refl
client_is_at now client_change.Wakes st = refl

-- a manager has its address, and is at this moment
found : (now : ℕ) (from : Address) (m : ManagerState) (d : Option Datagram) →
    ((left_of now from m d).tables.own ≡ m.tables.own) × ((left_of now from m d).moment ≡ now)
found now from m None = (refl, refl)
found now from m (Some d) = (refl, refl)

module _ {A : Type 0} (now : ℕ) where
  -- no parcel is its own
  none_own : (x : Station) (told : PartTold A) → told ≡ silence → IsSayingEach x now told.said
  none_own x told e = subst (λ (t : PartTold A). IsSayingEach x now t.said) (sym e)
      (record { insides = record { said = []; are = tt }; each = tt })

  same_part : (p : Part A) → SamePart p p
  same_part (Device d) = record { instance = refl; vendor = refl; station = refl; size = refl }
  same_part (Client c) = refl
  same_part (Router r) = refl
  same_part (Manager net m) = (refl, refl)

  -- a part that stays as it was, and tells nothing
  pub idles : (p q : Part A) (told : PartTold A) → told ≡ silence → q ≡ p → Follows now p told q
  idles p q told silent e = subst (λ (x : Part A). Follows now p told x) (sym e) (record {
    same = same_part p;
    before = λ le. le;
    own = none_own (home_of p) told silent;
    silent = λ relay. silent;
  })

  module _ (d left : DeviceState A) (told : DeviceTold A) (le : d.server.moment ≤ now) where
    by_serving : (from : Origin) (a : PlainApdu) → devices.Serves now from a d told left → left.server.moment ≤ now
    by_serving from a k =
        let at : left.server.moment ≡ now = ap (λ (x : DeviceState A). x.server.moment) k.new_is
        ∙ ap (λ (s : ServerTsmState A). s.moment) k.step.left_is ∙ server_is_at now k.step.plan.change d.server in
        omega (arith, at)

    by_idling : left ≡ d → left.server.moment ≤ now
    by_idling e = subst (λ (x : DeviceState A). x.server.moment ≤ now) (sym e) le

    by_content : (from : Origin) (c : HeardContent) → devices.Does now from c d told left → left.server.moment ≤ now
    by_content from (says (unconfirmed service octets)) k = by_idling (k.1)
    by_content from (says (confirmed segment accepted segments size invoke service octets)) k = by_serving from _ k
    by_content from (says (simple_ack invoke service)) k = by_serving from _ k
    by_content from (says (complex_ack segment invoke service octets)) k = by_serving from _ k
    by_content from (says (segment_ack negative server invoke number window)) k = by_serving from _ k
    by_content from (says (error_pdu invoke service class code first)) k = by_serving from _ k
    by_content from (says (reject_pdu invoke reason)) k = by_serving from _ k
    by_content from (says (abort_pdu server invoke reason)) k = by_serving from _ k
    by_content from (refuses rejected) k = by_idling (k.1)

    device_before : (from : Mac) (to : Target) (npdu : List ℕ) → DeviceHears now from to npdu d told left →
        left.server.moment ≤ now
    device_before from to npdu (inl h) = by_content (devices.origin_of h.heard) h.heard.content h.does
    device_before from to npdu (inr drops) = by_idling drops.same

  -- a client is where it was, and has seen no later moment
  abbrev IsStill : (old new : ClientState A) → Type 0
  IsStill c left = (home_of (Client left) ≡ home_of (Client c)) × (c.machine.moment ≤ now → left.machine.moment ≤ now)

  transacted : (c left : ClientState A) (x : ClientTsmChange A) →
      left ≡ record c { machine = client_tsm.committed now x c.machine } → IsStill c left
  transacted c left x is = subst (λ (k : ClientState A). IsStill c k) (sym is)
      (refl, λ le. let at = client_is_at now x c.machine in omega (arith, at))

  module _ (c left : ClientState A) (told : ClientTold A) where
    by_transacting : (from : Station) (a : PlainApdu) → clients.Transacts now from a c told left → IsStill c left
    by_transacting from a k = transacted c left k.step.plan.change
        (k.new_is ∙ ap (λ (s : ClientTsmState A). record c { machine = s }) k.step.left_is)

    by_holding : (bindings : List _) → clients.Holds bindings c told left → IsStill c left
    by_holding bindings k = subst (λ (x : ClientState A). IsStill c x) (sym k.left) (refl, λ le. le)

    by_message : (from : Station) (way : Way) (x : HeardContent) → clients.Does now from way x c told left →
        IsStill c left
    by_message from way (says (unconfirmed service octets)) k = by_holding k.bindings k.holds
    by_message from way (says (confirmed segment accepted segments size invoke service octets)) k =
        by_transacting from _ k
    by_message from way (says (simple_ack invoke service)) k = by_transacting from _ k
    by_message from way (says (complex_ack segment invoke service octets)) k = by_transacting from _ k
    by_message from way (says (segment_ack negative server invoke number window)) k = by_transacting from _ k
    by_message from way (says (error_pdu invoke service class code first)) k = by_transacting from _ k
    by_message from way (says (reject_pdu invoke reason)) k = by_transacting from _ k
    by_message from way (says (abort_pdu server invoke reason)) k = by_transacting from _ k
    by_message from way (refuses rejected) k = by_holding _ k

    client_is_still : (from : Mac) (to : Target) (npdu : List ℕ) → ClientHears now from to npdu c told left →
        IsStill c left
    client_is_still from to npdu (inl h) = by_message h.heard.station h.heard.way h.heard.content h.does
    client_is_still from to npdu (inr drops) =
        subst (λ (x : ClientState A). IsStill c x) (sym drops.same) (refl, λ le. le)

  -- a client that is still, and what it tells is its own
  client_follows : (c left : ClientState A) (told : PartTold A) → IsStill c left →
      IsSayingEach (home_of (Client c)) now told.said → Follows now (Client c) told (Client left)
  client_follows c left told still own =
      record { same = still.0; before = still.1; own = own; silent = λ relay. absurd relay }

  -- a router with other routes
  router_follows : (r left : RouterState) (told : PartTold A) → told ≡ silence → left.ports ≡ r.ports →
      left.moment ≡ now → Follows now (Router r) told (Router left)
  router_follows r left told silent ports at = record {
    same = ports;
    before = λ le. omega (arith, at);
    own = none_own _ told silent;
    silent = λ relay. silent;
  }

  router_hears : (port : ℕ) (p : Parcel A) (r left : RouterState) (told : PartTold A) (out : List (PortParcel A)) →
      told ≡ silence → RouterHears now port p r out left → Follows now (Router r) told (Router left)
  router_hears port p r left told out silent (inl h) = router_follows r left told silent
      (ap (λ (s : RouterState). s.ports) h.comes.leaves) (ap (λ (s : RouterState). s.moment) h.comes.leaves)
  router_hears port p r left told out silent (inr d) = router_follows r left told silent
      (ap (λ (s : RouterState). s.ports) d.same) (ap (λ (s : RouterState). s.moment) d.same)

  -- a manager with other registrations
  manager_follows : (net : ℕ) (m left : ManagerState) (told : PartTold A) → told ≡ silence →
      left.tables.own ≡ m.tables.own → left.moment ≡ now → Follows now (Manager net m) told (Manager net left)
  manager_follows net m left told silent own at = record {
    same = (refl, own);
    before = λ le. omega (arith, at);
    own = none_own _ told silent;
    silent = λ relay. silent;
  }

  manager_hears : (from : Mac) (octets : List ℕ) (stamp net : ℕ) (m left : ManagerState) (told : PartTold A)
      (out : List _) → told ≡ silence → HearsOctets {A = A} now from octets stamp m out left →
      Follows now (Manager net m) told (Manager net left)
  manager_hears (One from) octets stamp net m left told out silent h =
      idles (Manager net m) (Manager net left) told silent (ap (λ (x : ManagerState). Manager net x) (h.1))
  manager_hears (Six from) octets stamp net m left told out silent h =
      let is = found now _ m h.found in
      manager_follows net m left told silent (ap (λ (x : ManagerState). x.tables.own) h.leaves ∙ is.0)
      (ap (λ (x : ManagerState). x.moment) h.leaves ∙ is.1)

  -- a part hears a message
  part_hears : (port : ℕ) (p : Parcel A) (old : Part A) (told : PartTold A) (downs : List (PortParcel A))
      (left : Part A) → PartHears now port p old told downs left → Follows now old told left
  part_hears port p (Device d) told downs (Device left) h = record {
    same = itself_hearing now p.from p.to p.npdu d left h.by h.hears;
    before = λ le. device_before d left h.by le p.from p.to p.npdu h.hears;
    own = subst (λ (t : PartTold A). IsSayingEach (home_of (Device d)) now t.said) (sym h.told_is)
        (device_hearing_says now p.from p.to p.npdu d left h.by h.hears);
    silent = λ relay. absurd relay;
  }
  part_hears port p (Client c) told downs (Client left) h = client_follows c left told
      (client_is_still c left h.by p.from p.to p.npdu h.hears)
      (subst (λ (t : PartTold A). IsSayingEach (home_of (Client c)) now t.said) (sym h.told_is)
      (client_hearing_says now p.from p.to p.npdu c left h.by h.hears))
  part_hears port p (Router r) told downs (Router left) h = router_hears port p r left told downs (h.0) (h.1)
  part_hears port p (Manager net m) told downs left h = idles (Manager net m) left told (h.0) (h.2)
  part_hears port p (Device d) told downs (Client left) h = absurd h
  part_hears port p (Device d) told downs (Router left) h = absurd h
  part_hears port p (Device d) told downs (Manager net left) h = absurd h
  part_hears port p (Client c) told downs (Device left) h = absurd h
  part_hears port p (Client c) told downs (Router left) h = absurd h
  part_hears port p (Client c) told downs (Manager net left) h = absurd h
  part_hears port p (Router r) told downs (Device left) h = absurd h
  part_hears port p (Router r) told downs (Client left) h = absurd h
  part_hears port p (Router r) told downs (Manager net left) h = absurd h

  -- .. if one comes up
  pub answers : (port : ℕ) (up : Option (Parcel A)) (old left : Part A) (middle end : PortsState A)
      (told : PartTold A) → AnswersIf now port up old middle told left end → Follows now old told left
  answers port None old left middle end told a = idles old left told (a.0) (a.1)
  answers port (Some p) old left middle end told a = part_hears port p old told a.downs left a.hears

  -- .. or octets: a manager hears all
  pub hears_as : (p : Part A) (port : ℕ) (from : Mac) (octets : List ℕ) (stamp : ℕ) (old new : NodeState A)
      (t : NodeTold A) → old.part ≡ p → HearsAs p now port from octets stamp old t new →
      Follows now old.part t.told new.part
  hears_as (Device d) port from octets stamp old new t is h =
      answers port h.hears.up _ _ h.hears.middle _ t.told h.hears.answers
  hears_as (Client c) port from octets stamp old new t is h =
      answers port h.hears.up _ _ h.hears.middle _ t.told h.hears.answers
  hears_as (Router r) port from octets stamp old new t is h =
      answers port h.hears.up _ _ h.hears.middle _ t.told h.hears.answers
  hears_as (Manager net m) port from octets stamp old new t is h =
      subst (λ (p : Part A). Follows now p t.told new.part) (sym is)
      (subst (λ (n : NodeState A). Follows now (Manager net m) t.told n.part) (sym h.is)
      (manager_hears from octets stamp net m h.left t.told t.out h.silent h.hears))

  -- it wakes
  part_wakes : (p : Part A) → Follows now p (told_awake now p) (awake now p)
  part_wakes (Device d) = record {
    same = itself_waking now d;
    before = λ le. let at = server_is_at now (server_waking.woken now d.server.records).change d.server in
        omega (arith, at);
    own = saying_each (home_of (Device d)) now (told_awake now (Device d)).said (λ p there.
        device_says_something now d
        (serves (server_tsm_steps.told_of_plan (server_waking.woken now d.server.records)) d.server) p there);
    silent = λ relay. absurd relay;
  }
  part_wakes (Client c) =
      let woken = client_waking.woken now c.machine.open_ones in
      client_follows c _ (told_awake now (Client c)) (transacted c _ woken.change refl)
      (saying_each (home_of (Client c)) now (told_awake now (Client c)).said
      (λ p there. client_says_something now c woken.said p there))
  part_wakes (Router r) = router_follows r _ silence refl refl refl
  part_wakes (Manager net m) = manager_follows net m _ silence refl refl refl

  pub node_wakes : (old new : NodeState A) (t : NodeTold A) → NodeWakes now old t new →
      Follows now old.part t.told new.part
  node_wakes old new t w = subst (λ (told : PartTold A). Follows now old.part told new.part) (sym w.told)
      (subst (λ (p : Part A). Follows now old.part (told_awake now old.part) p) (sym w.part) (part_wakes old.part))

  -- it issues a request
  pub part_issues : (instance : ℕ) (request : Request A) (old : Part A) (id : ℕ) (told : PartTold A) (left : Part A) →
      PartIssues now instance request old id told left → Follows now old told left
  part_issues instance request (Client c) id told (Client left) i =
      let plan = issued now request i.issues.binding.bound c.machine in
      client_follows c left told (transacted c left plan.change i.issues.left)
      (saying_each (home_of (Client c)) now told.said (λ p there. client_says_something now c plan.said p
      (subst (λ (ps : List (Parcel A)). Has ps p) i.issues.said there)))
  part_issues instance request (Client c) id told (Device left) i = absurd i
  part_issues instance request (Client c) id told (Router left) i = absurd i
  part_issues instance request (Client c) id told (Manager net left) i = absurd i
  part_issues instance request (Device d) id told left i = absurd i
  part_issues instance request (Router r) id told left i = absurd i
  part_issues instance request (Manager net m) id told left i = absurd i

  -- it asks who is there
  who_is_own : (c : ClientState A) (limits : Option Limits) →
      IsSayingEach (home_of (Client c)) now (who_is_parcel {A = A} now c.mac limits ∷ [])
  who_is_own c limits = saying_each (home_of (Client c)) now (who_is_parcel now c.mac limits ∷ []) (λ p there. ⊎_elim
      (λ (same : who_is_parcel now c.mac limits ≡ p).
      subst (λ (q : Parcel A). IsSaying (home_of (Client c)) now q) same (who_is_says_something now c limits))
      (λ (more : Has [] p). absurd (none_has more)) (has_cons (who_is_parcel now c.mac limits) [] there))

  pub part_asks : (limits : Option Limits) (old : Part A) (told : PartTold A) (left : Part A) →
      PartAsks now limits old told left → Follows now old told left
  part_asks limits (Client c) told left a = subst (λ (x : Part A). Follows now (Client c) told x) (sym (a.1))
      (client_follows c c told (refl, λ le. le)
      (subst (λ (t : PartTold A). IsSayingEach (home_of (Client c)) now t.said) (sym (a.0)) (who_is_own c limits)))
  part_asks limits (Device d) told left a = absurd a
  part_asks limits (Router r) told left a = absurd a
  part_asks limits (Manager net m) told left a = absurd a

  -- it restarts
  pub part_restarts : (opening : PlainTable A) (old : Part A) (told : PartTold A) (left : Part A) →
      PartRestarts now opening old told left → Follows now old told left
  part_restarts opening (Device d) told left r = subst (λ (x : Part A). Follows now (Device d) told x) (sym (r.1))
      (record {
        same = itself_restarting now opening d;
        before = λ le. omega arith;
        own = none_own (home_of (Device d)) told (r.0);
        silent = λ relay. absurd relay;
      })
  part_restarts opening (Client c) told left r = absurd r
  part_restarts opening (Router q) told left r = absurd r
  part_restarts opening (Manager net m) told left r = absurd r

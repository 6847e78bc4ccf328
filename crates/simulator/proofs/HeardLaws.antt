-- What a device or a client hears was said, what is executed on it was issued, what is told of it is of its issue, and
-- what comes whole is the whole of one: on a delivery, on each frame that octets on a bus end, and at a wake.
use Rattle.std.proofs.Common.{◌≡◌, ◌∙◌, refl, sym, ap, subst, ℕ, List, [], ◌∷◌, Option, Some, None}
use Rattle.std.specs.Prelude.{slice_get}
use Rattle.std.specs.List.{AllByRecursion}
use Rattle.bus_traffic.specs.declared.hearing.HeardFrame.{HeardFrame}
use Rattle.carry.specs.Things.{Thing}
use Rattle.world.proofs.carry_world.Executed.{whole_is_executed}
use Rattle.world.proofs.carry_world.Promised.{all_hear, executed_is_issued, outcomes_are_of_issues, steps_lead_on, whole_is_issued, woken_are_of_issues}
use Rattle.world.specs.carry_world.Answers.{AnswerComesWhole, IsOfExecution}
use Rattle.world.specs.carry_world.Laws.{IsExecuted, IsFresh, IsIssuedTo, IsOfItsIssue, IsWholeIssue}
use Rattle.world.specs.carry_world.PlainSteps.{StepsTo}
use Rattle.world.specs.carry_world.PlainWorld.{Delivers, PlainWorld}
use Rattle.world.specs.carry_world.carry_said.headline_site.Laws.{ComesWhole}
use Rattle.world.specs.client.Client.{ClientState}
use Rattle.world.specs.client.client_tsm.Hearing as client_tsm
use Rattle.world.specs.client.client_tsm.declared.plan.TransactionOutcome.{TransactionOutcome}
use Rattle.world.specs.device.Device.{DeviceState}
use Rattle.world.specs.device.server_answers.Executed.{Executed}
use Rattle.world.specs.device.server_tsm.Hearing as server_tsm
use Rattle.headline.specs.Happenings.{Fails, Gives, Outcome}
use Rattle.headline.specs.Protocol.{IsSite}
use Rattle.history.proofs.Lists.{has, has_next}
use Rattle.history.specs.Lists.{Has}
use Rattle.world.specs.node_laws.Laws.{IsRelay}
use Rattle.npdu.specs.declared.mac.Mac.{Mac}
use Rattle.npdu.specs.declared.mac.Mac.TheVariants.{One}
use Rattle.npdu.specs.declared.mac.Station.{Station}
use Rattle.npdu.specs.declared.parcel.Parcel.{Parcel}
use Rattle.primitives.specs.declared.plain_data.Reply.{Reply}
use Rattle.router.specs.declared.plan.PortParcel.{PortParcel}
use Rattle.simulator.proofs.ActLaws.{plain_with}
use Rattle.simulator.proofs.BusLeads as bus
use Rattle.simulator.proofs.BusLeads.{Here, IsComing, all_pass, arrives, begins, comes, takes}
use Rattle.simulator.proofs.HearLeads.{frame_brings}
use Rattle.simulator.proofs.LeadLaws.{item_brings, with_nothing}
use Rattle.simulator.proofs.Parts.{part_at}
use Rattle.simulator.specs.Heard.{AreOfIssues, HasBrought, HoldsAtEach, HoldsBy, HoldsFor, HoldsIn}
use Rattle.simulator.specs.Heard.{IsWholeAnswer, IsWholeRequest, WasIssued, WasSaid, up_of}
use Rattle.simulator.specs.Laws.{IsLed}
use Rattle.world.specs.site_node.Node.{NodeState, home_of}
use Rattle.world.specs.site_node.Part.{OfClient, OfDevice, PartHears, silence, told_awake}
use Rattle.world.specs.site_node.Steps.{AnswersIf, HearsAs, NodeTold}
use Rattle.world.specs.site_node.declared.part.Part.{Part}
use Rattle.world.specs.site_node.declared.part.Part.TheVariants.{Device, Client, Router, Manager}
use Rattle.world.specs.site_node.declared.told.PartTold.{PartTold}
use Rattle.world.specs.site_ports.Drafts.{PortsState}
use Rattle.world.proofs.Standing.{some_same}
use Rattle.world.specs.Hearing.{Hears, TakesEach}
use Rattle.world.specs.Laws.{Stands}
use Rattle.world.specs.World.{WorldState, plain}
use Rattle.world.specs.site_events.declared.event.Event.{Event}
use Rattle.world.specs.site_events.declared.event.Event.TheVariants as event
use Rattle.world.specs.declared.happening.Happening.{Happening}
use Rattle.world.specs.declared.happening.Happening.TheVariants as happening
use Rattle.world.specs.declared.listener.Listener.{Listener}
use Rattle.world.specs.headline_bacnet.Protocol.{bacnet}
use Rattle.world.specs.headline_bacnet.Refined.{ObjectSite}
use Rattle.world.specs.headline_client.Told.{outcome_of}
use Rattle.world.proofs.headline_client.Places.{all_weaken}
use Rattle.world.specs.world_sites.Nodes.{client_of, device_of}
use Rattle.world.specs.world_sites.Opening.{object_site}

-- this world came about from a fresh one of a site
record CameAbout {A : Type 0} (s0 : ObjectSite A) (q : PlainWorld A) : Type 0 where
  is_site : IsSite (bacnet A) s0
  fresh : PlainWorld A
  begun : IsFresh s0 fresh
  leads : StepsTo s0 fresh q

came_about : {A : Type 0} (w : WorldState A) → IsLed w → CameAbout (object_site w.site) (plain_with [] w)
came_about {A} w led = subst (λ (q : PlainWorld A). CameAbout (object_site w.site) q) (sym (with_nothing w))
    (record { is_site = led.is_site; fresh = led.fresh; begun = led.begun; leads = led.leads })

comes_further : {A : Type 0} (s0 : ObjectSite A) (q r : PlainWorld A) → CameAbout s0 q → StepsTo s0 q r → CameAbout s0 r
comes_further s0 q r came steps = record {
  is_site = came.is_site;
  fresh = came.fresh;
  begun = came.begun;
  leads = steps_lead_on s0 came.fresh q r came.leads steps;
}

none_some : {X : Type 0} (x : X) → None ≡ Some x → ⊥
none_some x e = cc

one_device : {A : Type 0} (d e : DeviceState A) → Device d ≡ Device e → d ≡ e
one_device d e same = cc

one_client : {A : Type 0} (c d : ClientState A) → Client c ≡ Client d → c ≡ d
one_client c d same = cc

no_client : {A : Type 0} (d : DeviceState A) (c : ClientState A) → Device d ≡ Client c → ⊥
no_client d c same = cc

no_device : {A : Type 0} (c : ClientState A) (d : DeviceState A) → Client c ≡ Device d → ⊥
no_device c d same = cc

-- all that is promised where a device or a client hears or wakes
record IsPromised {A : Type 0} (w : WorldState A) (part : Part A) (up : Option (Parcel A)) (told : PartTold A) :
    Type 0 where
  said : WasSaid w part up told
  issued : WasIssued w part up told
  of_issues : AreOfIssues w part up told
  request : IsWholeRequest w part up told
  answer : IsWholeAnswer w part up told

-- what more is on its way changes nothing of what was issued
module _ {A : Type 0} (extra : List (Thing A)) (w : WorldState A) where
  abbrev old : PlainWorld A
  old = plain_with extra w

  issued_in : (d : DeviceState A) (x : Executed A) → IsIssuedTo old d x → IsIssuedTo (plain w) d x
  issued_in d x k = record { i = k.i; moment = k.moment; last = k.last; issue = k.issue }

  executed_in : (i : ℕ) (o : Outcome (Reply A)) → IsExecuted old i o → IsExecuted (plain w) i o
  executed_in i (Gives r) h = h
  executed_in i (Fails why) h = tt

  of_issue_in : (c : ClientState A) (o : TransactionOutcome A) → IsOfItsIssue old c o → IsOfItsIssue (plain w) c o
  of_issue_in c o k = record {
    transaction = k.transaction;
    there = k.there;
    id = k.id;
    i = k.i;
    instance = k.instance;
    moment = k.moment;
    last = k.last;
    issue = k.issue;
    executed = executed_in k.i (outcome_of o.outcome) k.executed;
  }

  whole_in : (d : DeviceState A) (x : server_tsm.Whole A) → IsWholeIssue old d x → IsWholeIssue (plain w) d x
  whole_in d x k = record {
    i = k.i;
    request = k.request;
    moment = k.moment;
    last = k.last;
    issue = k.issue;
    service = k.service;
    octets = k.octets;
  }

  execution_in : (c : ClientState A) (x : client_tsm.Whole A) → IsOfExecution old c x → IsOfExecution (plain w) c x
  execution_in c x k = record {
    there = k.there;
    i = k.i;
    instance = k.instance;
    issued = k.issued;
    last = k.last;
    issue = k.issue;
    reply = k.reply;
    done = k.done;
    executed = k.executed;
    contents = k.contents;
  }

-- nothing came up, and nothing was executed
module _ {A : Type 0} (w : WorldState A) (told : PartTold A) where
  none_promised : (q : Part A) → told.executed ≡ None →
      ((c : ClientState A) → q ≡ Client c → AllByRecursion (λ o. IsOfItsIssue (plain w) c o) told.outcomes) →
      IsPromised w q None told
  none_promised q none all = record {
    said = record { said = λ p h a e brings content. absurd (none_some p e) };
    issued = record { issued = λ d x same some. absurd (none_some x (sym none ∙ some)) };
    of_issues = record { issues = all };
    request = record { whole = λ d p x same up whole. absurd (none_some p up) };
    answer = record { whole = λ c p x same up whole. absurd (none_some p up) };
  }

  silent_promised : (q : Part A) → told ≡ silence → IsPromised w q None told
  silent_promised q silent = none_promised q (ap (λ (u : PartTold A). u.executed) silent)
      (λ c same. subst (λ (u : PartTold A). AllByRecursion (λ o. IsOfItsIssue (plain w) c o) u.outcomes) (sym silent) tt)

-- a node of a world that came about so, with more on its way, hears what is delivered to it
module _ {A : Type 0} (s0 : ObjectSite A) (extra : List (Thing A)) (w : WorldState A)
    (came : CameAbout s0 (plain_with extra w)) (place : ℕ) (n : NodeState A) (there : slice_get w.nodes place ≡ Some n)
    (told : PartTold A) where
  abbrev at_home : Part A → Parcel A → Type 0
  at_home q p = Delivers (plain_with extra w) (home_of q).net (home_of q).mac p

  was_said : (q : Part A) (p : Parcel A) → at_home q p → WasSaid w q (Some p) told
  was_said q p delivers = record {
    said = λ r h a e brings content. all_hear s0 came.fresh (plain_with extra w) came.is_site came.begun came.leads
        (home_of q) r h a (subst (λ (x : Parcel A). at_home q x) (some_same p r e) delivers) brings content;
  }

  device_promised : (p : Parcel A) (downs : List (PortParcel A)) (d left : DeviceState A) → n.part ≡ Device d →
      at_home (Device d) p → OfDevice w.moment p d told downs left → IsPromised w (Device d) (Some p) told
  device_promised p downs d left is delivers h =
      let q = plain_with extra w in
      let part = part_at (λ (m : NodeState A). device_of m.part) w.nodes place n n d d there
      (ap (λ (r : Part A). device_of r) is) (ap (λ (r : Part A). device_of r) is) in
      record {
        said = was_said (Device d) p delivers;
        issued = record {
          issued = λ e x same some. subst (λ (z : DeviceState A). IsIssuedTo (plain w) z x) (one_device d e same)
              (issued_in extra w d x (executed_is_issued s0 came.fresh q came.is_site came.begun came.leads part.place d left
              p h.by x part.there delivers h.hears (sym (ap (λ (u : PartTold A). u.executed) h.told_is) ∙ some)));
        };
        of_issues = record { issues = λ c same. absurd (no_client d c same) };
        request = record {
          whole = λ e r x same up whole. subst (λ (z : DeviceState A). IsWholeIssue (plain w) z x) (one_device d e same)
              (whole_in extra w d x (whole_is_issued s0 came.fresh q came.is_site came.begun came.leads part.place d p x
              part.there delivers (subst (λ (z : DeviceState A). ComesWhole w.moment p.from p.to p.npdu z x)
              (sym (one_device d e same)) (subst (λ (y : Parcel A). ComesWhole w.moment y.from y.to y.npdu e x)
              (sym (some_same p r up)) whole))));
        };
        answer = record { whole = λ c r x same. absurd (no_client d c same) };
      }

  client_promised : (p : Parcel A) (downs : List (PortParcel A)) (c left : ClientState A) → n.part ≡ Client c →
      at_home (Client c) p → OfClient w.moment p c told downs left → IsPromised w (Client c) (Some p) told
  client_promised p downs c left is delivers h =
      let q = plain_with extra w in
      let part = part_at (λ (m : NodeState A). client_of m.part) w.nodes place n n c c there
      (ap (λ (r : Part A). client_of r) is) (ap (λ (r : Part A). client_of r) is) in
      record {
        said = was_said (Client c) p delivers;
        issued = record { issued = λ d x same. absurd (no_device c d same) };
        of_issues = record {
          issues = λ d same. subst (λ (z : ClientState A). AllByRecursion (λ o. IsOfItsIssue (plain w) z o) told.outcomes)
              (one_client c d same) (subst (λ (u : PartTold A). AllByRecursion (λ o. IsOfItsIssue (plain w) c o) u.outcomes)
              (sym h.told_is) (all_weaken (λ o. IsOfItsIssue q c o) (λ o. IsOfItsIssue (plain w) c o) h.by.outcomes
              (of_issue_in extra w c) (outcomes_are_of_issues s0 came.fresh q came.is_site came.begun came.leads part.place
              c left p h.by part.there delivers h.hears)));
        };
        request = record { whole = λ d r x same. absurd (no_device c d same) };
        answer = record {
          whole = λ d r x same up whole. subst (λ (z : ClientState A). IsOfExecution (plain w) z x) (one_client c d same)
              (execution_in extra w c x (whole_is_executed s0 came.fresh q came.is_site came.begun came.leads part.place c p
              x part.there delivers (subst (λ (z : ClientState A). AnswerComesWhole w.moment p.from p.to p.npdu z x)
              (sym (one_client c d same)) (subst (λ (y : Parcel A). AnswerComesWhole w.moment y.from y.to y.npdu d x)
              (sym (some_same p r up)) whole))));
        };
      }

  part_promised : (port : ℕ) (p : Parcel A) (downs : List (PortParcel A)) (q r : Part A) → n.part ≡ q →
      ((IsRelay q → ⊥) → at_home q p) → PartHears w.moment port p q told downs r → HoldsFor IsPromised w q (Some p) told
  part_promised port p downs (Device d) (Device left) is delivers h =
      device_promised p downs d left is (delivers (λ relay. relay)) h
  part_promised port p downs (Client c) (Client left) is delivers h =
      client_promised p downs c left is (delivers (λ relay. relay)) h
  part_promised port p downs (Router q) r is delivers h = tt
  part_promised port p downs (Manager net m) r is delivers h = tt
  part_promised port p downs q r is delivers h = absurd h

  answer_promised : (port : ℕ) (q r : Part A) → n.part ≡ q → (up : Option (Parcel A)) (middle end : PortsState A) →
      AnswersIf w.moment port up n.part middle told r end →
      ((p : Parcel A) → up ≡ Some p → (IsRelay n.part → ⊥) → at_home n.part p) → HoldsFor IsPromised w q up told
  answer_promised port (Device d) r is None middle end a delivers = silent_promised w told (Device d) (a.0)
  answer_promised port (Client c) r is None middle end a delivers = silent_promised w told (Client c) (a.0)
  answer_promised port (Router q) r is None middle end a delivers = tt
  answer_promised port (Manager net m) r is None middle end a delivers = tt
  answer_promised port q r is (Some p) middle end a delivers = part_promised port p a.downs q r is
      (subst (λ (z : Part A). (IsRelay z → ⊥) → at_home z p) is (delivers p refl))
      (subst (λ (z : Part A). PartHears w.moment port p z told a.downs r) is a.hears)

-- .. and octets that are on their way to it
hearing_promised : {A : Type 0} (s0 : ObjectSite A) (w : WorldState A) (came : CameAbout s0 (plain_with [] w)) (place : ℕ)
    (n next : NodeState A) (t : NodeTold A) → slice_get w.nodes place ≡ Some n → (port : ℕ) (from : Mac) (octets : List ℕ)
    (stamp : ℕ) (q : Part A) → n.part ≡ q → (h : HearsAs q w.moment port from octets stamp n t next) →
    ((p : Parcel A) → up_of q w.moment port from octets stamp n t next h ≡ Some p → (IsRelay n.part → ⊥) →
    Delivers (plain_with [] w) (home_of n.part).net (home_of n.part).mac p) →
    HoldsFor IsPromised w q (up_of q w.moment port from octets stamp n t next h) t.told
hearing_promised s0 w came place n next t there port from octets stamp (Device d) is h delivers =
    answer_promised s0 [] w came place n there t.told port (Device d) next.part is h.hears.up h.hears.middle _ h.hears.answers
    delivers
hearing_promised s0 w came place n next t there port from octets stamp (Client c) is h delivers =
    answer_promised s0 [] w came place n there t.told port (Client c) next.part is h.hears.up h.hears.middle _ h.hears.answers
    delivers
hearing_promised s0 w came place n next t there port from octets stamp (Router r) is h delivers = tt
hearing_promised s0 w came place n next t there port from octets stamp (Manager net m) is h delivers = tt

-- it wakes: nothing comes up to it, and a device executes nothing
awake_promised : {A : Type 0} (s0 : ObjectSite A) (w : WorldState A) → CameAbout s0 (plain w) → (place : ℕ)
    (n : NodeState A) → slice_get w.nodes place ≡ Some n → (told : PartTold A) (q : Part A) → n.part ≡ q →
    told ≡ told_awake w.moment q → HoldsFor IsPromised w q None told
awake_promised {A} s0 w came place n there told (Device d) is told_is = none_promised w told (Device d)
    (ap (λ (u : PartTold A). u.executed) told_is) (λ c same. absurd (no_client d c same))
awake_promised {A} s0 w came place n there told (Client c) is told_is = none_promised w told (Client c)
    (ap (λ (u : PartTold A). u.executed) told_is)
    (λ d same. subst (λ (z : ClientState A). AllByRecursion (λ o. IsOfItsIssue (plain w) z o) told.outcomes)
    (one_client c d same) (subst (λ (u : PartTold A). AllByRecursion (λ o. IsOfItsIssue (plain w) c o) u.outcomes)
    (sym told_is) (let part = part_at (λ (m : NodeState A). client_of m.part) w.nodes place n n c c there
    (ap (λ (r : Part A). client_of r) is) (ap (λ (r : Part A). client_of r) is) in
    woken_are_of_issues s0 came.fresh (plain w) came.is_site came.begun came.leads part.place c part.there)))
awake_promised s0 w came place n there told (Router r) is told_is = tt
awake_promised s0 w came place n there told (Manager net m) is told_is = tt

-- what is promised holds wherever a device or a client hears
module _ {A : Type 0} (Holds : WorldState A → Part A → Option (Parcel A) → PartTold A → Type 0)
    (so : (w : WorldState A) (q : Part A) (up : Option (Parcel A)) (told : PartTold A) → IsPromised w q up told →
    Holds w q up told) where
  holds_for : (w : WorldState A) (q : Part A) (up : Option (Parcel A)) (told : PartTold A) →
      HoldsFor IsPromised w q up told → HoldsFor Holds w q up told
  holds_for w (Device d) up told all = so w (Device d) up told all
  holds_for w (Client c) up told all = so w (Client c) up told all
  holds_for w (Router r) up told all = tt
  holds_for w (Manager net m) up told all = tt

  holds_at_each : (s0 : ObjectSite A) (l : Listener) (x : Station) (now : ℕ) (extra : List (Thing A))
      (fs : List (HeardFrame A)) (u v : WorldState A) → CameAbout s0 (plain_with extra u) →
      ((f : HeardFrame A) → Has fs f → IsComing l x now extra s0 f) → Here l x now extra s0 u → (t : TakesEach l fs u v) →
      HoldsAtEach Holds l fs u v t
  holds_at_each s0 l x now extra [] u v came coming here t = tt
  holds_at_each s0 l x now extra (f ∷ fs) u v came coming here t =
      let comes = coming f (has 0 refl) in
      let k = t.first in
      let first = takes l x now extra s0 f u t.middle comes here k in (
        holds_for u k.n.part k.hears.heard.up k.told.told (answer_promised s0 extra u came l.place k.n k.acts.there
            k.told.told l.port k.n.part k.next.part refl k.hears.heard.up k.hears.heard.middle _ k.hears.heard.answers
            (λ p is host. frame_brings (plain_with extra u) k.n l.port (One l.mac) f.octets f.stamp
            (arrives l x now extra s0 f u t.middle comes here k) k.stands host f.used k.told k.next k.hears p is)),
        holds_at_each s0 l x now extra fs t.middle v
            (comes_further s0 (plain_with extra u) (plain_with extra t.middle) came first.steps)
            (λ g among. coming g (has_next f fs among)) first.here t.rest,
      )

  holds_at_hearing : (network place : ℕ) (octets : List ℕ) (w v : WorldState A) → IsLed w →
      (d : Hears network place octets w v) → HoldsAtEach Holds d.listener d.at.hearing.frames w
      d.settles.does.first.middle d.settles.does.first.first
  holds_at_hearing network place octets w v led d =
      let s0 = object_site w.site in
      let more = bus.all w v [] s0 network place octets d in
      holds_at_each s0 d.listener (bus.x w v [] s0 network place octets d) w.moment more d.at.hearing.frames w
      d.settles.does.first.middle (comes_further s0 (plain_with [] w) (plain_with more w) (came_about w led)
      (all_pass w v [] s0 network place octets d)) (comes w v [] s0 network place octets d)
      (begins w v [] s0 network place octets d) d.settles.does.first.first

  -- so it is of all that happens
  holds_in : (h : Happening A) (w v : WorldState A) → Stands w → IsLed w → HoldsIn Holds h w v
  holds_in (happening.Deliver number) w v stands led = record {
    holds = λ d. holds_for w d.n.part _ d.told.told (hearing_promised (object_site w.site) w (came_about w led) d.place d.n
        d.next d.told d.acts.there d.port d.item.from d.item.octets d.item.stamp d.n.part refl d.hears
        (item_brings w stands [] number v d));
  }
  holds_in (happening.Hear network place octets) w v stands led =
      record { holds = λ d. holds_at_hearing network place octets w v led d }
  holds_in (happening.Wake place) w v stands led = record {
    holds = λ d. holds_for w d.n.part None d.told.told (awake_promised (object_site w.site) w
        (record { is_site = led.is_site; fresh = led.fresh; begun = led.begun; leads = led.leads }) place d.n d.acts.there
        d.told.told d.n.part refl d.wakes.told);
  }
  holds_in (happening.Issue client instance request) w v stands led = tt
  holds_in (happening.WhoIs client limits) w v stands led = tt
  holds_in (happening.Tick n) w v stands led = tt
  holds_in (happening.Restart place) w v stands led = tt
  holds_in (happening.Register place) w v stands led = tt

  -- .. and of each event
  by_event : (e : Event A) (w v : WorldState A) → Stands w → IsLed w → HoldsBy Holds e w v
  by_event (event.Deliver number) w v stands led = holds_in (happening.Deliver number) w v stands led
  by_event (event.Hear network name octets) w v stands led =
      record { holds = λ place named. holds_in (happening.Hear network place octets) w v stands led }
  by_event (event.Wake name) w v stands led =
      record { holds = λ place named. holds_in (happening.Wake place) w v stands led }
  by_event (event.Issue client instance request) w v stands led = tt
  by_event (event.WhoIs client limits) w v stands led = tt
  by_event (event.Tick n) w v stands led = tt
  by_event (event.Restart station) w v stands led = tt
  by_event (event.Register station) w v stands led = tt

-- all of it
pub has_brought : {A : Type 0} (e : Event A) (w v : WorldState A) → Stands w → IsLed w → HasBrought e w v
has_brought e w v stands led = record {
  heard = by_event WasSaid (λ w e up told all. all.said) e w v stands led;
  executed = by_event WasIssued (λ w e up told all. all.issued) e w v stands led;
  outcomes = by_event AreOfIssues (λ w e up told all. all.of_issues) e w v stands led;
  requests = by_event IsWholeRequest (λ w e up told all. all.request) e w v stands led;
  answers = by_event IsWholeAnswer (λ w e up told all. all.answer) e w v stands led;
}

-- .. where it is known of what is within
pub brought_by : {A : Type 0} (e : Event A) (i w v : WorldState A) → i ≡ w → Stands i → IsLed i → HasBrought e w v
brought_by e i w v same stands led = has_brought e w v (subst (λ (u : WorldState _). Stands u) same stands)
    (subst (λ (u : WorldState _). IsLed u) same led)

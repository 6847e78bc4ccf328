-- A world refuses nothing with what a wire alone refuses.
use Rattle.std.proofs.Common.{inl, inr, sym, subst, ℕ, Bool, true, false, List, [], ◌∷◌, Option, Some, None, Result, Ok, Err, if◌then◌else◌, drop, ◌≢◌}
use Rattle.bindings.specs.declared.binding.Binding.{Binding}
use Rattle.bindings.specs.declared.bound.Bound.{Bound}
use Rattle.bindings.specs.Binding.{binding_of}
use Rattle.bus_traffic.specs.Hearing.{Hears, over, refuses, accepts}
use Rattle.bus_traffic.specs.Sendings.{judged_by, known_of}
use Rattle.bus_traffic.specs.declared.hearing.Ending.{Ending}
use Rattle.bus_traffic.specs.declared.hearing.Ending.TheVariants.{Over, Refused}
use Rattle.bus_traffic.specs.declared.hearing.HeardFrame.{HeardFrame}
use Rattle.client.specs.Issuing as client
use Rattle.client_tsm.specs.Client.{ClientTsmState}
use Rattle.client_tsm.specs.Issuing as tsm
use Rattle.simulator.specs.world.Hearing.{RefusesOctets, RefusesOne}
use Rattle.simulator.specs.world.Refusals.{HappeningIsRefused, IsRefused, RefusesAt, RefusesNamed}
use Rattle.simulator.specs.world.Straying.{StrayIsRefused}
use Rattle.simulator.specs.world.World.{WorldState}
use Rattle.simulator.specs.world.site_events.declared.event.Event.{Event}
use Rattle.simulator.specs.world.site_events.declared.event.Event.TheVariants as event
use Rattle.simulator.specs.world.declared.happening.Happening.{Happening}
use Rattle.simulator.specs.world.declared.happening.Happening.TheVariants as happening
use Rattle.simulator.specs.world.declared.listener.Listener.{Listener}
use Rattle.link_ip.specs.Hearing as ip
use Rattle.link_site.specs.Steps as site
use Rattle.link_site.specs.declared.port.SitePort.{SitePort}
use Rattle.npdu.specs.declared.mac.Mac.{Mac}
use Rattle.npdu.specs.declared.mac.Mac.TheVariants.{One, Six}
use Rattle.primitives.specs.declared.plain_data.Request.{Request}
use Rattle.simulator.specs.site_node.Node.{NodeState}
use Rattle.simulator.specs.site_node.Part.{issue_refusal}
use Rattle.simulator.specs.site_node.Refusals.{HearingIsRefused, IssueIsRefused, RefusesAs, RefusesOn}
use Rattle.simulator.specs.site_node.declared.part.Part.{Part}
use Rattle.simulator.specs.site_node.declared.part.Part.TheVariants.{Device, Client, Router, Manager}
use Rattle.tags.specs.declared.fault.Fault.{Fault}
use Rattle.tags.specs.declared.fault.Fault.TheVariants.{Expired, Wire}
use Rattle.traffic.specs.declared.item.Item.{Item}
use Rattle.runner.specs.Strays.{IsRefusedStray}
use Rattle.wire.specs.Datagrams.{Datagram}

abbrev pub IsWire : Fault → Type 0
IsWire Wire = Unit {0}
IsWire fault = ⊥

abbrev pub AnswersWire : Option Fault → Type 0
AnswersWire (Some fault) = IsWire fault
AnswersWire None = ⊥

by_machine : (is_too_long may_issue : Bool) → AnswersWire (tsm.refusal_if is_too_long may_issue) → ⊥
by_machine true may_issue x = x
by_machine false false x = x
by_machine false true x = x

by_route : {A : Type 0} (refused : Bool) (now : ℕ) (q : Request A) (to : Bound) (m : ClientTsmState A) →
    AnswersWire (client.refusal_if refused now q to m) → ⊥
by_route true now q to m x = x
by_route false now q to m x = by_machine _ _ x

by_binding : {A : Type 0} (b : Option Binding) (now : ℕ) (q : Request A) (m : ClientTsmState A) →
    AnswersWire (client.refusal_by b now q m) → ⊥
by_binding None now q m x = x
by_binding (Some b) now q m x = by_route b.refused now q b.bound m x

by_part : {A : Type 0} (now instance : ℕ) (q : Request A) (p : Part A) →
    AnswersWire (issue_refusal now instance q p) → ⊥
by_part now instance q (Client c) x = by_binding (binding_of instance c.bindings) now q c.machine x
by_part now instance q (Device d) x = x
by_part now instance q (Router r) x = x
by_part now instance q (Manager net m) x = x

-- an issue
issuing : {A : Type 0} (now instance : ℕ) (q : Request A) (n : NodeState A) → IssueIsRefused now instance q n Wire → ⊥
issuing now instance q n (inl is) = by_part now instance q n.part (subst AnswersWire (sym is) tt)
issuing now instance q n (inr long) = subst IsWire (long.0) tt

-- octets that spell no datagram; a bus refuses none
reading_ip : (from : Mac) (octets : List ℕ) → ip.IsRefused Wire from octets → ⊥
reading_ip (Six from) octets why = why.cause
reading_ip (One from) octets why = why

reading : (from : Mac) (octets : List ℕ) → site.IsRefused Wire from octets → ⊥
reading from octets (inl why) = reading_ip from octets why
reading from octets (inr why) = why

-- octets that a node hears on a port
on_port : {A : Type 0} (now at : ℕ) (from : Mac) (octets : List ℕ) (stamp : ℕ) (ports : List (SitePort A)) (p : Part A) →
    RefusesOn now at from octets stamp ports p Wire → ⊥
on_port now at from octets stamp ports p (inl why) = reading from octets why
on_port now at from octets stamp ports p (inr up) =
    elim up.refused [ inl full ↦ subst IsWire (full.0) tt | inr long ↦ subst IsWire (long.0) tt ]

hearing_as : {A : Type 0} (p : Part A) (now at : ℕ) (from : Mac) (octets : List ℕ) (stamp : ℕ) (n : NodeState A) →
    RefusesAs p now at from octets stamp n Wire → ⊥
hearing_as (Device d) now at from octets stamp n why = on_port now at from octets stamp n.ports n.part why
hearing_as (Client c) now at from octets stamp n why = on_port now at from octets stamp n.ports n.part why
hearing_as (Router r) now at from octets stamp n why = on_port now at from octets stamp n.ports n.part why
hearing_as (Manager net m) now at from octets stamp n why = subst IsWire (why.0) tt

hearing : {A : Type 0} (now at : ℕ) (from : Mac) (octets : List ℕ) (stamp : ℕ) (n : NodeState A) →
    HearingIsRefused now at from octets stamp n Wire → ⊥
hearing now at from octets stamp n why = hearing_as n.part now at from octets stamp n why

frames_of : {A : Type 0} (l : Listener) (fs : List (HeardFrame A)) (w : WorldState A) → RefusesOne l Wire fs w → ⊥
frames_of l [] w why = why
frames_of l (f ∷ fs) w (inl why) = on_port w.moment l.port (One l.mac) f.octets f.stamp why.refuses.counted.ports
    why.n.part why.refuses.refused
frames_of l (f ∷ fs) w (inr why) = frames_of l fs why.middle why.rest

-- .. one that nobody put out, or that is too old
abbrev IsWireErr : Result ℕ Fault → Type 0
IsWireErr (Ok stamp) = ⊥
IsWireErr (Err fault) = IsWire fault

by_age : (young : Bool) (stamp : ℕ) → IsWireErr (if young then Ok stamp else Err Expired) → ⊥
by_age true stamp x = x
by_age false stamp x = x

judging : (now : ℕ) (known : Option ℕ) → IsWireErr (judged_by now known) → ⊥
judging now None x = x
judging now (Some stamp) x = by_age _ stamp x

abbrev IsWireEnd : {A : Type 0} → Ending A → Type 0
IsWireEnd (Over rest kept) = ⊥
IsWireEnd (Refused fault) = IsWire fault

ending : (A : Type 0) (judge : List ℕ → Result ℕ Fault) → ((whole : List ℕ) → IsWireErr (judge whole) → ⊥) →
    (kept octets : List ℕ) (fs : List (HeardFrame A)) (end : Ending A) → Hears A judge kept octets fs end →
    IsWireEnd end → ⊥
ending A judge never _ _ _ _ (over kept octets after ends) x = x
ending A judge never _ _ _ _ (refuses kept octets whole after used fault ends not) x =
    never whole (subst IsWireErr (sym not) x)
ending A judge never _ _ _ _ (accepts kept octets after f fs end ends ok more) x =
    ending A judge never after (drop f.used octets) fs end more x

-- octets on a bus
octets_of : {A : Type 0} (network place : ℕ) (octets : List ℕ) (w : WorldState A) →
    RefusesOctets network place octets w Wire → ⊥
octets_of {A} network place octets w of = elim of.why [
  | inl frame ↦ frames_of of.listener of.at.hearing.frames w frame
  | inr end ↦ ending A (λ whole. judged_by w.moment (known_of whole of.heard.bus.known))
      (λ whole. judging w.moment (known_of whole of.heard.bus.known)) _ octets of.at.hearing.frames
      of.at.hearing.ending of.heard.hears (subst IsWireEnd (sym (end.0)) tt)
]

-- the node at a place
at_place : {A : Type 0} (place : ℕ) (w : WorldState A) (Says : NodeState A → Type 0) →
    ((n : NodeState A) → Says n → ⊥) → RefusesAt place w Wire Says → ⊥
at_place place w Says never (inl why) = subst IsWire (why.0) tt
at_place place w Says never (inr of) = never of.n of.is

happening_of : {A : Type 0} (h : Happening A) (w : WorldState A) → HappeningIsRefused h w Wire → ⊥
happening_of h w (inl memory) = subst IsWire (memory.0) tt
happening_of (happening.Issue client instance q) w (inr why) =
    at_place client w _ (λ n. issuing w.moment instance q n) why
happening_of (happening.WhoIs client limits) w (inr why) =
    at_place client w _ (λ n x. elim x [ inl a ↦ subst IsWire (a.0) tt | inr b ↦ subst IsWire (b.0) tt ]) why
happening_of (happening.Tick n) w (inr why) = subst IsWire (why.0) tt
happening_of (happening.Wake node) w (inr why) = at_place node w _ (λ n x. subst IsWire (x.0) tt) why
happening_of (happening.Deliver number) w (inr (inl why)) = subst IsWire (why.0) tt
happening_of (happening.Deliver number) w (inr (inr (inl old))) = subst IsWire (old.0) tt
happening_of (happening.Deliver number) w (inr (inr (inr there))) = hearing w.moment there.goes.port there.goes.item.from
    there.goes.item.octets there.goes.item.stamp there.goes.n there.refuses
happening_of (happening.Restart node) w (inr why) = at_place node w _ (λ n x. subst IsWire (x.0) tt) why
happening_of (happening.Hear network node octets) w (inr (inl why)) = subst IsWire (why.0) tt
happening_of (happening.Hear network node octets) w (inr (inr of)) = octets_of network node octets w of
happening_of (happening.Register node) w (inr why) = at_place node w _ (λ n x. subst IsWire (x.0) tt) why

-- the node of a name
naming : {A : Type 0} (name : List ℕ) (at : ℕ → Happening A) (w : WorldState A) → RefusesNamed name at w Wire → ⊥
naming name at w (inl why) = subst IsWire (why.0) tt
naming name at w (inr of) = happening_of (at of.place) w of.holds

refusing : {A : Type 0} (e : Event A) (w : WorldState A) → IsRefused e w Wire → ⊥
refusing (event.Issue client instance q) w why = naming client (λ place. happening.Issue place instance q) w why
refusing (event.WhoIs client limits) w why = naming client (λ place. happening.WhoIs place limits) w why
refusing (event.Tick n) w why = happening_of (happening.Tick n) w why
refusing (event.Wake station) w why = naming station (λ place. happening.Wake place) w why
refusing (event.Deliver number) w why = happening_of (happening.Deliver number) w why
refusing (event.Restart station) w why = naming station (λ place. happening.Restart place) w why
refusing (event.Hear network station octets) w why = naming station (λ place. happening.Hear network place octets) w why
refusing (event.Register station) w why = naming station (λ place. happening.Register place) w why

straying : {A : Type 0} (i : Item A) (w : WorldState A) → StrayIsRefused i w Wire → ⊥
straying i w (inl memory) = subst IsWire memory tt
straying i w (inr (inl why)) = subst IsWire (why.0) tt
straying i w (inr (inr why)) = hearing w.moment why.at i.from i.octets i.stamp why.n why.refuses

-- no refusal of an event is the wire's
pub event_not_wire : {A : Type 0} (e : Event A) (w : WorldState A) (fault : Fault) → IsRefused e w fault → fault ≢ Wire
event_not_wire e w fault why is = refusing e w (subst (λ (f : Fault). IsRefused e w f) is why)

-- .. nor of a stray
stray_refusing : {A : Type 0} (d : Datagram) (w : WorldState A) → IsRefusedStray d w Wire → ⊥
stray_refusing d w (inl why) = subst IsWire (why.0) tt
stray_refusing d w (inr why) = straying _ w why.at.refused

pub stray_not_wire : {A : Type 0} (d : Datagram) (w : WorldState A) (fault : Fault) → IsRefusedStray d w fault →
    fault ≢ Wire
stray_not_wire d w fault why is = stray_refusing d w (subst (λ (f : Fault). IsRefusedStray d w f) is why)

pub ruleset own_rules = (event_not_wire, stray_not_wire)

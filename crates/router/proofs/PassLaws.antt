-- What a router says is made of what it heard, or has nothing inside.
use Rattle.std.proofs.Common.{◌≡◌, ◌∙◌, refl, sym, ap, subst, inl, inr, arith, ℕ, ◌+◌, cond, Bool, true, false, List, [], ◌∷◌, Option, Some, None}
use Rattle.std.specs.Prelude.{IfSome, option_map, slice_get}
use Rattle.std.specs.List.{AllByRecursion}
use Rattle.byteorder.specs.Endian.{big_bytes}
use Rattle.npdu.proofs.CanonicalLaws.{canonical_spells}
use Rattle.npdu.specs.Header.{Header, IsDestination, IsSound, IsSource, PlainDestination, PlainSource, Spells, canonical}
use Rattle.npdu.specs.Message.{IsMessage}
use Rattle.npdu.specs.declared.mac.Mac.{Mac}
use Rattle.npdu.specs.declared.mac.Station.{Station}
use Rattle.npdu.specs.declared.mac.Target.{Target}
use Rattle.npdu.specs.declared.mac.Target.TheVariants as target
use Rattle.npdu.specs.declared.message.Message.{Message}
use Rattle.npdu.specs.declared.message.Message.TheVariants as message
use Rattle.npdu.specs.declared.message.NetworkRejectReason.{NetworkRejectReason}
use Rattle.npdu.specs.declared.message.NetworkRejectReason.TheVariants.{NoRoute, TooLong, UnknownMessageType}
use Rattle.npdu.specs.declared.parcel.Parcel.{Parcel}
use Rattle.npdu.specs.declared.view.Dnet.{Dnet}
use Rattle.npdu.specs.declared.view.Dnet.TheVariants as dnet
use Rattle.inside.proofs.Insides.{network_message_has_nothing}
use Rattle.inside.specs.Routed.{IsRouted, on_way, target_of}
use Rattle.router.specs.Handling.{announcing, answering, asking, by_net, by_port, by_route, delivered, handled, handling}
use Rattle.router.specs.Handling.{is_on, own_port, reaches, relayed, route_to, unknown}
use Rattle.router.specs.Hearing.{handling_of, heard}
use Rattle.router.specs.Laws.{IsOwn, IsPassedOn, RouterAnnounces, RouterPassesOn}
use Rattle.router.specs.Messages.{Heard, announced_if, back_to, behind, message_header, message_npdu}
use Rattle.router.specs.Messages.{named_on_each, refused, said_on, said_on_others, said_there}
use Rattle.router.specs.Passing.{fits, last_of, net_of, passed, passed_if, spread_there, way_if, way_of}
use Rattle.router.specs.Router.{RouterState}
use Rattle.router.specs.Said.{said}
use Rattle.router.specs.Sending.{sent}
use Rattle.router.specs.declared.handling.Handling.{Handling}
use Rattle.router.specs.declared.handling.Handling.TheVariants as does
use Rattle.router.specs.declared.plan.PortParcel.{PortParcel}
use Rattle.router.specs.declared.routes.Route.{Route}
use Rattle.router.proofs.Ports.{all_at, all_behind, first_at, others_are, own_is, rest_at, some_same, AreAt, IsOwnPort}

-- a network message that is said has nothing inside
npdu_is : (message : Message) (d : Option PlainDestination) (contents : List ℕ) →
    message_npdu message d contents ≡ canonical (message_header message d contents)
unfolding message_npdu
npdu_is message d contents = refl

module _ (message : Message) (known : IsMessage message) (d : Option PlainDestination) (sound_d : IfSome d IsDestination) (contents : List ℕ) where
  sound : IsSound (message_header message d contents)
  sound = record { destination = sound_d; source = tt; message = known }

  spelled : Spells (message_npdu message d contents) (message_header message d contents)
  spelled = subst (λ (l : List ℕ). Spells l (message_header message d contents)) (sym (npdu_is message d contents))
      (canonical_spells (message_header message d contents) sound)

  pub own_is_own : {A : Type 0} (ports : List Station) (i : ℕ) (s : Station) (to : Target) (stamp : ℕ) → slice_get ports i ≡ Some s →
      IsOwn {A = A} ports (sent i s.mac to stamp (message_npdu message d contents))
  own_is_own ports i s to stamp at = record {
    station = s;
    leaves = record { there = at; from = refl };
    inside = network_message_has_nothing s.net _ (message_header message d contents) message spelled refl;
  }

said_on_is : (A : Type 0) (ports : List Station) (i : ℕ) (s : Station) (stamp : ℕ) (message : Message) (contents : List ℕ) →
    IsMessage message → slice_get ports i ≡ Some s → IsOwn {A = A} ports (said_on i s.mac stamp message contents)
said_on_is A ports i s stamp message contents known at = own_is_own message known None tt contents ports i s target.All stamp at

named_are : (A : Type 0) (now : ℕ) (st : RouterState) (first : ℕ) (ss : List Station) → AreAt st.ports first ss →
    AllByRecursion (IsOwn {A = A} st.ports) (named_on_each now first ss st)
named_are A now st first [] at = tt
named_are A now st first (s ∷ ss) at = (
  said_on_is A st.ports first s now message.IAmRouterToNetwork (behind first st) tt (first_at st.ports first s ss at),
  named_are A now st (first + 1) ss (rest_at st.ports first s ss at),
)

announced_are : (A : Type 0) (b : Bool) (now : ℕ) (st : RouterState) → AllByRecursion (IsOwn {A = A} st.ports) (announced_if b now st)
announced_are A true now st = tt
announced_are A false now st = named_are A now st 0 st.ports (all_at st.ports)

pub announces : (A : Type 0) → RouterAnnounces A
announces A now st = announced_are A st.woken now st

-- SNET and SADR may stand as DNET and DADR
back_sound : (o : Option PlainSource) → IfSome o IsSource → IfSome (option_map back_to o) IsDestination
back_sound None s = tt
back_sound (Some x) s = ((s.0, s.1), s.3, omega arith)

-- where what is passed on goes out, and with which header
record Leads (ports : List Station) (h : Header) (to : ℕ) (own : Mac) : Type 0 where
  pub station : Station
  pub at : slice_get ports to ≡ Some station
  pub mac : own ≡ station.mac
  pub destination : PlainDestination
  pub is : h.destination ≡ Some destination

record Ends (d : PlainDestination) (net : ℕ) (to : Target) : Type 0 where
  pub last : d.net ≡ dnet.Network net
  pub target : target_of d.mac ≡ Some to

record Arriving (ports : List Station) (h : Header) (port : ℕ) (own : Mac) (to : Target) : Type 0 where
  pub leads : Leads ports h port own
  pub ends : Ends leads.destination leads.station.net to

record HasDestination (h : Header) : Type 0 where
  pub destination : PlainDestination
  pub is : h.destination ≡ Some destination

abbrev IsLed : RouterState → Header → Handling → Type 0
IsLed st h does.Spread = HasDestination h
IsLed st h (does.Relay port own next) = Leads st.ports h port own
IsLed st h (does.Deliver port own to) = Arriving st.ports h port own to
IsLed st h handling = Unit {0}

chosen_led : (st : RouterState) (h : Header) (b : Bool) (x y : Handling) → IsLed st h x → IsLed st h y → IsLed st h (cond b x y)
chosen_led st h true x y p q = p
chosen_led st h false x y p q = q

module _ (st : RouterState) (h : Header) (d : PlainDestination) (is : h.destination ≡ Some d) where
  delivered_led : (net : ℕ) (q : ℕ × Mac) (o : Option Target) → d.net ≡ dnet.Network net → IsOwnPort st.ports net q → target_of d.mac ≡ o →
      IsLed st h (delivered q.0 q.1 o)
  delivered_led net q None e own f = tt
  delivered_led net q (Some to) e own f = chosen_led st h (is_on q.1 to) (does.Deliver q.0 q.1 to) does.Discard (record {
    leads = record { station = own.station; at = own.at; mac = own.mac; destination = d; is = is };
    ends = record { last = e ∙ ap dnet.Network (sym own.number); target = f };
  }) tt

  relayed_led : (route : Route) (o : Option Station) → slice_get st.ports route.port ≡ o → IsLed st h (relayed route o)
  relayed_led route None e = tt
  relayed_led route (Some s) e = record { station = s; at = e; mac = refl; destination = d; is = is }

  route_led : (net : ℕ) (o : Option Route) → IsLed st h (by_route st net o)
  route_led net None = tt
  route_led net (Some route) = relayed_led route (slice_get st.ports route.port) refl

  port_led : (net : ℕ) (o : Option (ℕ × Mac)) → d.net ≡ dnet.Network net → own_port net st.ports ≡ o → IsLed st h (by_port st net d.mac o)
  port_led net None e f = route_led net (route_to net st.routes)
  port_led net (Some q) e f = delivered_led net q (target_of d.mac) e (own_is st.ports net q f) refl

  net_led : (n : Dnet) → d.net ≡ n → IsLed st h (by_net st n d.mac)
  net_led dnet.Global e = record { destination = d; is = is }
  net_led (dnet.Network net) e = port_led net (own_port net st.ports) e refl

  forward_led : (b : Bool) → IsLed st h (cond b does.Discard (by_net st d.net d.mac))
  forward_led true = tt
  forward_led false = net_led d.net refl

unknown_led : (st : RouterState) (h : Header) (to : Target) → IsLed st h (unknown to)
unknown_led st h (target.One mac) = tt
unknown_led st h target.All = tt

asking_led : (st : RouterState) (h : Header) (port : ℕ) (contents : List ℕ) → IsLed st h (asking st port contents)
asking_led st h port [] = tt
asking_led st h port (a ∷ []) = tt
asking_led st h port (a ∷ b ∷ []) = chosen_led st h (reaches st port _) does.NameAsked does.AskOthers tt tt
asking_led st h port (a ∷ b ∷ c ∷ rest) = tt

announcing_led : (st : RouterState) (h : Header) (contents : List ℕ) → IsLed st h (announcing contents)
announcing_led st h contents = chosen_led st h _ does.Learn does.Discard tt tt

answering_led : (st : RouterState) (h : Header) (port : ℕ) (to : Target) (m : Message) (contents : List ℕ) →
    IsLed st h (answering st port to m contents)
answering_led st h port to message.WhoIsRouterToNetwork contents = asking_led st h port contents
answering_led st h port to message.IAmRouterToNetwork contents = announcing_led st h contents
answering_led st h port to message.RejectMessageToNetwork contents = tt
answering_led st h port to (message.Other number) contents = unknown_led st h to
answering_led st h port to (message.Proprietary number vendor) contents = unknown_led st h to

handled_led : (st : RouterState) (h : Header) (port : ℕ) (to : Target) (o : Option PlainDestination) (m : Option Message) (contents : List ℕ) →
    h.destination ≡ o → IsLed st h (handled st port to o m contents)
handled_led st h port to (Some d) m contents is = forward_led st h d is _
handled_led st h port to None (Some m) contents is = answering_led st h port to m contents
handled_led st h port to None None contents is = tt

module _ {A : Type 0} (now port : ℕ) (p : Parcel A) (st : RouterState) (at : Station) (h : Header) (there : slice_get st.ports port ≡ Some at)
    (spells : Spells p.npdu h) where
  abbrev met : Heard A
  met = heard now port p at h

  abbrev Good : PortParcel A → Type 0
  Good o = IsPassedOn st.ports at.net p o

  good_own : (o : PortParcel A) → IsOwn st.ports o → Good o
  good_own o own = record { station = own.station; leaves = own.leaves; inside = inr own.inside }

  refused_is : (reason : NetworkRejectReason) (net : ℕ) → Good (refused met reason net)
  refused_is reason net = good_own (refused met reason net)
      (own_is_own message.RejectMessageToNetwork tt (option_map back_to h.source) (back_sound h.source spells.sound.source) _
      st.ports port at (target.One p.from) now there)

  said_is : (i : ℕ) (s : Station) (stamp : ℕ) (m : Message) (contents : List ℕ) → IsMessage m → slice_get st.ports i ≡ Some s →
      Good (said_on i s.mac stamp m contents)
  said_is i s stamp m contents known on = good_own (said_on i s.mac stamp m contents) (said_on_is A st.ports i s stamp m contents known on)

  said_are : (stamp : ℕ) (m : Message) (contents : List ℕ) → IsMessage m → AllByRecursion Good (said_on_others stamp m contents port st.ports)
  said_are stamp m contents known =
      others_are Good (said_there stamp m contents) st.ports (λ i s on. (said_is i s stamp m contents known on, tt)) port

  -- with a header that makes it routed
  passed_by : (b : Bool) (new : Header) (to : ℕ) (own : Mac) (target : Target) (s : Station) → slice_get st.ports to ≡ Some s → own ≡ s.mac →
      IsRouted at.net s.net p (record { from = own; to = target; npdu = canonical new; stamp = p.stamp }) →
      Good (passed_if b met new to own target)
  passed_by true new to own target s on same routed =
      record { station = s; leaves = record { there = on; from = same }; inside = inl routed }
  passed_by false new to own target s on same routed = refused_is TooLong (net_of h.destination)

  passed_is : (new : Header) (to : ℕ) (own : Mac) (target : Target) (s : Station) → slice_get st.ports to ≡ Some s → own ≡ s.mac →
      IsRouted at.net s.net p (record { from = own; to = target; npdu = canonical new; stamp = p.stamp }) →
      Good (passed met new to own target)
  unfolding passed
  passed_is new to own target s on same routed = passed_by (fits own new) new to own target s on same routed

  way_is : (d : PlainDestination) → h.destination ≡ Some d → way_of met ≡ on_way at.net p.from d h
  way_is d is = ap (λ (o : Option PlainDestination). way_if met o) is

  goes_is : (d : PlainDestination) (is : h.destination ≡ Some d) (to : ℕ) (own : Mac) (target : Target) (s : Station) →
      slice_get st.ports to ≡ Some s → own ≡ s.mac → Good (passed met (way_of met) to own target)
  goes_is d is to own target s on same = passed_is (way_of met) to own target s on same (record {
    header = h;
    spelled = spells;
    destination = d;
    is = is;
    stamp = refl;
    how = inl (record { npdu = ap canonical (way_is d is) });
  })

  arrives_is : (to : ℕ) (own : Mac) (target : Target) → Arriving st.ports h to own target → Good (passed met (last_of met) to own target)
  arrives_is to own target a = passed_is (last_of met) to own target a.leads.station a.leads.at a.leads.mac (record {
    header = h;
    spelled = spells;
    destination = a.leads.destination;
    is = a.leads.is;
    stamp = refl;
    how = inr (record { last = a.ends.last; target = a.ends.target; npdu = refl });
  })

  all_good : (x : Handling) → IsLed st h x → AllByRecursion Good (said met st x)
  all_good does.Discard led = tt
  all_good does.Spread led =
      others_are Good (spread_there met) st.ports (λ i s on. (goes_is led.destination led.is i s.mac target.All s on refl, tt)) port
  all_good (does.Relay to own next) led = (goes_is led.destination led.is to own (target.One next) led.station led.at led.mac, tt)
  all_good (does.Deliver to own target) led = (arrives_is to own target led, tt)
  all_good (does.FindRoute net) led =
      all_behind Good (said_on_others now message.WhoIsRouterToNetwork (big_bytes 2 net) port st.ports) (refused met NoRoute net)
      (said_are now message.WhoIsRouterToNetwork (big_bytes 2 net) tt) (refused_is NoRoute net)
  all_good does.NameAll led = (said_is port at now message.IAmRouterToNetwork (behind port st) tt there, tt)
  all_good does.NameAsked led = (said_is port at now message.IAmRouterToNetwork h.body tt there, tt)
  all_good does.AskOthers led = said_are p.stamp message.WhoIsRouterToNetwork h.body tt
  all_good does.Learn led = said_are p.stamp message.IAmRouterToNetwork h.body tt
  all_good does.RefuseType led = (refused_is UnknownMessageType at.net, tt)

  pub met_passes : AllByRecursion Good (said met st (handling_of st met))
  met_passes = all_good (handling_of st met) (handled_led st h port p.to h.destination h.message h.body refl)

pub passes_on : (A : Type 0) → RouterPassesOn A
passes_on A now port p old new out at on (inl hears) =
    let same = some_same hears.at at (sym hears.met.there ∙ on) in
    subst (λ (xs : List (PortParcel A)). AllByRecursion (IsPassedOn old.ports at.net p) xs) (sym hears.comes.says)
    (subst (λ (s : Station). AllByRecursion (IsPassedOn old.ports s.net p) (said (heard now port p hears.at hears.header) old
    (handling_of old (heard now port p hears.at hears.header)))) same
    (met_passes now port p old hears.at hears.header hears.met.there hears.met.spelled))
passes_on A now port p old new out at on (inr drops) =
    subst (λ (xs : List (PortParcel A)). AllByRecursion (IsPassedOn old.ports at.net p) xs) (sym drops.silent) tt

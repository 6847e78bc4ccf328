-- One item is put out of an issue on a network of BACnet/IP.
use Rattle.std.proofs.Common.{◌≡◌, ◌∙◌, refl, sym, ap, subst, ℕ, ◌+◌, List, [], ◌∷◌, ◌++◌, length, Option, None, ◌≢◌, true, Some}
use Rattle.std.specs.Prelude.{slice_get}
use Rattle.std.proofs.lemmas.Bool.{false_from_ne_true}
use Rattle.bindings.specs.declared.binding.Binding.{Binding}
use Rattle.carry_answered.specs.Answered.{GoInOne}
use Rattle.npdu.proofs.Stations.{one_station}
use Rattle.npdu.specs.Mac.{same_station}
use Rattle.npdu.specs.declared.mac.Mac.{Mac}
use Rattle.npdu.specs.declared.mac.Mac.TheVariants.{One, Six}
use Rattle.npdu.specs.declared.mac.Station.{Station}
use Rattle.npdu.specs.declared.mac.Way.{Way}
use Rattle.primitives.specs.declared.plain_data.Request.{Request}
use Rattle.traffic.specs.declared.item.Item.{Item}
use Rattle.unitdata.specs.Hearing.{destination_if, way_to}
use Rattle.unitdata.specs.Saying.{Spoken, is_spelled}
use Rattle.world.specs.Laws.{Stands}
use Rattle.world.specs.Step.{Issues, addressee_of}
use Rattle.world.specs.World.{WorldState}
use Rattle.world.specs.client.Client.{ClientState}
use Rattle.world.specs.device.Device.{DeviceState}
use Rattle.world.specs.site_node.Node.{home_of}
use Rattle.world.specs.site_node.declared.part.Part.TheVariants.{Client, Device}
use Rattle.world_answered.proofs.Issuing.{IsPutOnce, issue_items, issue_puts, plain_issue, spoken}
use Rattle.world_answered.proofs.Places.{get_first, length_behind, some_same}
use Rattle.world_answered.specs.Exchange.{Asks, IsOnIp, IssuesPutOut, PutsOut, RoutedIssuesPutOut}

-- a way to a station of its own network is that station's address
pub here_way : (net : ℕ) (x : Station) → net ≡ x.net → (way_to net x.mac x).destination ≡ None
here_way net x same =
    let y : Station = record { net = net; mac = x.mac } in
    let is : x ≡ y = ap (λ (n : ℕ). record { net = n; mac = x.mac }) (sym same) in
    ap (λ b. destination_if b x) ((one_station x y).one is)

pub on_ip : (m : Mac) → IsOnIp m → (octets : List ℕ) × (m ≡ Six octets)
on_ip (Six octets) is = (octets, refl)
on_ip (One octet) is = absurd is

-- one item is put out, for a station
pub puts_one : {A : Type 0} (w v : WorldState A) (old more : List (Item A)) (i : Item A) (home : Station) →
    length old ≡ length w.items → v.items ≡ old ++ more → more ≡ i ∷ [] → addressee_of i ≡ home → PutsOut home w v
puts_one {A} w v old more i home count are one is =
    let all : v.items ≡ old ++ i ∷ [] = are ∙ ap (λ (ms : List (Item A)). old ++ ms) one in record {
      item = i;
      first = ap (λ (is : List (Item A)). slice_get is (length w.items)) all
          ∙ ap (λ (k : ℕ). slice_get (old ++ i ∷ []) k) (sym count) ∙ get_first old (i ∷ []);
      last = ap (λ (is : List (Item A)). length is) all ∙ length_behind old i ∙ ap (λ (k : ℕ). k + 1) count;
      for = is;
    }

-- .. for which an item is
pub is_for : {A : Type 0} (i : Item A) (x : Station) (to : Mac) → i.net ≡ x.net → i.to ≡ to →
    addressee_of i ≡ record { net = x.net; mac = to }
is_for i x to net for = ap (λ (m : ℕ). record { net = m; mac = i.to }) net ∙ ap (λ (m : Mac). record { net = x.net; mac = m }) for

pub puts_out : {A : Type 0} (w v : WorldState A) (old more : List (Item A)) (x home : Station) (now : ℕ) (s : Spoken) →
    length old ≡ length w.items → v.items ≡ old ++ more → IsPutOnce now x s more →
    record { net = x.net; mac = s.way.to } ≡ home → PutsOut home w v
puts_out w v old more x home now s count are put is =
    puts_one w v old more put.i home count are put.one (is_for put.i x s.way.to put.item.net put.item.for ∙ is)

module _ {A : Type 0} (name : List ℕ) (instance : ℕ) (request : Request A) (from : Mac) (d : DeviceState A) (w asked : WorldState A)
    (stands : Stands w) (asks : Asks name instance request from d w asked)
    (named : is_spelled (way_to asks.c.net from (home_of (Device d))).destination ≡ true) (client_on : IsOnIp asks.c.mac)
    (from_on : IsOnIp from) where
  abbrev place : ℕ
  place = asks.issues.place

  abbrev i : Issues place instance request w asked
  i = asks.issues.holds

  abbrev c : ClientState A
  c = asks.c

  abbrev issued_by : Binding
  issued_by = (plain_issue w asked place instance request asks.sound i c asks.client).issues.binding

  same_binding : asks.bound.binding ≡ issued_by
  same_binding = some_same asks.bound.binding issued_by
      (sym asks.bound.held ∙ (plain_issue w asked place instance request asks.sound i c asks.client).issues.held)

  whole : GoInOne c issued_by d request
  whole = subst (λ (b : Binding). GoInOne c b d request) same_binding asks.whole

  abbrev asks_so : Spoken
  asks_so = spoken w asked place instance request asks.sound i c asks.client

  way_is : asks_so.way ≡ way_to c.net from (home_of (Device d))
  way_is = ap (λ (b : Binding). b.bound.way) (sym same_binding) ∙ asks.bound.way

  to_is : asks_so.way.to ≡ from
  to_is = ap (λ (y : Way). y.to) way_is

  put : PutsOut (record { net = asks.c.net; mac = from }) w asked
  put =
      let client = on_ip c.mac client_on in
      let next = on_ip from from_on in
      puts_out w asked w.items _ (home_of (Client c)) (record { net = c.net; mac = from }) w.moment asks_so refl
      (issue_items w asked place instance request asks.sound i c asks.client stands)
      (issue_puts w asked place instance request asks.sound i c asks.client stands whole.asked
      (ap (λ (y : Way). is_spelled y.destination) way_is ∙ named) client.0 client.1 next.0 (to_is ∙ next.1))
      (ap (λ (m : Mac). record { net = c.net; mac = m }) to_is)

pub issues_put_out : {A : Type 0} → IssuesPutOut A
issues_put_out {A} name instance request d w v stands asks one_net client_on device_on =
    subst (λ (n : ℕ). PutsOut {A = A} (record { net = n; mac = d.mac }) w v) one_net
    (put name instance request d.mac d w v stands asks
    (ap (λ (o : Option Station). is_spelled o) (here_way asks.c.net (home_of (Device d)) one_net)) client_on device_on)

-- a way to a station of another network names that station
pub away_way : (net : ℕ) (from : Mac) (x : Station) → net ≢ x.net → (way_to net from x).destination ≡ Some x
away_way net from x two =
    let y : Station = record { net = net; mac = from } in
    ap (λ b. destination_if b x) (false_from_ne_true (same_station x y)
    (λ t. two (sym (ap (λ (z : Station). z.net) ((one_station x y).same t)))))

pub routed_issues_put_out : {A : Type 0} → RoutedIssuesPutOut A
routed_issues_put_out name instance request router d w v stands asks two named client_on router_on =
    put name instance request router d w v stands asks
    (ap (λ (o : Option Station). is_spelled o) (away_way asks.c.net router (home_of (Device d)) two) ∙ named) client_on router_on

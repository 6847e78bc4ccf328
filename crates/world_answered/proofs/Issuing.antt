-- What a client issues in a world, seen by its clients and devices alone, and the item that it puts out.
use Rattle.std.proofs.Common.{◌≡◌, ◌∙◌, refl, sym, ap, subst, ℕ, Bool, true, false, List, [], ◌∷◌, ◌++◌, length, Some}
use Rattle.std.specs.Prelude.{slice_get}
use Rattle.bindings.specs.Limits as limit
use Rattle.history.specs.declared.Entry.TheVariants as history
use Rattle.link.specs.Step.{PortSent}
use Rattle.npdu.specs.declared.mac.Mac.TheVariants.{Six}
use Rattle.npdu.specs.declared.mac.Station.{Station}
use Rattle.npdu.specs.declared.parcel.Parcel.{Parcel}
use Rattle.primitives.specs.Sound.{IsSoundRequest}
use Rattle.primitives.specs.declared.plain_data.Request.{Request}
use Rattle.simulator.proofs.ActLaws.{client_acts, mid, plain_with, puts_from}
use Rattle.simulator.proofs.HearLeads.{puts, told_so}
use Rattle.traffic.specs.declared.item.Item.{Item}
use Rattle.unitdata.specs.Saying.{Spoken, is_spelled, parcel_if, parcel_of, parcel_to}
use Rattle.world.specs.Laws.{Stands}
use Rattle.world.specs.Step.{Issues, issued}
use Rattle.world.specs.World.{WorldState}
use Rattle.world.specs.carry_world.PlainSteps.{ClientIssues}
use Rattle.world.specs.carry_world.PlainWorld.{PlainWorld}
use Rattle.world.specs.client.Client.{ClientState}
use Rattle.world.specs.client.client_tsm.Said as client_said
use Rattle.world.specs.headline_bacnet.services.Asked.{request_octets}
use Rattle.world.specs.link_site.declared.port.SitePort.{SitePort}
use Rattle.world.specs.node_laws.Stands.{IsAt, IsAtItsPort}
use Rattle.world.specs.site_node.Node.{NodeState, begun, ended, home_of, places_by}
use Rattle.world.specs.site_node.Part.{ITS_PORT, IssuesIt, PartIssues}
use Rattle.world.specs.site_node.declared.part.Part.{Part}
use Rattle.world.specs.site_node.declared.part.Part.TheVariants.{Client}
use Rattle.world.specs.site_ports.Drafts.{PortsState}
use Rattle.world.specs.site_ports.Ports.{DownsEach, over, places_of}
use Rattle.world.specs.world_log.Growing.{items_at}
use Rattle.world.specs.world_sites.Nodes.{client_of}
use Rattle.world_answered.proofs.Items.{IsItemOf, one_down, one_puts}
use Rattle.world_answered.proofs.Places.{ahead, get_first, none_some, part_set, part_there, some_same}
use Rattle.world_answered.proofs.Serving.{ask, said_is}
use Rattle.world_answered.proofs.Steady.{node_stands}

-- a device or a client is at one place alone
pub one_place : {A : Type 0} (x : Station) (ports : List (SitePort A)) → IsAtItsPort x ports → places_of ports ≡ x ∷ []
one_place x ports at = ap (λ (ps : List (SitePort _)). places_of ps) at.one ∙ ap (λ (y : Station). y ∷ []) at.place

-- what is said at a place goes out as one item
pub record IsSaidOut {A : Type 0} (now : ℕ) (x : Station) (s : Spoken) (said : List (Parcel A)) (i : Item A) :
    Type 0 where
  pub spelled : is_spelled s.way.destination ≡ true
  pub said_is : said ≡ parcel_to now x.mac s ∷ []
  pub item : IsItemOf x (parcel_to now x.mac s) s.way.to i

module _ {A : Type 0} (now : ℕ) (x : Station) (s : Spoken) (said : List (Parcel A)) (old new : PortsState A) (i : Item A)
    (at : places_of old.ports ≡ x ∷ []) (none : old.out ≡ [])
    (downs : DownsEach now (over ITS_PORT said) old new)
    (there : slice_get (items_at now (x ∷ []) new.out) 0 ≡ Some i) where
  out_if : (b : Bool) → is_spelled s.way.destination ≡ b → said ≡ parcel_if b now x.mac s →
      IsSaidOut now x s said i
  out_if false spelled is =
      let same : new ≡ old = subst (λ (ps : List (Parcel A)). DownsEach now (over ITS_PORT ps) old new) is downs in
      let out : new.out ≡ [] = ap (λ (z : PortsState A). z.out) same ∙ none in
      absurd (none_some i (sym (ap (λ (o : List (PortSent A)). slice_get (items_at now (x ∷ []) o) 0) out) ∙ there))
  out_if true spelled is =
      let one = one_down now (x ∷ []) ITS_PORT (parcel_to now x.mac s) s.way.to refl i old new at none
      (subst (λ (ps : List (Parcel A)). DownsEach now (over ITS_PORT ps) old new) is downs) there in record {
        spelled = spelled;
        said_is = is;
        item = subst (λ (y : Station). IsItemOf y (parcel_to now x.mac s) s.way.to i) (sym (some_same x one.x one.at)) one.item;
      }

  pub said_out : said ≡ parcel_of now x.mac s → IsSaidOut now x s said i
  said_out is = out_if (is_spelled s.way.destination) refl is

-- one item goes out of it on a network of BACnet/IP, and no other
pub record IsPutOnce {A : Type 0} (now : ℕ) (x : Station) (s : Spoken) (items : List (Item A)) : Type 0 where
  pub i : Item A
  pub item : IsItemOf x (parcel_to now x.mac s) s.way.to i
  pub one : items ≡ i ∷ []

pub said_once : {A : Type 0} (now : ℕ) (x : Station) (s : Spoken) (said : List (Parcel A)) (old new : PortsState A) →
    places_of old.ports ≡ x ∷ [] → old.out ≡ [] → DownsEach now (over ITS_PORT said) old new → said ≡ parcel_of now x.mac s →
    is_spelled s.way.destination ≡ true → (address : List ℕ) → x.mac ≡ Six address → (other : List ℕ) → s.way.to ≡ Six other →
    IsPutOnce now x s (items_at now (x ∷ []) new.out)
said_once {A} now x s said old new at none downs is spelled address six other six_to =
    let p : Parcel A = parcel_to now x.mac s in
    let one : said ≡ p ∷ [] = is ∙ ap (λ (b : Bool). parcel_if b now x.mac s) spelled in
    let goes = subst (λ (ps : List (Parcel A)). DownsEach now (over ITS_PORT ps) old new) one downs in
    let first = one_puts now (x ∷ []) ITS_PORT x refl p s.way.to refl refl address six other six_to old new at none goes in
    let put = one_down now (x ∷ []) ITS_PORT p s.way.to refl first.made old new at none goes first.first in record {
      i = first.made;
      item = subst (λ (y : Station). IsItemOf y p s.way.to first.made) (sym (some_same x put.x put.at)) put.item;
      one = put.one;
    }

module _ {A : Type 0} (w v : WorldState A) (place instance : ℕ) (request : Request A) (sound : IsSoundRequest request)
    (i : Issues place instance request w v) (c : ClientState A) (is : i.n.part ≡ Client c) where
  pub record IsIssued (r : Part A) : Type 0 where
    pub left : ClientState A
    pub left_is : r ≡ Client left
    pub issues : IssuesIt w.moment instance request c i.id i.told.told left

  issued_by : (r : Part A) → PartIssues w.moment instance request (Client c) i.id i.told.told r → IsIssued r
  issued_by (Client left) h = record { left = left; left_is = refl; issues = h }
  issued_by r h = absurd h

  pub it : IsIssued i.next.part
  it = issued_by i.next.part
      (subst (λ (q : Part A). PartIssues w.moment instance request q i.id i.told.told i.next.part) is i.issues.issues)

  abbrev u : WorldState A
  u = issued (home_of i.n.part) i.id instance request w

  abbrev pub client_place : ℕ
  client_place = ahead (λ (m : NodeState A). client_of m.part) w.nodes place

  abbrev pub asking : PlainWorld A
  asking = mid [] u v place i.n i.next i.told i.acts

  -- it is the step of a client
  abbrev pub plain_issue : ClientIssues (plain_with [] w) asking
  plain_issue = record {
    place = client_place;
    instance = instance;
    request = request;
    c = c;
    next = it.left;
    told = record { invoke_id = i.id; said = i.told.told.said };
    there = part_there (λ (m : NodeState A). client_of m.part) w.nodes place i.n c i.acts.there
        (ap (λ (q : Part A). client_of q) is);
    sound = sound;
    free = it.issues.free;
    issues = it.issues.issues;
    moment = refl;
    clients = part_set (λ (m : NodeState A). client_of m.part) w.nodes place i.n i.next c it.left i.acts.there
        (ap (λ (q : Part A). client_of q) is) (ap (λ (q : Part A). client_of q) it.left_is);
    devices = (client_acts [] u v place i.n i.next i.told i.acts c it.left is it.left_is).0;
    keys = ap (λ (q : Part A). w.keys ++ record { client = home_of q; invoke_id = i.id } ∷ []) is;
    history = told_so [] u v place i.n i.next i.told i.acts it.issues.told_is is ∙ ap (λ (q : Part A).
        w.history ++ history.Issue (length w.keys) (home_of q) instance request w.moment ∷ []) is;
    puts = puts_from (plain_with [] u) (plain_with [] w) asking c.net i.told.told.said refl refl
        (puts [] u v place i.n i.next i.told i.acts refl is);
  }

  abbrev pub spoken : Spoken
  spoken = client_said.spoken_of (ask (plain_with [] w) asking plain_issue)

  abbrev home : Station
  home = home_of (Client c)

  -- all items then are behind those that were
  module _ (stands : Stands w) where
    pub issue_places : places_of i.n.ports ≡ home ∷ []
    issue_places = one_place home i.n.ports
        (subst (λ (q : Part A). IsAt q i.n.ports) is (node_stands w place i.n stands i.acts.there).at)

    pub issue_items : v.items ≡ w.items ++ items_at w.moment (home ∷ []) i.told.out
    issue_items = ap (λ (z : WorldState A). z.items) i.acts.is
        ∙ ap (λ (xs : List Station). w.items ++ items_at w.moment xs i.told.out)
        (ap (λ (q : Part A). places_by q i.n.ports) is ∙ issue_places)

    -- one goes out, where that is on a network of BACnet/IP
    pub issue_puts : limit.goes_whole (limit.apdu_limit c.machine.accepts plain_issue.issues.binding.bound) (length (request_octets request)) ≡ true →
        is_spelled spoken.way.destination ≡ true → (address : List ℕ) → c.mac ≡ Six address → (other : List ℕ) →
        spoken.way.to ≡ Six other → IsPutOnce w.moment home spoken (items_at w.moment (home ∷ []) i.told.out)
    issue_puts whole spelled address six other six_to =
        said_once w.moment home spoken i.told.told.said (begun i.n) (ended i.told.out i.next) issue_places refl i.issues.goes_down
        (said_is (plain_with [] w) asking plain_issue whole) spelled address six other six_to

  -- .. and one item goes out of it
  module _ (stands : Stands w) (item : Item A) (there : slice_get v.items (length w.items) ≡ Some item)
      (whole : limit.goes_whole (limit.apdu_limit c.machine.accepts plain_issue.issues.binding.bound) (length (request_octets request)) ≡ true) where
    first : slice_get (items_at w.moment (home ∷ []) i.told.out) 0 ≡ Some item
    first = sym (get_first w.items (items_at w.moment (home ∷ []) i.told.out))
        ∙ sym (ap (λ (is : List (Item A)). slice_get is (length w.items)) (issue_items stands)) ∙ there

    pub issue_out : IsSaidOut w.moment home spoken i.told.told.said item
    issue_out = said_out w.moment home spoken i.told.told.said (begun i.n) (ended i.told.out i.next) item (issue_places stands) refl
        i.issues.goes_down first (said_is (plain_with [] w) asking plain_issue whole)

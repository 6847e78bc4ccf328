-- A world stands as it must wherever these events lead, waiting changes nothing but the moment, and whatever no client does
-- leaves the clients where they are.
use Rattle.std.proofs.Common.{◌≡◌, ◌∙◌, refl, sym, ap, subst, arith, ℕ, ◌+◌, ◌≤◌, List, [], ◌∷◌, ◌++◌, length, Some}
use Rattle.std.specs.Prelude.{slice_get, slice_set}
use Rattle.primitives.specs.declared.plain_data.Request.{Request}
use Rattle.world.proofs.FindingLaws.{steady_there}
use Rattle.world.proofs.Standing.{steady_later, steady_marked, steady_set}
use Rattle.world.proofs.node_laws.Staying.{stays_at_hearing, stays_at_issue}
use Rattle.world.specs.Laws.{Stands}
use Rattle.world.specs.Step.{Delivers, Issues, Ticks, delivered}
use Rattle.world.specs.World.{WorldState}
use Rattle.world.specs.client.Client.{ClientState}
use Rattle.world.specs.node_laws.Stands as node
use Rattle.world.specs.site_node.Node.{NodeState, node_places}
use Rattle.world.specs.site_node.declared.part.Part.{Part}
use Rattle.world.specs.site_node.declared.part.Part.TheVariants.{Client}
use Rattle.world.specs.world_log.Growing.{items_at}
use Rattle.world.specs.world_sites.Nodes.{client_of, clients_of, devices_of}
use Rattle.world_answered.proofs.Places.{ahead, ahead_same, get_other}
use Rattle.world_answered.specs.Exchange.{AtOnce, Passes, Waits}

module _ {A : Type 0} where
  pub node_stands : (w : WorldState A) (place : ℕ) (n : NodeState A) → Stands w → slice_get w.nodes place ≡ Some n →
      node.Stands w.moment n
  node_stands w place n stands e = (steady_there w.site w.moment w.nodes w.items place n stands e).stands

  pub steady_issue : (place instance : ℕ) (request : Request A) (w v : WorldState A) → Stands w →
      Issues place instance request w v → Stands v
  steady_issue place instance request w v stands d =
      let stays = stays_at_issue A w.moment instance request d.id d.n d.next d.told
      (node_stands w place d.n stands d.acts.there) d.issues in
      subst (λ (z : WorldState A). Stands z) (sym d.acts.is)
      (steady_set w.site w.moment w.nodes w.items (w.items ++ items_at w.moment (node_places d.n) d.told.out) place d.n d.next d.told.out d.acts.there stands stays refl)

  pub steady_delivery : (number : ℕ) (w v : WorldState A) → Stands w → Delivers number w v → Stands v
  steady_delivery number w v stands d =
      let stays = stays_at_hearing A w.moment d.port d.item.from d.item.octets d.item.stamp d.n d.next d.told
      (node_stands w d.place d.n stands d.acts.there) d.hears in
      let marked = steady_marked w.site w.moment w.nodes w.items number d.item d.there stands in
      subst (λ (z : WorldState A). Stands z) (sym d.acts.is)
      (steady_set w.site w.moment w.nodes (delivered number d.item w).items
      ((delivered number d.item w).items ++ items_at w.moment (node_places d.n) d.told.out) d.place d.n d.next d.told.out d.acts.there
      marked stays refl)

  -- nothing has changed but the moment
  pub record HasWaited (w v : WorldState A) : Type 0 where
    pub later : w.moment ≤ v.moment
    pub is : v ≡ record w { moment = v.moment }
    pub stands : Stands w → Stands v

  one_tick : (n : ℕ) (w v : WorldState A) → Ticks n w v → HasWaited w v
  one_tick n w v d =
      let moment : v.moment ≡ w.moment + n = ap (λ (z : WorldState A). z.moment) d.is in
      let greatest = d.passes.greatest in record {
        later = omega (arith, moment);
        is = d.is ∙ ap (λ (m : ℕ). record w { moment = m }) (sym moment);
        stands = λ stands. subst (λ (z : WorldState A). Stands z) (sym d.is)
            (steady_later w.site w.moment (w.moment + n) w.nodes w.items (omega arith) greatest stands);
      }

  pub same_after : (w v : WorldState A) → AtOnce w v → v ≡ w
  same_after w v same = same

  pub at_once : (w v : WorldState A) → AtOnce w v → HasWaited w v
  at_once w v same = subst (λ (z : WorldState A). HasWaited w z) (sym same)
      (record { later = omega arith; is = refl; stands = λ stands. stands })

  has_passed : (ns : List ℕ) (w v : WorldState A) → Passes ns w v → HasWaited w v
  has_passed [] w v same = at_once w v same
  has_passed (n ∷ ns) w v t =
      let one = one_tick n w t.middle t.first in
      let rest = has_passed ns t.middle v t.rest in
      let a = one.later in
      let b = rest.later in record {
        later = omega (arith, a, b);
        is = rest.is ∙ ap (λ (z : WorldState A). record z { moment = v.moment }) one.is;
        stands = λ stands. rest.stands (one.stands stands);
      }

  pub has_waited : (w v : WorldState A) → Waits w v → HasWaited w v
  has_waited w v h = has_passed h.ticks w v h.pass

  -- no client and no device does anything, while time passes
  pub record Later (w v : WorldState A) : Type 0 where
    pub moment : w.moment ≤ v.moment
    pub clients : clients_of v.nodes ≡ clients_of w.nodes
    pub devices : devices_of v.nodes ≡ devices_of w.nodes
    pub keys : v.keys ≡ w.keys
    pub history : v.history ≡ w.history

  pub later_waited : (w v : WorldState A) → HasWaited w v → Later w v
  later_waited w v h = record {
    moment = h.later;
    clients = ap (λ (z : WorldState A). clients_of z.nodes) h.is;
    devices = ap (λ (z : WorldState A). devices_of z.nodes) h.is;
    keys = ap (λ (z : WorldState A). z.keys) h.is;
    history = ap (λ (z : WorldState A). z.history) h.is;
  }

  pub later_on : (w u v : WorldState A) → Later w u → Later u v → Later w v
  later_on w u v a b =
      let first = a.moment in
      let then = b.moment in record {
        moment = omega (arith, first, then);
        clients = b.clients ∙ a.clients;
        devices = b.devices ∙ a.devices;
        keys = b.keys ∙ a.keys;
        history = b.history ∙ a.history;
      }

  -- the client at a place stays there, behind as many clients
  pub record Stays (place : ℕ) (n : NodeState A) (w v : WorldState A) : Type 0 where
    pub there : slice_get w.nodes place ≡ Some n → slice_get v.nodes place ≡ Some n
    pub same : ahead (λ (m : NodeState A). client_of m.part) v.nodes place ≡ ahead (λ (m : NodeState A). client_of m.part) w.nodes place

  pub stays_waited : (place : ℕ) (n : NodeState A) (w v : WorldState A) → HasWaited w v → Stays place n w v
  stays_waited place n w v h =
      let nodes : v.nodes ≡ w.nodes = ap (λ (z : WorldState A). z.nodes) h.is in record {
        there = λ e. ap (λ (ns : List (NodeState A)). slice_get ns place) nodes ∙ e;
        same = ap (λ (ns : List (NodeState A)). ahead (λ (m : NodeState A). client_of m.part) ns place) nodes;
      }

  pub stays_delivery : (place : ℕ) (n : NodeState A) (c : ClientState A) → n.part ≡ Client c → (number : ℕ) (w v : WorldState A)
      (d : Delivers number w v) → client_of d.n.part ≡ [] → client_of d.next.part ≡ [] → Stays place n w v
  stays_delivery place n c client number w v d none then =
      let nodes : v.nodes ≡ slice_set w.nodes d.place d.next = ap (λ (z : WorldState A). z.nodes) d.acts.is in record {
        there = λ e. ap (λ (ns : List (NodeState A)). slice_get ns place) nodes
            ∙ get_other w.nodes d.place place d.n n d.next d.acts.there e (λ same.
            let no : [] ≡ c ∷ [] = sym none ∙ ap (λ (m : NodeState A). client_of m.part) same ∙ ap (λ (q : Part A). client_of q) client in
            cc no);
        same = ap (λ (ns : List (NodeState A)). ahead (λ (m : NodeState A). client_of m.part) ns place) nodes
            ∙ ahead_same (λ (m : NodeState A). client_of m.part) w.nodes d.place place d.n d.next d.acts.there
            (ap (λ (cs : List (ClientState A)). length cs) (then ∙ sym none));
      }

  pub stays_on : (place : ℕ) (n : NodeState A) (w u v : WorldState A) → Stays place n w u → Stays place n u v → Stays place n w v
  stays_on place n w u v a b = record { there = λ e. b.there (a.there e); same = b.same ∙ a.same }

-- How all nodes of a world stand once one of them did something, or time went on.
use Rattle.std.proofs.Common.{◌≡◌, ◌∙◌, refl, sym, ap, subst, arith, ℕ, zero, suc, ◌<◌, ◌≤◌, true, List, [], ◌∷◌, ◌++◌, length, Option, Some, None, take}
use Rattle.std.specs.List.{AllByRecursion, flat_map}
use Rattle.std.specs.Prelude.{option_to_list, slice_get, slice_set}
use Rattle.link.specs.Step.{PortSent}
use Rattle.link.specs.declared.step.Sent.{Sent}
use Rattle.world_log.proofs.node_laws.Staying.{by_same, stands_later}
use Rattle.world_log.specs.node_laws.Out.{IsMac}
use Rattle.world_log.specs.node_laws.Stands.{SamePart, Stays}
use Rattle.world_log.specs.node_laws.Stands as node
use Rattle.npdu.specs.declared.mac.Mac.{Mac}
use Rattle.npdu.specs.declared.mac.Mac.TheVariants.{One, Six}
use Rattle.npdu.specs.declared.mac.Station.{Station}
use Rattle.profile.specs.Times.{MAX_MOMENT_MS}
use Rattle.world_log.specs.site_node.Node.{NodeState, home_of, node_places}
use Rattle.world_log.specs.site_node.declared.part.Part.{Part}
use Rattle.site_parts.specs.declared.parts.Parts.{Parts}
use Rattle.traffic.specs.declared.item.Item.{Item}
use Rattle.world.specs.Laws.{AreSteady, HasMacs, IsSteady}
use Rattle.world_log.specs.Growing.{AreFromMacs, item_from, item_over, items_at}
use Rattle.world_log.specs.carry_world.headline_bacnet.Refined.{ObjectSite}
use Rattle.world_sites.specs.Nodes.{IsOfSite}
use Rattle.world_sites.specs.Opening.{object_site}

pub some_same : {X : Type 0} (x y : X) → Some x ≡ Some y → x ≡ y
some_same x y e = cc

-- what holds of all holds of the one at a place
pub all_at : {X : Type 0} (P : X → Type 0) (xs : List X) (place : ℕ) (x : X) → AllByRecursion P xs →
    slice_get xs place ≡ Some x → P x
all_at P [] place x all e = absurd (cc e)
all_at P (y ∷ ys) zero x all e = subst (λ (z : _). P z) (some_same y x e) all.0
all_at P (y ∷ ys) (suc place) x all e = all_at P ys place x (all.1) e

-- what holds of all holds of them where one of which it holds is put in the place of another
pub all_set : {X : Type 0} (P : X → Type 0) (xs : List X) (place : ℕ) (x : X) → AllByRecursion P xs → P x →
    AllByRecursion P (slice_set xs place x)
all_set P [] place x all one = tt
all_set P (y ∷ ys) zero x all one = (one, all.1)
all_set P (y ∷ ys) (suc place) x all one = (all.0, all_set P ys place x (all.1) one)

pub all_both : {X : Type 0} (P : X → Type 0) (xs ys : List X) → AllByRecursion P xs → AllByRecursion P ys →
    AllByRecursion P (xs ++ ys)
all_both P [] ys a b = b
all_both P (x ∷ xs) ys a b = (a.0, all_both P xs ys a.1 b)

-- one put where it was changes nothing
pub set_same : {X : Type 0} (xs : List X) (n : ℕ) (x : X) → slice_get xs n ≡ Some x → slice_set xs n x ≡ xs
set_same [] n x e = refl
set_same (y ∷ ys) zero x e = ap (λ (z : _). z ∷ ys) (let s : x ≡ y = cc in s)
set_same (y ∷ ys) (suc n) x e = ap (λ (zs : List _). y ∷ zs) (set_same ys n x e)

-- a part that is the same is of the site still
still_of_site : {A : Type 0} (s : ObjectSite A) (p q : Part A) → SamePart p q → IsOfSite s p → IsOfSite s q
still_of_site s = by_same (λ p q. IsOfSite s p → IsOfSite s q)
    (λ d e same is. ap s.instance_of same.station ∙ is ∙ ap (λ n. Some n) (sym same.instance)) (λ c d same is. tt)
    (λ r q same is. tt) (λ net n m o same is. tt)

-- a node that stays is steady
pub steady_then : {A : Type 0} (site : Parts A) (now : ℕ) (n next : NodeState A) → IsSteady site now n →
    Stays now n next → IsSteady site now next
steady_then site now n next steady stays = record {
  stands = stays.stands;
  macs = subst (λ (xs : List Station). AllByRecursion (λ x. IsMac x.mac) xs) (sym stays.same) steady.macs;
  of_site = still_of_site (object_site site) n.part next.part stays.part steady.of_site;
}

-- what goes out from link addresses are items from link addresses
from_one : {A : Type 0} (now net : ℕ) (mac : Mac) (s : Sent A) → IsMac mac → AreFromMacs (item_from now net mac s ++ [])
from_one now net (Six octets) s is = (is, tt)
from_one now net (One octet) s is = tt

from_place : {A : Type 0} (now : ℕ) (xs : List Station) (port : ℕ) (o : PortSent A) →
    AllByRecursion (λ x. IsMac x.mac) xs → o.port ≡ port → AreFromMacs (item_over now xs o)
from_place {A} now xs port o all e = by_get (slice_get xs o.port) (λ x there. all_at (λ y. IsMac y.mac) xs o.port x all there)
  where
    by_get : (at : Option Station) → ((x : Station) → at ≡ Some x → IsMac x.mac) →
        AreFromMacs {A = A} (flat_map (λ x. item_from now x.net x.mac o.sent) (option_to_list at))
    by_get None is = tt
    by_get (Some x) is = from_one now x.net x.mac o.sent (is x refl)

pub from_places : {A : Type 0} (now : ℕ) (xs : List Station) (out : List (PortSent A)) →
    AllByRecursion (λ x. IsMac x.mac) xs → AreFromMacs (items_at now xs out)
from_places now xs [] all = tt
from_places now xs (o ∷ out) all = all_both (λ i. IsMac i.from) (item_over now xs o) (items_at now xs out)
    (from_place now xs o.port o all refl) (from_places now xs out all)

-- all are steady where one that stays is put in the place of another, and what it puts out stands behind the items
pub steady_set : {A : Type 0} (site : Parts A) (now : ℕ) (ns : List (NodeState A)) (items more : List (Item A))
    (place : ℕ) (n next : NodeState A) (out : List (PortSent A)) → slice_get ns place ≡ Some n →
    AreSteady site now ns items → Stays now n next → more ≡ items ++ items_at now (node_places n) out →
    AreSteady site now (slice_set ns place next) more
steady_set site now ns items more place n next out there steady stays e =
    let one : IsSteady site now n = all_at (IsSteady site now) ns place n steady.each there in record {
      each = all_set (IsSteady site now) ns place next steady.each (steady_then site now n next one stays);
      from = subst (λ (is : List (Item _)). AreFromMacs is) (sym e)
          (all_both (λ i. IsMac i.from) items (items_at now (node_places n) out) steady.from
          (from_places now (node_places n) out one.macs));
      greatest = steady.greatest;
    }

-- .. nothing
pub steady_rested : {A : Type 0} (site : Parts A) (now : ℕ) (ns : List (NodeState A)) (items : List (Item A))
    (place : ℕ) (n next : NodeState A) → slice_get ns place ≡ Some n → AreSteady site now ns items →
    Stays now n next → AreSteady site now (slice_set ns place next) items
steady_rested site now ns items place n next there steady stays = record {
  each = all_set (IsSteady site now) ns place next steady.each
      (steady_then site now n next (all_at (IsSteady site now) ns place n steady.each there) stays);
  from = steady.from;
  greatest = steady.greatest;
}

-- all stand at a later moment
node_later : {A : Type 0} (site : Parts A) (now later : ℕ) (n : NodeState A) → now ≤ later → IsSteady site now n →
    IsSteady site later n
node_later site now later n le h = record {
  stands = stands_later _ now later n le h.stands;
  macs = h.macs;
  of_site = h.of_site;
}

nodes_later : {A : Type 0} (site : Parts A) (now later : ℕ) (ns : List (NodeState A)) → now ≤ later →
    AllByRecursion (IsSteady site now) ns → AllByRecursion (IsSteady site later) ns
nodes_later site now later [] le all = tt
nodes_later site now later (n ∷ ns) le all =
    (node_later site now later n le (all.0), nodes_later site now later ns le (all.1))

pub steady_later : {A : Type 0} (site : Parts A) (now later : ℕ) (ns : List (NodeState A)) (items : List (Item A)) →
    now ≤ later → later ≤ MAX_MOMENT_MS → AreSteady site now ns items → AreSteady site later ns items
steady_later site now later ns items le most steady = record {
  each = nodes_later site now later ns le steady.each;
  from = steady.from;
  greatest = most;
}

-- an item that is marked is from where it was
pub steady_marked : {A : Type 0} (site : Parts A) (now : ℕ) (ns : List (NodeState A)) (items : List (Item A))
    (number : ℕ) (i : Item A) → slice_get items number ≡ Some i → AreSteady site now ns items →
    AreSteady site now ns (slice_set items number (record i { is_delivered = true }))
steady_marked site now ns items number i there h = record {
  each = h.each;
  from = all_set (λ (j : Item _). IsMac j.from) items number (record i { is_delivered = true }) h.from
      (all_at (λ (j : Item _). IsMac j.from) items number i h.from there);
  greatest = h.greatest;
}

pub ruleset later_rules = (steady_later)

pub ruleset marking_rules = (steady_marked)

-- How the places of nodes by their addresses come about, from the last node on.
use Rattle.std.proofs.Common.{◌≡◌, ◌∙◌, refl, sym, ap, arith, ℕ, suc, ◌+◌, ◌<◌, ◌≤◌, ◌||◌, Bool, true, false, List, [], ◌∷◌, Option, Some, None, drop, length}
use Rattle.std.specs.Prelude.{if◌then◌else◌, is_some, slice_get}
use Rattle.std.specs.BTreeMap.{BTreeMap, IsEmpty}
use Rattle.std.specs.List.{list_any}
use Rattle.std.specs.Map.{lookup}
use Rattle.std.specs.Ordering.{is_eq}
use Rattle.world_sites.proofs.DirectoryLaws.{macs, same_address}
use Rattle.world_sites.proofs.FindLaws.{got_at, no_none, past_end}
use Rattle.world_sites.specs.Finding.{is_there, passes, place_from, place_of}
use Rattle.world_sites.specs.Places.{ArePut, IsPut, kept_at}
use Rattle.npdu.proofs.Stations.{station_order}
use Rattle.npdu.specs.Mac.{same_station, station_cmp}
use Rattle.npdu.specs.contracts.mac.StationOrd.TheImpl as impl
use Rattle.npdu.specs.declared.mac.Station.{Station}
use Rattle.node_laws.specs.site_node.Node.{NodeState, node_places}

-- an address was put in
pub address_put : (m n : BTreeMap Station ℕ) (y : Station) (place : ℕ) → IsPut impl.cmp-value.it y place m n →
    ArePut (λ x. passes (λ z. same_station z x) (Some y)) place m n
address_put m n y place put = λ x. put (λ z. station_cmp x z)
    (λ a b e. station_order.total.congr x a b e ∙ sym (macs a.net b.net a.mac b.mac))
    ∙ ap (λ b. if b then Some place else kept_at m x) (same_address x y)

-- one of these places is at an address
abbrev pub any_at : Station → List Station → Bool
any_at x ys = list_any (λ y. same_station y x) ys

-- what is kept of an address once the places that are left are put in too
abbrev pub kept_then : (place : ℕ) → BTreeMap Station ℕ → List Station → Station → Option ℕ
kept_then place m left x = if any_at x left then Some place else kept_at m x

both_put : {X : Type 0} (a b : Bool) (y z : X) → (if b then y else (if a then y else z)) ≡ (if a || b then y else z)
both_put true true y z = refl
both_put true false y z = refl
both_put false true y z = refl
both_put false false y z = refl

-- a port's address was put in, and those of the ports behind it are left
pub port_put : (ys : List Station) (i place : ℕ) (o : Option Station) (m n start : BTreeMap Station ℕ) → i < length ys →
    o ≡ slice_get ys i → ArePut (λ x. passes (λ z. same_station z x) o) place m n →
    ((x : Station) → kept_then place m (drop i ys) x ≡ kept_then place start ys x) →
    (x : Station) → kept_then place n (drop (i + 1) ys) x ≡ kept_then place start ys x
port_put ys i place None m n start lt e put so_far = absurd (no_none ys i lt e)
port_put ys i place (Some y) m n start lt e put so_far = λ x.
    let next : i + 1 ≡ suc i = omega arith in
    ap (λ (k : Option ℕ). if any_at x (drop (i + 1) ys) then Some place else k) (put x)
    ∙ ap (λ (j : ℕ).
    if any_at x (drop j ys) then Some place else (if same_station y x then Some place else kept_at m x)) next
    ∙ both_put (same_station y x) (any_at x (drop (suc i) ys)) (Some place) (kept_at m x)
    ∙ sym (ap (λ (zs : List Station). kept_then place m zs x) (got_at ys i y (sym e))) ∙ so_far x

one_further : {X : Type 0} (b later : Bool) (x : X) (o : Option X) → later ≡ is_some o →
    (b || later) ≡ is_some (if b then Some x else o)
one_further true later x o e = refl
one_further false later x o e = e

some_from : (x : Station) (n : ℕ) (ys : List Station) →
    any_at x ys ≡ is_some (place_from n (λ y. same_station y x) ys)
some_from x n [] = refl
some_from x n (y ∷ ys) = one_further (same_station y x) (any_at x ys) n
    (place_from (n + 1) (λ z. same_station z x) ys) (some_from x (n + 1) ys)

any_there : {A : Type 0} (x : Station) (node : NodeState A) → any_at x (node_places node) ≡ is_there x node
unfolding is_there
any_there x node = some_from x 0 (node_places node)

-- none is left: the node was put in
pub node_put : {A : Type 0} (node : NodeState A) (i place : ℕ) (n start : BTreeMap Station ℕ) →
    length (node_places node) ≤ i →
    ((x : Station) → kept_then place n (drop i (node_places node)) x ≡ kept_then place start (node_places node) x) →
    ArePut (λ x. is_there x node) place start n
node_put node i place n start le so_far = λ x.
    sym (ap (λ (zs : List Station). kept_then place n zs x) (past_end (node_places node) i le)) ∙ so_far x
    ∙ ap (λ (b : Bool). if b then Some place else kept_at start x) (any_there x node)

-- the nodes from this place on were put in
pub record ArePutBehind {A : Type 0} (m : BTreeMap Station ℕ) (place : ℕ) (nodes : List (NodeState A)) : Type 0 where
  pub kept : (x : Station) → kept_at m x ≡ place_from place (is_there x) (drop place nodes)
  pub within : place ≤ length nodes

-- none was
pub none_put : {A : Type 0} (m : BTreeMap Station ℕ) (place : ℕ) (nodes : List (NodeState A)) → IsEmpty m →
    place ≡ length nodes → ArePutBehind m place nodes
none_put {A} m place nodes empty end = record {
  kept = λ x. ap (λ es. lookup (λ y. is_eq (station_cmp x y)) es) empty
      ∙ sym (ap (λ (ns : List (NodeState A)). place_from place (is_there x) ns)
      (past_end nodes place (omega (arith, end))));
  within = omega (arith, end);
}

-- one more is
pub one_put : {A : Type 0} (m n : BTreeMap Station ℕ) (before place : ℕ) (nodes : List (NodeState A))
    (node : NodeState A) → before ≡ place + 1 → slice_get nodes place ≡ Some node →
    ArePut (λ x. is_there x node) place m n → ArePutBehind m before nodes → ArePutBehind n place nodes
one_put {A} m n before place nodes node next there put h = record {
  kept = λ x. put x
      ∙ ap (λ (k : Option ℕ). if is_there x node then Some place else k) (h.kept x)
      ∙ ap (λ (j : ℕ). if is_there x node then Some place else place_from j (is_there x) (drop j nodes)) next
      ∙ ap (λ (j : ℕ). if is_there x node then Some place else place_from (place + 1) (is_there x) (drop j nodes))
      one_on
      ∙ sym (ap (λ (ns : List (NodeState A)). place_from place (is_there x) ns) (got_at nodes place node there));
  within = let le = h.within in omega (arith, le, next);
}
  where
    one_on : place + 1 ≡ suc place
    one_on = omega arith

-- all were
pub all_put : {A : Type 0} (m : BTreeMap Station ℕ) (place : ℕ) (nodes : List (NodeState A)) → place ≡ 0 →
    ArePutBehind m place nodes → (x : Station) → kept_at m x ≡ place_of (is_there x) nodes
all_put {A} m place nodes none h = λ x. h.kept x
    ∙ ap (λ (j : ℕ). place_from j (is_there x) (drop j nodes)) none

-- What the first places of addresses and names lead to.
use Rattle.std.proofs.Common.{◌≡◌, ◌∙◌, refl, sym, ap, subst, arith, append_assoc, append-nil, ℕ, ◌+◌, ◌-◌, ◌<◌, ◌≤◌, Bool, true, List, [], ◌∷◌, ◌++◌, Some, drop, get_or, length, map, take}
use Rattle.std.proofs.lemmas.Cmp.{lists_total, nat_cmp_total, tied_itself}
use Rattle.std.proofs.lemmas.List.{map-append, take_all}
use Rattle.std.proofs.lemmas.Map.Text.{is_eq-slice_cmp}
use Rattle.std.proofs.lemmas.Slice.Eq.{bytes_eq-Decides}
use Rattle.std.specs.Prelude.{if◌then◌else◌, Vec, bytes_eq, cond}
use Rattle.std.specs.BTreeMap.{BTreeMap}
use Rattle.std.specs.Map.{lookup}
use Rattle.std.specs.Cmp.{both_ways}
use Rattle.std.specs.Cmp.Lexicographic.{slice_cmp}
use Rattle.std.specs.Ordering.{is_eq, nat_cmp}
use Rattle.std.specs.declared.cmp.Ordering.{Ordering}
use Rattle.std.specs.declared.cmp.Ordering.TheVariants.{Less, Equal, Greater}
use Rattle.npdu.proofs.Stations.{one_station, station_order}
use Rattle.npdu.specs.Mac.{same_station, station_cmp}
use Rattle.npdu.specs.contracts.mac.StationOrd.TheImpl as impl
use Rattle.npdu.specs.declared.mac.Mac.{Mac}
use Rattle.npdu.specs.declared.mac.Mac.TheVariants.{One, Six}
use Rattle.npdu.specs.declared.mac.Station.{Station}
use Rattle.node_laws.specs.site_node.Node.{NodeState}
use Rattle.world_sites.specs.Directory.{Leads, directory_of}
use Rattle.world_sites.specs.Finding.{is_there, place_from}
use Rattle.world_sites.specs.Places.{AreFirst, AreFirstAt}

-- two tests that agree find the same place
alike : {X Y : Type 0} (f : X → Y) (t : Y → Bool) (u : X → Bool) → ((x : X) → t (f x) ≡ u x) → (n : ℕ) (xs : List X) →
    place_from n t (map f xs) ≡ place_from n u xs
alike f t u same n [] = refl
alike f t u same n (x ∷ xs) =
    ap (λ b. if b then Some n else place_from (n + 1) t (map f xs)) (same x)
    ∙ ap (λ r. if u x then Some n else r) (alike f t u same (n + 1) xs)

-- what is made of the first of a list stands before what is made of the rest
module _ {X Y : Type 0} (f : X → Y) where
  pub one_more : (out new all : List Y) (d : X) (xs : List X) (x : X) → x ≡ get_or xs 0 d → 1 ≤ length xs →
      new ≡ out ++ f x ∷ [] → all ≡ out ++ map f xs → all ≡ new ++ map f (take (length xs - 1) (drop 1 xs))
  one_more out new all d [] x is some e h = absurd (omega (arith, some))
  one_more out new all d (y ∷ ys) x is some e h =
      let rest : take (length (y ∷ ys) - 1) (drop 1 (y ∷ ys)) ≡ ys = take_all (length (y ∷ ys) - 1) ys (omega arith) in
      subst (λ (zs : List X). all ≡ new ++ map f zs) (sym rest) (
      h ∙ sym (append_assoc out (f y ∷ []) (map f ys))
      ∙ ap (λ (zs : List Y). zs ++ map f ys) (sym (e ∙ ap (λ (z : X). out ++ f z ∷ []) is))
      )

  -- at the end all is made
  pub all_made : (out all : List Y) (xs : List X) → length xs < 1 → all ≡ out ++ map f xs → out ≡ all
  all_made out all [] few e = sym (e ∙ append-nil out)
  all_made out all (x ∷ xs) few e = absurd (omega (arith, few))

-- a name is made of its octets
pub name_put : {A : Type 0} (old new : List (Vec ℕ A)) (v : Vec ℕ A) (name : List ℕ) → new ≡ old ++ v ∷ [] →
    v.items ≡ name → map (λ n. n.items) new ≡ map (λ n. n.items) old ++ name ∷ []
name_put {A} old new v name e is = ap (λ vs. map (λ (n : Vec ℕ A). n.items) vs) e
    ∙ map-append (λ (n : Vec ℕ A). n.items) old (v ∷ [])
    ∙ ap (λ o. map (λ (n : Vec ℕ A). n.items) old ++ o ∷ []) is

-- the derived order of stations is the one of the definitions
pub macs : (n m : ℕ) (a b : Mac) → impl.cmp-value.it (record { net = n; mac = a }) (record { net = m; mac = b })
    ≡ station_cmp (record { net = n; mac = a }) (record { net = m; mac = b })
macs n m (One a) (One b) = refl
macs n m (One a) (Six b) = refl
macs n m (Six a) (One b) = refl
macs n m (Six a) (Six b) = refl

pub in_order : (m : BTreeMap Station ℕ) (keys : List Station) → AreFirst impl.cmp-value.it m keys →
    AreFirst station_cmp m keys
in_order m keys h = λ compare query. h compare (λ x y e. query x y e ∙ sym (macs x.net y.net x.mac y.mac))

is_equal : (o : Ordering) → is_eq o ≡ true → o ≡ Equal
is_equal Equal is = refl
is_equal Less is = absurd (cc is)
is_equal Greater is = absurd (cc is)

pub same_address : (x y : Station) → is_eq (station_cmp x y) ≡ same_station y x
same_address x y = both_ways (is_eq (station_cmp x y)) (same_station y x)
    (λ e. (one_station y x).one (sym (station_order.apart x y (is_equal (station_cmp x y) e))))
    (λ e. ap (λ z. is_eq (station_cmp x z)) ((one_station y x).same e)
    ∙ ap is_eq (tied_itself station_order.total x))

-- a name is found by its octets
pub by_octets : {A : Type 0} (name : List ℕ) (es : List (Vec ℕ A × ℕ)) →
    lookup (λ n. is_eq (slice_cmp nat_cmp name n)) (map (λ e. (e.0.items, e.1)) es)
    ≡ lookup (λ n. is_eq (slice_cmp nat_cmp name n.items)) es
by_octets name [] = refl
by_octets name (e ∷ es) =
    ap (λ r. cond (is_eq (slice_cmp nat_cmp name (e.0.items))) (Some (e.1)) r) (by_octets name es)

-- the first places of their names and of their addresses lead to these nodes
pub leads : {A : Type 0} (n : BTreeMap (Vec ℕ A) ℕ) (a : BTreeMap Station ℕ) (nodes : List (NodeState A))
    (names : List (Vec ℕ A)) → AreFirst (λ n m. slice_cmp nat_cmp n.items m.items) n names →
    map (λ n. n.items) names ≡ map (λ m. m.name) nodes → AreFirstAt (λ x m. is_there x m) a nodes →
    Leads (directory_of n a) nodes
leads {A} n a nodes names named are there = record {
  addresses = there;
  names = λ name. by_octets name n.entries ∙ named (λ n. slice_cmp nat_cmp name n.items)
      (λ n m e. (lists_total nat_cmp_total).congr name n.items m.items e)
      ∙ sym (alike (λ (n : Vec ℕ A). n.items) (λ t. is_eq (slice_cmp nat_cmp name t))
      (λ n. is_eq (slice_cmp nat_cmp name n.items)) (λ n. refl) 0 names)
      ∙ ap (λ ts. place_from 0 (λ t. is_eq (slice_cmp nat_cmp name t)) ts) are
      ∙ alike (λ (m : NodeState A). m.name) (λ t. is_eq (slice_cmp nat_cmp name t)) (λ m. bytes_eq m.name name)
      (λ m. is_eq-slice_cmp name m.name ∙ turned name m.name) 0 nodes;
}
  where
    turned : (a b : List ℕ) → bytes_eq a b ≡ bytes_eq b a
    turned a b = both_ways (bytes_eq a b) (bytes_eq b a)
        (λ e. (bytes_eq-Decides b a).1 (sym ((bytes_eq-Decides a b).0 e)))
        (λ e. (bytes_eq-Decides a b).1 (sym ((bytes_eq-Decides b a).0 e)))

-- With which port a node hears on a bus: the first that it has on its network.
use Rattle.std.proofs.Common.{◌≡◌, ◌∙◌, refl, sym, ap, arith, ◌+◌, ◌==◌, ℕ, suc, Bool, true, false, List, [], ◌∷◌, Some, None}
use Rattle.std.specs.Prelude.{if◌then◌else◌, slice_get}
use Rattle.npdu.specs.declared.mac.Mac.{Mac}
use Rattle.npdu.specs.declared.mac.Mac.TheVariants.{One, Six}
use Rattle.npdu.specs.declared.mac.Station.{Station}
use Rattle.world_sites.specs.Finding.{place_from, place_of}
use Rattle.world_sites.specs.Listening.{HearsWith, HearsWithNone, is_on}

some_same : {X : Type 0} (x y : X) → Some x ≡ Some y → x ≡ y
some_same x y e = cc e

-- what is found on a network is there, and is on it
record FoundOn (network m : ℕ) (xs : List Station) (n : ℕ) : Type 0 where
  k : ℕ
  is : n ≡ m + k
  one : Station
  there : slice_get xs k ≡ Some one
  on : one.net ≡ network

found_from : (network m : ℕ) (xs : List Station) (n : ℕ) → place_from m (is_on network) xs ≡ Some n →
    FoundOn network m xs n
found_from network m [] n e = absurd (cc e)
found_from network m (x ∷ xs) n e = by_test (x.net == network) refl (λ f. found_from network (m + 1) xs n f) e
  where
    by_test : (b : Bool) → (x.net == network) ≡ b →
        (place_from (m + 1) (is_on network) xs ≡ Some n → FoundOn network (m + 1) xs n) →
        (if b then Some m else place_from (m + 1) (is_on network) xs) ≡ Some n → FoundOn network m (x ∷ xs) n
    by_test true t rest f = record {
      k = 0;
      is = let same = some_same m n f in omega (arith, same);
      one = x;
      there = refl;
      on = grind (arith, t);
    }
    by_test false t rest f =
        let found = rest f in record {
          k = suc found.k;
          is = let same = found.is in omega (arith, same);
          one = found.one;
          there = found.there;
          on = found.on;
        }

-- a place is the first on a network
record IsOnAt (network : ℕ) (xs : List Station) (n : ℕ) : Type 0 where
  one : Station
  there : slice_get xs n ≡ Some one
  on : one.net ≡ network

found_on : (network : ℕ) (xs : List Station) (n : ℕ) → place_of (is_on network) xs ≡ Some n → IsOnAt network xs n
found_on network xs n e =
    let found = found_from network 0 xs n e in
    let same : found.k ≡ n = let is = found.is in omega (arith, is) in record {
      one = found.one;
      there = ap (λ (k : ℕ). slice_get xs k) (sym same) ∙ found.there;
      on = found.on;
    }

module _ (network : ℕ) (xs : List Station) (n : ℕ) (e : Some n ≡ place_of (is_on network) xs) (one : Station)
    (is : Some one ≡ slice_get xs n) where
  on_network : one.net ≡ network
  on_network =
      let found = found_on network xs n (sym e) in
      ap (λ (x : Station). x.net) (some_same one found.one (is ∙ found.there)) ∙ found.on

  -- it hears with a port at an address of one octet
  pub hears_with : (mac : ℕ) → one.mac ≡ One mac → HearsWith network xs n mac
  hears_with mac m = record {
    numbered = sym e;
    at = sym is ∙ ap (λ (x : Station). Some x) (spelled one on_network m);
  }
    where
      spelled : (x : Station) → x.net ≡ network → x.mac ≡ One mac → x ≡ record { net = network; mac = One mac }
      spelled x p q = ap (λ (k : ℕ). record { net = k; mac = x.mac }) p
          ∙ ap (λ (o : Mac). record { net = network; mac = o }) q

  -- .. and with none at another
  pub hears_with_none : (octets : List ℕ) → one.mac ≡ Six octets → HearsWithNone network xs
  hears_with_none octets m = record {
    none = λ p mac with.
        let same : p ≡ n = some_same p n (sym with.numbered ∙ sym e) in
        let here : slice_get xs n ≡ Some (record { net = network; mac = One mac }) =
        ap (λ (k : ℕ). slice_get xs k) (sym same) ∙ with.at in
        let it : one ≡ record { net = network; mac = One mac } =
        some_same one (record { net = network; mac = One mac }) (is ∙ here) in
        no_octet mac (sym m ∙ ap (λ (x : Station). x.mac) it);
  }
    where
      no_octet : (mac : ℕ) → Six octets ≡ One mac → ⊥
      no_octet mac q = cc q

-- where no place is on the network, none is heard with
pub hears_nowhere : (network : ℕ) (xs : List Station) → None ≡ place_of (is_on network) xs → HearsWithNone network xs
hears_nowhere network xs e = record { none = λ p mac with. never p (e ∙ with.numbered) }
  where
    never : (p : ℕ) → None ≡ Some p → ⊥
    never p q = cc q

-- .. nor where it is none of the places
pub hears_past : (network : ℕ) (xs : List Station) (n : ℕ) → Some n ≡ place_of (is_on network) xs →
    None ≡ slice_get xs n → HearsWithNone network xs
hears_past network xs n e none = record {
  none = λ p mac with.
      let found = found_on network xs n (sym e) in never found.one (none ∙ found.there);
}
  where
    never : (x : Station) → None ≡ Some x → ⊥
    never x q = cc q

pub ruleset ear_rules = (hears_with, hears_with_none, hears_nowhere, hears_past)

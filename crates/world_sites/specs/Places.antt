-- At which place of a list each key stands first.
use Rattle.std.specs.Prelude.{◌≡◌, ℕ, if◌then◌else◌, Bool, List, Option, Some}
use Rattle.std.specs.BTreeMap.{BTreeMap, get_by}
use Rattle.std.specs.Ordering.{is_eq}
use Rattle.std.specs.declared.cmp.Ordering.{Ordering}
use Rattle.std.specs.declared.cmp.Ordering.TheVariants.{Equal}
use Rattle.npdu.specs.Mac.{station_cmp}
use Rattle.npdu.specs.declared.mac.Station.{Station}
use Rattle.world_sites.specs.Finding.{place_from, place_of}

-- what is asked for, if it is equal to a key, compares to each key as that key does
abbrev pub IsQuery : {K : Type 0} → (cmp : K → K → Ordering) → (compare : K → Ordering) → Type 0
IsQuery {K} cmp compare = (x y : K) → compare x ≡ Equal → compare y ≡ cmp x y

-- the place that is kept of what is asked for is that of the first key that is equal to it, where the first of the list
-- has the place n
abbrev pub AreFirstFrom : {K : Type 0} → ℕ → (cmp : K → K → Ordering) → BTreeMap K ℕ → List K → Type 0
AreFirstFrom {K} n cmp m keys = (compare : K → Ordering) → IsQuery cmp compare →
    get_by compare m ≡ place_from n (λ k. is_eq (compare k)) keys

-- .. the place 0
abbrev pub AreFirst : {K : Type 0} → (cmp : K → K → Ordering) → BTreeMap K ℕ → List K → Type 0
AreFirst cmp m keys = AreFirstFrom 0 cmp m keys

-- a key was put in with a place: what is asked for has that place if it is equal to the key, and else the place it had
abbrev pub IsPut : {K : Type 0} → (cmp : K → K → Ordering) → K → (place : ℕ) → (old new : BTreeMap K ℕ) → Type 0
IsPut {K} cmp key place old new = (compare : K → Ordering) → IsQuery cmp compare →
    get_by compare new ≡ (if is_eq (compare key) then Some place else get_by compare old)

-- the place that is kept of an address
abbrev pub kept_at : BTreeMap Station ℕ → Station → Option ℕ
kept_at m x = get_by (λ y. station_cmp x y) m

-- addresses were put in with a place: each that passes the test has that place, and any other the place it had
abbrev pub ArePut : (test : Station → Bool) → (place : ℕ) → (old new : BTreeMap Station ℕ) → Type 0
ArePut test place old new = (x : Station) → kept_at new x ≡ (if test x then Some place else kept_at old x)

-- the place that is kept of each address is that of the first of a list which passes the test of that address
abbrev pub AreFirstAt : {X : Type 0} → (test : Station → X → Bool) → BTreeMap Station ℕ → List X → Type 0
AreFirstAt test m xs = (x : Station) → kept_at m x ≡ place_of (test x) xs

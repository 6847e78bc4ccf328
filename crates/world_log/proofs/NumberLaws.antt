-- The numbers that are kept of keys, by their invoke IDs and by their clients: what is sought, and what is put in.
use Rattle.std.proofs.Common.{◌≡◌, ◌∙◌, refl, sym, ap, subst, arith, ℕ, zero, suc, ◌<◌, Bool, true, false, List, [], ◌∷◌, ◌++◌, Option, Some, None, length, get_or}
use Rattle.std.proofs.lemmas.Bool.{eqb-true, eq-eqb}
use Rattle.std.proofs.lemmas.Cmp.{tied_itself}
use Rattle.std.proofs.lemmas.Option.{slice_get-get_or}
use Rattle.std.specs.Prelude.{◌&&◌, ◌==◌, IsSome, cond, is_some, slice_get, slice_index_or, slice_set}
use Rattle.std.specs.BTreeMap.{is_at}
use Rattle.std.specs.Cmp.{both_ways}
use Rattle.std.specs.Map.{lookup}
use Rattle.std.specs.Ordering.{is_eq}
use Rattle.std.specs.declared.cmp.Ordering.{Ordering}
use Rattle.std.specs.declared.cmp.Ordering.TheVariants.{Less, Equal, Greater}
use Rattle.npdu.proofs.Stations.{one_station, station_order}
use Rattle.npdu.specs.Mac.{same_station, station_cmp}
use Rattle.npdu.specs.contracts.mac.StationOrd.TheImpl as impl
use Rattle.npdu.specs.declared.mac.Mac.{Mac}
use Rattle.npdu.specs.declared.mac.Mac.TheVariants.{One, Six}
use Rattle.npdu.specs.declared.mac.Station.{Station}
use Rattle.sorted_map.specs.Entries.{HasNow, value_of}
use Rattle.world_log.specs.Issues.{ClientNumbers, IsKeptOf, IsPutIn, IsSameIn, IsSameOf, flat, kept_in, kept_of}
use Rattle.world_log.specs.Issues.{number_of, same_key}
use Rattle.world_log.specs.declared.key.Key.{Key}

-- the derived order of stations is the one of the definitions
derived_at : (n m : ℕ) (a b : Mac) → impl.cmp-value.it (record { net = n; mac = a }) (record { net = m; mac = b })
    ≡ station_cmp (record { net = n; mac = a }) (record { net = m; mac = b })
derived_at n m (One a) (One b) = refl
derived_at n m (One a) (Six b) = refl
derived_at n m (Six a) (One b) = refl
derived_at n m (Six a) (Six b) = refl

pub derived : (x y : Station) → impl.cmp-value.it x y ≡ station_cmp x y
derived x y = derived_at x.net y.net x.mac y.mac

-- two tests that agree find the same
same_found : (t u : Station → Bool) → ((c : Station) → t c ≡ u c) → (es : ClientNumbers) → lookup t es ≡ lookup u es
same_found t u same [] = refl
same_found t u same (e ∷ es) =
    ap (λ (b : Bool). cond b (Some (e.1)) (lookup t es)) (same (e.0))
    ∙ ap (λ (o : Option (Option ℕ)). cond (u (e.0)) (Some (e.1)) o) (same_found t u same es)

pub got : (clients : ClientNumbers) (c : Station) →
    value_of impl.cmp-value.it c clients ≡ value_of station_cmp c clients
got clients c = same_found (is_at (impl.cmp-value.it c)) (is_at (station_cmp c)) (λ x. ap is_eq (derived c x)) clients

pub ruleset client_rules = (got, derived)

is_equal : (o : Ordering) → is_eq o ≡ true → o ≡ Equal
is_equal Equal is = refl
is_equal Less is = absurd (cc is)
is_equal Greater is = absurd (cc is)

same_stations : (x y : Station) → is_eq (station_cmp x y) ≡ same_station x y
same_stations x y = both_ways (is_eq (station_cmp x y)) (same_station x y)
    (λ e. (one_station x y).one (station_order.apart x y (is_equal (station_cmp x y) e)))
    (λ e. ap (λ z. is_eq (station_cmp x z)) (sym ((one_station x y).same e))
    ∙ ap is_eq (tied_itself station_order.total x))

-- a client was put in with a number
pub is_put : (client : Station) (number : Option ℕ) (old new : ClientNumbers) →
    HasNow impl.cmp-value.it client (Some number) old new → IsPutIn client number old new
is_put client number old new has = record {
  kept = λ c. sym (got new c) ∙ has c
      ∙ ap (λ (b : Bool). cond b (Some number) (value_of impl.cmp-value.it c old))
      (ap is_eq (derived client c) ∙ same_stations client c)
      ∙ ap (λ (o : Option (Option ℕ)). cond (same_station client c) (Some number) o) (got old c);
}

pub is_there : (client : Station) (number : Option ℕ) (old new : ClientNumbers) → IsPutIn client number old new →
    IsSome (value_of station_cmp client new)
is_there client number old new put =
    let is : value_of station_cmp client new ≡ Some number = put.kept client
    ∙ ap (λ (b : Bool). cond b (Some number) (value_of station_cmp client old)) ((one_station client client).one refl) in
    ap is_some is

none_flat : (b : Bool) (o : Option (Option ℕ)) → (b ≡ true → o ≡ None) → flat (cond b (Some None) o) ≡ flat o
none_flat true o h = sym (ap flat (h refl))
none_flat false o h = refl

-- a client without a number is as one that isn't there
pub same_of_none : (client : Station) (old new : ClientNumbers) → value_of station_cmp client old ≡ None →
    IsPutIn client None old new → IsSameIn old new
same_of_none client old new none put = record {
  same = λ c. ap flat (put.kept c) ∙ none_flat (same_station client c) (value_of station_cmp c old)
      (λ e. ap (λ (x : Station). value_of station_cmp x old) (sym ((one_station client c).same e)) ∙ none);
}

pub same_itself : (clients : ClientNumbers) → IsSameIn clients clients
same_itself clients = record { same = λ c. refl }

is_none : (o : Option (Option ℕ)) → is_some o ≡ false → o ≡ None
is_none None e = refl
is_none (Some x) e = absurd (cc e)

pub absent : (clients : ClientNumbers) (c : Station) → is_some (value_of impl.cmp-value.it c clients) ≡ false →
    value_of station_cmp c clients ≡ None
absent clients c e = sym (got clients c) ∙ is_none (value_of impl.cmp-value.it c clients) e

pub present : (clients : ClientNumbers) (c : Station) → is_some (value_of impl.cmp-value.it c clients) ≡ true →
    IsSome (value_of station_cmp c clients)
present clients c e = sym (ap is_some (got clients c)) ∙ e

-- a client that is there isn't absent
pub not_absent : (clients : ClientNumbers) (c : Station) → IsSome (value_of station_cmp c clients) →
    value_of impl.cmp-value.it c clients ≡ None → ⊥
not_absent clients c some none = absurd (cc (sym some ∙ ap is_some (sym (got clients c) ∙ none)))

pub ruleset room_rules = (is_put, is_there, same_of_none, same_itself, absent, present)

pub ruleset put_rules = (is_put, not_absent)

pub same_of_same : (m : List ClientNumbers) → IsSameOf m m
same_of_same m = record { same = λ k. refl }

-- under one more invoke ID nobody is known
one_more : (m : List ClientNumbers) (i : ℕ) (c : Station) →
    flat (kept_in (slice_get (m ++ [] ∷ []) i) c) ≡ flat (kept_in (slice_get m i) c)
one_more [] zero c = refl
one_more [] (suc i) c = refl
one_more (x ∷ xs) zero c = refl
one_more (x ∷ xs) (suc i) c = one_more xs i c

pub same_more : (start m n : List ClientNumbers) → IsSameOf start m → n ≡ m ++ [] ∷ [] → IsSameOf start n
same_more start m n same is = record {
  same = λ k. ap (λ (l : List ClientNumbers). number_of l k) is ∙ one_more m k.invoke_id k.client ∙ same.same k;
}

pub ruleset row_rules = (same_of_same)

-- the clients under an invoke ID
pub row_at : (m : List ClientNumbers) (i : ℕ) (row : ClientNumbers) → i < length m → row ≡ slice_index_or m i row →
    slice_get m i ≡ Some row
row_at m i row lt is = slice_get-get_or m i row lt ∙ ap (λ (r : ClientNumbers). Some r) (sym is)

set_there : (m : List ClientNumbers) (i : ℕ) (row new : ClientNumbers) → slice_get m i ≡ Some row →
    slice_get (slice_set m i new) i ≡ Some new
set_there [] i row new e = absurd (cc e)
set_there (x ∷ xs) zero row new e = refl
set_there (x ∷ xs) (suc i) row new e = set_there xs i row new e

set_other : (m : List ClientNumbers) (i j : ℕ) (row new : ClientNumbers) → slice_get m i ≡ Some row → (i ≡ j → ⊥) →
    slice_get (slice_set m i new) j ≡ slice_get m j
set_other [] i j row new e other = absurd (cc e)
set_other (x ∷ xs) zero zero row new e other = absurd (other refl)
set_other (x ∷ xs) zero (suc j) row new e other = refl
set_other (x ∷ xs) (suc i) zero row new e other = refl
set_other (x ∷ xs) (suc i) (suc j) row new e other = set_other xs i j row new e (λ p. other (ap suc p))

-- what is kept of a client under an invoke ID, where those under one are others
and_true : (b : Bool) → (b && true) ≡ b
and_true true = refl
and_true false = refl

and_false : (b : Bool) → (b && false) ≡ false
and_false true = refl
and_false false = refl

module _ (m : List ClientNumbers) (i : ℕ) (row new : ClientNumbers) (there : slice_get m i ≡ Some row) where
  set_same : IsSameIn row new → IsSameOf m (slice_set m i new)
  set_same same = record { same = λ k. by k (i == k.invoke_id) refl }
    where
      by : (k : Key) (b : Bool) → (i == k.invoke_id) ≡ b → number_of (slice_set m i new) k ≡ number_of m k
      by k true e =
          let at : i ≡ k.invoke_id = eqb-true i k.invoke_id e in
          ap (λ (j : ℕ). flat (kept_in (slice_get (slice_set m i new) j) k.client)) (sym at)
          ∙ ap (λ (o : Option ClientNumbers). flat (kept_in o k.client)) (set_there m i row new there)
          ∙ same.same k.client
          ∙ ap (λ (o : Option ClientNumbers). flat (kept_in o k.client)) (sym there)
          ∙ ap (λ (j : ℕ). flat (kept_in (slice_get m j) k.client)) at
      by k false e = ap (λ (o : Option ClientNumbers). flat (kept_in o k.client))
          (set_other m i k.invoke_id row new there (λ p. absurd (cc (sym (eq-eqb i k.invoke_id p) ∙ e))))

  set_put : (client : Station) (number : Option ℕ) → IsPutIn client number row new → (k : Key) →
      kept_of (slice_set m i new) k
      ≡ cond (same_station client k.client && (i == k.invoke_id)) (Some number) (kept_of m k)
  set_put client number put k = by (i == k.invoke_id) refl
    where
      by : (b : Bool) → (i == k.invoke_id) ≡ b → kept_of (slice_set m i new) k
          ≡ cond (same_station client k.client && (i == k.invoke_id)) (Some number) (kept_of m k)
      by true e =
          let at : i ≡ k.invoke_id = eqb-true i k.invoke_id e in
          ap (λ (j : ℕ). kept_in (slice_get (slice_set m i new) j) k.client) (sym at)
          ∙ ap (λ (o : Option ClientNumbers). kept_in o k.client) (set_there m i row new there)
          ∙ put.kept k.client
          ∙ ap (λ (b : Bool). cond b (Some number) (value_of station_cmp k.client row))
          (sym (and_true (same_station client k.client)) ∙ ap (λ (b : Bool). same_station client k.client && b) (sym e))
          ∙ ap (λ (o : Option ClientNumbers).
          cond (same_station client k.client && (i == k.invoke_id)) (Some number) (kept_in o k.client)) (sym there)
          ∙ ap (λ (j : ℕ). cond (same_station client k.client && (i == k.invoke_id)) (Some number)
          (kept_in (slice_get m j) k.client)) at
      by false e =
          ap (λ (o : Option ClientNumbers). kept_in o k.client)
          (set_other m i k.invoke_id row new there (λ p. absurd (cc (sym (eq-eqb i k.invoke_id p) ∙ e))))
          ∙ ap (λ (b : Bool). cond b (Some number) (kept_of m k))
          (sym (ap (λ (b : Bool). same_station client k.client && b) e ∙ and_false (same_station client k.client)))

-- room is made for a key
pub place_same : (start m : List ClientNumbers) (i : ℕ) (row new : ClientNumbers) → IsSameOf start m → i < length m →
    row ≡ slice_index_or m i row → IsSameIn row new → IsSameOf start (slice_set m i new)
place_same start m i row new before lt is same =
    let set = set_same m i row new (row_at m i row lt is) same in
    record { same = λ k. set.same k ∙ before.same k }

pub place_made : (m : List ClientNumbers) (key : Key) (row new : ClientNumbers) → key.invoke_id < length m →
    row ≡ slice_index_or m key.invoke_id row → IsSome (value_of station_cmp key.client new) →
    IsSome (kept_of (slice_set m key.invoke_id new) key)
place_made m key row new lt is some =
    ap (λ (o : Option ClientNumbers). is_some (kept_in o key.client))
    (set_there m key.invoke_id row new (row_at m key.invoke_id row lt is)) ∙ some

pub ruleset place_rules = (place_same, place_made)

-- a key that is known has a place
within_at : (m : List ClientNumbers) (i : ℕ) (c : Station) → IsSome (kept_in (slice_get m i) c) → i < length m
within_at [] i c some = absurd (cc some)
within_at (x ∷ xs) zero c some = omega arith
within_at (x ∷ xs) (suc i) c some = let lt = within_at xs i c some in omega (arith, lt)

pub within : (m : List ClientNumbers) (key : Key) → IsSome (kept_of m key) → key.invoke_id < length m
within m key some = within_at m key.invoke_id key.client some

pub known_there : (m : List ClientNumbers) (key : Key) (row : ClientNumbers) → IsSome (kept_of m key) →
    row ≡ slice_index_or m key.invoke_id row → IsSome (value_of station_cmp key.client row)
known_there m key row some is =
    sym (ap (λ (o : Option ClientNumbers). is_some (kept_in o key.client))
    (row_at m key.invoke_id row (within m key some) is)) ∙ some

-- .. and is put in there
pub key_put : (m : List ClientNumbers) (key : Key) (number : Option ℕ) (row new : ClientNumbers) →
    IsSome (kept_of m key) → row ≡ slice_index_or m key.invoke_id row → IsPutIn key.client number row new →
    IsKeptOf key number m (slice_set m key.invoke_id new)
key_put m key number row new some is put = record {
  kept = set_put m key.invoke_id row new (row_at m key.invoke_id row (within m key some) is) key.client number put;
}

pub ruleset putting_rules = (within, known_there, key_put)

-- How often an address stands in what goes through managers.
use Rattle.std.proofs.Common.{◌≡◌, ◌≤◌, ℕ, ◌+◌, ◌*◌, true, false, Bool, List, [], ◌∷◌, ◌++◌, Some, None, ap, refl, ◌∙◌, not, cond, arith, map}
use Rattle.std.specs.Prelude.{flat_map, option_to_list, Option, is_some}
use Rattle.std.specs.List.{AllByRecursion}
use Rattle.std.proofs.Math.Nat.{add-mul}
use Rattle.std.proofs.lemmas.Grind.{flat_map-append}
use Rattle.bvll.specs.declared.address.Address.{Address}
use Rattle.bvll.specs.Datagram.{Datagram}
use Rattle.bvll.specs.Datagram as bvll
use Rattle.bbmd.specs.declared.spreading.Subnet.{Subnet}
use Rattle.bbmd_tables.specs.Tables.{is_among, same_address, members_of, peers_of, served}
use Rattle.bbmd_manager.specs.State.{ManagerState}
use Rattle.bbmd_manager.specs.Manager.{carrying, said, from_one}
use Rattle.bbmd.specs.Reach.{Going, times, managers_of, owns, going, passed_by, passed, all_in, everyone, IsManaged}
use Rattle.bbmd.proofs.Times.{same_is, times-append, among_times, times_among, total, total-append, total-more, times-others, times_itself, is_false}

-- where datagrams go
abbrev pub tos : List Going → List Address
tos gs = map (λ g. g.to) gs

-- a datagram to each of these
abbrev pub each : Address → Datagram → List Address → List Going
each from d xs = map (λ to. record { from = from; to = to; what = d }) xs

pub tos-append : (gs hs : List Going) → tos (gs ++ hs) ≡ tos gs ++ tos hs
tos-append [] hs = refl
tos-append (g ∷ gs) hs = ap (λ (xs : List Address). g.to ∷ xs) (tos-append gs hs)

pub tos-each : (from : Address) (d : Datagram) (xs : List Address) → tos (each from d xs) ≡ xs
tos-each from d [] = refl
tos-each from d (x ∷ xs) = ap (λ (ys : List Address). x ∷ ys) (tos-each from d xs)

-- a number of datagrams that adds up
pub record Adds (k : List Going → ℕ) : Type 0 where
  pub none : k [] ≡ 0
  pub more : (gs hs : List Going) → k (gs ++ hs) ≡ k gs + k hs

-- what a manager says to it, as often as it comes
abbrev pub weight : (List Going → ℕ) → ℕ → Address → Datagram → List Address → ManagerState → ℕ
weight k now from d xs m = times m.tables.own xs * k (going m.tables.own (carrying (said now from m d)))

passed_one : (k : List Going → ℕ) (adds : Adds k) (b : Bool) (gs : List Going) → k (cond b gs []) ≡ cond b 1 0 * k gs
passed_one k adds true gs = omega arith
passed_one k adds false gs = omega (arith, adds.none)

passed_first : (k : List Going → ℕ) (adds : Adds k) (now : ℕ) (g : Going) (ms : List ManagerState) →
    k (flat_map (passed_by now g) ms)
    ≡ total (λ m. cond (same_address g.to m.tables.own) 1 0 * k (going m.tables.own (carrying (said now g.from m g.what)))) ms
passed_first k adds now g [] = adds.none
passed_first k adds now g (m ∷ ms) =
    adds.more (passed_by now g m) (flat_map (passed_by now g) ms) ∙ omega (
      arith,
      passed_one k adds (same_address g.to m.tables.own) (going m.tables.own (carrying (said now g.from m g.what))),
      passed_first k adds now g ms,
    )

weighs_nothing : (k : List Going → ℕ) (now : ℕ) (from : Address) (d : Datagram) (ms : List ManagerState) →
    0 ≡ total (weight k now from d []) ms
weighs_nothing k now from d [] = refl
weighs_nothing k now from d (m ∷ ms) = omega (arith, weighs_nothing k now from d ms)

-- what managers say of a datagram to each of these
pub passed_weighs : (k : List Going → ℕ) (adds : Adds k) (now : ℕ) (from : Address) (d : Datagram) (xs : List Address)
    (ms : List ManagerState) → k (passed now ms (each from d xs)) ≡ total (weight k now from d xs) ms
passed_weighs k adds now from d [] ms = adds.none ∙ weighs_nothing k now from d ms
passed_weighs k adds now from d (x ∷ xs) ms =
    let first = passed_first k adds now (record { from = from; to = x; what = d }) ms in
    let rest = passed_weighs k adds now from d xs ms in
    let both = total-more (λ (m : ManagerState). cond (same_address x m.tables.own) 1 0 * k (going m.tables.own (carrying (said now from m d))))
    (weight k now from d xs) (weight k now from d (x ∷ xs))
    (λ m. add-mul (cond (same_address x m.tables.own) 1 0) (times m.tables.own xs) (k (going m.tables.own (carrying (said now from m d))))) ms in
    adds.more (flat_map (passed_by now (record { from = from; to = x; what = d })) ms) (passed now ms (each from d xs)) ∙
    omega (arith, first, rest, both)

-- how often it stands where datagrams go
abbrev pub goes : Address → List Going → ℕ
goes a gs = times a (tos gs)

pub goes_adds : (a : Address) → Adds (goes a)
goes_adds a = record {
  none = refl;
  more = λ gs hs. ap (times a) (tos-append gs hs) ∙ times-append a (tos gs) (tos hs);
}

-- how often it stands where they go on
abbrev pub goes_on : Address → ℕ → List ManagerState → List Going → ℕ
goes_on a now ms gs = goes a (passed now ms gs)

pub goes_on_adds : (a : Address) (now : ℕ) (ms : List ManagerState) → Adds (goes_on a now ms)
goes_on_adds a now ms = record {
  none = refl;
  more = λ gs hs. ap (goes a) (flat_map-append (λ g. flat_map (passed_by now g) ms) gs hs) ∙
      (goes_adds a).more (passed now ms gs) (passed now ms hs);
}

-- what some subnets are beside another one
pub record Around {A : Type 0} (now : ℕ) (ms : List ManagerState) (s : Subnet A) (ts : List (Subnet A)) : Type 0 where
  pub managed : AllByRecursion (λ t. AllByRecursion (IsManaged ms t.members) (option_to_list t.manager)) ts
  pub apart : (b : Address) → times b (everyone now ts) + times b (all_in now s) ≤ 1
  pub owned : (b : Address) → times b (owns (managers_of ts)) ≤ times b (owns ms)

owns-append : (xs ys : List ManagerState) → owns (xs ++ ys) ≡ owns xs ++ owns ys
owns-append [] ys = refl
owns-append (x ∷ xs) ys = ap (λ (zs : List Address). x.tables.own ∷ zs) (owns-append xs ys)

pub times_owns : (b : Address) (xs ys : List ManagerState) → times b (owns (xs ++ ys)) ≡ times b (owns xs) + times b (owns ys)
times_owns b xs ys = ap (times b) (owns-append xs ys) ∙ times-append b (owns xs) (owns ys)

around_rest : {A : Type 0} (now : ℕ) (ms : List ManagerState) (s t : Subnet A) (ts : List (Subnet A)) →
    Around now ms s (t ∷ ts) → Around now ms s ts
around_rest now ms s t ts w = record {
  managed = w.managed.1;
  apart = λ b. omega (arith, w.apart b, times-append b (all_in now t) (everyone now ts));
  owned = λ b. omega (arith, w.owned b, times_owns b (option_to_list t.manager) (managers_of ts));
}

-- a member beside is not in the subnet
apart_from : {A : Type 0} (now : ℕ) (ms : List ManagerState) (s t : Subnet A) (ts : List (Subnet A)) →
    Around now ms s (t ∷ ts) → (b : Address) → is_among b t.members ≡ true → times b (all_in now s) ≡ 0
apart_from now ms s t ts w b e = omega (
  arith,
  w.apart b,
  times-append b (all_in now t) (everyone now ts),
  times-append b t.members (flat_map (λ m. served now m.tables.foreign) (option_to_list t.manager)),
  among_times b t.members e,
)

unweighed : (k : List Going → ℕ) (now : ℕ) (from : Address) (d : Datagram) (xs : List Address) (ms : List ManagerState)
    (members : List Address) (o : Option ManagerState) → AllByRecursion (IsManaged ms members) (option_to_list o) →
    ((b : Address) → is_among b members ≡ true → times b xs ≡ 0) → total (weight k now from d xs) (option_to_list o) ≡ 0
unweighed k now from d xs ms members None managed z = refl
unweighed k now from d xs ms members (Some m) managed z =
    ap (λ (n : ℕ). n * k (going m.tables.own (carrying (said now from m d))) + 0) (z m.tables.own (managed.0).itself) ∙ omega arith

-- managers beside say nothing of what goes within the subnet
pub beside_silent : {A : Type 0} (k : List Going → ℕ) (now : ℕ) (from : Address) (d : Datagram) (xs : List Address)
    (ms : List ManagerState) (s : Subnet A) (ts : List (Subnet A)) → Around now ms s ts →
    ((b : Address) → times b (all_in now s) ≡ 0 → times b xs ≡ 0) →
    total (weight k now from d xs) (managers_of ts) ≡ 0
beside_silent k now from d xs ms s [] w z = refl
beside_silent k now from d xs ms s (t ∷ ts) w z = omega (
  arith,
  total-append (weight k now from d xs) (option_to_list t.manager) (managers_of ts),
  unweighed k now from d xs ms t.members t.manager (w.managed.0) (λ b e. z b (apart_from now ms s t ts w b e)),
  beside_silent k now from d xs ms s ts (around_rest now ms s t ts w) z,
)

-- who hears what a manager says of what a peer forwards
heard_of_peer : (a : Address) (now : ℕ) (own origin : Address) (npdu : List ℕ) (m : ManagerState) →
    is_among own (peers_of m.tables) ≡ true →
    goes a (going m.tables.own (carrying (said now own m (bvll.forwarded origin npdu))))
    ≡ times a (members_of m.tables) + times a (served now m.tables.foreign)
heard_of_peer a now own origin npdu m e =
    ap (λ (b : Bool). goes a (going m.tables.own (carrying (from_one b (record {
      to = members_of m.tables ++ served now m.tables.foreign;
      what = bvll.forwarded origin npdu;
    }))))) e ∙
    ap (times a) (tos-each m.tables.own (bvll.forwarded origin npdu) (members_of m.tables ++ served now m.tables.foreign)) ∙
    times-append a (members_of m.tables) (served now m.tables.foreign)

heard_in : (a : Address) (now : ℕ) (own origin : Address) (npdu : List ℕ) (ys members : List Address) (m : ManagerState) →
    m.tables.members ≡ members → times m.tables.own ys ≡ 1 → is_among own (peers_of m.tables) ≡ true → same_address a m.tables.own ≡ false →
    weight (goes a) now own (bvll.forwarded origin npdu) ys m ≡ times a members + times a (served now m.tables.foreign)
heard_in a now own origin npdu ys members m knows once peer other =
    let all = times-others m.tables.own a m.tables.members ∙ ap (λ (b : Bool). cond (not b) (times a m.tables.members) 0) other ∙
    ap (times a) knows in
    ap (λ (n : ℕ). n * goes a (going m.tables.own (carrying (said now own m (bvll.forwarded origin npdu))))) once ∙
    omega (arith, heard_of_peer a now own origin npdu m peer, all)

-- what goes out of the subnet to the other managers, and who isn't one
pub record Onward {A : Type 0} (now : ℕ) (ms : List ManagerState) (s : Subnet A) (own a : Address) (ys : List Address) :
    Type 0 where
  pub one : (b : Address) → times b (owns ms) ≤ 1
  pub itself : 1 ≤ times own (all_in now s)
  pub there : 1 ≤ times own (owns ms)
  pub station : times a (owns ms) ≡ 0
  pub onward : (b : Address) → times b (all_in now s) ≡ 0 → times b ys ≡ times b (owns ms)

heard_by_one : {A : Type 0} (now : ℕ) (ms : List ManagerState) (s : Subnet A) (own a origin : Address) (npdu : List ℕ)
    (ys members : List Address) (o : Option ManagerState) → is_some o ≡ true →
    AllByRecursion (IsManaged ms members) (option_to_list o) →
    ((b : Address) → is_among b members ≡ true → times b (all_in now s) ≡ 0) →
    ((b : Address) → times b (owns (option_to_list o)) ≤ times b (owns ms)) → Onward now ms s own a ys →
    total (weight (goes a) now own (bvll.forwarded origin npdu) ys) (option_to_list o)
    ≡ times a members + times a (flat_map (λ m. served now m.tables.foreign) (option_to_list o))
heard_by_one now ms s own a origin npdu ys members None e managed z owned w = absurd (cc e)
heard_by_one now ms s own a origin npdu ys members (Some m) e managed z owned w =
    let q = managed.0 in
    let outside : times m.tables.own (all_in now s) ≡ 0 = z m.tables.own q.itself in
    let once : times m.tables.own (owns ms) ≡ 1 = omega (arith, w.one m.tables.own, owned m.tables.own, times_itself m.tables.own) in
    let another : same_address own m.tables.own ≡ false = is_false (same_address own m.tables.own) (λ f.
    omega (arith, w.itself, ap (λ (x : Address). times x (all_in now s)) (same_is own m.tables.own f), outside)) in
    let other : same_address a m.tables.own ≡ false = is_false (same_address a m.tables.own) (λ f.
    omega (arith, w.station, ap (λ (x : Address). times x (owns ms)) (same_is a m.tables.own f), once)) in
    let peers : times own (peers_of m.tables) ≡ times own (owns ms) = q.peers own ∙ times-others m.tables.own own (owns ms) ∙
    ap (λ (b : Bool). cond (not b) (times own (owns ms)) 0) another in
    let peer = times_among own (peers_of m.tables) (omega (arith, peers, w.there)) in
    omega (
      arith,
      heard_in a now own origin npdu ys members m q.knows (w.onward m.tables.own outside ∙ once) peer other,
      times-append a (served now m.tables.foreign) [],
    )

-- who hears what the managers beside say of it
pub heard_beside : {A : Type 0} (now : ℕ) (ms : List ManagerState) (s : Subnet A) (own a origin : Address) (npdu : List ℕ)
    (ys : List Address) (ts : List (Subnet A)) → Around now ms s ts →
    AllByRecursion (λ t. is_some t.manager ≡ true) ts → Onward now ms s own a ys →
    total (weight (goes a) now own (bvll.forwarded origin npdu) ys) (managers_of ts) ≡ times a (everyone now ts)
heard_beside now ms s own a origin npdu ys [] around each_has w = refl
heard_beside now ms s own a origin npdu ys (t ∷ ts) around each_has w = omega (
  arith,
  total-append (weight (goes a) now own (bvll.forwarded origin npdu) ys) (option_to_list t.manager) (managers_of ts),
  heard_by_one now ms s own a origin npdu ys t.members t.manager (each_has.0) (around.managed.0)
      (apart_from now ms s t ts around)
      (λ b. omega (arith, around.owned b, times_owns b (option_to_list t.manager) (managers_of ts))) w,
  heard_beside now ms s own a origin npdu ys ts (around_rest now ms s t ts around) (each_has.1) w,
  times-append a (all_in now t) (everyone now ts),
  times-append a t.members (flat_map (λ m. served now m.tables.foreign) (option_to_list t.manager)),
)

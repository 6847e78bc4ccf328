-- Over full tables a broadcast reaches each other station once.
use Rattle.std.proofs.Common.{◌≡◌, ◌≤◌, ℕ, ◌+◌, ◌*◌, true, false, Bool, List, [], ◌∷◌, ◌++◌, Some, None, sym, ap, refl, ◌∙◌, ◌⊎◌, inl, inr, subst, length, not}
use Rattle.std.proofs.Common.{cond, arith}
use Rattle.std.specs.Prelude.{flat_map, option_to_list, Option, is_some}
use Rattle.std.specs.List.{AllByRecursion}
use Rattle.std.proofs.lemmas.Grind.{flat_map-append}
use Rattle.bvll.specs.declared.address.Address.{Address}
use Rattle.bvll.specs.Datagram.{Datagram}
use Rattle.bvll.specs.Datagram as bvll
use Rattle.bbmd.specs.declared.spreading.Subnet.{Subnet}
use Rattle.bbmd_tables.specs.Tables.{all_but, is_among, same_address, others, members_of, peers_of, served}
use Rattle.bbmd_manager.specs.State.{ManagerState}
use Rattle.bbmd_manager.specs.Manager.{carrying, said, from_one, distributed}
use Rattle.bbmd.specs.Reach.{Going, times, managers_of, owns, going, passed, asked_of, begun_in, begun, three_ways, stations, hearers, all_in, everyone}
use Rattle.bbmd.specs.Reach.{IsManaged, AreFull, IsReached, Reaches}
use Rattle.bbmd.proofs.Times.{same_is, itself_is, first_counts, times-append, among_times, times_among, not_among_times, no_times_among, times-filter, total}
use Rattle.bbmd.proofs.Times.{total-append, times-others, times_itself, is_false, all_split}
use Rattle.std.proofs.lemmas.List.{append-nil}
use Rattle.bbmd.proofs.Reaching.{tos, each, tos-each, Adds, weight, passed_weighs, goes, goes_adds, goes_on, goes_on_adds, Around, times_owns, beside_silent}
use Rattle.bbmd.proofs.Reaching.{Onward, heard_beside}

everyone_split : {A : Type 0} (b : Address) (now : ℕ) (pre : List (Subnet A)) (s : Subnet A) (post : List (Subnet A)) →
    times b (everyone now (pre ++ s ∷ post))
    ≡ times b (everyone now pre) + (times b (all_in now s) + times b (everyone now post))
everyone_split b now pre s post = omega (
  arith,
  ap (times b) (flat_map-append (all_in now) pre (s ∷ post)),
  times-append b (everyone now pre) (everyone now (s ∷ post)),
  times-append b (all_in now s) (everyone now post),
)

managers_split : {A : Type 0} (f : ManagerState → ℕ) (pre : List (Subnet A)) (s : Subnet A) (post : List (Subnet A)) →
    total f (managers_of (pre ++ s ∷ post))
    ≡ total f (managers_of pre) + (total f (option_to_list s.manager) + total f (managers_of post))
managers_split f pre s post = omega (
  arith,
  ap (total f) (flat_map-append (λ t. option_to_list t.manager) pre (s ∷ post)),
  total-append f (managers_of pre) (managers_of (s ∷ post)),
  total-append f (option_to_list s.manager) (managers_of post),
)

pub owns_split : {A : Type 0} (b : Address) (pre : List (Subnet A)) (s : Subnet A) (post : List (Subnet A)) →
    times b (owns (managers_of (pre ++ s ∷ post)))
    ≡ times b (owns (managers_of pre)) + (times b (owns (option_to_list s.manager)) + times b (owns (managers_of post)))
owns_split b pre s post = omega (
  arith,
  ap (λ (ms : List ManagerState). times b (owns ms)) (flat_map-append (λ t. option_to_list t.manager) pre (s ∷ post)),
  times_owns b (managers_of pre) (managers_of (s ∷ post)),
  times_owns b (option_to_list s.manager) (managers_of post),
)

own_member : (b : Address) (members : List Address) (m : ManagerState) → is_among m.tables.own members ≡ true →
    (c : Bool) → same_address m.tables.own b ≡ c → cond c 1 0 + 0 ≤ times b members
own_member b members m e true f = omega (
  arith,
  among_times m.tables.own members e,
  ap (λ (x : Address). times x members) (same_is m.tables.own b f),
)
own_member b members m e false f = omega arith

owned_one : (b : Address) (ms : List ManagerState) (members : List Address) (o : Option ManagerState) →
    AllByRecursion (IsManaged ms members) (option_to_list o) → times b (owns (option_to_list o)) ≤ times b members
owned_one b ms members None managed = omega arith
owned_one b ms members (Some m) managed = own_member b members m (managed.0).itself (same_address m.tables.own b) refl

-- managers are members
pub owned_members : {A : Type 0} (b : Address) (now : ℕ) (ms : List ManagerState) (ts : List (Subnet A)) →
    AllByRecursion (λ t. AllByRecursion (IsManaged ms t.members) (option_to_list t.manager)) ts →
    times b (owns (managers_of ts)) ≤ times b (everyone now ts)
owned_members b now ms [] managed = omega arith
owned_members b now ms (t ∷ ts) managed = omega (
  arith,
  times_owns b (option_to_list t.manager) (managers_of ts),
  owned_one b ms t.members t.manager (managed.0),
  owned_members b now ms ts (managed.1),
  times-append b (all_in now t) (everyone now ts),
  times-append b t.members (flat_map (λ m. served now m.tables.foreign) (option_to_list t.manager)),
)

asked_none : (now : ℕ) (origin : Address) (npdu : List ℕ) (o : Option ManagerState) →
    times origin (flat_map (λ m. served now m.tables.foreign) (option_to_list o)) ≡ 0 →
    flat_map (asked_of now origin npdu) (option_to_list o) ≡ []
asked_none now origin npdu None e = refl
asked_none now origin npdu (Some m) e =
    ap (λ (b : Bool). going origin (from_one b (record { to = m.tables.own ∷ []; what = bvll.distribute npdu })) ++ [])
    (no_times_among origin (served now m.tables.foreign) (omega (arith, e, times-append origin (served now m.tables.foreign) [])))

broadcast_none : (origin : Address) (npdu : List ℕ) (members : List Address) → times origin members ≡ 0 →
    going origin (from_one (is_among origin members) (record { to = others origin members; what = bvll.broadcast npdu }))
    ≡ []
broadcast_none origin npdu members e =
    ap (λ (b : Bool). going origin (from_one b (record { to = others origin members; what = bvll.broadcast npdu })))
    (no_times_among origin members e)

-- who is not in subnets says nothing there
begun_none : {A : Type 0} (now : ℕ) (origin : Address) (npdu : List ℕ) (ts : List (Subnet A)) →
    times origin (everyone now ts) ≡ 0 → begun now origin npdu ts ≡ []
begun_none now origin npdu [] e = refl
begun_none now origin npdu (t ∷ ts) e =
    let split = times-append origin (all_in now t) (everyone now ts) in
    let parts = times-append origin t.members (flat_map (λ m. served now m.tables.foreign) (option_to_list t.manager)) in
    nothing _ _ _ (broadcast_none origin npdu t.members (omega (arith, e, split, parts)))
    (asked_none now origin npdu t.manager (omega (arith, e, split, parts)))
    (begun_none now origin npdu ts (omega (arith, e, split))) where
      nothing : (xs ys zs : List Going) → xs ≡ [] → ys ≡ [] → zs ≡ [] → (xs ++ ys) ++ zs ≡ []
      nothing xs ys zs e f g = cc

begun_is : {A : Type 0} (now : ℕ) (origin : Address) (npdu : List ℕ) (pre : List (Subnet A)) (s : Subnet A)
    (post : List (Subnet A)) → times origin (everyone now pre) ≡ 0 → times origin (everyone now post) ≡ 0 →
    begun now origin npdu (pre ++ s ∷ post) ≡ begun_in now origin npdu s
begun_is now origin npdu pre s post e f =
    flat_map-append (begun_in now origin npdu) pre (s ∷ post) ∙
    ap (λ (xs : List Going). xs ++ (begun_in now origin npdu s ++ begun now origin npdu post)) (begun_none now origin npdu pre e) ∙
    ap (λ (xs : List Going). begun_in now origin npdu s ++ xs) (begun_none now origin npdu post f) ∙
    append-nil (begun_in now origin npdu s)

-- a subnet with a manager
abbrev pub with : {A : Type 0} → List Address → ManagerState → Subnet A
with members m = record { members = members; manager = Some m }

all_in_is : (A : Type 0) (b : Address) (now : ℕ) (members : List Address) (m : ManagerState) →
    times b (all_in now (with {A = A} members m)) ≡ times b members + times b (served now m.tables.foreign)
all_in_is A b now members m = omega (
  arith,
  times-append b members (served now m.tables.foreign ++ []),
  times-append b (served now m.tables.foreign) [],
)

-- what full tables say of a subnet with a manager, among others
pub record Known {A : Type 0} (now : ℕ) (pre : List (Subnet A)) (members : List Address) (m : ManagerState)
    (post : List (Subnet A)) : Type 0 where
  pub before : Around now (managers_of (pre ++ with members m ∷ post)) (with members m) pre
  pub behind : Around now (managers_of (pre ++ with members m ∷ post)) (with members m) post
  pub managed : IsManaged (managers_of (pre ++ with members m ∷ post)) members m
  pub apart : (b : Address) →
      times b (everyone now pre) + (times b members + times b (served now m.tables.foreign) + times b (everyone now post)) ≤ 1
  pub one : (b : Address) → times b (owns (managers_of (pre ++ with members m ∷ post))) ≤ 1
  pub own_once : times m.tables.own (owns (managers_of (pre ++ with members m ∷ post))) ≡ 1
  pub own_in : times m.tables.own members ≡ 1
  pub own_out : times m.tables.own (served now m.tables.foreign) ≡ 0

pub known : {A : Type 0} (now : ℕ) (pre : List (Subnet A)) (members : List Address) (m : ManagerState)
    (post : List (Subnet A)) → AreFull now (pre ++ with members m ∷ post) → Known now pre members m post
known {A} now pre members m post full =
    let ms = managers_of (pre ++ with members m ∷ post) in
    let parts = all_split _ pre (with members m) post full.managed in
    let managed = parts.1.0 in
    let inside = among_times m.tables.own members managed.itself in
    record {
      before = record {
        managed = parts.0;
        apart = λ b. omega (arith, full.apart b, everyone_split b now pre (with members m) post);
        owned = λ b. omega (arith, owns_split b pre (with members m) post);
      };
      behind = record {
        managed = parts.2;
        apart = λ b. omega (arith, full.apart b, everyone_split b now pre (with members m) post);
        owned = λ b. omega (arith, owns_split b pre (with members m) post);
      };
      managed = managed;
      apart = λ b. omega (
        arith,
        full.apart b,
        everyone_split b now pre (with members m) post,
        all_in_is A b now members m,
      );
      one = λ b. omega (arith, full.apart b, owned_members b now ms (pre ++ with members m ∷ post) full.managed);
      own_once = omega (
        arith,
        full.apart m.tables.own,
        owned_members m.tables.own now ms (pre ++ with members m ∷ post) full.managed,
        owns_split m.tables.own pre (with members m) post,
        times_itself m.tables.own,
      );
      own_in = omega (
        arith,
        inside,
        full.apart m.tables.own,
        everyone_split m.tables.own now pre (with members m) post,
        all_in_is A m.tables.own now members m,
      );
      own_out = omega (
        arith,
        inside,
        full.apart m.tables.own,
        everyone_split m.tables.own now pre (with members m) post,
        all_in_is A m.tables.own now members m,
      );
    }

weighs_once : (k : List Going → ℕ) (now : ℕ) (from : Address) (d : Datagram) (xs : List Address) (m : ManagerState) (n : ℕ) →
    times m.tables.own xs ≡ n → total (weight k now from d xs) (m ∷ []) ≡ n * k (going m.tables.own (carrying (said now from m d))) + 0
weighs_once k now from d xs m n e = ap (λ (i : ℕ). i * k (going m.tables.own (carrying (said now from m d))) + 0) e

-- what is said within a subnet and to its manager is passed on by that manager alone
first_way : {A : Type 0} (k : List Going → ℕ) (adds : Adds k) (now : ℕ) (from : Address) (d : Datagram)
    (xs : List Address) (pre : List (Subnet A)) (members : List Address) (m : ManagerState) (post : List (Subnet A)) →
    Known now pre members m post → times m.tables.own xs ≡ 1 →
    ((b : Address) → times b members ≡ 0 → times b (served now m.tables.foreign) ≡ 0 → times b xs ≡ 0) →
    k (passed now (managers_of (pre ++ with members m ∷ post)) (each from d xs)) ≡ k (going m.tables.own (carrying (said now from m d)))
first_way {A} k adds now from d xs pre members m post w e inside =
    let ms = managers_of (pre ++ with members m ∷ post) in
    let outside = λ (b : Address) (f : times b (all_in now (with {A = A} members m)) ≡ 0).
    inside b (omega (arith, f, all_in_is A b now members m)) (omega (arith, f, all_in_is A b now members m)) in
    omega (
      arith,
      passed_weighs k adds now from d xs ms,
      managers_split (weight k now from d xs) pre (with members m) post,
      beside_silent k now from d xs ms (with members m) pre w.before outside,
      beside_silent k now from d xs ms (with members m) post w.behind outside,
      weighs_once k now from d xs m 1 e,
    )

-- what a manager forwards to the others is heard by all in their subnets
second_way : {A : Type 0} (a : Address) (now : ℕ) (origin : Address) (npdu : List ℕ) (ys : List Address)
    (pre : List (Subnet A)) (members : List Address) (m : ManagerState) (post : List (Subnet A)) →
    Known now pre members m post → AllByRecursion (λ t. is_some t.manager ≡ true) pre →
    AllByRecursion (λ t. is_some t.manager ≡ true) post →
    times a (owns (managers_of (pre ++ with members m ∷ post))) ≡ 0 → times m.tables.own ys ≡ 0 →
    ((b : Address) → times b members ≡ 0 → times b (served now m.tables.foreign) ≡ 0 →
    times b ys ≡ times b (peers_of m.tables)) →
    goes a (passed now (managers_of (pre ++ with members m ∷ post)) (each m.tables.own (bvll.forwarded origin npdu) ys))
    ≡ times a (everyone now pre) + times a (everyone now post)
second_way {A} a now origin npdu ys pre members m post w has_before has_behind station e peers =
    let ms = managers_of (pre ++ with members m ∷ post) in
    let other = λ (b : Address) (f : times b members ≡ 0). is_false (same_address b m.tables.own) (λ g.
    omega (arith, f, w.own_in, ap (λ (x : Address). times x members) (same_is b m.tables.own g))) in
    let onward : Onward now ms (with {A = A} members m) m.tables.own a ys = record {
      one = w.one;
      itself = omega (arith, w.own_in, all_in_is A m.tables.own now members m);
      there = omega (arith, w.own_once);
      station = station;
      onward = λ b f.
          let none : times b members ≡ 0 = omega (arith, f, all_in_is A b now members m) in
          peers b none (omega (arith, f, all_in_is A b now members m)) ∙ w.managed.peers b ∙ times-others m.tables.own b (owns ms) ∙
          ap (λ (c : Bool). cond (not c) (times b (owns ms)) 0) (other b none);
    } in
    omega (
      arith,
      passed_weighs (goes a) (goes_adds a) now m.tables.own (bvll.forwarded origin npdu) ys ms,
      managers_split (weight (goes a) now m.tables.own (bvll.forwarded origin npdu) ys) pre (with members m) post,
      heard_beside now ms (with members m) m.tables.own a origin npdu ys pre w.before has_before onward,
      heard_beside now ms (with members m) m.tables.own a origin npdu ys post w.behind has_behind onward,
      weighs_once (goes a) now m.tables.own (bvll.forwarded origin npdu) ys m 0 e,
    )

times_none : (b : Bool) (n : ℕ) → n ≡ 0 → cond b n 0 ≡ 0
times_none true n e = e
times_none false n e = refl

-- who doesn't stand in a list doesn't stand among the others of it
pub others_none : (b a : Address) (xs : List Address) → times a xs ≡ 0 → times a (others b xs) ≡ 0
others_none b a xs e = times-others b a xs ∙ times_none (not (same_address a b)) (times a xs) e

others_all : (b a : Address) (xs : List Address) → same_address a b ≡ false → times a (others b xs) ≡ times a xs
others_all b a xs e = times-others b a xs ∙ ap (λ (c : Bool). cond (not c) (times a xs) 0) e

pub others_itself : (a : Address) (xs : List Address) → times a (others a xs) ≡ 0
others_itself a xs = times-others a a xs ∙ ap (λ (c : Bool). cond (not c) (times a xs) 0) (itself_is a)

-- two that stand in a list differently often are two
are_two : (a b : Address) (xs : List Address) (i j : ℕ) → times a xs ≡ i → times b xs ≡ j → (i ≡ j → ⊥) →
    same_address a b ≡ false
are_two a b xs i j e f two =
    is_false (same_address a b) (λ g. two (sym e ∙ ap (λ (x : Address). times x xs) (same_is a b g) ∙ f))

zero_is_not_one : (n m : ℕ) → n ≡ 0 → m ≡ 1 → n ≡ m → ⊥
zero_is_not_one n m e f g = omega (arith, e, f, g)

member_sum : (c : Bool) (said members served pre post all : ℕ) → said ≡ cond (not c) members 0 →
    (c ≡ true → served + (pre + post) ≡ 0) → all ≡ pre + (members + served + post) →
    said + (served + (pre + post)) ≡ cond (not c) all 0
member_sum true said members served pre post all e f g = omega (arith, e, f refl)
member_sum false said members served pre post all e f g = omega (arith, e, g)

-- what a member broadcasts
member_reaches : {A : Type 0} (now : ℕ) (o a : Address) (npdu : List ℕ) (pre : List (Subnet A)) (members : List Address)
    (m : ManagerState) (post : List (Subnet A)) → Known now pre members m post →
    AllByRecursion (λ t. is_some t.manager ≡ true) pre → AllByRecursion (λ t. is_some t.manager ≡ true) post →
    times o (owns (managers_of (pre ++ with members m ∷ post))) ≡ 0 →
    times a (owns (managers_of (pre ++ with members m ∷ post))) ≡ 0 → is_among o members ≡ true →
    goes a (three_ways now (managers_of (pre ++ with members m ∷ post)) (each o (bvll.broadcast npdu) (others o members)))
    ≡ cond (not (same_address a o)) (times a (everyone now (pre ++ with members m ∷ post))) 0
member_reaches {A} now o a npdu pre members m post w has_before has_behind station heard among =
    let ms = managers_of (pre ++ with {A = A} members m ∷ post) in
    let xs = others o members in
    let ys = peers_of m.tables ++ served now m.tables.foreign in
    let gs = each o (bvll.broadcast npdu) xs in
    let own_two : same_address m.tables.own o ≡ false =
    are_two m.tables.own o (owns ms) 1 0 w.own_once station (λ e. absurd (cc e)) in
    let two_own : same_address o m.tables.own ≡ false =
    are_two o m.tables.own (owns ms) 0 1 station w.own_once (λ e. absurd (cc e)) in
    let e : times m.tables.own xs ≡ 1 = others_all o m.tables.own members own_two ∙ w.own_in in
    let inside = λ (b : Address) (f : times b members ≡ 0) (g : times b (served now m.tables.foreign) ≡ 0).
    others_none o b members f in
    let there : times o (members_of m.tables) ≡ times o members = others_all m.tables.own o m.tables.members two_own ∙
    ap (times o) w.managed.knows in
    let is_member = times_among o (members_of m.tables) (omega (arith, there, among_times o members among)) in
    let says : going m.tables.own (carrying (said now o m (bvll.broadcast npdu))) ≡ each m.tables.own (bvll.forwarded o npdu) ys =
    ap (λ (b : Bool). going m.tables.own (carrying (from_one b (record { to = ys; what = bvll.forwarded o npdu })))) is_member in
    let first = first_way (goes a) (goes_adds a) now o (bvll.broadcast npdu) xs pre members m post w e inside ∙
    ap (goes a) says ∙ ap (times a) (tos-each m.tables.own (bvll.forwarded o npdu) ys) ∙
    times-append a (peers_of m.tables) (served now m.tables.foreign) in
    let second = first_way (goes_on a now ms) (goes_on_adds a now ms) now o (bvll.broadcast npdu) xs pre members m post w e
    inside ∙ ap (goes_on a now ms) says ∙
    second_way a now o npdu ys pre members m post w has_before has_behind heard
    (omega (
      arith,
      times-append m.tables.own (peers_of m.tables) (served now m.tables.foreign),
      others_itself m.tables.own m.tables.managers,
      w.own_out,
    ))
    (λ b f g. omega (arith, times-append b (peers_of m.tables) (served now m.tables.foreign), g)) in
    let no_peer : times a (peers_of m.tables) ≡ 0 = w.managed.peers a ∙ others_none m.tables.own a (owns ms) heard in
    let begins : goes a gs ≡ cond (not (same_address a o)) (times a members) 0 =
    ap (times a) (tos-each o (bvll.broadcast npdu) xs) ∙ times-others o a members in
    let all = member_sum (same_address a o) (goes a gs) (times a members) (times a (served now m.tables.foreign))
    (times a (everyone now pre)) (times a (everyone now post))
    (times a (everyone now (pre ++ with {A = A} members m ∷ post))) begins
    (λ c. omega (
      arith,
      w.apart a,
      among_times o members among,
      ap (λ (x : Address). times x members) (same_is a o c),
    ))
    (omega (arith, everyone_split a now pre (with {A = A} members m) post, all_in_is A a now members m)) in
    omega (
      arith,
      (goes_adds a).more gs (passed now ms gs ++ passed now ms (passed now ms gs)),
      (goes_adds a).more (passed now ms gs) (passed now ms (passed now ms gs)),
      first,
      second,
      no_peer,
      all,
    )

served_sum : (c : Bool) (foreign members served pre post all : ℕ) → foreign ≡ cond (not c) served 0 →
    (c ≡ true → members + (pre + post) ≡ 0) → all ≡ pre + (members + served + post) →
    (members + foreign) + (pre + post) ≡ cond (not c) all 0
served_sum true foreign members served pre post all e f g = omega (arith, e, f refl)
served_sum false foreign members served pre post all e f g = omega (arith, e, g)

-- what a foreign device has distributed
served_reaches : {A : Type 0} (now : ℕ) (o a : Address) (npdu : List ℕ) (pre : List (Subnet A)) (members : List Address)
    (m : ManagerState) (post : List (Subnet A)) → Known now pre members m post →
    AllByRecursion (λ t. is_some t.manager ≡ true) pre → AllByRecursion (λ t. is_some t.manager ≡ true) post →
    times a (owns (managers_of (pre ++ with members m ∷ post))) ≡ 0 → is_among o (served now m.tables.foreign) ≡ true →
    goes a (three_ways now (managers_of (pre ++ with members m ∷ post)) (each o (bvll.distribute npdu) (m.tables.own ∷ [])))
    ≡ cond (not (same_address a o)) (times a (everyone now (pre ++ with members m ∷ post))) 0
served_reaches {A} now o a npdu pre members m post w has_before has_behind heard among =
    let ms = managers_of (pre ++ with {A = A} members m ∷ post) in
    let foreign = others o (served now m.tables.foreign) in
    let ys = all_but now o m.tables in
    let gs = each o (bvll.distribute npdu) (m.tables.own ∷ []) in
    let own_two : same_address m.tables.own a ≡ false =
    are_two m.tables.own a (owns ms) 1 0 w.own_once heard (λ e. absurd (cc e)) in
    let two_own : same_address a m.tables.own ≡ false =
    are_two a m.tables.own (owns ms) 0 1 heard w.own_once (λ e. absurd (cc e)) in
    let inside = λ (b : Address) (f : times b members ≡ 0) (g : times b (served now m.tables.foreign) ≡ 0).
    first_counts m.tables.own b false 0 0 (are_two m.tables.own b members 1 0 w.own_in f (λ e. absurd (cc e))) refl in
    let says : going m.tables.own (carrying (said now o m (bvll.distribute npdu))) ≡ each m.tables.own (bvll.forwarded o npdu) ys =
    ap (λ (b : Bool). going m.tables.own (carrying (distributed b now o m npdu))) among in
    let parts = λ (b : Address). times-append b (members_of m.tables) (peers_of m.tables ++ foreign) in
    let rest = λ (b : Address). times-append b (peers_of m.tables) foreign in
    let first = first_way (goes a) (goes_adds a) now o (bvll.distribute npdu) (m.tables.own ∷ []) pre members m post w
    (times_itself m.tables.own) inside ∙ ap (goes a) says ∙ ap (times a) (tos-each m.tables.own (bvll.forwarded o npdu) ys) in
    let knows = λ (b : Address). ap (times b) w.managed.knows in
    let second = first_way (goes_on a now ms) (goes_on_adds a now ms) now o (bvll.distribute npdu) (m.tables.own ∷ []) pre members
    m post w (times_itself m.tables.own) inside ∙ ap (goes_on a now ms) says ∙
    second_way a now o npdu ys pre members m post w has_before has_behind heard
    (omega (
      arith,
      parts m.tables.own,
      rest m.tables.own,
      others_itself m.tables.own m.tables.members,
      others_itself m.tables.own m.tables.managers,
      others_none o m.tables.own (served now m.tables.foreign) w.own_out,
    ))
    (λ b f g. omega (
      arith,
      parts b,
      rest b,
      others_none m.tables.own b m.tables.members (knows b ∙ f),
      others_none o b (served now m.tables.foreign) g,
    )) in
    let no_peer : times a (peers_of m.tables) ≡ 0 = w.managed.peers a ∙ others_none m.tables.own a (owns ms) heard in
    let all_members : times a (members_of m.tables) ≡ times a members = others_all m.tables.own a m.tables.members two_own ∙ knows a in
    let begins : goes a gs ≡ 0 = first_counts m.tables.own a false 0 0 own_two refl in
    let all = served_sum (same_address a o) (times a foreign) (times a members) (times a (served now m.tables.foreign))
    (times a (everyone now pre)) (times a (everyone now post))
    (times a (everyone now (pre ++ with {A = A} members m ∷ post))) (times-others o a (served now m.tables.foreign))
    (λ c. omega (
      arith,
      w.apart a,
      among_times o (served now m.tables.foreign) among,
      ap (λ (x : Address). times x (served now m.tables.foreign)) (same_is a o c),
    ))
    (omega (arith, everyone_split a now pre (with {A = A} members m) post, all_in_is A a now members m)) in
    omega (
      arith,
      (goes_adds a).more gs (passed now ms gs ++ passed now ms (passed now ms gs)),
      (goes_adds a).more (passed now ms gs) (passed now ms (passed now ms gs)),
      begins,
      first,
      second,
      parts a,
      rest a,
      no_peer,
      all_members,
      all,
    )

-- what a member broadcasts in the only subnet, which has no manager
alone_reaches : (now : ℕ) (o a : Address) (npdu : List ℕ) (members : List Address) →
    goes a (three_ways now [] (each o (bvll.broadcast npdu) (others o members)))
    ≡ cond (not (same_address a o)) (times a members) 0
alone_reaches now o a npdu members =
    let xs = others o members in
    let gs = each o (bvll.broadcast npdu) xs in
    omega (
      arith,
      (goes_adds a).more gs (passed now [] gs ++ passed now [] (passed now [] gs)),
      (goes_adds a).more (passed now [] gs) (passed now [] (passed now [] gs)),
      passed_weighs (goes a) (goes_adds a) now o (bvll.broadcast npdu) xs [],
      passed_weighs (goes_on a now []) (goes_on_adds a now []) now o (bvll.broadcast npdu) xs [],
      ap (times a) (tos-each o (bvll.broadcast npdu) xs),
      times-others o a members,
    )

finish : (u v : Bool) (x y : ℕ) → (v ≡ false → x ≡ cond (not u) y 0) → cond (not v) x 0 ≡ cond (not u) (cond (not v) y 0) 0
finish true true x y e = refl
finish false true x y e = refl
finish true false x y e = e refl
finish false false x y e = e refl

-- what goes is heard by whom it should be, where that holds of each station
all_reached : {A : Type 0} (now : ℕ) (o : Address) (npdu : List ℕ) (ss : List (Subnet A)) (gs : List Going) →
    begun now o npdu ss ≡ gs →
    ((a : Address) → times a (owns (managers_of ss)) ≡ 0 →
    goes a (three_ways now (managers_of ss) gs) ≡ cond (not (same_address a o)) (times a (everyone now ss)) 0) →
    IsReached now o ss (hearers now o npdu ss)
all_reached now o npdu ss gs e each_hears =
    let ms = managers_of ss in
    let test = λ (x : Address). not (is_among x (owns ms)) in
    record {
      once = λ a.
          times-filter test a (tos (three_ways now ms (begun now o npdu ss))) ∙
          ap (λ (hs : List Going). cond (test a) (goes a (three_ways now ms hs)) 0) e ∙
          finish (same_address a o) (is_among a (owns ms)) (goes a (three_ways now ms gs)) (times a (everyone now ss))
          (λ f. each_hears a (not_among_times a (owns ms) f)) ∙
          sym (times-others o a (stations ms (everyone now ss)) ∙
          ap (λ (n : ℕ). cond (not (same_address a o)) n 0) (times-filter test a (everyone now ss)));
    }

no_two : {X : Type 0} (x y : X) (xs : List X) → length (x ∷ (y ∷ xs)) ≤ 1 → ⊥
no_two x y xs e = omega (arith, e)

longer : {X : Type 0} (pre : List X) (s : X) (post : List X) → 1 ≤ length (pre ++ s ∷ post)
longer [] s post = omega arith
longer (x ∷ pre) s post = omega arith

-- in one subnet, or in several with a manager each, those beside this one have a manager
has_all : {A : Type 0} (pre : List (Subnet A)) (s : Subnet A) (post : List (Subnet A)) →
    (length (pre ++ s ∷ post) ≤ 1) ⊎ AllByRecursion (λ t. is_some t.manager ≡ true) (pre ++ s ∷ post) →
    AllByRecursion (λ t. is_some t.manager ≡ true) pre × AllByRecursion (λ t. is_some t.manager ≡ true) post
has_all pre s post (inr all) = let parts = all_split _ pre s post all in (parts.0, parts.2)
has_all [] s [] (inl short) = (tt, tt)
has_all [] s (t ∷ post) (inl short) = absurd (no_two s t post short)
has_all (t ∷ pre) s post (inl short) = absurd (omega (arith, short, longer pre s post))

member_begins : {A : Type 0} (now : ℕ) (o : Address) (npdu : List ℕ) (pre : List (Subnet A)) (members : List Address)
    (m : ManagerState) (post : List (Subnet A)) → Known now pre members m post → is_among o members ≡ true →
    begun now o npdu (pre ++ with members m ∷ post) ≡ each o (bvll.broadcast npdu) (others o members)
member_begins {A} now o npdu pre members m post w among =
    let one = among_times o members among in
    begun_is now o npdu pre (with {A = A} members m) post (omega (arith, w.apart o, one)) (omega (arith, w.apart o, one)) ∙
    ap (λ (b : Bool). going o (from_one b (record { to = others o members; what = bvll.broadcast npdu }))
    ++ flat_map (asked_of now o npdu) (m ∷ [])) among ∙
    ap (λ (gs : List Going). each o (bvll.broadcast npdu) (others o members) ++ gs)
    (asked_none now o npdu (Some m)
    (omega (arith, w.apart o, one, times-append o (served now m.tables.foreign) []))) ∙
    append-nil (each o (bvll.broadcast npdu) (others o members))

served_begins : {A : Type 0} (now : ℕ) (o : Address) (npdu : List ℕ) (pre : List (Subnet A)) (members : List Address)
    (m : ManagerState) (post : List (Subnet A)) → Known now pre members m post →
    is_among o (served now m.tables.foreign) ≡ true →
    begun now o npdu (pre ++ with members m ∷ post) ≡ each o (bvll.distribute npdu) (m.tables.own ∷ [])
served_begins {A} now o npdu pre members m post w among =
    let one = among_times o (served now m.tables.foreign) among in
    begun_is now o npdu pre (with {A = A} members m) post (omega (arith, w.apart o, one)) (omega (arith, w.apart o, one)) ∙
    ap (λ (gs : List Going). gs ++ flat_map (asked_of now o npdu) (m ∷ []))
    (broadcast_none o npdu members (omega (arith, w.apart o, one))) ∙
    ap (λ (b : Bool). going o (from_one b (record { to = m.tables.own ∷ []; what = bvll.distribute npdu })) ++ []) among

-- from a subnet with a manager
managed_reaches : {A : Type 0} (now : ℕ) (o : Address) (npdu : List ℕ) (pre : List (Subnet A)) (members : List Address)
    (m : ManagerState) (post : List (Subnet A)) → AreFull now (pre ++ with members m ∷ post) →
    times o (owns (managers_of (pre ++ with members m ∷ post))) ≡ 0 →
    1 ≤ times o members + times o (served now m.tables.foreign) → (b : Bool) → is_among o members ≡ b →
    IsReached now o (pre ++ with members m ∷ post) (hearers now o npdu (pre ++ with members m ∷ post))
managed_reaches {A} now o npdu pre members m post full station stands true e =
    let w = known now pre members m post full in
    let has = has_all pre (with {A = A} members m) post full.several in
    all_reached now o npdu (pre ++ with members m ∷ post) (each o (bvll.broadcast npdu) (others o members))
    (member_begins now o npdu pre members m post w e)
    (λ a heard. member_reaches now o a npdu pre members m post w (has.0) (has.1) station heard e)
managed_reaches {A} now o npdu pre members m post full station stands false e =
    let w = known now pre members m post full in
    let has = has_all pre (with {A = A} members m) post full.several in
    let among = times_among o (served now m.tables.foreign) (omega (arith, stands, not_among_times o members e)) in
    all_reached now o npdu (pre ++ with members m ∷ post) (each o (bvll.distribute npdu) (m.tables.own ∷ []))
    (served_begins now o npdu pre members m post w among)
    (λ a heard. served_reaches now o a npdu pre members m post w (has.0) (has.1) heard among)

-- a subnet without a manager
abbrev without_manager : {A : Type 0} → List Address → Subnet A
without_manager members = record { members = members; manager = None }

-- from a subnet without a manager, which is the only one
unmanaged_reaches : {A : Type 0} (now : ℕ) (o : Address) (npdu : List ℕ) (members : List Address) →
    is_among o members ≡ true →
    IsReached {A = A} now o (without_manager members ∷ []) (hearers {A = A} now o npdu (without_manager members ∷ []))
unmanaged_reaches {A} now o npdu members e =
    let xs = each o (bvll.broadcast npdu) (others o members) in
    all_reached {A = A} now o npdu (without_manager members ∷ []) xs
    (ap (λ (b : Bool). (going o (from_one b (record { to = others o members; what = bvll.broadcast npdu })) ++ []) ++ []) e ∙
    append-nil (xs ++ []) ∙ append-nil xs)
    (λ a heard. alone_reaches now o a npdu members ∙
    ap (λ (n : ℕ). cond (not (same_address a o)) n 0)
    (omega (arith, times-append a (members ++ []) [], times-append a members [])))

-- of two subnets each has a manager
two_want_managers : {A : Type 0} (pre : List (Subnet A)) (members : List Address) (post : List (Subnet A)) →
    2 ≤ length (pre ++ without_manager members ∷ post) →
    (length (pre ++ without_manager members ∷ post) ≤ 1)
    ⊎ AllByRecursion (λ t. is_some t.manager ≡ true) (pre ++ without_manager members ∷ post) → ⊥
two_want_managers pre members post two (inl short) = omega (arith, two, short)
two_want_managers pre members post two (inr all) =
    let none = (all_split _ pre (without_manager members) post all).1 in cc none

-- from the subnet that the origin is in
placed_reaches : {A : Type 0} (now : ℕ) (o : Address) (npdu : List ℕ) (pre : List (Subnet A)) (members : List Address)
    (op : Option ManagerState) (post : List (Subnet A)) →
    AreFull {A = A} now (pre ++ record { members = members; manager = op } ∷ post) →
    times o (owns (managers_of {A = A} (pre ++ record { members = members; manager = op } ∷ post))) ≡ 0 →
    1 ≤ times o (all_in {A = A} now (record { members = members; manager = op })) →
    IsReached {A = A} now o (pre ++ record { members = members; manager = op } ∷ post)
    (hearers {A = A} now o npdu (pre ++ record { members = members; manager = op } ∷ post))
placed_reaches {A} now o npdu pre members (Some m) post full station stands =
    managed_reaches now o npdu pre members m post full station (omega (arith, stands, all_in_is A o now members m))
    (is_among o members) refl
placed_reaches {A} now o npdu [] members None [] full station stands =
    unmanaged_reaches now o npdu members
    (times_among o members (omega (arith, stands, times-append o members [])))
placed_reaches {A} now o npdu [] members None (t ∷ post) full station stands =
    absurd (two_want_managers [] members (t ∷ post) (omega arith) full.several)
placed_reaches {A} now o npdu (t ∷ pre) members None post full station stands =
    absurd (two_want_managers (t ∷ pre) members post (omega (arith, longer pre (without_manager {A = A} members) post))
    full.several)

record Place {A : Type 0} (now : ℕ) (o : Address) (ss : List (Subnet A)) : Type 0 where
  pre : List (Subnet A)
  s : Subnet A
  post : List (Subnet A)
  is : ss ≡ pre ++ s ∷ post
  there : 1 ≤ times o (all_in now s)

-- where who is in a network is
place_of : {A : Type 0} (now : ℕ) (o : Address) (ss : List (Subnet A)) → 1 ≤ times o (everyone now ss) → Place now o ss
place_of now o [] e = absurd (omega (arith, e))
place_of {A} now o (s ∷ ss) e = by (is_among o (all_in now s)) refl (place_of now o ss) where
  by : (b : Bool) → is_among o (all_in now s) ≡ b → (1 ≤ times o (everyone now ss) → Place now o ss) → Place now o (s ∷ ss)
  by true f next = record { pre = []; s = s; post = ss; is = refl; there = among_times o (all_in now s) f }
  by false f next =
      let p = next (omega (arith, e, times-append o (all_in now s) (everyone now ss), not_among_times o (all_in now s) f)) in
      record { pre = s ∷ p.pre; s = p.s; post = p.post; is = ap (λ (ts : List (Subnet A)). s ∷ ts) p.is; there = p.there }

station_is : (b : Bool) (n : ℕ) → 1 ≤ cond (not b) n 0 → (b ≡ false) × (1 ≤ n)
station_is true n e = absurd (omega (arith, e))
station_is false n e = (refl, e)

pub reaches : {A : Type 0} → Reaches A
reaches {A} now o npdu ss short full among =
    let ms = managers_of ss in
    let counted = times-filter (λ x. not (is_among x (owns ms))) o (everyone now ss) in
    let is_station = station_is (is_among o (owns ms)) (times o (everyone now ss))
    (omega (arith, among_times o (stations ms (everyone now ss)) among, counted)) in
    let p = place_of now o ss (is_station.1) in
    subst (λ (ts : List (Subnet A)). AreFull now ts → times o (owns (managers_of ts)) ≡ 0 →
    IsReached now o ts (hearers now o npdu ts)) (sym p.is)
    (λ full' station'. placed_reaches now o npdu p.pre p.s.members p.s.manager p.post full' station' p.there)
    full (not_among_times o (owns ms) (is_station.0))

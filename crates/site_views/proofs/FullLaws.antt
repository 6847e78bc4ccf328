-- The managers of a sound site have full tables.
use Rattle.std.proofs.Common.{◌≡◌, ◌∙◌, ◌≤◌, ◌+◌, ◌==◌, ◌||◌, ◌⊎◌, refl, sym, ap, subst, arith, inl, inr, ℕ, Bool, true, false, cond, not, List, [], ◌∷◌, ◌++◌, map, length, Option, Some, None, option_map, true≢false}
use Rattle.std.specs.Prelude.{filter, if◌then◌else◌, ◌&&◌, option_to_list, is_some}
use Rattle.std.specs.List.{AllByRecursion, flat_map, list_all, list_any}
use Rattle.bbmd.proofs.Times.{total, total-more, total-zero, times-append, times-others, same_is, itself_is, times_among}
use Rattle.bbmd.specs.Reach.{IsManaged, all_in, everyone, managers_of, owns, times}
use Rattle.bbmd_manager.specs.State.{ManagerState}
use Rattle.bbmd_tables.specs.Tables.{is_among, others, same_address, served}
use Rattle.bbmd_tables.specs.declared.registration.Registration.{Registration}
use Rattle.bvll.specs.Address.{address_octets}
use Rattle.bvll.specs.declared.address.Address.{Address}
use Rattle.site.specs.Apart.{AreApart, IsOther}
use Rattle.site.specs.Managers as managers
use Rattle.site.specs.Marks.{managed, mark_at, mark_of, marks_in, marks_of}
use Rattle.site.specs.Sound.{IsSound}
use Rattle.site.specs.declared.managers.SubnetId.{SubnetId}
use Rattle.site.specs.declared.marks.Mark.{Mark}
use Rattle.site.specs.declared.marks.Mark.TheVariants as mark
use Rattle.site_parts.specs.Places.{beyond_at, links_at}
use Rattle.site_parts.specs.Roles.{beyond, links_in}
use Rattle.site_parts.specs.declared.parts.Parts.{Parts}
use Rattle.site_parts.specs.declared.parts.Station.{Station}
use Rattle.site_parts.specs.declared.place.Foreign.{Foreign}
use Rattle.site_parts.specs.declared.place.Link.{Link}
use Rattle.site_parts.specs.declared.place.Link.TheVariants as link
use Rattle.site_parts.specs.declared.place.Place.{Place}
use Rattle.site_parts.specs.declared.place.Place.TheVariants as place
use Rattle.site_parts.specs.declared.role.Role.{Role}
use Rattle.site_parts.specs.declared.role.Role.TheVariants as role
use Rattle.site_tree.proofs.TreeLaws.{and_left, and_right, and_both, or_cases}
use Rattle.site_views.specs.Laws as laws
use Rattle.site_views.specs.Laws.{AreRegistered, distinct, first, foreign_if, foreign_on, foreigns_on, manager_of, manager_with, managers_on, number_at, numbers_on, subnet_of, subnet_with, subnets_with}
use Rattle.site_views.specs.Views.{address_at, host, managed_at, manager_at, managers, member_at, members, on_subnet}
use Rattle.site_views.proofs.ApartLaws.{within}
use Rattle.site_views.proofs.CountLaws.{occurs, is_in, distinct_once, distinct_one, distinct_in, picked, unpicked, total_le, total_same, swap_le, swap_same, in_left, in_right, in_both}
use Rattle.site_views.proofs.PartLaws.{IsPart, part_skip, part_flat, map_flat}

-- the sum over a network's subnets of what is on each
on_zero : (a : Address) (n net j : ℕ) (b : Bool) (xs : List Address) (ks : List ℕ) → b ≡ false →
    total (λ k. times a (if (b && (j == k)) then xs else [])) ks ≡ 0
on_zero a n net j true xs ks e = absurd (true≢false e)
on_zero a n net j false xs ks e = unpicked a j xs ks

at_most_one : (o t n : ℕ) → o ≤ 1 → (o ≡ 0 → t ≡ 0) → (o ≡ 1 → t ≡ n) → t ≤ n
at_most_one o t n few z u = by (o == 0) refl where
  by : (b : Bool) → (o == 0) ≡ b → t ≤ n
  by true e = let zero_is : o ≡ 0 = grind (arith) in omega (arith, z zero_is)
  by false e = let one_is : o ≡ 1 = grind (arith) in omega (arith, u one_is)

net_le : (a : Address) (j : ℕ) (b : Bool) (xs : List Address) (ks : List ℕ) → occurs j ks ≤ 1 →
    total (λ k. times a (if (b && (j == k)) then xs else [])) ks ≤ times a xs
net_le a j true xs ks few = let p = picked a j xs ks in
    at_most_one (occurs j ks) (total (λ k. times a (if (true && (j == k)) then xs else [])) ks) (times a xs) few p.0 p.1
net_le a j false xs ks few = omega (arith, unpicked a j xs ks)

nothing_le : (a : Address) (xs : List Address) (ks : List ℕ) → total (λ (k : ℕ). 0) ks ≤ times a xs
nothing_le a xs ks = omega (arith, total-zero ks)

on_le : (a : Address) (n : ℕ) (l : Link) (xs : List Address) (ks : List ℕ) → ((j : ℕ) → occurs j ks ≤ 1) →
    total (λ k. times a (if on_subnet (subnet_of n k) l then xs else [])) ks ≤ times a xs
on_le a n (link.Ip network subnet address) xs ks few = net_le a subnet (network == n) xs ks (few subnet)
on_le a n (link.Bus network mac) xs ks few = nothing_le a xs ks

-- all addresses of BACnet/IP of a station
abbrev pub foreign_list : {A : Type 0} → Option (Foreign A) → List Address
foreign_list None = []
foreign_list (Some f) = f.address ∷ []

abbrev pub link_addresses : Link → List Address
link_addresses l = option_to_list (address_at l)

abbrev pub ip_addresses : {A : Type 0} → Role A → List Address
ip_addresses r = flat_map link_addresses (links_in r) ++ foreign_list (beyond r)

abbrev ip_mark : Address → Mark
ip_mark a = mark.Address (address_octets a)

ports_ip : (ls : List Link) → IsPart (map ip_mark (flat_map link_addresses ls ++ [])) (map mark_of ls)
ports_ip [] = tt
ports_ip (link.Ip network subnet address ∷ ls) = inl (refl, ports_ip ls)
ports_ip (link.Bus network mac ∷ ls) = part_skip (map ip_mark (flat_map link_addresses ls ++ [])) (mark_of (link.Bus network mac)) (map mark_of ls) (ports_ip ls)

place_ip : {A : Type 0} (p : Place A) → IsPart (map ip_mark (flat_map link_addresses (links_at p) ++ foreign_list (beyond_at p))) (mark_at p ∷ [])
place_ip (place.On (link.Ip network subnet address)) = inl (refl, tt)
place_ip (place.On (link.Bus network mac)) = tt
place_ip (place.Beyond f) = inl (refl, tt)

role_ip : {A : Type 0} (r : Role A) → IsPart (map ip_mark (ip_addresses r)) (marks_in r)
role_ip (role.Manager (link.Ip network subnet address)) = inl (refl, tt)
role_ip (role.Manager (link.Bus network mac)) = tt
role_ip (role.Router ports) = ports_ip ports
role_ip (role.Device p o) = part_skip (map ip_mark (ip_addresses (role.Device p o))) (mark.Instance o.instance) (mark_at p ∷ []) (place_ip p)
role_ip (role.Client p segmented) = place_ip p

none_times : (a x : Address) (xs : List Address) → x ≡ a → AllByRecursion (IsOther (ip_mark x)) (map ip_mark xs) → times a xs ≡ 0
none_times a x [] e each = refl
none_times a x (y ∷ ys) e each = by (same_address y a) refl (none_times a x ys e each.1) where
  by : (b : Bool) → same_address y a ≡ b → times a ys ≡ 0 → cond (same_address y a) 1 0 + times a ys ≡ 0
  by true f rest = absurd (each.0.other (ap ip_mark (e ∙ sym (same_is y a f))))
  by false f rest = ap (λ (c : Bool). cond c 1 0 + times a ys) f ∙ omega (arith, rest)

apart_times : (a : Address) (xs : List Address) → AreApart (map ip_mark xs) → times a xs ≤ 1
apart_times a [] each = omega arith
apart_times a (x ∷ xs) each = by (same_address x a) refl (apart_times a xs each.1) where
  by : (b : Bool) → same_address x a ≡ b → times a xs ≤ 1 → cond (same_address x a) 1 0 + times a xs ≤ 1
  by true f rest = subst (λ (c : Bool). cond c 1 0 + times a xs ≤ 1) (sym f) (omega (arith, none_times a x xs (same_is x a f) each.0))
  by false f rest = subst (λ (c : Bool). cond c 1 0 + times a xs ≤ 1) (sym f) (omega (arith, rest))

all_ip : {A : Type 0} (p : Parts A) → IsSound p → (a : Address) → times a (flat_map (λ s. ip_addresses s.role) p.stations) ≤ 1
all_ip p s a = apart_times a (flat_map (λ t. ip_addresses t.role) p.stations)
    (within p s (map ip_mark (flat_map (λ t. ip_addresses t.role) p.stations))
    (subst (λ (xs : List Mark). IsPart xs (flat_map marks_of p.stations)) (sym (map_flat ip_mark (λ t. ip_addresses t.role) p.stations))
    (part_flat (λ t. map ip_mark (ip_addresses t.role)) marks_of (λ t. role_ip t.role) p.stations)))

two_parts : {A : Type 0} (a : Address) (ss : List (Station A)) →
    times a (flat_map (λ s. ip_addresses s.role) ss) ≡
    times a (flat_map (λ s. flat_map link_addresses (links_in s.role)) ss) + times a (flat_map (λ s. foreign_list (beyond s.role)) ss)
two_parts a [] = refl
two_parts a (s ∷ ss) = omega (
  arith,
  two_parts a ss,
  times-append a (ip_addresses s.role) (flat_map (λ t. ip_addresses t.role) ss),
  times-append a (flat_map link_addresses (links_in s.role)) (foreign_list (beyond s.role)),
  times-append a (flat_map link_addresses (links_in s.role)) (flat_map (λ t. flat_map link_addresses (links_in t.role)) ss),
  times-append a (foreign_list (beyond s.role)) (flat_map (λ t. foreign_list (beyond t.role)) ss),
)

members_le : {A : Type 0} (a : Address) (n : ℕ) (ss : List (Station A)) (ks : List ℕ) → ((j : ℕ) → occurs j ks ≤ 1) →
    total (λ k. times a (members (subnet_of n k) ss)) ks ≤ times a (flat_map (λ s. flat_map link_addresses (links_in s.role)) ss)
members_le a n ss ks few = swap_le a (λ k s. flat_map (member_at (subnet_of n k)) (links_in s.role)) (λ s. flat_map link_addresses (links_in s.role)) ks
    (λ s. swap_le a (λ k l. member_at (subnet_of n k) l) link_addresses ks (λ l. on_le a n l (link_addresses l) ks few) (links_in s.role)) ss

foreign_le : {A : Type 0} (a : Address) (n : ℕ) (all : List (Station A)) (f : Option (Foreign A)) (ks : List ℕ) → ((j : ℕ) → occurs j ks ≤ 1) →
    total (λ k. times a (foreign_on (subnet_of n k) all f)) ks ≤ times a (foreign_list f)
foreign_le a n all None ks few = nothing_le a [] ks
foreign_le a n all (Some f) ks few = by (host f.manager all) where
  by : (h : Option Link) → total (λ k. times a (foreign_if f.address (subnet_of n k) h)) ks ≤ times a (f.address ∷ [])
  by None = nothing_le a (f.address ∷ []) ks
  by (Some l) = on_le a n l (f.address ∷ []) ks few

foreigns_le : {A : Type 0} (a : Address) (n : ℕ) (ss : List (Station A)) (ks : List ℕ) → ((j : ℕ) → occurs j ks ≤ 1) →
    total (λ k. times a (foreigns_on (subnet_of n k) ss)) ks ≤ times a (flat_map (λ s. foreign_list (beyond s.role)) ss)
foreigns_le a n ss ks few = swap_le a (λ k s. foreign_on (subnet_of n k) ss (beyond s.role)) (λ s. foreign_list (beyond s.role)) ks
    (λ s. foreign_le a n ss (beyond s.role) ks few) ss

served_le : {A : Type 0} (a : Address) (now moment : ℕ) (id : SubnetId) (ss : List (Station A)) (foreign : List Registration) (m : Option Address) (most : ℕ) →
    times a (served now foreign) ≤ most →
    times a (flat_map (λ s. served now s.tables.foreign) (option_to_list (option_map (manager_with moment id ss foreign) m))) ≤ most
served_le a now moment id ss foreign None most le = omega arith
served_le a now moment id ss foreign (Some own) most le = omega (arith, le, times-append a (served now foreign) [])

subnet_le : {A : Type 0} (a : Address) (now moment n : ℕ) (ss : List (Station A)) (tables : ℕ → List Registration) → AreRegistered now n ss tables → (k : ℕ) →
    times a (all_in now (subnet_with moment (subnet_of n k) ss (tables k))) ≤ times a (members (subnet_of n k) ss) + times a (foreigns_on (subnet_of n k) ss)
subnet_le a now moment n ss tables registered k = omega (
  arith,
  times-append a (members (subnet_of n k) ss) (flat_map (λ s. served now s.tables.foreign) (option_to_list (option_map (manager_with moment (subnet_of n k) ss (tables k)) (first (managers_on (subnet_of n k) ss))))),
  served_le a now moment (subnet_of n k) ss (tables k) (first (managers_on (subnet_of n k) ss)) (times a (foreigns_on (subnet_of n k) ss)) (omega (arith, registered.just k a)),
)

everyone_le : {A : Type 0} (a : Address) (now moment n : ℕ) (ss : List (Station A)) (tables : ℕ → List Registration) (ks : List ℕ) →
    times a (everyone now (map (λ k. subnet_with moment (subnet_of n k) ss (tables k)) ks)) ≡
    total (λ k. times a (all_in now (subnet_with moment (subnet_of n k) ss (tables k)))) ks
everyone_le a now moment n ss tables [] = refl
everyone_le a now moment n ss tables (k ∷ ks) = omega (
  arith,
  everyone_le a now moment n ss tables ks,
  times-append a (all_in now (subnet_with moment (subnet_of n k) ss (tables k))) (everyone now (map (λ k. subnet_with moment (subnet_of n k) ss (tables k)) ks)),
)

no_address_twice : {A : Type 0} (p : Parts A) (now moment n : ℕ) (tables : ℕ → List Registration) → IsSound p → AreRegistered now n p.stations tables →
    (a : Address) → times a (everyone now (subnets_with moment n p.stations tables)) ≤ 1
no_address_twice p now moment n tables s registered a =
    omega (
      arith,
      everyone_le a now moment n p.stations tables (distinct (numbers_on n p.stations)),
      total_le (λ k. times a (all_in now (subnet_with moment (subnet_of n k) p.stations (tables k)))) (λ k. times a (members (subnet_of n k) p.stations) + times a (foreigns_on (subnet_of n k) p.stations)) (subnet_le a now moment n p.stations tables registered) (distinct (numbers_on n p.stations)),
      total-more (λ k. times a (members (subnet_of n k) p.stations)) (λ k. times a (foreigns_on (subnet_of n k) p.stations)) (λ k. times a (members (subnet_of n k) p.stations) + times a (foreigns_on (subnet_of n k) p.stations)) (λ k. refl) (distinct (numbers_on n p.stations)),
      members_le a n p.stations (distinct (numbers_on n p.stations)) (λ j. distinct_once j (numbers_on n p.stations)),
      foreigns_le a n p.stations (distinct (numbers_on n p.stations)) (λ j. distinct_once j (numbers_on n p.stations)),
      two_parts a p.stations,
      all_ip p s a,
    )

-- a manager is a member of its subnet
manager_le : {A : Type 0} (a : Address) (id : SubnetId) (r : Role A) → times a (manager_of id (managed_at r)) ≤ times a (flat_map (member_at id) (links_in r))
manager_le a id (role.Manager l) = omega (arith, times-append a (member_at id l) [])
manager_le a id (role.Router ports) = omega arith
manager_le a id (role.Device p o) = omega arith
manager_le a id (role.Client p segmented) = omega arith

managers_le : {A : Type 0} (a : Address) (id : SubnetId) (ss : List (Station A)) → times a (managers_on id ss) ≤ times a (members id ss)
managers_le a id [] = omega arith
managers_le a id (s ∷ ss) = omega (
  arith,
  manager_le a id s.role,
  managers_le a id ss,
  times-append a (manager_of id (managed_at s.role)) (managers_on id ss),
  times-append a (flat_map (member_at id) (links_in s.role)) (members id ss),
)

first_times : (a : Address) (xs : List Address) → first xs ≡ Some a → 1 ≤ times a xs
first_times a [] e = absurd (cc e)
first_times a (x ∷ xs) e = let is : x ≡ a = cc e in
    subst (λ (b : Bool). 1 ≤ cond b 1 0 + times a xs) (sym (ap (λ (y : Address). same_address y a) is ∙ itself_is a)) (omega arith)

itself : {A : Type 0} (id : SubnetId) (ss : List (Station A)) (own : Address) → first (managers_on id ss) ≡ Some own → is_among own (members id ss) ≡ true
itself id ss own e = times_among own (members id ss) (omega (arith, first_times own (managers_on id ss) e, managers_le own id ss))

-- a subnet has one manager at most
managed_if : (b c : Bool) (net j n k : ℕ) (m : Mark) (address : Address) → (b ≡ true → net ≡ n) → (c ≡ true → j ≡ k) →
    IsPart (map (λ (a : Address). mark.Managed n k) (if (b && c) then address ∷ [] else [])) (m ∷ (mark.Managed net j ∷ []))
managed_if true true net j n k m address e f = inr (inl (ap (λ (i : ℕ). mark.Managed i k) (sym (e refl)) ∙ ap (λ (i : ℕ). mark.Managed net i) (sym (f refl)), tt))
managed_if true false net j n k m address e f = tt
managed_if false c net j n k m address e f = tt

is_number : (m n : ℕ) → (m == n) ≡ true → m ≡ n
is_number m n e = grind (arith)

managed_link : (n k : ℕ) (l : Link) → IsPart (map (λ (a : Address). mark.Managed n k) (member_at (subnet_of n k) l)) (mark_of l ∷ managed l)
managed_link n k (link.Ip network subnet address) = managed_if (network == n) (subnet == k) network subnet n k (mark_of (link.Ip network subnet address)) address (is_number network n) (is_number subnet k)
managed_link n k (link.Bus network mac) = tt

managed_role : {A : Type 0} (n k : ℕ) (r : Role A) → IsPart (map (λ (a : Address). mark.Managed n k) (manager_of (subnet_of n k) (managed_at r))) (marks_in r)
managed_role n k (role.Manager l) = managed_link n k l
managed_role n k (role.Router ports) = tt
managed_role n k (role.Device p o) = tt
managed_role n k (role.Client p segmented) = tt

few_same : (m : Mark) (xs : List Address) → AreApart (map (λ (a : Address). m) xs) → length xs ≤ 1
few_same m [] each = omega arith
few_same m (x ∷ []) each = omega arith
few_same m (x ∷ (y ∷ ys)) each = absurd (each.0.0.other refl)

one_manager : {A : Type 0} (p : Parts A) → IsSound p → (n k : ℕ) → length (managers_on (subnet_of n k) p.stations) ≤ 1
one_manager p s n k = few_same (mark.Managed n k) (managers_on (subnet_of n k) p.stations)
    (within p s (map (λ (a : Address). mark.Managed n k) (managers_on (subnet_of n k) p.stations))
    (subst (λ (xs : List Mark). IsPart xs (flat_map marks_of p.stations)) (sym (map_flat (λ (a : Address). mark.Managed n k) (λ t. manager_of (subnet_of n k) (managed_at t.role)) p.stations))
    (part_flat (λ t. map (λ (a : Address). mark.Managed n k) (manager_of (subnet_of n k) (managed_at t.role))) marks_of (λ t. managed_role n k t.role) p.stations)))

first_all : (a : Address) (xs : List Address) → length xs ≤ 1 → times a (option_to_list (first xs)) ≡ times a xs
first_all a [] few = refl
first_all a (x ∷ []) few = refl
first_all a (x ∷ (y ∷ ys)) few = absurd (omega (arith, few))

-- the managers of the subnets are those of the network
own_of : {A : Type 0} (moment : ℕ) (id : SubnetId) (ss : List (Station A)) (foreign : List Registration) (m : Option Address) →
    owns (option_to_list (option_map (manager_with moment id ss foreign) m)) ≡ option_to_list m
own_of moment id ss foreign None = refl
own_of moment id ss foreign (Some own) = refl

owns_append : (xs ys : List ManagerState) → owns (xs ++ ys) ≡ owns xs ++ owns ys
owns_append [] ys = refl
owns_append (x ∷ xs) ys = ap (λ (zs : List Address). x.tables.own ∷ zs) (owns_append xs ys)

owns_are : {A : Type 0} (a : Address) (moment n : ℕ) (ss : List (Station A)) (tables : ℕ → List Registration) (ks : List ℕ) →
    times a (owns (managers_of (map (λ k. subnet_with moment (subnet_of n k) ss (tables k)) ks))) ≡ total (λ k. times a (option_to_list (first (managers_on (subnet_of n k) ss)))) ks
owns_are a moment n ss tables [] = refl
owns_are {A} a moment n ss tables (k ∷ ks) =
    ap (times a) (owns_append (option_to_list (option_map (manager_with moment (subnet_of n k) ss (tables k)) (first (managers_on (subnet_of n k) ss)))) (managers_of (map (λ i. subnet_with moment (subnet_of n i) ss (tables i)) ks)))
    ∙ (times-append a (owns (option_to_list (option_map (manager_with moment (subnet_of n k) ss (tables k)) (first (managers_on (subnet_of n k) ss))))) (owns (managers_of (map (λ i. subnet_with moment (subnet_of n i) ss (tables i)) ks)))
    ∙ (ap (λ (xs : List Address). times a xs + times a (owns (managers_of (map (λ i. subnet_with moment (subnet_of n i) ss (tables i)) ks)))) (own_of moment (subnet_of n k) ss (tables k) (first (managers_on (subnet_of n k) ss)))
    ∙ ap (λ (m : ℕ). times a (option_to_list (first (managers_on (subnet_of n k) ss))) + m) (owns_are a moment n ss tables ks)))

net_same : (a : Address) (j : ℕ) (b : Bool) (address : Address) (ks : List ℕ) → (b ≡ true → occurs j ks ≡ 1) →
    total (λ k. times a (if (b && (j == k)) then address ∷ [] else [])) ks ≡ times a (if b then address ∷ [] else [])
net_same a j true address ks one = (picked a j (address ∷ []) ks).1 (one refl)
net_same a j false address ks one = unpicked a j (address ∷ []) ks

bus_none : (a : Address) (b : Bool) (ks : List ℕ) → total (λ (k : ℕ). 0) ks ≡ times a (if b then [] else [])
bus_none a true ks = total-zero ks
bus_none a false ks = total-zero ks

number_if : (j : ℕ) (b : Bool) → b ≡ true → is_in j (if b then j ∷ [] else []) ≡ true
number_if j true e = by (j == j) (number_same j) where
  number_same : (m : ℕ) → (m == m) ≡ true
  number_same m = grind (arith)

  by : (c : Bool) → c ≡ true → (c || false) ≡ true
  by true f = refl
  by false f = f
number_if j false e = absurd (true≢false (sym e))

manager_same : {A : Type 0} (a : Address) (n : ℕ) (r : Role A) (ks : List ℕ) →
    ((j : ℕ) → is_in j (flat_map (number_at n) (links_in r)) ≡ true → occurs j ks ≡ 1) →
    total (λ k. times a (manager_of (subnet_of n k) (managed_at r))) ks ≡ times a (manager_at n (managed_at r))
manager_same a n (role.Manager (link.Ip network subnet address)) ks known = net_same a subnet (network == n) address ks
    (λ e. known subnet (in_left subnet (number_at n (link.Ip network subnet address)) [] (number_if subnet (network == n) e)))
manager_same a n (role.Manager (link.Bus network mac)) ks known = bus_none a (network == n) ks
manager_same a n (role.Router ports) ks known = total-zero ks
manager_same a n (role.Device p o) ks known = total-zero ks
manager_same a n (role.Client p segmented) ks known = total-zero ks

each_same : {A : Type 0} (a : Address) (n : ℕ) (ss : List (Station A)) (ks : List ℕ) → ((j : ℕ) → is_in j (numbers_on n ss) ≡ true → occurs j ks ≡ 1) →
    AllByRecursion (λ s. total (λ k. times a (manager_of (subnet_of n k) (managed_at s.role))) ks ≡ times a (manager_at n (managed_at s.role))) ss
each_same a n [] ks known = tt
each_same a n (s ∷ ss) ks known = (
  manager_same a n s.role ks (λ j e. known j (in_left j (flat_map (number_at n) (links_in s.role)) (numbers_on n ss) e)),
  each_same a n ss ks (λ j e. known j (in_right j (flat_map (number_at n) (links_in s.role)) (numbers_on n ss) e)),
)

all_managers : {A : Type 0} (p : Parts A) (moment n : ℕ) (tables : ℕ → List Registration) → IsSound p → (a : Address) →
    times a (managers n p.stations) ≡ times a (owns (managers_of (subnets_with moment n p.stations tables)))
all_managers p moment n tables s a = sym (owns_are a moment n p.stations tables (distinct (numbers_on n p.stations))
    ∙ (total_same (λ k. times a (option_to_list (first (managers_on (subnet_of n k) p.stations)))) (λ k. times a (managers_on (subnet_of n k) p.stations))
    (λ k. first_all a (managers_on (subnet_of n k) p.stations) (one_manager p s n k)) (distinct (numbers_on n p.stations))
    ∙ swap_same a (λ k t. manager_of (subnet_of n k) (managed_at t.role)) (λ t. manager_at n (managed_at t.role)) (distinct (numbers_on n p.stations)) p.stations
    (each_same a n p.stations (distinct (numbers_on n p.stations)) (λ j e. distinct_one j (numbers_on n p.stations) e))))

peers : {A : Type 0} (p : Parts A) (moment n : ℕ) (tables : ℕ → List Registration) → IsSound p → (own a : Address) →
    times a (others own (managers n p.stations)) ≡ times a (others own (owns (managers_of (subnets_with moment n p.stations tables))))
peers p moment n tables s own a = times-others own a (managers n p.stations)
    ∙ (ap (λ (m : ℕ). cond (not (same_address a own)) m 0) (all_managers p moment n tables s a)
    ∙ sym (times-others own a (owns (managers_of (subnets_with moment n p.stations tables)))))

managed_at_most : {A : Type 0} (p : Parts A) (moment n k : ℕ) (tables : ℕ → List Registration) → IsSound p → (m : Option Address) → first (managers_on (subnet_of n k) p.stations) ≡ m →
    AllByRecursion (IsManaged (managers_of (subnets_with moment n p.stations tables)) (members (subnet_of n k) p.stations))
    (option_to_list (option_map (manager_with moment (subnet_of n k) p.stations (tables k)) m))
managed_at_most p moment n k tables s None e = tt
managed_at_most p moment n k tables s (Some own) e = (
  record {
    knows = refl;
    itself = itself (subnet_of n k) p.stations own e;
    peers = λ a. peers p moment n tables s own a;
  },
  tt,
)

each_managed : {A : Type 0} (p : Parts A) (moment n : ℕ) (tables : ℕ → List Registration) → IsSound p → (ks : List ℕ) →
    AllByRecursion (λ t. AllByRecursion (IsManaged (managers_of (subnets_with moment n p.stations tables)) t.members) (option_to_list t.manager))
    (map (λ k. subnet_with moment (subnet_of n k) p.stations (tables k)) ks)
each_managed p moment n tables s [] = tt
each_managed p moment n tables s (k ∷ ks) = (managed_at_most p moment n k tables s (first (managers_on (subnet_of n k) p.stations)) refl, each_managed p moment n tables s ks)

-- a subnet of several has a manager
all_left : {X : Type 0} (P : X → Bool) (xs ys : List X) → list_all P (xs ++ ys) ≡ true → list_all P xs ≡ true
all_left P [] ys e = refl
all_left P (x ∷ xs) ys e = and_both (P x) (list_all P xs) (and_left (P x) (list_all P (xs ++ ys)) e) (all_left P xs ys (and_right (P x) (list_all P (xs ++ ys)) e))

all_right : {X : Type 0} (P : X → Bool) (xs ys : List X) → list_all P (xs ++ ys) ≡ true → list_all P ys ≡ true
all_right P [] ys e = e
all_right P (x ∷ xs) ys e = all_right P xs ys (and_right (P x) (list_all P (xs ++ ys)) e)

any_both : {X : Type 0} (P : X → Bool) (xs ys : List X) → list_any P (xs ++ ys) ≡ true → (list_any P xs ≡ true) ⊎ (list_any P ys ≡ true)
any_both P [] ys e = inr e
any_both P (x ∷ xs) ys e = elim (or_cases (P x) (list_any P (xs ++ ys)) e) [
  | inl f ↦ inl (ap (λ (b : Bool). b || list_any P xs) f)
  | inr f ↦ elim (any_both P xs ys f) [
    | inl g ↦ inl (later (P x) (list_any P xs) g)
    | inr g ↦ inr g
  ]
] where
  later : (b c : Bool) → c ≡ true → (b || c) ≡ true
  later true c g = refl
  later false c g = g

pick_if : (P : SubnetId → Bool) (n k net j : ℕ) (b : Bool) → (b ≡ true → net ≡ n) → P (subnet_of net j) ≡ true → is_in k (if b then j ∷ [] else []) ≡ true → P (subnet_of n k) ≡ true
pick_if P n k net j true e h i = elim (or_cases (k == j) false i) [
  | inl f ↦ ap (λ (m : ℕ). P (subnet_of n m)) (is_number k j f) ∙ (ap (λ (m : ℕ). P (subnet_of m j)) (sym (e refl)) ∙ h)
  | inr f ↦ absurd (true≢false (sym f))
]
pick_if P n k net j false e h i = absurd (true≢false (sym i))

link_pick : (P : SubnetId → Bool) (n k : ℕ) (l : Link) → list_all P (managers.subnet_at l) ≡ true → is_in k (number_at n l) ≡ true → P (subnet_of n k) ≡ true
link_pick P n k (link.Ip network subnet address) h i = pick_if P n k network subnet (network == n) (is_number network n) (and_left (P (subnet_of network subnet)) true h) i
link_pick P n k (link.Bus network mac) h i = absurd (true≢false (sym i))

links_pick : (P : SubnetId → Bool) (n k : ℕ) (ls : List Link) → list_all P (flat_map managers.subnet_at ls) ≡ true → is_in k (flat_map (number_at n) ls) ≡ true → P (subnet_of n k) ≡ true
links_pick P n k [] h i = absurd (true≢false (sym i))
links_pick P n k (l ∷ ls) h i = elim (or_cases (is_in k (number_at n l)) (is_in k (flat_map (number_at n) ls)) (in_both k (number_at n l) (flat_map (number_at n) ls) i)) [
  | inl f ↦ link_pick P n k l (all_left P (managers.subnet_at l) (flat_map managers.subnet_at ls) h) f
  | inr f ↦ links_pick P n k ls (all_right P (managers.subnet_at l) (flat_map managers.subnet_at ls) h) f
]

-- what holds of all subnets of a site holds of one of a network
stations_pick : {A : Type 0} (P : SubnetId → Bool) (n k : ℕ) (ss : List (Station A)) → list_all P (managers.subnets ss) ≡ true → is_in k (numbers_on n ss) ≡ true → P (subnet_of n k) ≡ true
stations_pick P n k [] h i = absurd (true≢false (sym i))
stations_pick P n k (s ∷ ss) h i = elim (or_cases (is_in k (flat_map (number_at n) (links_in s.role))) (is_in k (numbers_on n ss)) (in_both k (flat_map (number_at n) (links_in s.role)) (numbers_on n ss) i)) [
  | inl f ↦ links_pick P n k (links_in s.role) (all_left P (flat_map managers.subnet_at (links_in s.role)) (managers.subnets ss) h) f
  | inr f ↦ stations_pick P n k ss (all_right P (flat_map managers.subnet_at (links_in s.role)) (managers.subnets ss) h) f
]

some_left : {X : Type 0} (xs ys : List X) → is_some (first xs) ≡ true → is_some (first (xs ++ ys)) ≡ true
some_left [] ys e = absurd (true≢false (sym e))
some_left (x ∷ xs) ys e = refl

some_right : {X : Type 0} (xs ys : List X) → is_some (first ys) ≡ true → is_some (first (xs ++ ys)) ≡ true
some_right [] ys e = e
some_right (x ∷ xs) ys e = refl

some_if : (b : Bool) (a : Address) → b ≡ true → is_some (first (if b then a ∷ [] else [])) ≡ true
some_if true a e = refl
some_if false a e = absurd (true≢false (sym e))

turned : (m n : ℕ) → (m == n) ≡ true → (n == m) ≡ true
turned m n e = grind (arith)

some_link : (n k : ℕ) (l : Link) → list_any (managers.is_one (subnet_of n k)) (managers.subnet_at l) ≡ true → is_some (first (member_at (subnet_of n k) l)) ≡ true
some_link n k (link.Ip network subnet address) e = elim (or_cases ((n == network) && (k == subnet)) false e) [
  | inl f ↦ some_if ((network == n) && (subnet == k)) address (and_both (network == n) (subnet == k)
      (turned n network (and_left (n == network) (k == subnet) f)) (turned k subnet (and_right (n == network) (k == subnet) f)))
  | inr f ↦ absurd (true≢false (sym f))
]
some_link n k (link.Bus network mac) e = absurd (true≢false (sym e))

some_role : {A : Type 0} (n k : ℕ) (r : Role A) → list_any (managers.is_one (subnet_of n k)) (managers.managed_in r) ≡ true → is_some (first (manager_of (subnet_of n k) (managed_at r))) ≡ true
some_role n k (role.Manager l) e = some_link n k l e
some_role n k (role.Router ports) e = absurd (true≢false (sym e))
some_role n k (role.Device p o) e = absurd (true≢false (sym e))
some_role n k (role.Client p segmented) e = absurd (true≢false (sym e))

some_manager : {A : Type 0} (n k : ℕ) (ss : List (Station A)) → list_any (managers.is_one (subnet_of n k)) (managers.managed ss) ≡ true → is_some (first (managers_on (subnet_of n k) ss)) ≡ true
some_manager n k [] e = absurd (true≢false (sym e))
some_manager n k (s ∷ ss) e = elim (any_both (managers.is_one (subnet_of n k)) (managers.managed_in s.role) (managers.managed ss) e) [
  | inl f ↦ some_left (manager_of (subnet_of n k) (managed_at s.role)) (managers_on (subnet_of n k) ss) (some_role n k s.role f)
  | inr f ↦ some_right (manager_of (subnet_of n k) (managed_at s.role)) (managers_on (subnet_of n k) ss) (some_manager n k ss f)
]

itself_number : (n : ℕ) → (n == n) ≡ true
itself_number n = grind (arith)

not_itself : (b c : Bool) → b ≡ true → (not b || c) ≡ true → c ≡ true
not_itself true c e h = h
not_itself false c e h = absurd (true≢false (sym e))

-- all others are this subnet, where it is alone
alone_is : {A : Type 0} (n k : ℕ) (ss : List (Station A)) → list_all (managers.is_apart (subnet_of n k)) (managers.subnets ss) ≡ true → (j : ℕ) → is_in j (numbers_on n ss) ≡ true → k ≡ j
alone_is n k ss h j i = is_number k j (not_itself (n == n) (k == j) (itself_number n) (stations_pick (managers.is_apart (subnet_of n k)) n j ss h i))

filter_none : (x : ℕ) (ys : List ℕ) → ((j : ℕ) → is_in j ys ≡ true → x ≡ j) → filter (λ y. not (y == x)) ys ≡ []
filter_none x [] same = refl
filter_none x (y ∷ ys) same = by (y == x) (ap (λ (m : ℕ). y == m) (same y (left_true (y == y) (is_in y ys) (itself_number y))) ∙ itself_number y)
    (filter_none x ys (λ j i. same j (right_true (j == y) (is_in j ys) i))) where
      left_true : (b c : Bool) → b ≡ true → (b || c) ≡ true
      left_true true c e = refl
      left_true false c e = absurd (true≢false (sym e))

      right_true : (b c : Bool) → c ≡ true → (b || c) ≡ true
      right_true true c e = refl
      right_true false c e = e

      by : (b : Bool) → b ≡ true → filter (λ z. not (z == x)) ys ≡ [] → cond (not b) (y ∷ filter (λ z. not (z == x)) ys) (filter (λ z. not (z == x)) ys) ≡ []
      by true e rest = rest
      by false e rest = absurd (true≢false (sym e))

alone_few : (k : ℕ) (xs : List ℕ) → ((j : ℕ) → is_in j xs ≡ true → k ≡ j) → length (distinct xs) ≤ 1
alone_few k [] same = omega arith
alone_few k (x ∷ xs) same = subst (λ (ys : List ℕ). length (x ∷ ys) ≤ 1)
    (sym (filter_none x (distinct xs) (λ j i. sym (same x (left_true (x == x) (is_in x xs) (itself_number x))) ∙ same j (right_true (j == x) (is_in j xs) (distinct_in j xs i)))))
    (omega arith) where
      left_true : (b c : Bool) → b ≡ true → (b || c) ≡ true
      left_true true c e = refl
      left_true false c e = absurd (true≢false (sym e))

      right_true : (b c : Bool) → c ≡ true → (b || c) ≡ true
      right_true true c e = refl
      right_true false c e = e

some_map : {X Y : Type 0} (f : X → Y) (m : Option X) → is_some m ≡ true → is_some (option_map f m) ≡ true
some_map f None e = absurd (true≢false (sym e))
some_map f (Some x) e = refl

in_first : (k : ℕ) (ks : List ℕ) → is_in k (k ∷ ks) ≡ true
in_first k ks = ap (λ (b : Bool). b || is_in k ks) (itself_number k)

in_later : (j k : ℕ) (ks : List ℕ) → is_in j ks ≡ true → is_in j (k ∷ ks) ≡ true
in_later j k ks e = by (j == k) where
  by : (b : Bool) → (b || is_in j ks) ≡ true
  by true = refl
  by false = e

each_some : {A : Type 0} (p : Parts A) (moment n : ℕ) (tables : ℕ → List Registration) → IsSound p → (ks : List ℕ) → ((k : ℕ) → is_in k ks ≡ true → is_in k (numbers_on n p.stations) ≡ true) →
    (length (distinct (numbers_on n p.stations)) ≤ 1) ⊎ AllByRecursion (λ t. is_some t.manager ≡ true) (map (λ k. subnet_with moment (subnet_of n k) p.stations (tables k)) ks)
each_some p moment n tables s [] known = inr tt
each_some p moment n tables s (k ∷ ks) known = elim (each_some p moment n tables s ks (λ j e. known j (in_later j k ks e))) [
  | inl few ↦ inl few
  | inr rest ↦ elim (or_cases (list_any (managers.is_one (subnet_of n k)) (managers.managed p.stations)) (list_all (managers.is_apart (subnet_of n k)) (managers.subnets p.stations))
      (stations_pick (managers.is_covered (managers.managed p.stations) (managers.subnets p.stations)) n k p.stations s.fit.managed.covered (known k (in_first k ks)))) [
        | inl has ↦ inr (some_map (manager_with moment (subnet_of n k) p.stations (tables k)) (first (managers_on (subnet_of n k) p.stations)) (some_manager n k p.stations has), rest)
        | inr alone ↦ inl (alone_few k (numbers_on n p.stations) (alone_is n k p.stations alone))
      ]
]

map_length : {X Y : Type 0} (f : X → Y) (xs : List X) → length (map f xs) ≡ length xs
map_length f [] = refl
map_length f (x ∷ xs) = omega (arith, map_length f xs)

several : {A : Type 0} (p : Parts A) (moment n : ℕ) (tables : ℕ → List Registration) → IsSound p →
    (length (subnets_with moment n p.stations tables) ≤ 1) ⊎ AllByRecursion (λ t. is_some t.manager ≡ true) (subnets_with moment n p.stations tables)
several p moment n tables s = elim (each_some p moment n tables s (distinct (numbers_on n p.stations)) (λ k e. distinct_in k (numbers_on n p.stations) e)) [
  | inl few ↦ inl (omega (arith, few, map_length (λ k. subnet_with moment (subnet_of n k) p.stations (tables k)) (distinct (numbers_on n p.stations))))
  | inr each ↦ inr each
]

pub managers_are_full : {A : Type 0} → laws.AreTablesFull A
managers_are_full p now moment n tables s registered = record {
  managed = each_managed p moment n tables s (distinct (numbers_on n p.stations));
  several = several p moment n tables s;
  apart = λ a. no_address_twice p now moment n tables s registered a;
}

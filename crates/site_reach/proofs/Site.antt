-- What a sound site says of its managers and foreign devices.
use Rattle.std.proofs.Common.{◌≡◌, ◌∙◌, ⊎_elim, inl, refl, sym, ap, subst, arith, ℕ, ◌≤◌, ◌==◌, ◌+◌, cond, Bool, true, false, true≢false, List, [], ◌∷◌, ◌++◌, map, Option, Some, None}
use Rattle.std.specs.Prelude.{◌&&◌, ◌||◌, if◌then◌else◌, bytes_eq}
use Rattle.std.specs.List.{AllByRecursion, flat_map}
use Rattle.bbmd.proofs.Times.{same_is, itself_is}
use Rattle.bbmd.specs.Reach.{times}
use Rattle.bbmd_tables.specs.Tables.{is_among, same_address}
use Rattle.bvll.specs.Address.{address_octets}
use Rattle.bvll.specs.declared.address.Address.{Address}
use Rattle.history.proofs.HasLaws.{all_has, flat_has}
use Rattle.history.proofs.Lists.{has_back, has_cons, has_front, has_next, none_has}
use Rattle.history.specs.Lists.{Has}
use Rattle.site.specs.Apart.{AreApart, IsOther}
use Rattle.site.specs.Marks.{marks_in, marks_of}
use Rattle.site.specs.Sound.{IsSound}
use Rattle.site.specs.declared.managers.SubnetId.{SubnetId}
use Rattle.site.specs.declared.marks.Mark.{Mark}
use Rattle.site.specs.declared.marks.Mark.TheVariants as mark
use Rattle.site_parts.specs.Roles.{beyond}
use Rattle.site_parts.specs.declared.parts.Parts.{Parts}
use Rattle.site_parts.specs.declared.parts.Station.{Station}
use Rattle.site_parts.specs.declared.place.Foreign.{Foreign}
use Rattle.site_parts.specs.declared.place.Link.{Link}
use Rattle.site_parts.specs.declared.place.Link.TheVariants as link
use Rattle.site_parts.specs.declared.place.Place.TheVariants as place
use Rattle.site_parts.specs.declared.role.Role.{Role}
use Rattle.site_parts.specs.declared.role.Role.TheVariants as role
use Rattle.site_views.proofs.ApartLaws.{within}
use Rattle.site_views.proofs.PartLaws.{IsPart, map_flat, part_flat, part_skip}
use Rattle.site_views.specs.Laws.{foreign_if, foreign_on, foreigns_on, manager_of, managers_on, subnet_of}
use Rattle.site_views.specs.Views.{host, managed_at, member_at, on_subnet}

-- lists in which nothing stands twice
apart_cross : {X : Type 0} (xs ys : List X) (x : X) → AreApart (xs ++ ys) → Has xs x → Has ys x → ⊥
apart_cross [] ys x apart a b = none_has a
apart_cross {X} (z ∷ zs) ys x apart a b = ⊎_elim
    (λ (e : z ≡ x). (all_has (IsOther z) (zs ++ ys) x apart.0 (has_back zs ys b)).other e)
    (λ (h : Has zs x). apart_cross zs ys x apart.1 h b) (has_cons z zs a)

apart_behind : {X : Type 0} (xs ys : List X) → AreApart (xs ++ ys) → AreApart ys
apart_behind [] ys apart = apart
apart_behind (x ∷ xs) ys apart = apart_behind xs ys apart.1

-- .. of two that have one mark
flat_in : {X M : Type 0} (f : X → List M) (xs : List X) (x : X) (m : M) → Has xs x → Has (f x) m → Has (flat_map f xs) m
flat_in f [] x m h i = absurd (none_has h)
flat_in {X} {M} f (z ∷ zs) x m h i = ⊎_elim
    (λ (e : z ≡ x). has_front (f z) (flat_map f zs) (subst (λ (y : X). Has (f y) m) (sym e) i))
    (λ (g : Has zs x). has_back (f z) (flat_map f zs) (flat_in f zs x m g i)) (has_cons z zs h)

pub one_marked : {X M : Type 0} (f : X → List M) (xs : List X) (x y : X) (m : M) → AreApart (flat_map f xs) →
    Has xs x → Has (f x) m → Has xs y → Has (f y) m → x ≡ y
one_marked f [] x y m apart h i g j = absurd (none_has h)
one_marked {X} {M} f (z ∷ zs) x y m apart h i g j = ⊎_elim
    (λ (e : z ≡ x). ⊎_elim (λ (d : z ≡ y). sym e ∙ d)
    (λ (k : Has zs y). absurd (apart_cross (f z) (flat_map f zs) m apart
    (subst (λ (u : X). Has (f u) m) (sym e) i) (flat_in f zs y m k j))) (has_cons z zs g))
    (λ (k : Has zs x). ⊎_elim (λ (d : z ≡ y). absurd (apart_cross (f z) (flat_map f zs) m apart
    (subst (λ (u : X). Has (f u) m) (sym d) j) (flat_in f zs x m k i)))
    (λ (l : Has zs y). one_marked f zs x y m (apart_behind (f z) (flat_map f zs) apart) k i l j) (has_cons z zs g))
    (has_cons z zs h)

-- a manager on a subnet is a station of the site at that link
pub record IsManagerAt {A : Type 0} (ss : List (Station A)) (net subnet : ℕ) (own : Address) : Type 0 where
  pub station : Station A
  pub there : Has ss station
  pub is : station.role ≡ role.Manager (link.Ip net subnet own)

pub number_is : (m n : ℕ) → (m == n) ≡ true → m ≡ n
number_is m n e = grind (arith)

number_itself : (n : ℕ) → (n == n) ≡ true
number_itself n = grind (arith)

pub both_true : (a b : Bool) → (a && b) ≡ true → (a ≡ true) × (b ≡ true)
both_true true b e = (refl, e)
both_true false b e = absurd (true≢false (sym e))

if_has : (b : Bool) (xs : List Address) (a : Address) → Has (if b then xs else []) a → (b ≡ true) × Has xs a
if_has true xs a h = (refl, h)
if_has false xs a h = absurd (none_has h)

link_is : (net subnet : ℕ) (l : Link) (own : Address) → Has (member_at (subnet_of net subnet) l) own →
    l ≡ link.Ip net subnet own
link_is net subnet (link.Ip n k a) own h =
    let p = if_has ((n == net) && (k == subnet)) (a ∷ []) own h in
    let q = both_true (n == net) (k == subnet) p.0 in
    let is : a ≡ own = ⊎_elim (λ (e : a ≡ own). e) (λ (none : Has [] own). absurd (none_has none)) (has_cons a [] p.1) in
    rw (number_is n net q.0, number_is k subnet q.1, is) refl
link_is net subnet (link.Bus n mac) own h = absurd (none_has h)

role_is : {A : Type 0} (net subnet : ℕ) (r : Role A) (own : Address) →
    Has (manager_of (subnet_of net subnet) (managed_at r)) own → r ≡ role.Manager (link.Ip net subnet own)
role_is net subnet (role.Manager l) own h = ap (λ (m : Link). role.Manager m) (link_is net subnet l own h)
role_is net subnet (role.Router ports) own h = absurd (none_has h)
role_is net subnet (role.Device p o) own h = absurd (none_has h)
role_is net subnet (role.Client p segmented) own h = absurd (none_has h)

pub manager_is : {A : Type 0} (ss : List (Station A)) (net subnet : ℕ) (own : Address) →
    Has (managers_on (subnet_of net subnet) ss) own → IsManagerAt ss net subnet own
manager_is {A} ss net subnet own h =
    let found = flat_has (λ (s : Station A). manager_of (subnet_of net subnet) (managed_at s.role)) ss own h in
    record { station = found.0; there = found.1; is = role_is net subnet found.0.role own found.2 }

on_itself : (net subnet : ℕ) (a : Address) → on_subnet (subnet_of net subnet) (link.Ip net subnet a) ≡ true
on_itself net subnet a = rw (number_itself net, number_itself subnet) refl

has_first : {X : Type 0} (x : X) (xs : List X) → Has (x ∷ xs) x
has_first x xs = record { place = 0; at_place = refl }

-- .. and such a station is a manager there
pub is_manager : {A : Type 0} (ss : List (Station A)) (net subnet : ℕ) (own : Address) (s : Station A) → Has ss s →
    managed_at s.role ≡ Some (link.Ip net subnet own) → Has (managers_on (subnet_of net subnet) ss) own
is_manager {A} ss net subnet own s there e =
    flat_in (λ (t : Station A). manager_of (subnet_of net subnet) (managed_at t.role)) ss s own there
    (subst (λ (m : Option Link). Has (manager_of (subnet_of net subnet) m) own) (sym e)
    (subst (λ (b : Bool). Has (if b then own ∷ [] else []) own) (sym (on_itself net subnet own)) (has_first own [])))

apart_of : {A : Type 0} (p : Parts A) → IsSound p → AreApart (flat_map marks_of p.stations)
apart_of p sound = apart_behind _ (flat_map marks_of p.stations) sound.fit.apart

has_mark : {A : Type 0} (s : Station A) (net subnet : ℕ) (own : Address) →
    s.role ≡ role.Manager (link.Ip net subnet own) → Has (marks_of s) (mark.Address (address_octets own))
has_mark {A} s net subnet own e = subst (λ (r : Role A). Has (marks_in r) (mark.Address (address_octets own))) (sym e)
    (has_first (mark.Address (address_octets own)) (mark.Managed net subnet ∷ []))

abbrev subnet_in : Option Link → ℕ
subnet_in (Some (link.Ip net subnet own)) = subnet
subnet_in other = 0

-- managers of a network at one address are on one subnet
pub one_subnet : {A : Type 0} (p : Parts A) (net j k : ℕ) (a b : Address) → IsSound p →
    Has (managers_on (subnet_of net j) p.stations) a → Has (managers_on (subnet_of net k) p.stations) b →
    address_octets a ≡ address_octets b → j ≡ k
one_subnet {A} p net j k a b sound h g same =
    let s = manager_is p.stations net j a h in
    let t = manager_is p.stations net k b g in
    let e : s.station ≡ t.station = one_marked marks_of p.stations s.station t.station (mark.Address (address_octets a))
    (apart_of p sound) s.there (has_mark s.station net j a s.is) t.there
    (subst (λ (o : List ℕ). Has (marks_of t.station) (mark.Address o)) (sym same) (has_mark t.station net k b t.is)) in
    ap (λ (r : Role A). subnet_in (managed_at r)) (sym s.is ∙ ap (λ (x : Station A). x.role) e ∙ t.is)

-- foreign devices of a subnet's manager stand once
marks_if : (b : Bool) (a : Address) (m : Mark) → m ≡ mark.Address (address_octets a) →
    IsPart (map (λ (x : Address). mark.Address (address_octets x)) (if b then a ∷ [] else [])) (m ∷ [])
marks_if true a m e = inl (sym e, tt)
marks_if false a m e = tt

foreign_marks : {A : Type 0} (id : SubnetId) (f : Foreign A) (l : Option Link) →
    IsPart (map (λ (x : Address). mark.Address (address_octets x)) (foreign_if f.address id l)) (mark.Address (address_octets f.address) ∷ [])
foreign_marks id f None = tt
foreign_marks id f (Some l) = marks_if (on_subnet id l) f.address (mark.Address (address_octets f.address)) refl

role_marks : {A : Type 0} (id : SubnetId) (all : List (Station A)) (r : Role A) →
    IsPart (map (λ (x : Address). mark.Address (address_octets x)) (foreign_on id all (beyond r))) (marks_in r)
role_marks id all (role.Manager l) = tt
role_marks id all (role.Router ports) = tt
role_marks id all (role.Device (place.On l) o) = tt
role_marks {A} id all (role.Device (place.Beyond f) o) =
    part_skip (map (λ (x : Address). mark.Address (address_octets x)) (foreign_on id all (Some f)))
    (mark.Instance o.instance) (mark.Address (address_octets f.address) ∷ []) (foreign_marks id f (host f.manager all))
role_marks id all (role.Client (place.On l) segmented) = tt
role_marks id all (role.Client (place.Beyond f) segmented) = foreign_marks id f (host f.manager all)

times_none : {M : Type 0} (h : Address → M) (a : Address) (xs : List Address) → AllByRecursion (IsOther (h a)) (map h xs) →
    times a xs ≡ 0
times_none h a [] all = refl
times_none h a (y ∷ ys) all = by (same_address y a) refl (times_none h a ys all.1)
  where
    by : (b : Bool) → same_address y a ≡ b → times a ys ≡ 0 → times a (y ∷ ys) ≡ 0
    by true e q = absurd (all.0.other (ap h (sym (same_is y a e))))
    by false e q =
        let p : times a (y ∷ ys) ≡ 0 + times a ys = ap (λ (b : Bool). cond b 1 0 + times a ys) e in omega (arith, p, q)

times_once : {M : Type 0} (h : Address → M) (a : Address) (xs : List Address) → AreApart (map h xs) → times a xs ≤ 1
times_once h a [] apart = omega arith
times_once h a (x ∷ xs) apart = by (same_address x a) refl (times_once h a xs apart.1)
  where
    by : (b : Bool) → same_address x a ≡ b → times a xs ≤ 1 → times a (x ∷ xs) ≤ 1
    by true e le =
        let p : times a (x ∷ xs) ≡ 1 + times a xs = ap (λ (b : Bool). cond b 1 0 + times a xs) e in
        let q = times_none h a xs
        (subst (λ (y : Address). AllByRecursion (IsOther (h y)) (map h xs)) (same_is x a e) apart.0) in
        omega (arith, p, q)
    by false e le =
        let p : times a (x ∷ xs) ≡ 0 + times a xs = ap (λ (b : Bool). cond b 1 0 + times a xs) e in omega (arith, p, le)

pub foreigns_once : {A : Type 0} (p : Parts A) → IsSound p → (net subnet : ℕ) (a : Address) →
    times a (foreigns_on (subnet_of net subnet) p.stations) ≤ 1
foreigns_once {A} p sound net subnet a =
    let id = subnet_of net subnet in
    let h : Address → Mark = λ (x : Address). mark.Address (address_octets x) in
    times_once h a (foreigns_on id p.stations)
    (within p sound (map h (foreigns_on id p.stations))
    (subst (λ (xs : List Mark). IsPart xs (flat_map marks_of p.stations))
    (sym (map_flat h (λ (s : Station A). foreign_on id p.stations (beyond s.role)) p.stations))
    (part_flat (λ (s : Station A). map h (foreign_on id p.stations (beyond s.role))) marks_of
    (λ s. role_marks id p.stations s.role) p.stations)))

among_if : (b : Bool) (a : Address) → b ≡ true → Has (if b then a ∷ [] else []) a
among_if b a e = subst (λ (c : Bool). Has (if c then a ∷ [] else []) a) (sym e) (has_first a [])

pub among_has : (a : Address) (xs : List Address) → Has xs a → is_among a xs ≡ true
among_has a [] h = absurd (none_has h)
among_has a (x ∷ xs) h = ⊎_elim
    (λ (e : x ≡ a). subst (λ (y : Address). (same_address y a || is_among a xs) ≡ true) (sym e)
    (ap (λ (b : Bool). b || is_among a xs) (itself_is a)))
    (λ (k : Has xs a). or_true (same_address x a) (is_among a xs) (among_has a xs k)) (has_cons x xs h)
  where
    or_true : (b c : Bool) → c ≡ true → (b || c) ≡ true
    or_true true c e = refl
    or_true false c e = e

-- a foreign device of a manager on a subnet is one of those there
pub is_foreign : {A : Type 0} (ss : List (Station A)) (net subnet : ℕ) (own : Address) (f : Foreign A) (s : Station A) →
    Has ss s → beyond s.role ≡ Some f → host f.manager ss ≡ Some (link.Ip net subnet own) →
    is_among f.address (foreigns_on (subnet_of net subnet) ss) ≡ true
is_foreign {A} ss net subnet own f s there e at = among_has f.address (foreigns_on (subnet_of net subnet) ss)
    (flat_in (λ (t : Station A). foreign_on (subnet_of net subnet) ss (beyond t.role)) ss s f.address there
    (subst (λ (o : Option (Foreign A)). Has (foreign_on (subnet_of net subnet) ss o) f.address) (sym e)
    (subst (λ (l : Option Link). Has (foreign_if f.address (subnet_of net subnet) l) f.address) (sym at)
    (among_if (on_subnet (subnet_of net subnet) (link.Ip net subnet own)) f.address (on_itself net subnet own)))))

-- the manager of a name is a station that manages there
pub record IsHost {A : Type 0} (ss : List (Station A)) (l : Link) : Type 0 where
  pub station : Station A
  pub there : Has ss station
  pub manages : managed_at station.role ≡ Some l

pub host_is : {A : Type 0} (name : List ℕ) (ss : List (Station A)) (l : Link) → host name ss ≡ Some l → IsHost ss l
host_is name [] l e = absurd (cc e)
host_is {A} name (s ∷ ss) l e = by (bytes_eq s.name name) e (λ f. host_is name ss l f)
  where
    by : (b : Bool) → (if b then managed_at s.role else host name ss) ≡ Some l → (host name ss ≡ Some l → IsHost ss l) →
        IsHost (s ∷ ss) l
    by true f more = record { station = s; there = has_first s ss; manages = f }
    by false f more = let rest = more f in
        record { station = rest.station; there = has_next s ss rest.there; manages = rest.manages }

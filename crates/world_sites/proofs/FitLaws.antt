-- The stations of a sound site are fit to open: links are on networks with numbers, a manager is one of its network's,
-- of which there are not too many, and a device has objects that a site may give it.
use Rattle.std.proofs.Common.{◌⊎◌, inl, inr, ◌≡◌, ◌≤◌, ◌∙◌, ◌+◌, ◌==◌, ◌&&◌, ◌||◌, not, refl, sym, ap, subst, arith, cond, if◌then◌else◌, ℕ, Bool, true, false, List, [], ◌∷◌, ◌++◌, length, map, nat_le}
use Rattle.std.specs.List.{AllByRecursion, list_all, list_any}
use Rattle.bbmd.proofs.Times.{itself_is, times-append, times_among}
use Rattle.bbmd.specs.Reach.{times}
use Rattle.bbmd_tables.specs.Tables.{has_few_peers, is_among, others, same_address}
use Rattle.bvll.specs.declared.address.Address.{Address}
use Rattle.profile.specs.Limits.{MAX_PEERS}
use Rattle.node_laws.specs.link_site.Port as site
use Rattle.node_laws.specs.link_site.declared.port.SitePort.{SitePort}
use Rattle.router.specs.Router.{AreNumbered, IsNumbered}
use Rattle.site.specs.Devices.{AreDevices, IsDeviceIn}
use Rattle.site.specs.Links.{are_linked, is_in_range, is_link, is_on, same_kind}
use Rattle.site.specs.Managers.{count_on, managed, managed_in, subnet_at}
use Rattle.site.specs.Networks.{IsNetwork}
use Rattle.site.specs.Sound.{IsSound}
use Rattle.site.specs.declared.managers.SubnetId.{SubnetId}
use Rattle.site_parts.specs.Places.{kind_of, network_of, station_of}
use Rattle.site_parts.specs.Roles.{links_in}
use Rattle.site_parts.specs.declared.parts.Network.{Network}
use Rattle.site_parts.specs.declared.parts.Parts.{Parts}
use Rattle.site_parts.specs.declared.parts.Station.{Station}
use Rattle.site_parts.specs.declared.place.Link.{Link}
use Rattle.site_parts.specs.declared.place.Link.TheVariants as link
use Rattle.site_parts.specs.declared.role.Role.{Role}
use Rattle.site_parts.specs.declared.role.Role.TheVariants as role
use Rattle.site_views.specs.Views.{managed_at, manager_at, managers}
use Rattle.tags.specs.declared.fault.Fault.{Fault}
use Rattle.tags.specs.declared.fault.Fault.TheVariants.{Memory, TableFull}
use Rattle.world_sites.proofs.BoolLaws.{first_of, second_of}
use Rattle.world_sites.specs.Opening.{port_at, ports_at}
use Rattle.world_sites.specs.Fit.{AreFit, HaveNumbers, IsFit, IsManagerFit}

-- a link is on a network with a number
numbered_by : (l : Link) (ns : List Network) → AllByRecursion IsNetwork ns → list_any (is_on l) ns ≡ true →
    IsNumbered (station_of l)
numbered_by l [] range e = absurd (cc e)
numbered_by l (n ∷ ns) range e = by_test (n.number == network_of l) refl (λ f. numbered_by l ns (range.1) f) e
  where
    number_is : (n.number == network_of l) ≡ true → n.number ≡ network_of l
    number_is t = grind (arith, t)

    by_test : (b : Bool) → (n.number == network_of l) ≡ b →
        (list_any (is_on l) ns ≡ true → IsNumbered (station_of l)) →
        ((b && same_kind n.link_kind (kind_of l)) || list_any (is_on l) ns) ≡ true → IsNumbered (station_of l)
    by_test true t rest f = let same = number_is t in (omega (arith, range.0.0, same), omega (arith, range.0.1, same))
    by_test false t rest f = rest f

have_numbers : (ns : List Network) (ls : List Link) → AllByRecursion IsNetwork ns → list_all (is_link ns) ls ≡ true →
    HaveNumbers ls
have_numbers ns [] range e = tt
have_numbers ns (l ∷ ls) range e = (
  numbered_by l ns range
      (second_of (is_in_range l) (list_any (is_on l) ns) (first_of (is_link ns l) (list_all (is_link ns) ls) e)),
  have_numbers ns ls range (second_of (is_link ns l) (list_all (is_link ns) ls) e),
)

module _ {A : Type 0} (all : List (Station A)) where
  -- a manager of the rest is one of all
  abbrev IsRest : List (Station A) → Type 0
  IsRest ss = (a : Address) (n : ℕ) → times a (managers n ss) ≤ times a (managers n all)

  rest_of : (s : Station A) (ss : List (Station A)) → IsRest (s ∷ ss) → IsRest ss
  rest_of s ss up a n =
      let there = up a n in
      omega (arith, there, times-append a (manager_at n (managed_at s.role)) (managers n ss))

  own_once : (n : ℕ) (a : Address) (b : Bool) → b ≡ true → 1 ≤ times a (if b then a ∷ [] else [])
  own_once n a true e = subst (λ (c : Bool). 1 ≤ cond c 1 0 + 0) (sym (itself_is a)) (omega arith)
  own_once n a false e = absurd (cc e)

  same_number : (n : ℕ) → (n == n) ≡ true
  same_number n = grind arith

  is_there : (n k : ℕ) (a : Address) (s : Station A) (ss : List (Station A)) → s.role ≡ role.Manager (link.Ip n k a) →
      IsRest (s ∷ ss) → is_among a (managers n all) ≡ true
  is_there n k a s ss e up =
      let there = up a n in
      let own = own_once n a (n == n) (same_number n) in
      let front : times a (manager_at n (managed_at s.role)) ≡ times a (if n == n then a ∷ [] else []) =
      ap (λ (r : Role A). times a (manager_at n (managed_at r))) e in
      times_among a (managers n all)
      (omega (arith, there, own, front, times-append a (manager_at n (managed_at s.role)) (managers n ss)))

-- so many managers are on a network
one_more : (b : Bool) (a : Address) (ms : List Address) (c : ℕ) → length ms ≡ c →
    length ((if b then a ∷ [] else []) ++ ms) ≡ (if b then 1 else 0) + c
one_more true a ms c e = omega (arith, e)
one_more false a ms c e = omega (arith, e)

no_more : (b : Bool) (ms : List Address) → length ((if b then [] else []) ++ ms) ≡ length ms
no_more true ms = refl
no_more false ms = refl

count_in : {A : Type 0} (n : ℕ) (r : Role A) (ms : List Address) (ps : List SubnetId) → length ms ≡ count_on n ps →
    length (manager_at n (managed_at r) ++ ms) ≡ count_on n (managed_in r ++ ps)
count_in n (role.Manager (link.Ip m k a)) ms ps e = one_more (m == n) a ms (count_on n ps) e
count_in n (role.Manager (link.Bus m mac)) ms ps e = no_more (m == n) ms ∙ e
count_in n (role.Router ls) ms ps e = e
count_in n (role.Device p o) ms ps e = e
count_in n (role.Client p b) ms ps e = e

counted : {A : Type 0} (n : ℕ) (ss : List (Station A)) → length (managers n ss) ≡ count_on n (managed ss)
counted n [] = refl
counted n (s ∷ ss) = count_in n s.role (managers n ss) (managed ss) (counted n ss)

-- a list without one of its own is shorter
shorter : (a : Address) (xs : List Address) → length (others a xs) ≤ length xs
shorter a [] = let none : 0 ≤ 0 = omega arith in none
shorter a (x ∷ xs) = by_test (same_address x a) (shorter a xs)
  where
    by_test : (b : Bool) → length (others a xs) ≤ length xs →
        length (if not b then x ∷ others a xs else others a xs) ≤ length (x ∷ xs)
    by_test true le = omega (arith, le)
    by_test false le = omega (arith, le)

one_less : (a : Address) (xs : List Address) → is_among a xs ≡ true → length (others a xs) + 1 ≤ length xs
one_less a [] e = absurd (cc e)
one_less a (x ∷ xs) e = by_test (same_address x a) (one_less a xs) e
  where
    by_test : (b : Bool) → (is_among a xs ≡ true → length (others a xs) + 1 ≤ length xs) → (b || is_among a xs) ≡ true →
        length (if not b then x ∷ others a xs else others a xs) + 1 ≤ length (x ∷ xs)
    by_test true le f = let rest = shorter a xs in omega (arith, rest)
    by_test false le f = let rest = le f in omega (arith, rest)

few_peers : (a : Address) (xs : List Address) (count : ℕ) → is_among a xs ≡ true → length xs ≡ count →
    nat_le count (MAX_PEERS + 1) ≡ true → has_few_peers a xs ≡ true
few_peers a xs count among is few =
    let most : count ≤ MAX_PEERS + 1 = grind (arith, few) in
    let less = one_less a xs among in
    let peers : nat_le (length (others a xs)) MAX_PEERS ≡ true = grind (arith, less, most, is) in
    let all : nat_le (length xs) (MAX_PEERS + 1) ≡ true = grind (arith, most, is) in
    and_true peers all
  where
    and_true : {b c : Bool} → b ≡ true → c ≡ true → (b && c) ≡ true
    and_true e f = cc (e, f)

module _ {A : Type 0} (ns : List Network) (range : AllByRecursion IsNetwork ns) (all : List (Station A)) where
  abbrev is_few : SubnetId → Bool
  is_few p = nat_le (count_on p.network (managed all)) (MAX_PEERS + 1)

  manager_fits : (l : Link) (s : Station A) (ss : List (Station A)) → s.role ≡ role.Manager l → IsRest all (s ∷ ss) →
      list_all is_few (subnet_at l ++ managed ss) ≡ true → IsManagerFit all l
  manager_fits (link.Ip n k a) s ss e up few =
      let among = is_there all n k a s ss e up in
      let count = first_of (is_few (record { network = n; number = k })) (list_all is_few (managed ss)) few in
      (among, few_peers a (managers n all) (count_on n (managed all)) among (counted n all) count)
  manager_fits (link.Bus n mac) s ss e up few = tt

  few_behind : (r : Role A) (ps : List SubnetId) → list_all is_few (managed_in r ++ ps) ≡ true →
      list_all is_few ps ≡ true
  few_behind (role.Manager (link.Ip n k a)) ps e =
      second_of (is_few (record { network = n; number = k })) (list_all is_few ps) e
  few_behind (role.Manager (link.Bus n mac)) ps e = e
  few_behind (role.Router ls) ps e = e
  few_behind (role.Device p o) ps e = e
  few_behind (role.Client p b) ps e = e

  role_fits : (r : Role A) (s : Station A) (ss : List (Station A)) → s.role ≡ r → IsRest all (s ∷ ss) →
      list_all is_few (managed_in r ++ managed ss) ≡ true → list_all (is_link ns) (links_in r) ≡ true →
      IsDeviceIn s.name r → IsFit all r
  role_fits (role.Manager l) s ss e up few linked device = manager_fits l s ss e up few
  role_fits (role.Router ls) s ss e up few linked device = have_numbers ns ls range linked
  role_fits (role.Device p o) s ss e up few linked device = device.objects
  role_fits (role.Client p b) s ss e up few linked device = tt

  all_fit : (ss : List (Station A)) → IsRest all ss → list_all is_few (managed ss) ≡ true → are_linked ns ss ≡ true →
      AreDevices ss → AreFit all ss
  all_fit [] up few linked devices = tt
  all_fit (s ∷ ss) up few linked devices =
      let here = list_all (is_link ns) (links_in s.role) in (
        role_fits s.role s ss refl up few (first_of here (are_linked ns ss) linked) devices.0,
        all_fit ss (rest_of all s ss up) (few_behind s.role (managed ss) few) (second_of here (are_linked ns ss) linked)
            devices.1,
      )

pub stations_fit : {A : Type 0} (p : Parts A) → IsSound p → AreFit p.stations p.stations
stations_fit p s = all_fit p.networks s.plain.networks.range p.stations p.stations
    (λ a n. let same : times a (managers n p.stations) ≤ times a (managers n p.stations) = omega arith in same)
    s.fit.managed.few s.plain.stations.links s.plain.devices.each

-- the ports of a router with links that have numbers
link_numbered : {A : Type 0} (all : List (Station A)) (l : Link) → IsNumbered (station_of l) →
    IsNumbered (site.station_of (port_at all l))
link_numbered all (link.Ip n k a) numbered = numbered
link_numbered all (link.Bus n m) numbered = numbered

pub ports_numbered : {A : Type 0} (all : List (Station A)) (ls : List Link) → HaveNumbers ls →
    AreNumbered (map site.station_of (ports_at all ls))
ports_numbered all [] h = tt
ports_numbered all (l ∷ ls) h = (link_numbered all l h.0, ports_numbered all ls h.1)

pub these_numbered : {A : Type 0} (all : List (Station A)) (ls : List Link) (ports : List (SitePort A)) →
    ports ≡ ports_at all ls → HaveNumbers ls → AreNumbered (map site.station_of ports)
these_numbered all ls ports e h =
    subst (λ (xs : List (SitePort _)). AreNumbered (map site.station_of xs)) (sym e) (ports_numbered all ls h)

pub ruleset fit_rules = (stations_fit)

-- a manager that is fit is refused for want of memory alone
pub only_memory : {A : Type 0} (all : List (Station A)) (l : Link) (n k : ℕ) (a : Address) (ms : List Address)
    (fault : Fault) → l ≡ link.Ip n k a → ms ≡ managers n all → IsManagerFit all l →
    (fault ≡ Memory) ⊎ ((fault ≡ TableFull) × (has_few_peers a ms ≡ false)) → fault ≡ Memory
only_memory all l n k a ms fault is e fit (inl m) = m
only_memory {A} all l n k a ms fault is e fit (inr t) =
    let fits : IsManagerFit all (link.Ip n k a) = subst (λ (x : Link). IsManagerFit all x) is fit in
    absurd (cc (t.1, fits.1, e))

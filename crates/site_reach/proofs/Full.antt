-- Where each foreign device is registered, tables are full.
use Rattle.std.proofs.Common.{◌≡◌, ◌⊎◌, ⊎_elim, inl, inr, refl, sym, ap, subst, arith, ℕ, zero, suc, ◌≤◌, ◌==◌, Bool, true, false, true≢false, List, [], ◌∷◌, Option, Some, None}
use Rattle.std.specs.Prelude.{◌&&◌, ◌||◌, if◌then◌else◌}
use Rattle.std.specs.List.{AllByRecursion}
use Rattle.bbmd.proofs.Reached.{reaches}
use Rattle.bbmd.proofs.Times.{among_times, same_is, times_among}
use Rattle.bbmd.specs.Reach.{times}
use Rattle.bbmd_manager.specs.State.{ManagerState}
use Rattle.bbmd_tables.specs.Tables.{is_among, lives, same_address, served}
use Rattle.bbmd_tables.specs.declared.registration.Registration.{Registration}
use Rattle.bvll.specs.Address.{address_octets}
use Rattle.bvll.specs.declared.address.Address.{Address}
use Rattle.history.specs.Lists.{Has}
use Rattle.link_site.specs.declared.port.SitePort.{SitePort}
use Rattle.site.specs.Sound.{IsSound}
use Rattle.site_node.specs.Node.{NodeState}
use Rattle.site_node.specs.declared.part.Part.{Part}
use Rattle.site_node.specs.declared.part.Part.TheVariants.{Device, Client, Router, Manager}
use Rattle.site_parts.specs.declared.parts.Parts.{Parts}
use Rattle.site_parts.specs.declared.parts.Station.{Station}
use Rattle.site_reach.proofs.Managers.{AreFew, IsForeignOn, devices, filter_few}
use Rattle.site_reach.proofs.Site.{both_true, foreigns_once, number_is, one_subnet}
use Rattle.site_reach.specs.Laws.{BroadcastsReach, TablesAreFull}
use Rattle.site_reach.specs.Tables.{AreServed, HasItsTable, HasItsTableIfAny, HasItsTables, IsInOrder, subnets_in, table_at, table_in, table_of, tables_in}
use Rattle.site_views.proofs.FullLaws.{managers_are_full}
use Rattle.site_views.specs.Laws.{AreRegistered, first, foreigns_on, managers_on, subnet_of}
use Rattle.world.specs.World.{WorldState}

has_of_first : (xs : List Address) (a : Address) → first xs ≡ Some a → Has xs a
has_of_first [] a e = absurd (cc e)
has_of_first (x ∷ xs) a e = record { place = 0; at_place = e }

module _ {A : Type 0} (p : Parts A) (sound : IsSound p) (net subnet : ℕ) where
  -- those that are registered are foreign devices of the subnet, each once
  abbrev AreJust : List Registration → Type 0
  AreJust rs = AreFew (IsForeignOn p.stations net subnet) rs

  nobody : AreJust []
  nobody = record { each = tt; once = λ a. omega arith }

  module _ (own : Address) (manages : Has (managers_on (subnet_of net subnet) p.stations) own) where
    own_are_just : (m : ManagerState) → HasItsTable p.stations net m → m.tables.own ≡ own → AreJust m.tables.foreign
    own_are_just m has is = subst (λ (k : ℕ). AreFew (IsForeignOn p.stations net k) m.tables.foreign)
        (one_subnet p net has.subnet subnet m.tables.own own sound has.manages manages (ap address_octets is))
        (record { each = has.just; once = has.once })

    part_is_just : (q : Part A) (ports : List (SitePort A)) (rest : List Registration) →
        HasItsTableIfAny p.stations q ports → AreJust rest → AreJust (table_in net own q rest)
    part_is_just (Device d) ports rest has behind = behind
    part_is_just (Client c) ports rest has behind = behind
    part_is_just (Router r) ports rest has behind = behind
    part_is_just (Manager n m) ports rest has behind = by_test ((n == net) && same_address m.tables.own own) refl
      where
        by_test : (b : Bool) → ((n == net) && same_address m.tables.own own) ≡ b →
            AreJust (if b then m.tables.foreign else rest)
        by_test false e = behind
        by_test true e =
            let both = both_true (n == net) (same_address m.tables.own own) e in
            own_are_just m (subst (λ (k : ℕ). HasItsTable p.stations k m) (number_is n net both.0) has.0)
            (same_is m.tables.own own both.1)

    table_is_just : (ns : List (NodeState A)) → AllByRecursion (IsInOrder p.stations) ns → AreJust (table_at net own ns)
    table_is_just [] all = nobody
    table_is_just (n ∷ ns) all =
        part_is_just n.part n.ports (table_at net own ns) all.0.table (table_is_just ns all.1)

  tables_are_just : (ns : List (NodeState A)) → AllByRecursion (IsInOrder p.stations) ns →
      AreJust (table_of net (first (managers_on (subnet_of net subnet) p.stations)) ns)
  tables_are_just ns all = by_first (first (managers_on (subnet_of net subnet) p.stations)) refl
    where
      by_first : (m : Option Address) → first (managers_on (subnet_of net subnet) p.stations) ≡ m →
          AreJust (table_of net m ns)
      by_first None e = nobody
      by_first (Some own) e =
          table_is_just own (has_of_first (managers_on (subnet_of net subnet) p.stations) own e) ns all

any_cases : (b c : Bool) → (b || c) ≡ true → (b ≡ true) ⊎ (c ≡ true)
any_cases true c e = inl refl
any_cases false c e = inr e

registered_is : {A : Type 0} (ss : List (Station A)) (net subnet : ℕ) (a : Address) (rs : List Registration) →
    AllByRecursion (IsForeignOn ss net subnet) rs → is_among a (devices rs) ≡ true →
    is_among a (foreigns_on (subnet_of net subnet) ss) ≡ true
registered_is ss net subnet a [] all e = absurd (true≢false (sym e))
registered_is {A} ss net subnet a (r ∷ rs) all e = ⊎_elim
    (λ (same : same_address r.device a ≡ true).
    subst (λ (x : Address). is_among x (foreigns_on (subnet_of net subnet) ss) ≡ true) (same_is r.device a same) all.0)
    (λ (rest : is_among a (devices rs) ≡ true). registered_is ss net subnet a rs all.1 rest)
    (any_cases (same_address r.device a) (is_among a (devices rs)) e)

-- a number that is at most one is that of another, where each is one when the other is
equal_small : (m n : ℕ) → m ≤ 1 → n ≤ 1 → (1 ≤ m → 1 ≤ n) → (1 ≤ n → 1 ≤ m) → m ≡ n
equal_small zero zero a b f g = refl
equal_small zero (suc n) a b f g = let none = g (omega arith) in absurd (omega (arith, none))
equal_small (suc m) zero a b f g = let none = f (omega arith) in absurd (omega (arith, none))
equal_small (suc m) (suc n) a b f g = omega (arith, a, b)

are_registered : {A : Type 0} (w : WorldState A) (net : ℕ) → HasItsTables w → AreServed w net →
    AreRegistered w.moment net w.site.stations (tables_in w net)
are_registered {A} w net has all = record {
  just = λ subnet a.
      let rs = tables_in w net subnet in
      let foreigns = foreigns_on (subnet_of net subnet) w.site.stations in
      let just = tables_are_just w.site has.sound net subnet w.nodes has.nodes in
      let once : times a (devices rs) ≤ 1 = just.once a in
      let few : times a (served w.moment rs) ≤ times a (devices rs) = filter_few (λ r. lives w.moment r) a rs in
      equal_small (times a (served w.moment rs)) (times a foreigns) (omega (arith, few, once))
      (foreigns_once w.site has.sound net subnet a)
      (λ some. among_times a foreigns (registered_is w.site.stations net subnet a rs just.each
      (times_among a (devices rs) (omega (arith, few, some)))))
      (λ some. among_times a (served w.moment rs) (all.each subnet a (times_among a foreigns some)));
}

pub tables_full : {A : Type 0} → TablesAreFull A
tables_full w net has all =
    managers_are_full w.site w.moment w.moment net (tables_in w net) has.sound (are_registered w net has all)

pub all_reached : {A : Type 0} → BroadcastsReach A
all_reached w net origin npdu has all short there =
    reaches w.moment origin npdu (subnets_in w net) short (tables_full w net has all) there

-- Who hears a broadcast that goes through the managers of a network (J.4.5).
use Rattle.std.specs.Prelude.{◌≡◌, ◌≤◌, ◌⊎◌, ℕ, ◌+◌, true, not, cond, List, [], ◌∷◌, ◌++◌, map, filter, flat_map}
use Rattle.std.specs.Prelude.{option_to_list, Option, Some, None, is_some, length}
use Rattle.std.specs.List.{AllByRecursion}
use Rattle.bvll.specs.declared.address.Address.{Address}
use Rattle.bvll.specs.Datagram.{Datagram}
use Rattle.bvll.specs.Datagram as bvll
use Rattle.profile.specs.declared.link_kind.LinkKind.TheVariants.{BacnetIp}
use Rattle.profile.specs.LinkKind.{max_npdu}
use Rattle.bbmd.specs.declared.spreading.Subnet.{Subnet}
use Rattle.bbmd_tables.specs.Tables.{is_among, others, peers_of, same_address, served}
use Rattle.bbmd_manager.specs.State.{ManagerState}
use Rattle.bbmd_manager.specs.Manager.{Saying, carrying, from_one, said}

-- a datagram on its way between two addresses
pub record Going : Type 0 where
  pub from : Address
  pub to : Address
  pub what : Datagram

-- how often an address stands in a list
abbrev pub times : Address → List Address → ℕ
times a [] = 0
times a (x ∷ xs) = cond (same_address x a) 1 0 + times a xs

-- the managers of a network
abbrev pub managers_of : {A : Type 0} → List (Subnet A) → List ManagerState
managers_of ss = flat_map (λ s. option_to_list s.manager) ss

-- where they are
abbrev pub owns : List ManagerState → List Address
owns ms = map (λ m. m.tables.own) ms

-- a datagram to each of these
abbrev pub going_to : Address → Datagram → List Address → List Going
going_to from what to = map (λ a. record { from = from; to = a; what = what }) to

-- what goes out from here, where something is said
abbrev pub going : Address → Option Saying → List Going
going from None = []
going from (Some s) = going_to from s.what s.to

-- what a manager forwards of a datagram that comes to its address
abbrev pub passed_by : ℕ → Going → ManagerState → List Going
passed_by now g m = cond (same_address g.to m.tables.own) (going m.tables.own (carrying (said now g.from m g.what))) []

-- what managers forward of datagrams, each of which comes to its address once
abbrev pub passed : ℕ → List ManagerState → List Going → List Going
passed now ms gs = flat_map (λ g. flat_map (passed_by now g) ms) gs

-- what an origin says to a manager that serves it (J.2.10)
abbrev pub asked_of : ℕ → Address → List ℕ → ManagerState → List Going
asked_of now origin npdu m = going origin (from_one (is_among origin (served now m.tables.foreign)) (record {
  to = m.tables.own ∷ [];
  what = bvll.distribute npdu;
}))

-- what an origin says to all other members, where it is one (J.2.12)
abbrev pub broadcast_of : Address → List ℕ → List Address → List Going
broadcast_of origin npdu members = going origin (from_one (is_among origin members) (record {
  to = others origin members;
  what = bvll.broadcast npdu;
}))

-- what an origin says in a subnet: as a member to all others of it, as a foreign device to the manager
abbrev pub begun_in : {A : Type 0} → ℕ → Address → List ℕ → Subnet A → List Going
begun_in now origin npdu s =
    broadcast_of origin npdu s.members ++ flat_map (asked_of now origin npdu) (option_to_list s.manager)

-- what an origin says in a network
abbrev pub begun : {A : Type 0} → ℕ → Address → List ℕ → List (Subnet A) → List Going
begun now origin npdu ss = flat_map (begun_in now origin npdu) ss

-- what goes, then what managers forward of it, then what they forward of that
abbrev pub three_ways : ℕ → List ManagerState → List Going → List Going
three_ways now ms gs = gs ++ (passed now ms gs ++ passed now ms (passed now ms gs))

-- the stations among addresses: those that are no managers
abbrev pub stations : List ManagerState → List Address → List Address
stations ms xs = filter (λ a. not (is_among a (owns ms))) xs

-- the stations that hear a broadcast, as often as they do
abbrev pub hearers : {A : Type 0} → ℕ → Address → List ℕ → List (Subnet A) → List Address
hearers now origin npdu ss =
    stations (managers_of ss) (map (λ g. g.to) (three_ways now (managers_of ss) (begun now origin npdu ss)))

-- the members of a subnet, and the foreign devices that its manager serves
abbrev pub all_in : {A : Type 0} → ℕ → Subnet A → List Address
all_in now s = s.members ++ flat_map (λ m. served now m.tables.foreign) (option_to_list s.manager)

-- all members and foreign devices of a network
abbrev pub everyone : {A : Type 0} → ℕ → List (Subnet A) → List Address
everyone now ss = flat_map (all_in now) ss

-- a manager is a member of the subnet whose members it knows, and its peers are the other managers, each once
pub record IsManaged (ms : List ManagerState) (members : List Address) (m : ManagerState) : Type 0 where
  pub knows : m.tables.members ≡ members
  pub itself : is_among m.tables.own members ≡ true
  pub peers : (a : Address) → times a (peers_of m.tables) ≡ times a (others m.tables.own (owns ms))

-- full tables (J.4.3): managers as above, one in each of several subnets, and no address twice among members and
-- foreign devices
pub record AreFull {A : Type 0} (now : ℕ) (ss : List (Subnet A)) : Type 0 where
  pub managed : AllByRecursion (λ s.
      AllByRecursion (IsManaged (managers_of ss) s.members) (option_to_list s.manager)) ss
  pub several : (length ss ≤ 1) ⊎ AllByRecursion (λ s. is_some s.manager ≡ true) ss
  pub apart : (a : Address) → times a (everyone now ss) ≤ 1

-- each other station hears it once, and nobody else does
pub record IsReached {A : Type 0} (now : ℕ) (origin : Address) (ss : List (Subnet A)) (heard : List Address) :
    Type 0 where
  pub once : (a : Address) → times a heard ≡ times a (others origin (stations (managers_of ss) (everyone now ss)))

-- a broadcast of a member or a foreign device over full tables, which isn't too long, reaches each other station once
-- (J.4.5)
abbrev pub Reaches : Type 0 → Type 0
Reaches A = (now : ℕ) (origin : Address) (npdu : List ℕ) (ss : List (Subnet A)) → length npdu ≤ max_npdu BacnetIp →
    AreFull now ss →
    is_among origin (stations (managers_of ss) (everyone now ss)) ≡ true →
    IsReached now origin ss (hearers now origin npdu ss)

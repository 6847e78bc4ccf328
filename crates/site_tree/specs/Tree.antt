-- Networks and routers as one tree (3.2).
use Rattle.std.specs.Prelude.{◌≡◌, ◌==◌, ◌+◌, if◌then◌else◌, ℕ, Bool, true, false, not, List, [], ◌∷◌, ◌&&◌, map}
use Rattle.std.specs.Prelude.{length}
use Rattle.std.specs.List.{AllByRecursion, list_any, list_all}
use Rattle.site_parts.specs.declared.parts.Network.{Network}
use Rattle.site_parts.specs.declared.role.Role.{Role}
use Rattle.site_parts.specs.declared.role.Role.TheVariants as role
use Rattle.site_parts.specs.declared.parts.Station.{Station}
use Rattle.site_parts.specs.Places.{network_of}
use Rattle.site_parts.specs.Roles.{ports_in}

-- the networks of a router's ports
abbrev pub port_networks : {A : Type 0} → Station A → List ℕ
port_networks s = map network_of (ports_in s.role)

abbrev pub numbers : List Network → List ℕ
numbers ns = map (λ n. n.number) ns

-- networks that no router leads out of: who has a port on one of them has all its ports on them
abbrev pub IsClosed : {A : Type 0} → (ℕ → Bool) → List (Station A) → Type 0
IsClosed here stations =
    AllByRecursion (λ s. list_any here (port_networks s) ≡ true → list_all here (port_networks s) ≡ true) stations

-- whoever begins with the first network and follows the routers comes to all of them
abbrev pub IsJoined : {A : Type 0} → List ℕ → List (Station A) → Type 0
IsJoined [] stations = ⊥
IsJoined (n ∷ ns) stations = (here : ℕ → Bool) → here n ≡ true → IsClosed here stations → list_all here (n ∷ ns) ≡ true

-- how many nodes a station is in the graph of networks and routers
abbrev pub nodes_in : {A : Type 0} → Role A → ℕ
nodes_in (role.Router ports) = 1
nodes_in (role.Manager l) = 0
nodes_in (role.Device p objects) = 0
nodes_in (role.Client p segmented) = 0

abbrev pub routers : {A : Type 0} → List (Station A) → ℕ
routers [] = 0
routers (s ∷ ss) = nodes_in s.role + routers ss

abbrev pub ports : {A : Type 0} → List (Station A) → ℕ
ports [] = 0
ports (s ∷ ss) = length (ports_in s.role) + ports ss

-- networks and routers form one tree, a port joining its router to its network: all are joined, and there is one port
-- less than there are networks and routers, so that none closes a ring
pub record IsOneTree {A : Type 0} (networks : List Network) (stations : List (Station A)) : Type 0 where
  pub joined : IsJoined (numbers networks) stations
  pub no_ring : ports stations + 1 ≡ length networks + routers stations

-- a number stands in a list
abbrev pub is_among : ℕ → List ℕ → Bool
is_among n ns = list_any (λ m. m == n) ns

-- a router joins a network to one that isn't apart: it has a port on either
abbrev pub joins : {A : Type 0} → Station A → List ℕ → ℕ → Bool
joins s apart n = is_among n (port_networks s) && list_any (λ m. not (is_among m apart)) (port_networks s)

abbrev pub leads : {A : Type 0} → List (Station A) → List ℕ → ℕ → Bool
leads stations apart n = list_any (λ s. joins s apart n) stations

-- a number but for one
abbrev pub but : ℕ → ℕ → List ℕ
but except n = if n == except then [] else n ∷ []

-- each port is on a network of the site
abbrev pub ArePortsThere : {A : Type 0} → List ℕ → List (Station A) → Type 0
ArePortsThere ns stations = AllByRecursion (λ s. list_all (λ n. is_among n ns) (port_networks s) ≡ true) stations

-- while the networks are joined one after another: those that are still apart are some of the site's, without the
-- first, and all others are come to by whoever begins with the first
pub record IsBetween {A : Type 0} (first : ℕ) (ns : List ℕ) (stations : List (Station A)) (apart : List ℕ) :
    Type 0 where
  pub begun : is_among first apart ≡ false
  pub some : (n : ℕ) → is_among n apart ≡ true → is_among n ns ≡ true
  pub come : (here : ℕ → Bool) → here first ≡ true → IsClosed here stations →
      (n : ℕ) → is_among n ns ≡ true → is_among n apart ≡ false → here n ≡ true

-- Broadcast managers of a site: where they have to be, and how many there may be.
use Rattle.std.specs.Prelude.{◌==◌, ◌&&◌, ◌||◌, ◌+◌, if◌then◌else◌, ℕ, Bool, List, [], ◌∷◌, not, nat_le}
use Rattle.std.specs.List.{flat_map, list_all, list_any}
use Rattle.profile.specs.Limits.{MAX_PEERS}
use Rattle.site_parts.specs.declared.parts.Station.{Station}
use Rattle.site_parts.specs.declared.place.Link.{Link}
use Rattle.site_parts.specs.declared.place.Link.TheVariants as link
use Rattle.site_parts.specs.declared.role.Role.{Role}
use Rattle.site_parts.specs.declared.role.Role.TheVariants as role
use Rattle.site_parts.specs.Roles.{links_in}
use Rattle.site.specs.declared.managers.SubnetId.{SubnetId}

-- the subnet of a link
abbrev pub subnet_at : Link → List SubnetId
subnet_at (link.Ip network subnet address) = record { network = network; number = subnet } ∷ []
subnet_at (link.Bus network mac) = []

-- the subnets that stations stand on, one for each link
abbrev pub subnets : {A : Type 0} → List (Station A) → List SubnetId
subnets ss = flat_map (λ s. flat_map subnet_at (links_in s.role)) ss

-- the subnets that have a manager
abbrev pub managed_in : {A : Type 0} → Role A → List SubnetId
managed_in (role.Manager l) = subnet_at l
managed_in (role.Router ports) = []
managed_in (role.Device p objects) = []
managed_in (role.Client p segmented) = []

abbrev pub managed : {A : Type 0} → List (Station A) → List SubnetId
managed ss = flat_map (λ s. managed_in s.role) ss

abbrev pub is_one : SubnetId → SubnetId → Bool
is_one p q = (p.network == q.network) && (p.number == q.number)

-- two subnets are one, or of different networks
abbrev pub is_apart : SubnetId → SubnetId → Bool
is_apart p q = not (p.network == q.network) || (p.number == q.number)

-- a subnet has a manager, or its network has no other (J.4.3)
abbrev pub is_covered : List SubnetId → List SubnetId → SubnetId → Bool
is_covered with_manager all p = list_any (is_one p) with_manager || list_all (is_apart p) all

abbrev pub are_covered : List SubnetId → List SubnetId → List SubnetId → Bool
are_covered with_manager all some = list_all (is_covered with_manager all) some

-- how many of some subnets are of a network
abbrev pub count_on : ℕ → List SubnetId → ℕ
count_on n [] = 0
count_on n (p ∷ ps) = (if p.network == n then 1 else 0) + count_on n ps

-- each manager has at most MAX_PEERS peers: of a network that has a manager there is only one more (J.4.3)
abbrev pub are_few : List SubnetId → List SubnetId → Bool
are_few all some = list_all (λ p. nat_le (count_on p.network all) (MAX_PEERS + 1)) some

-- What the tables of a broadcast manager say (J.4.3, J.5.2).
use Rattle.std.specs.Prelude.{ℕ, ◌+◌, ◌-◌, ◌*◌, ◌/◌, ◌==◌, ◌&&◌, nat_eq, nat_le, nat_lt, not, min, Bool, true, false}
use Rattle.std.specs.Prelude.{List, [], ◌∷◌, ◌++◌, map, filter, length, Option, Some, None}
use Rattle.std.specs.List.{list_any}
use Rattle.std.specs.Cmp.Lexicographic.{pointwise}
use Rattle.bvll.specs.declared.address.Address.{Address}
use Rattle.bvll.specs.declared.entry.DistributionEntry.{DistributionEntry}
use Rattle.bvll.specs.declared.entry.ForeignDevice.{ForeignDevice}
use Rattle.bbmd_tables.specs.declared.registration.Registration.{Registration}
use Rattle.profile.specs.Limits.{MAX_FOREIGN_DEVICES, MAX_PEERS}
use Rattle.profile.specs.Times.{GRACE_SECONDS}

-- two addresses have the same octets and port (J.1.2)
abbrev pub same_address : Address → Address → Bool
same_address a b = pointwise nat_eq a.ip b.ip && (a.port == b.port)

-- the address is one of these
abbrev pub is_among : Address → List Address → Bool
is_among a xs = list_any (λ x. same_address x a) xs

-- these without that address
abbrev pub others : Address → List Address → List Address
others a xs = filter (λ x. not (same_address x a)) xs

-- how long a registration lives, in milliseconds: for its seconds and those of grace (J.5.2.3)
abbrev pub life : Registration → ℕ
life r = 1000 * (r.seconds_to_live + GRACE_SECONDS)

-- it lives as long as it is not older than that
abbrev pub lives : ℕ → Registration → Bool
lives now r = nat_le (now - r.at) (life r)

-- the whole seconds until then, at most 65535 (J.2.8)
abbrev pub seconds_left : ℕ → Registration → ℕ
seconds_left now r = min ((life r - (now - r.at)) / 1000) 65535

-- the entry that tells of a registration (J.2.8)
abbrev pub told : ℕ → Registration → ForeignDevice
told now r = record {
  address = r.device;
  seconds_to_live = r.seconds_to_live;
  seconds_left = seconds_left now r;
}

-- the entry of a manager, whose mask asks for two hops (J.2.2, J.4.3)
abbrev pub two_hops : Address → DistributionEntry
two_hops a = record { address = a; mask = 255 ∷ (255 ∷ (255 ∷ (255 ∷ []))) }

-- the registrations that live
abbrev pub living : ℕ → List Registration → List Registration
living now rs = filter (lives now) rs

-- the foreign devices that are served
abbrev pub served : ℕ → List Registration → List Address
served now rs = map (λ r. r.device) (living now rs)

-- the registrations that live, without that of this device
abbrev pub without : ℕ → Address → List Registration → List Registration
without now a rs = filter (λ r. lives now r && not (same_address r.device a)) rs

-- there is room for this device: so few others are served (J.2.6)
abbrev pub has_room : ℕ → Address → List Registration → Bool
has_room now a rs = nat_lt (length (without now a rs)) MAX_FOREIGN_DEVICES

-- what is known of foreign devices once this one asked for so many seconds, where there is room (J.2.6)
abbrev pub registered : Bool → ℕ → Address → ℕ → List Registration → List Registration
registered true now from seconds rs =
    without now from rs ++ record { device = from; seconds_to_live = seconds; at = now } ∷ []
registered false now from seconds rs = rs

-- the tables of a manager: itself, the members of its subnet, all managers of the network, its foreign devices
pub record TablesState : Type 0 where
  pub own : Address
  pub members : List Address
  pub managers : List Address
  pub foreign : List Registration

-- the members of its subnet, without itself
abbrev pub members_of : TablesState → List Address
members_of t = others t.own t.members

-- the other managers
abbrev pub peers_of : TablesState → List Address
peers_of t = others t.own t.managers

-- the tables of a manager for whom no foreign device is registered (J.4.3)
abbrev pub new_tables : Address → List Address → List Address → TablesState
new_tables own members managers = record { own = own; members = members; managers = managers; foreign = [] }

-- so few other managers, and itself once (J.4.3)
abbrev pub has_few_peers : Address → List Address → Bool
has_few_peers own managers =
    nat_le (length (others own managers)) MAX_PEERS && nat_le (length managers) (MAX_PEERS + 1)

-- who hears what a foreign device has distributed: members, managers, the other foreign devices (J.4.5)
abbrev pub all_but : ℕ → Address → TablesState → List Address
all_but now from t = members_of t ++ (peers_of t ++ others from (served now t.foreign))

-- these, where it is from one of those
abbrev pub listed : Bool → List Address → Option (List Address)
listed true to = Some to
listed false to = None

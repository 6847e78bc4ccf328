-- Foreign devices, and the managers at which they register (J.5).
use Rattle.std.specs.Prelude.{◌==◌, ◌&&◌, ◌+◌, if◌then◌else◌, ℕ, Bool, true, false, nat_lt, nat_le, List, [], ◌∷◌}
use Rattle.std.specs.Prelude.{Option, Some, None, bytes_eq}
use Rattle.std.specs.List.{list_any, list_all}
use Rattle.profile.specs.Limits.{MAX_FOREIGN_DEVICES}
use Rattle.site_parts.specs.declared.parts.Station.{Station}
use Rattle.site_parts.specs.declared.place.Foreign.{Foreign}
use Rattle.site_parts.specs.declared.role.Role.{Role}
use Rattle.site_parts.specs.declared.role.Role.TheVariants as role
use Rattle.site_parts.specs.Places.{network_of}
use Rattle.site_parts.specs.Roles.{beyond}

-- a manager, on this network where one is named
abbrev pub is_manager_on : {A : Type 0} → Option ℕ → Role A → Bool
is_manager_on None (role.Manager l) = true
is_manager_on (Some n) (role.Manager l) = n == network_of l
is_manager_on n (role.Router ports) = false
is_manager_on n (role.Device p objects) = false
is_manager_on n (role.Client p segmented) = false

-- the manager at which a place registers
abbrev pub is_host : {A : Type 0} → Foreign A → Station A → Bool
is_host f s = bytes_eq s.name f.manager && is_manager_on f.network s.role

-- 1 to 65535 seconds to live (J.5.2)
abbrev pub is_time : ℕ → Bool
is_time seconds = nat_lt 0 seconds && nat_lt seconds 65536

-- a place registers for so many seconds at a manager of the site (J.5)
abbrev pub is_registered : {A : Type 0} → List (Station A) → Foreign A → Bool
is_registered all f = is_time f.seconds_to_live && list_any (is_host f) all

abbrev pub is_sound_beyond : {A : Type 0} → List (Station A) → Option (Foreign A) → Bool
is_sound_beyond all None = true
is_sound_beyond all (Some f) = is_registered all f

abbrev pub are_registered : {A : Type 0} → List (Station A) → List (Station A) → Bool
are_registered all some = list_all (λ s. is_sound_beyond all (beyond s.role)) some

-- how many of the stations register at the manager of a name
abbrev pub is_at : {A : Type 0} → List ℕ → Option (Foreign A) → Bool
is_at name None = false
is_at name (Some f) = bytes_eq f.manager name

abbrev pub count_at : {A : Type 0} → List ℕ → List (Station A) → ℕ
count_at name [] = 0
count_at name (s ∷ ss) = (if is_at name (beyond s.role) then 1 else 0) + count_at name ss

-- at most MAX_FOREIGN_DEVICES at one manager (J.5.2)
abbrev pub are_few_beyond : {A : Type 0} → List (Station A) → List (Station A) → Bool
are_few_beyond all some = list_all (λ s. nat_le (count_at s.name all) MAX_FOREIGN_DEVICES) some

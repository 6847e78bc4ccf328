-- Which frames of a bus are settled: nothing that an ear of it hears can deliver them (9.3).
use Rattle.std.specs.Prelude.{◌≡◌, ◌≤◌, ℕ, ◌==◌, ◌||◌, Bool, true, List, ◌++◌, drop, length, take}
use Rattle.std.specs.List.{list_all}
use Rattle.bus_traffic.specs.Sendings.{delivered, is_heard_at}
use Rattle.bus_traffic.specs.declared.ear.Ear.{Ear}
use Rattle.bus_traffic.specs.declared.sending.Recent.{Recent}

-- a frame was delivered at an ear, or its station put it out
abbrev pub is_done_at : {A : Type 0} → Recent A → Ear → Bool
is_done_at r e = is_heard_at e.address r || (e.address == r.sending.sender)

-- .. at each of these
abbrev pub is_done : {A : Type 0} → List Ear → Recent A → Bool
is_done ears r = list_all (λ e. is_done_at r e) ears

-- so many frames in front were delivered at each of these ears, or put out by its station
pub record AreSettled {A : Type 0} (ears : List Ear) (rs : List (Recent A)) (count : ℕ) : Type 0 where
  pub within : count ≤ length rs
  pub done : list_all (λ r. is_done ears r) (take count rs) ≡ true

-- octets that are delivered at an address are none of so many frames in front
abbrev pub ArePassed : {A : Type 0} → (now address : ℕ) → (octets : List ℕ) → List (Recent A) → (count : ℕ) → Type 0
ArePassed now address octets rs count =
    take count rs ++ delivered now address octets (drop count rs) ≡ delivered now address octets rs

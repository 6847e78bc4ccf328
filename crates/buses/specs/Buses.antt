-- What the code keeps of the buses of a site.
use Rattle.std.specs.Prelude.{ℕ, map}
use Rattle.std.specs.List.{AllByRecursion}
use Rattle.bus_traffic.specs.Bus.{HasRoom, bus_of}
use Rattle.buses.specs.Puts.{BusesState}
use Rattle.buses.specs.declared.buses.Buses.{Buses}

-- what the code keeps, whatever room there is
abbrev pub buses_of : {A : Type 0} → Buses A → BusesState A
buses_of b = record { buses = map (λ o. bus_of o) b.buses.items; frames = b.frames }

-- there is room for so many frames on each
abbrev pub HaveRoom : {A : Type 0} → (count : ℕ) → Buses A → Type 0
HaveRoom count b = AllByRecursion (λ o. HasRoom count o) b.buses.items

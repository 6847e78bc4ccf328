-- What is known on the buses of a site, as things on their way.
use Rattle.std.specs.Prelude.{◌≡◌, ◌⊎◌, ℕ, List, map}
use Rattle.std.specs.List.{flat_map}
use Rattle.history.specs.Lists.{Has}
use Rattle.bus_traffic.specs.Bus.{BusState}
use Rattle.buses.specs.Puts.{BusesState, put_on}
use Rattle.traffic.specs.declared.frame.FramePut.{FramePut}

-- what is known of a bus: each frame as a thing of its network, its octets and its stamp (9.3)
abbrev pub known_as : {A X : Type 0} → (ℕ → List ℕ → ℕ → X) → BusState A → List X
known_as f b = map (λ k. f b.net k.octets k.stamp) b.known

-- .. of each of these
abbrev pub all_known : {A X : Type 0} → (ℕ → List ℕ → ℕ → X) → List (BusState A) → List X
all_known f bs = flat_map (known_as f) bs

-- a thing is one of these frames
pub record IsPutAs {A X : Type 0} (f : ℕ → List ℕ → ℕ → X) (fs : List (FramePut A)) (x : X) : Type 0 where
  pub frame : FramePut A
  pub there : Has fs frame
  pub is : x ≡ f frame.net frame.octets frame.stamp

-- what is known of one frame: its network, its octets, and the youngest stamp with which it was put out there
pub record KnownFrame : Type 0 where
  pub net : ℕ
  pub octets : List ℕ
  pub stamp : ℕ

-- what is known of a frame, as it is
abbrev pub as_known : (net : ℕ) → (octets : List ℕ) → (stamp : ℕ) → KnownFrame
as_known net octets stamp = record { net = net; octets = octets; stamp = stamp }

-- what is known once frames were put out was known before, or is one of them (9.3)
abbrev pub PutsAreKnown : Type 0 → Type 0
PutsAreKnown A = (now items : ℕ) (fs : List (FramePut A)) (b : BusesState A) (x : KnownFrame) →
    Has (all_known as_known (put_on now items fs b).buses) x →
    Has (all_known as_known b.buses) x ⊎ IsPutAs as_known fs x

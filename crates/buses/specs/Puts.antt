-- Frames that are put out on the buses of a site.
use Rattle.std.specs.Prelude.{ℕ, ◌+◌, ◌-◌, ◌^◌, ◌==◌, min, List, [], ◌∷◌, if◌then◌else◌}
use Rattle.bus_traffic.specs.Bus.{BusState, put_out}
use Rattle.bus_traffic.specs.declared.sending.Sending.{Sending}
use Rattle.traffic.specs.declared.frame.FramePut.{FramePut}

-- What goes over the buses of a site (9). buses: in the order of the site. frames: how many frames were put out on all
-- of them.
pub record BusesState (A : Type 0) : Type 0 where
  pub buses : List (BusState A)
  pub frames : ℕ

-- frames that are put out behind so many datagrams
pub record PutsState (A : Type 0) : Type 0 where
  pub items : ℕ
  pub frames : List (FramePut A)

-- a count of so many and so many more, which stays at the greatest number
abbrev pub counted : (count more : ℕ) → ℕ
counted count more = min (count + more) (2 ^ 64 - 1)

-- a frame that is put out behind so many datagrams of earlier steps and so many frames, as a sending (9.3)
abbrev pub sending_of : {A : Type 0} → (items frames : ℕ) → FramePut A → Sending A
sending_of items frames f = record {
  sender = f.sender;
  octets = f.octets;
  stamp = f.stamp;
  place = record { items = counted items f.behind; frames = frames };
}

-- it is put out on the first bus of a number at a moment, if there is one (6.1, 9.3)
abbrev pub put_at : {A : Type 0} → (now net : ℕ) → Sending A → List (BusState A) → List (BusState A)
put_at now net s [] = []
put_at now net s (b ∷ bs) = if b.net == net then put_out now s b ∷ bs else b ∷ put_at now net s bs

-- a frame is put out at a moment behind so many datagrams
abbrev pub put_one : {A : Type 0} → (now items : ℕ) → FramePut A → BusesState A → BusesState A
put_one now items f b = record {
  buses = put_at now f.net (sending_of items b.frames f) b.buses;
  frames = counted b.frames 1;
}

-- frames are put out at a moment one after another, behind so many datagrams
abbrev pub put_on : {A : Type 0} → (now items : ℕ) → List (FramePut A) → BusesState A → BusesState A
put_on now items [] b = b
put_on now items (f ∷ fs) b = put_on now items fs (put_one now items f b)

-- What the buses of a site may forget, and what is left of them then.
use Rattle.std.specs.Prelude.{◌≡◌, ℕ}
use Rattle.bus_traffic.specs.Forgetting.{ForgetsOn, KeepsBus, KeepsEach}
use Rattle.buses.specs.Puts.{BusesState}

-- this is kept of the buses of a site, of each in order, and how many frames were put out on all of them
pub record KeepsBuses {A : Type 0} (now : ℕ) (all kept : BusesState A) : Type 0 where
  pub each : KeepsEach (KeepsBus now) all.buses kept.buses
  pub frames : kept.frames ≡ all.frames

-- each bus forgets what is too old to be heard; how many frames were put out stays
pub record ForgetOnEach {A : Type 0} (now : ℕ) (old new : BusesState A) : Type 0 where
  pub each : KeepsEach (ForgetsOn now) old.buses new.buses
  pub frames : new.frames ≡ old.frames

-- Moments by place, and which of them have come.
use Rattle.std.specs.Prelude.{◌≡◌, ◌<◌, ◌≤◌, ℕ, ◌*◌, ◌+◌, List, length, Some, slice_get}

-- none of so many moments, from a first one on, is earlier than this
pub record IsFloor (floor first count : ℕ) (moments : List ℕ) : Type 0 where
  pub below : (rest m : ℕ) → rest < count → slice_get moments (first + rest) ≡ Some m → floor ≤ m

-- from one place on, up to another, no moment has come
pub record NoneIsDue (from end now : ℕ) (moments : List ℕ) : Type 0 where
  pub none : (place m : ℕ) → from ≤ place → place < end → slice_get moments place ≡ Some m → now < m

-- this is the first place, from one on, at which the moment has come
pub record IsFirstDue (from now : ℕ) (moments : List ℕ) (place : ℕ) : Type 0 where
  pub behind : from ≤ place
  pub moment : ℕ
  pub there : slice_get moments place ≡ Some moment
  pub due : moment ≤ now
  pub first : NoneIsDue from place now moments

-- each block of sixteen moments has its floor
pub record AreFloors (floors moments : List ℕ) : Type 0 where
  pub enough : length moments ≤ 16 * length floors
  pub are : (block floor : ℕ) → slice_get floors block ≡ Some floor → IsFloor floor (16 * block) 16 moments

-- The places of the requests that are gathered.
use Rattle.std.specs.Prelude.{◌≡◌, ℕ, true, List, Some, slice_get}
use Rattle.server_answers.specs.remembered.declared.record.Asker.{Asker}
use Rattle.server_answers.specs.Gathering.{gathering_of, is_for}
use Rattle.server_answers.specs.declared.gathering.RequestGathering.{RequestGathering}

-- at this place is what came of a request of this asker, which is not too old
pub record IsPlaceOf {A : Type 0} (now : ℕ) (asker : Asker) (xs : List (RequestGathering A)) (place : ℕ) : Type 0 where
  pub a : RequestGathering A
  pub there : slice_get xs place ≡ Some a
  pub for_it : is_for asker a ≡ true
  pub is : gathering_of now asker xs ≡ Some a

-- What comes of an input to a device.
use Rattle.std.specs.Prelude.{List, Option}
use Rattle.npdu.specs.declared.parcel.Parcel.{Parcel}
use Rattle.server_tsm.specs.server_answers.Executed.{Executed}

-- what is said, in order, and the request that was executed, if one was (5.4.5)
pub record DeviceTold (A : Type 0) : Type 0 where
  pub said : List (Parcel A)
  pub executed : Option (Executed A)

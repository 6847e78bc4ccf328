-- What comes of an input to a client other than an issue.
use Rattle.std.specs.Prelude.{List}
use Rattle.npdu.specs.declared.parcel.Parcel.{Parcel}
use Rattle.client_tsm.specs.declared.plan.TransactionOutcome.{TransactionOutcome}

-- what is said, and what came of transactions, each in order (5.4.4)
pub record ClientTold (A : Type 0) : Type 0 where
  pub said : List (Parcel A)
  pub outcomes : List (TransactionOutcome A)

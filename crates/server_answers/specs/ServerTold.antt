-- What comes of an input to a server.
use Rattle.std.specs.Prelude.{List, Option}
use Rattle.server_answers.specs.Executed.{Executed}
use Rattle.server_answers.specs.declared.said.ServerSaid.{ServerSaid}

-- what is said, in order, and the request that was executed, if one was (5.4.5)
pub record ServerTold (A : Type 0) : Type 0 where
  pub said : List (ServerSaid A)
  pub executed : Option (Executed A)

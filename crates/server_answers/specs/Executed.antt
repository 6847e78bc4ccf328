-- A request that is executed.
use Rattle.primitives.specs.declared.plain_data.Reply.{Reply}
use Rattle.primitives.specs.declared.plain_data.Request.{Request}
use Rattle.remembered.specs.declared.record.Asker.{Asker}

-- who asked, the request, and what the objects reply to it (5.4.5)
pub record Executed (A : Type 0) : Type 0 where
  pub asker : Asker
  pub request : Request A
  pub reply : Reply A

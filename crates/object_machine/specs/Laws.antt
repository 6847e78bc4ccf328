-- The object machine by rows is the one that the code is proved by.
use Rattle.std.specs.Prelude.{◌≡◌}
use Rattle.object_machine.specs.Machine as rows
use Rattle.object_model.specs.Objects.{PlainTable}
use Rattle.objects.specs.Machine as code
use Rattle.primitives.specs.declared.plain_data.Request.{Request}

-- the outcome of each request is that of the machine by property (12, 15, 19)
abbrev pub IsByRows : Type 0 → Type 0
IsByRows A = (t : PlainTable A) (q : Request A) → code.outcome t q ≡ rows.outcome t q

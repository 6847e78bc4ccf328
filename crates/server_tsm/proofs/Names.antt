-- The names that don't compute, where the code makes what they stand for.
use Rattle.std.proofs.Common.{◌≡◌, sym}
use Rattle.objects.specs.Machine.{reply, after}
use Rattle.object_model.specs.Objects.{PlainTable}
use Rattle.primitives.specs.declared.plain_data.Request.{Request}
use Rattle.server_answers.proofs.services.AskedNames.{left_by_is, replied_is}
use Rattle.server_answers.specs.services.Asked.{left_by, replied}

pub left_is : {A : Type 0} (t : PlainTable A) (request : Request A) → after t request ≡ left_by t request
left_is t request = sym (left_by_is t request)

pub reply_is : {A : Type 0} (t : PlainTable A) (request : Request A) → reply t request ≡ replied t request
reply_is t request = sym (replied_is t request)

pub ruleset left_name = (left_is)

pub ruleset reply_name = (reply_is)

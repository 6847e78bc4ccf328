use Rattle.std.proofs.Common.{rules}
use Rattle.apdu.specs.Numbers.{service_number}
use Rattle.services.proofs.NoRequest.{no_request_of}
use Rattle.services.proofs.request.decode_request.Goals as goal

pub returns-in_ok-reason-in-Err-clause-refused : goal.returns-in_ok-reason-in-Err-clause-refused
returns-in_ok-reason-in-Err-clause-refused g c =
    no_request_of _ c.in_ok-reason-in-Err.reason (service_number c.in-Ok.service) c.args.service c.new-reader.result c.args.body.now (search rules)
    (search rules) (rw c.in_ok-reason-in-Err.ensures.rejected at c.in-Err.ensures.rejected)

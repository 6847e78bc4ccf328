use Rattle.services.proofs.Exits.{exit_reason}
use Rattle.services.specs.Request.{read, write}
use Rattle.apdu.specs.Numbers.{service_number}
use Rattle.std.proofs.Common.{ap}
use Rattle.services.proofs.Exits.{err_shows, stops_map}
use Rattle.services.proofs.request.body_of.Goals as goal

pub returns-in_err-request-in-ReadProperty-clause-rejected : goal.returns-in_err-request-in-ReadProperty-clause-rejected
returns-in_err-request-in-ReadProperty-clause-rejected g c =
    exit_reason _ c.from_residual.result _ c.from_residual.ensures.1
    (read (ap service_number c.in-ReadProperty.is) c.in_err-request-in-ReadProperty.ensures.rejected)

pub returns-in-WriteProperty-clause-rejected : goal.returns-in-WriteProperty-clause-rejected
returns-in-WriteProperty-clause-rejected g c =
    err_shows _ _ c.request_to_write.result c.request_to_write.ensures.rejected
    (λ stop h. stops_map _ _ stop h (λ reason k. write (ap service_number c.in-WriteProperty.is) k))

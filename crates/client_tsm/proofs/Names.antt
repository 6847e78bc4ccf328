-- The names that don't compute, where the code makes what they stand for.
use Rattle.std.proofs.Common.{◌≡◌}
use Rattle.primitives.specs.declared.plain_data.Request.{Request}
use Rattle.apdu.specs.Numbers.{service_number}
use Rattle.services.proofs.AskedNames.{request_octets_are, service_asked_is}
use Rattle.services.specs.Asked.{request_octets, service_asked}
use Rattle.services.specs.CanonicalRequest.{canonical_request}
use Rattle.services.specs.Request.{request_service}

pub service_is : {A : Type 0} (request : Request A) → service_asked request ≡ service_number (request_service request)
service_is request = service_asked_is request

pub octets_are : {A : Type 0} (request : Request A) → request_octets request ≡ canonical_request request
octets_are request = request_octets_are request

pub ruleset asked_service = (service_is)

pub ruleset asked_octets = (octets_are)

-- A request and what becomes of it by names that don't compute: a step of a transaction mentions these, so that a proof
-- about the step never reads octets or the object machine. Each is equal to what it stands for by a law.
use Rattle.std.specs.Prelude.{ℕ, List}
use Rattle.primitives.specs.declared.plain_data.Request.{Request}
use Rattle.primitives.specs.declared.plain_data.Reply.{Reply}
use Rattle.answers.specs.objects.Machine.{reply, after}
use Rattle.answers.specs.object_model.Objects.{PlainTable}
use Rattle.apdu.specs.Numbers.{service_number}
use Rattle.services.specs.CanonicalRequest.{canonical_request}
use Rattle.services.specs.Request.{request_service}

-- what the object machine replies to a request (15)
unfoldable pub replied : {A : Type 0} → PlainTable A → Request A → Reply A
replied t request = reply t request

-- what a request leaves of the objects (15)
unfoldable pub left_by : {A : Type 0} → PlainTable A → Request A → PlainTable A
left_by t request = after t request

-- the octets behind the service of a request (15)
unfoldable pub request_octets : {A : Type 0} → Request A → List ℕ
request_octets request = canonical_request request

-- the number of the service that a request asks for (21, BACnetConfirmedServiceChoice)
unfoldable pub service_asked : {A : Type 0} → Request A → ℕ
service_asked request = service_number (request_service request)

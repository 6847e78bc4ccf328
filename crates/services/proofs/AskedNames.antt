-- The names that don't compute are equal to what they stand for.
use Rattle.std.proofs.Common.{◌≡◌, refl}
use Rattle.primitives.specs.declared.plain_data.Request.{Request}
use Rattle.answers.specs.objects.Machine.{reply, after}
use Rattle.answers.specs.object_model.Objects.{PlainTable}
use Rattle.apdu.specs.Numbers.{service_number}
use Rattle.services.specs.CanonicalRequest.{canonical_request}
use Rattle.services.specs.Request.{request_service}
use Rattle.services.specs.Asked.{replied, left_by, request_octets, service_asked}

pub replied_is : {A : Type 0} (t : PlainTable A) (request : Request A) → replied t request ≡ reply t request
unfolding replied
replied_is t request = refl

pub left_by_is : {A : Type 0} (t : PlainTable A) (request : Request A) → left_by t request ≡ after t request
unfolding left_by
left_by_is t request = refl

pub request_octets_are : {A : Type 0} (request : Request A) → request_octets request ≡ canonical_request request
unfolding request_octets
request_octets_are request = refl

pub service_asked_is : {A : Type 0} (request : Request A) → service_asked request ≡ service_number (request_service request)
unfolding service_asked
service_asked_is request = refl

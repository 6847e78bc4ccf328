-- The requests of the confirmed services, and why one is rejected (15.5, 15.7, 15.9, 15.10, 18.9).
use Rattle.std.specs.Prelude.{◌≡◌, ℕ, List}
use Rattle.primitives.specs.declared.plain_data.Request.{Request}
use Rattle.primitives.specs.declared.plain_data.Request.TheVariants.{Read, ReadMany, Write, WriteMany}
use Rattle.apdu.specs.declared.numbers.ConfirmedService.{ConfirmedService}
use Rattle.apdu.specs.declared.numbers.ConfirmedService.TheVariants.{ReadProperty, ReadPropertyMultiple, WriteProperty}
use Rattle.apdu.specs.declared.numbers.ConfirmedService.TheVariants.{WritePropertyMultiple}
use Rattle.apdu.specs.declared.numbers.RejectReason.{RejectReason}
use Rattle.apdu.specs.declared.numbers.RejectReason.TheVariants.{UnrecognizedService}
use Rattle.apdu.specs.Numbers.{service_number, NoService}
use Rattle.services.specs.Requests.{SpellsReadProperty, SpellsWriteProperty, RejectsReadProperty, RejectsWriteProperty}
use Rattle.services.specs.Multiple.{SpellsReadMultiple, SpellsWriteMultiple, RejectsReadMultiple, RejectsWriteMultiple}

-- the service that a request asks for (15)
abbrev pub request_service : {A : Type 0} → Request A → ConfirmedService
request_service (Read object property index) = ReadProperty
request_service (ReadMany asked) = ReadPropertyMultiple
request_service (Write object property index values priority) = WriteProperty
request_service (WriteMany asked) = WritePropertyMultiple

-- the body spells the parameters of the request (15.5.1, 15.7.3.1, 15.9.1, 15.10.3.1)
abbrev pub SpellsBody : {A : Type 0} → List ℕ → Request A → Type 0
SpellsBody body (Read object property index) = SpellsReadProperty body object property index
SpellsBody body (ReadMany asked) = SpellsReadMultiple body asked
SpellsBody body (Write object property index values priority) =
    SpellsWriteProperty body object property index values priority
SpellsBody body (WriteMany asked) = SpellsWriteMultiple body asked

-- a service and the body behind it spell the request (15, 21)
pub record SpellsRequest {A : Type 0} (service : ℕ) (body : List ℕ) (request : Request A) : Type 0 where
  pub service_is : service ≡ service_number (request_service request)
  pub spelled : SpellsBody body request

-- why a service and the body behind it are rejected (18.9): the service is not known, or the first fault in the body
pub data RejectsRequest (A : Type 0) (reason : RejectReason) (service : ℕ) (body : List ℕ) : Type 0 where
  unknown : NoService service → reason ≡ UnrecognizedService → RejectsRequest A reason service body
  read : service ≡ service_number ReadProperty → RejectsReadProperty reason body → RejectsRequest A reason service body
  read_many : service ≡ service_number ReadPropertyMultiple → RejectsReadMultiple A reason body →
      RejectsRequest A reason service body
  write : service ≡ service_number WriteProperty → RejectsWriteProperty A reason body →
      RejectsRequest A reason service body
  write_many : service ≡ service_number WritePropertyMultiple → RejectsWriteMultiple A reason body →
      RejectsRequest A reason service body

-- the service and the body spell no other request
pub record OnlyRequest {A : Type 0} (service : ℕ) (body : List ℕ) (request : Request A) : Type 0 where
  pub only : (other : Request A) → SpellsRequest service body other → request ≡ other

-- the service and the body spell no request
pub record NoRequest (A : Type 0) (service : ℕ) (body : List ℕ) : Type 0 where
  pub none : (request : Request A) → SpellsRequest service body request → ⊥

-- What holds of every spelling of a request (15, 18.9).
use Rattle.std.specs.Prelude.{◌≡◌, ◌≤◌, ℕ, List, length}
use Rattle.tags.specs.Number.{AreOctets}
use Rattle.primitives.specs.declared.plain_data.Request.{Request}
use Rattle.primitives.specs.Sound.{IsSoundRequest}
use Rattle.apdu.specs.declared.numbers.RejectReason.{RejectReason}
use Rattle.apdu.specs.Numbers.{service_number}
use Rattle.services.specs.CanonicalRequest.{canonical_request}
use Rattle.services.specs.Request.{request_service, SpellsRequest, RejectsRequest}

-- a service and the octets behind it spell one request only
abbrev pub OneRequest : Type 0 → Type 0
OneRequest A = (service : ℕ) (body : List ℕ) (x y : Request A) → SpellsRequest service body x →
    SpellsRequest service body y → x ≡ y

-- the canonical octets of a sound request spell it
abbrev pub RequestIsSpelled : Type 0 → Type 0
RequestIsSpelled A = (x : Request A) → IsSoundRequest x →
    SpellsRequest (service_number (request_service x)) (canonical_request x) x

-- what is written of a sound request is read as that request
abbrev pub RequestReadsBack : Type 0 → Type 0
RequestReadsBack A = (x y : Request A) → IsSoundRequest x →
    SpellsRequest (service_number (request_service x)) (canonical_request x) y → y ≡ x

-- what is rejected spells no request
abbrev pub RejectedIsNone : Type 0 → Type 0
RejectedIsNone A = (reason : RejectReason) (service : ℕ) (body : List ℕ) (x : Request A) →
    RejectsRequest A reason service body → SpellsRequest service body x → ⊥

-- what is rejected is rejected for one reason
abbrev pub RejectedOnce : Type 0 → Type 0
RejectedOnce A = (reason other : RejectReason) (service : ℕ) (body : List ℕ) → RejectsRequest A reason service body →
    RejectsRequest A other service body → reason ≡ other

-- no octets that spell a request are fewer than its canonical ones
abbrev pub RequestIsShortest : Type 0 → Type 0
RequestIsShortest A = (service : ℕ) (body : List ℕ) (x : Request A) → AreOctets body → SpellsRequest service body x →
    length (canonical_request x) ≤ length body

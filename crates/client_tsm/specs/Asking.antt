-- What a client says of a request (5.4.4.1, 5.4.4.2).
use Rattle.std.specs.Prelude.{ℕ, List, [], ◌∷◌, map, Option, Some, None}
use Rattle.apdu.specs.declared.apdu.Segment.{Segment}
use Rattle.segments.specs.Sender.{SenderState, window_of}
use Rattle.profile.specs.Limits.{WINDOW_SIZE}
use Rattle.segments.specs.Pieces.{PlainPiece}
use Rattle.services.specs.Asked.{request_octets, service_asked}
use Rattle.client_tsm.specs.Open.{Open}
use Rattle.client_tsm.specs.declared.said.ClientSaid.{ClientSaid}
use Rattle.client_tsm.specs.declared.said.ClientSaid.TheVariants as said

-- the request of a transaction, or a segment of it (20.1.2)
abbrev pub request_said : {A : Type 0} → Option Segment → List ℕ → Open A → ClientSaid A
request_said segment octets o =
    said.Request o.way o.accepts segment o.invoke_id (service_asked o.request) octets

-- what a segment with a piece says of itself; the window that it proposes is this product's (20.1.2.4, 20.1.2.8)
abbrev pub segment_of : PlainPiece → Segment
segment_of p = record { more_follows = p.has_more; sequence_number = p.number; window = WINDOW_SIZE }

-- a piece of the request in a segment
abbrev pub piece_said : {A : Type 0} → Open A → PlainPiece → ClientSaid A
piece_said o p = request_said (Some (segment_of p)) p.octets o

-- the request whole, or the window of what goes on sending it (5.4.4.2, FillWindow)
abbrev pub asked_by : {A : Type 0} → Option SenderState → Open A → List (ClientSaid A)
asked_by None o = request_said None (request_octets o.request) o ∷ []
asked_by (Some c) o = map (piece_said o) (window_of (request_octets o.request) c)

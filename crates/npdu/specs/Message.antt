-- The types of network messages, and the reasons of a Reject-Message-To-Network.
use Rattle.std.specs.Prelude.{◌≢◌, ℕ, ◌<◌, ◌≤◌, ◌^◌, List, [], ◌∷◌}
use Rattle.byteorder.specs.Endian.{big_bytes}
use Rattle.npdu.specs.declared.message.Message.{Message}
use Rattle.npdu.specs.declared.message.Message.TheVariants.{WhoIsRouterToNetwork, IAmRouterToNetwork}
use Rattle.npdu.specs.declared.message.Message.TheVariants.{RejectMessageToNetwork, Other, Proprietary}
use Rattle.npdu.specs.declared.message.NetworkRejectReason.{NetworkRejectReason}
use Rattle.npdu.specs.declared.message.NetworkRejectReason.TheVariants.{NoRoute, UnknownMessageType, TooLong}

-- the message type octet (6.2.4)
abbrev pub message_type : Message → ℕ
message_type WhoIsRouterToNetwork = 0
message_type IAmRouterToNetwork = 1
message_type RejectMessageToNetwork = 3
message_type (Other kind) = kind
message_type (Proprietary kind vendor) = kind

-- the message type, and behind a vendor's own type the vendor's identifier (6.2.4)
abbrev pub type_octets : Message → List ℕ
type_octets (Proprietary kind vendor) = kind ∷ big_bytes 2 vendor
type_octets message = message_type message ∷ []

-- types below 128 are the standard's, those from 128 on a vendor's own (6.2.4)
abbrev pub IsMessage : Message → Type 0
IsMessage (Other kind) = (kind < 128) × (kind ≢ 0) × (kind ≢ 1) × (kind ≢ 3)
IsMessage (Proprietary kind vendor) = (128 ≤ kind) × (kind < 256) × (vendor < 2 ^ 16)
IsMessage message = Unit {0}

-- the reason's octet in a Reject-Message-To-Network (6.4.4)
abbrev pub reason_number : NetworkRejectReason → ℕ
reason_number NoRoute = 1
reason_number UnknownMessageType = 3
reason_number TooLong = 4

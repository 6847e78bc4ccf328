-- What the private readers say of each field of a header. The public calls cite Header and Refusals.
use Rattle.std.specs.Prelude.{◌≡◌, ℕ, ◌/◌, ◌%◌, ◌<◌, ◌==◌, ◌++◌, Bool, List, [], ◌∷◌, length, Option, Some, None}
use Rattle.std.specs.Prelude.{is_some, option_map, IfSome}
use Rattle.byteorder.specs.Endian.{big_bytes}
use Rattle.npdu.specs.Dnet.{dnet_number, IsDnet}
use Rattle.npdu.specs.Header.{Header, PlainDestination, PlainSource, IsSource, snet_octets, hop_octets, message_octets}
use Rattle.npdu.specs.Message.{IsMessage}
use Rattle.npdu.specs.Priority.{priority_number}
use Rattle.npdu.specs.declared.fields.Place.{Place as CodePlace}
use Rattle.npdu.specs.declared.message.Message.{Message}
use Rattle.npdu.specs.declared.view.Dnet.{Dnet}

-- the octets begin with the spelling of a field of this kind, and the rest is behind it
pub record Takes {A : Type 0} (IsField : A → Type 0) (spelling : A → List ℕ) (octets : List ℕ) (a : A)
    (rest : List ℕ) : Type 0 where
  pub fits : IsField a
  pub parts : octets ≡ spelling a ++ rest

-- octets begin with this field and with no other
pub record Only {A : Type 0} (IsField : A → Type 0) (spelling : A → List ℕ) (octets : List ℕ) (a : A)
    (rest : List ℕ) : Type 0 where
  pub only : (b : A) (after : List ℕ) → Takes IsField spelling octets b after → (a ≡ b) × (rest ≡ after)

-- the octets begin with the spelling of no such field
pub record Lacks {A : Type 0} (IsField : A → Type 0) (spelling : A → List ℕ) (octets : List ℕ) : Type 0 where
  pub none : (a : A) (rest : List ℕ) → Takes IsField spelling octets a rest → ⊥

-- some octets behind make the whole the spelling of such a field
pub record Begins {A : Type 0} (IsField : A → Type 0) (spelling : A → List ℕ) (octets : List ℕ) : Type 0 where
  pub more : List ℕ
  pub field : A
  pub whole : Takes IsField spelling (octets ++ more) field []

-- a number that a network can have
abbrev pub IsNet : ℕ → Type 0
IsNet n = (0 < n) × (n < 65535)

-- an address behind its length, and one that has an octet
abbrev pub address_octets : List ℕ → List ℕ
address_octets mac = length mac ∷ mac

-- an address of a destination: any length that an octet can say
abbrev pub IsMac : List ℕ → Type 0
IsMac mac = length mac < 256

-- an address of a source has an octet
abbrev pub IsAddress : List ℕ → Type 0
IsAddress mac = (0 < length mac) × (length mac < 256)

-- DNET and DADR
pub record Place : Type 0 where
  pub net : Dnet
  pub mac : List ℕ

-- what the code's place says
abbrev pub place_of : CodePlace → Place
place_of p = record { net = p.net; mac = p.mac.now }

-- the place that a destination has
abbrev pub place_in : PlainDestination → Place
place_in d = record { net = d.net; mac = d.mac }

-- DNET, DLEN and DADR (6.2.2)
abbrev pub place_octets : Option Place → List ℕ
place_octets None = []
place_octets (Some p) = big_bytes 2 (dnet_number p.net) ++ (length p.mac ∷ p.mac)

-- a field stands exactly where it is announced
pub record IsPlaceIf (present : Bool) (o : Option Place) : Type 0 where
  pub announced : present ≡ is_some o
  pub sound : IfSome o (λ p. IsDnet p.net × (length p.mac < 256))

-- the same of SNET and SADR
pub record IsSourceIf (present : Bool) (o : Option PlainSource) : Type 0 where
  pub announced : present ≡ is_some o
  pub sound : IfSome o IsSource

-- the hop count makes a destination of a place
pub record IsDestinationAt (at : Option Place) (o : Option PlainDestination) : Type 0 where
  pub place : option_map place_in o ≡ at
  pub sound : IfSome o (λ d. d.hops < 256)

-- the same of the message type
pub record IsMessageIf (present : Bool) (o : Option Message) : Type 0 where
  pub announced : present ≡ is_some o
  pub sound : IfSome o IsMessage

-- what a control octet and the octets behind it spell, field by field
pub record SpellsFields (control : ℕ) (octets : List ℕ) (h : Header) : Type 0 where
  pub reply : h.expects_reply ≡ (control / 4 % 2 == 1)
  pub priority : priority_number h.priority ≡ control % 4
  pub at_source : List ℕ
  pub at_hops : List ℕ
  pub at_message : List ℕ
  pub place : Takes (IsPlaceIf (control / 32 % 2 == 1)) place_octets octets
      (option_map place_in h.destination) at_source
  pub source : Takes (IsSourceIf (control / 8 % 2 == 1)) snet_octets at_source h.source at_hops
  pub hops : Takes (IsDestinationAt (option_map place_in h.destination)) hop_octets at_hops h.destination at_message
  pub message : Takes (IsMessageIf (control / 128 % 2 == 1)) message_octets at_message h.message h.body

-- the control octet and the octets behind it spell no header
pub record NoFields (control : ℕ) (octets : List ℕ) : Type 0 where
  pub none : (h : Header) → SpellsFields control octets h → ⊥

-- some octets behind make the whole a header's
pub record IsCutFields (control : ℕ) (octets : List ℕ) : Type 0 where
  pub more : List ℕ
  pub header : Header
  pub whole : SpellsFields control (octets ++ more) header
